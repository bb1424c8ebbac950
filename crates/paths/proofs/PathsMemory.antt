-- The store's writes are the tree's: so what is kept over what the writes say is kept over the store.
use Rattle.std.proofs.Common.{◌≡◌, ℕ, ◌-◌, ◌≤◌, cond, eqb, List, [], ◌∷◌, get_or, set, sym, refl, ap, ◌∙◌, subst, arith}
use Rattle.std.proofs.lemmas.List.{get_or-set_same, get_or-set_other}
use Rattle.pages.specs.Image.{Image, Has, written}
use Rattle.layout.specs.Content.{Content}
use Rattle.layout.specs.Bytes.{content_of}
use Rattle.tree.specs.Tree.{Contents}
use Rattle.tree.specs.CopyWrites.{Write, put}
use Rattle.tree.specs.CopyWrites as tree
use Rattle.tree.specs.CopyMoves.{State}
use Rattle.tree.specs.CopyLaws.{Kept}
use Rattle.tree.proofs.CopyBase.{by_eq}
use Rattle.tree.proofs.CopyKept.{agree_law}
use Rattle.faults.specs.Accesses.{contents}
use Rattle.paths.specs.PathsWrites.{stored, encoded, Accepts, after_reads, Wrote}

put_same : (m : Image) (w : Write) (q : ℕ) → Has m w.page → content_of (encoded w.says) ≡ w.says → q ≡ w.page → contents (written m w.page (encoded w.says)) q ≡ w.says
put_same m w q h b e =
    let g : get_or (set m.pages (w.page - 1) (encoded w.says)) (q - 1) [] ≡ encoded w.says =
    ap (λ (x : ℕ). get_or (set m.pages (w.page - 1) (encoded w.says)) (x - 1) []) e ∙ get_or-set_same m.pages (w.page - 1) (encoded w.says) [] (omega (arith, h.0, h.1)) in
    ap content_of g ∙ b

put_other : (m : Image) (w : Write) (q : ℕ) → Has m w.page → 1 ≤ q → (q ≡ w.page → ⊥) → contents (written m w.page (encoded w.says)) q ≡ contents m q
put_other m w q h o ne =
    ap content_of (get_or-set_other m.pages (w.page - 1) (q - 1) (encoded w.says) [] (λ e. ne (omega (arith, e, h.0))))

contents_put : (m : Image) (w : Write) (q : ℕ) → Has m w.page → content_of (encoded w.says) ≡ w.says → 1 ≤ q → contents (written m w.page (encoded w.says)) q ≡ put (contents m) w q
contents_put m w q h b o =
    by_eq (λ (x : Content). contents (written m w.page (encoded w.says)) q ≡ x) q w.page w.says (contents m q) (λ e. put_same m w q h b e) (λ ne. put_other m w q h o ne)

after_at : (ws : List Write) (M N : Contents) (q : ℕ) → M q ≡ N q → tree.after ws M q ≡ tree.after ws N q
after_at [] M N q e = e
after_at (w ∷ ws) M N q e = after_at ws (put M w) (put N w) q (ap (λ (x : Content). cond (eqb q w.page) w.says x) e)

pub contents_after : (ws : List Write) (m : Image) (q : ℕ) → Accepts ws m → 1 ≤ q → contents (stored ws m) q ≡ tree.after ws (contents m) q
contents_after [] m q a o = refl
contents_after (w ∷ ws) m q a o =
    contents_after ws (written m w.page (encoded w.says)) q a.3 o
    ∙ after_at ws (contents (written m w.page (encoded w.says))) (put (contents m) w) q (contents_put m w q a.0 a.2 o)

-- what is kept after the writes as the tree has them is kept in the store that took them
pub kept_after : (ws : List Write) (m m' : Image) (h limit total top : ℕ) (s : State) → Wrote ws (after_reads m h) m' → Kept (tree.after ws (contents m)) limit total top s → Kept (contents m') limit total top s
kept_after ws m m' h limit total top s w k =
    agree_law (tree.after ws (contents m)) (contents m') limit total top s
    (λ p two low. ap (λ (x : Image). contents x p) w.image ∙ contents_after ws (after_reads m h) p w.accepts (omega arith)) k

-- reads change nothing
pub kept_read : (m m' : Image) (h limit total top : ℕ) (s : State) → m' ≡ after_reads m h → Kept (contents m) limit total top s → Kept (contents m') limit total top s
kept_read m m' h limit total top s e k = subst (λ (x : Image). Kept (contents x) limit total top s) (sym e) k
