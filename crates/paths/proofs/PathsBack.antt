-- The old pages of a path, the leaf's first.
use Rattle.std.proofs.Common.{◌≡◌, ℕ, zero, suc, List, [], ◌∷◌, ◌++◌, reverse, length, replicate, Ok, Err, Result, sym, refl, ap, ◌∙◌, subst, arith}
use Rattle.std.specs.Prelude.{IfOk}
use Rattle.std.proofs.lemmas.List.{reverse-append, length-reverse, get_or-replicate}
use Rattle.pages.specs.Image.{Image}
use Rattle.layout.specs.declared.entry.Entry.{Entry}
use Rattle.tree.specs.Tree.{Contents}
use Rattle.tree.specs.CopyPages.{pick}
use Rattle.tree.specs.CopyMemory.{path_at}
use Rattle.faults.specs.declared.fault.Fault.{Fault}
use Rattle.faults.specs.Accesses.{contents}
use Rattle.paths.specs.declared.old_pages.OldPages.{OldPages}
use Rattle.paths.specs.OldPages.{old_pages}
use Rattle.paths.specs.PathsReading.{IsPath}
use Rattle.paths.proofs.PathsReading.{Goes, at_child}

leaf_one : (m : Image) (p a : ℕ) → IsPath m 1 p a (p ∷ [])
unfolding path_at
leaf_one m p a = refl

-- the leaf alone
pub leaf_path : (m : Image) (l p a : ℕ) (old path : List ℕ) → l ≡ 1 → old ≡ [] → path ≡ old ++ (p ∷ []) → IsPath m l p a path
leaf_path m l p a old path e n q =
    subst (λ (x : ℕ). IsPath m x p a path) (sym e) (subst (λ (x : List ℕ). IsPath m 1 p a x) (sym (q ∙ ap (λ (x : List ℕ). x ++ (p ∷ [])) n)) (leaf_one m p a))

inner_one : (m : Image) (h p a : ℕ) (path : List ℕ) → reverse path ≡ path_at (suc h) (contents m) (pick (contents m p).entries a) a → IsPath m (suc (suc h)) p a (path ++ (p ∷ []))
unfolding path_at
inner_one m h p a path q = reverse-append path (p ∷ []) ∙ ap (λ (z : List ℕ). p ∷ z) q

-- a page above the path from its child
pub inner_path : (l k : ℕ) (m m₂ : Image) (p a child : ℕ) (es : List Entry) (old path : List ℕ) → Goes m m₂ l k p a child es → IsPath m₂ k child a old → path ≡ old ++ (p ∷ []) → IsPath m l p a path
inner_path zero k m m₂ p a child es old path w t e = absurd (omega (arith, w.inner))
inner_path (suc zero) k m m₂ p a child es old path w t e = absurd (omega (arith, w.inner))
inner_path (suc (suc h)) k m m₂ p a child es old path w t e =
    subst (IsPath m (suc (suc h)) p a) (sym e) (inner_one m h p a old (at_child (λ x y z. IsPath x y z a old) m m₂ h k p a child es w t))

-- no page yet
abbrev pub no_pages : OldPages
no_pages = record { table = replicate 6 0; len = 0; six = omega arith; rest = λ j l s. get_or-replicate 6 j 0 0 s }

-- an answer that has the same path
pub same_path : {A : Type 0} (pages : A → OldPages) (m : Image) (l p a : ℕ) (path : OldPages) (r : Result A Fault) → IsPath m l p a (old_pages path) → IfOk r (λ g. pages g ≡ path)
    → IfOk r (λ g. IsPath m l p a (old_pages (pages g)))
same_path pages m l p a path (Ok g) b i = subst (λ (x : OldPages). IsPath m l p a (old_pages x)) (sym i) b
same_path pages m l p a path (Err f) b i = tt

-- one page of each level
path_levels : (l : ℕ) (m : Contents) (p a : ℕ) → length (path_at l m p a) ≡ l
unfolding path_at
path_levels zero m p a = refl
path_levels (suc zero) m p a = refl
path_levels (suc (suc h)) m p a = ap suc (path_levels (suc h) m (pick (m p).entries a) a)

pub path_length : (m : Image) (l p a : ℕ) (path : List ℕ) → IsPath m l p a path → length path ≡ l
path_length m l p a path t = sym (length-reverse path) ∙ ap length t ∙ path_levels l (contents m) p a
