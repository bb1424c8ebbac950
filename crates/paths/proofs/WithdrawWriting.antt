-- The writing of one page, or of none.
use Rattle.std.proofs.Common.{◌≡◌, ℕ, ◌+◌, ◌<◌, List, [], ◌∷◌, length, get_or, drop, Some, Ok, Result, sym, refl, ap, ◌∙◌, subst}
use Rattle.std.proofs.lemmas.List.{drop_more}
use Rattle.pages.specs.Image.{Image}
use Rattle.layout.specs.declared.entry.Entry.{Entry}
use Rattle.tree.specs.CopyMemory.{place_left_at}
use Rattle.faults.specs.declared.fault.Fault.{Fault}
use Rattle.paths.specs.declared.old_pages.OldPages.{OldPages}
use Rattle.paths.specs.declared.left.Left.{Left}
use Rattle.paths.specs.PathsPages.{WritesPage}
use Rattle.paths.specs.Withdrawals.{Placed, PlacesLeft}

-- from a free list with a page in front
at_front : (level used p : ℕ) (e : Entry) (es : List Entry) (free : List ℕ) (m m' : Image) (r : Result Left Fault) → used < length free → p ≡ get_or free used 0
    → Placed (place_left_at level (e ∷ es) [] (p ∷ drop (used + 1) free)) free used m r m' → PlacesLeft m level (e ∷ es) free used r m'
at_front level used p e es free m m' r h q t =
    let d : drop used free ≡ p ∷ drop (used + 1) free = drop_more free used 0 h ∙ ap (λ (x : ℕ). x ∷ drop (used + 1) free) (sym q) in
    subst (λ (z : List ℕ). Placed (place_left_at level (e ∷ es) [] z) free used m r m') (sym d) t

pub left_written : (level used next p n : ℕ) (es : List Entry) (free : List ℕ) (path : OldPages) (m m' : Image) → next ≡ used + 1 → n ≡ length es → (n ≡ 0 → ⊥) → used < length free → p ≡ get_or free used 0
    → WritesPage m level p es (Ok tt) m' → PlacesLeft m level es free used (Ok (record { page = Some p; trade = record { used = next; path = path } })) m'
left_written level used next p n [] free path m m' u k some h q w = absurd (some k)
left_written level used next p n (e ∷ es) free path m m' u k some h q w =
    at_front level used p e es free m m' (Ok (record { page = Some p; trade = record { used = next; path = path } })) h q (record { part = refl; rest = ap (λ (x : ℕ). drop x free) u; uses = u }, w)
