-- One page or two written: each exit of `place`.
use Rattle.std.proofs.Common.{◌≡◌, ℕ, ◌+◌, ◌≤◌, List, [], ◌∷◌, length, get_or, drop, Some, None, Err, Option, Result, sym, refl, ap, ◌∙◌, subst, arith}
use Rattle.std.proofs.lemmas.List.{drop_more}
use Rattle.pages.specs.Image.{Image}
use Rattle.layout.specs.declared.entry.Entry.{Entry}
use Rattle.layout.specs.Listed.{entries}
use Rattle.tree.specs.CopyMoves.{Split}
use Rattle.tree.specs.CopyMemory.{place_at}
use Rattle.faults.specs.declared.fault.Fault.{Fault}
use Rattle.layout.specs.declared.change.RightHalf.{RightHalf}
use Rattle.layout.specs.declared.list.EntryList.{EntryList}
use Rattle.paths.specs.declared.place.Placed.{Placed}
use Rattle.paths.specs.PathsWrites.{Wrote, Unwrites}
use Rattle.paths.specs.PathsPages.{write_of}
use Rattle.paths.specs.LodgePlaces.{halves_of, PlacedBy, Places}
use Rattle.paths.proofs.PathsWriting.{unwrites_more, unwrites_less}

two_free : (free : List ℕ) (used p q : ℕ) → used + 2 ≤ length free → p ≡ get_or free used 0 → q ≡ get_or free (used + 1) 0 → drop used free ≡ p ∷ (q ∷ drop (used + 1 + 1) free)
two_free free used p q h a b =
    drop_more free used 0 (omega arith) ∙ ap (λ (z : List ℕ). get_or free used 0 ∷ z) (drop_more free (used + 1) 0 (omega arith))
    ∙ ap (λ (x : ℕ). x ∷ (get_or free (used + 1) 0 ∷ drop (used + 1 + 1) free)) (sym a) ∙ ap (λ (x : ℕ). p ∷ (x ∷ drop (used + 1 + 1) free)) (sym b)

-- what is wanted of the free pages, from two pages in front of them
at_front : (level used p q : ℕ) (s : Split (List Entry)) (free : List ℕ) (m m' : Image) (r : Result Placed Fault) → used + 2 ≤ length free → p ≡ get_or free used 0 → q ≡ get_or free (used + 1) 0
    → PlacedBy (place_at level s [] (p ∷ (q ∷ drop (used + 1 + 1) free))) free used m r m' → Places m level s free used r m'
at_front level used p q s free m m' r h a b t = subst (λ (z : List ℕ). PlacedBy (place_at level s [] z) free used m r m') (sym (two_free free used p q h a b)) t

pub first_refused : (level used p : ℕ) (right : Option (RightHalf EntryList)) (es : List Entry) (free : List ℕ) (m m' : Image) (f : Fault) → used + 2 ≤ length free → p ≡ get_or free used 0
    → Unwrites (write_of level p es ∷ []) m f m' → Places m level (halves_of es right) free used (Err f) m'
first_refused level used p None es free m m' f h a u =
    at_front level used p (get_or free (used + 1) 0) (halves_of es None) free m m' (Err f) h a refl u
first_refused level used p (Some r) es free m m' f h a u =
    at_front level used p (get_or free (used + 1) 0) (halves_of es (Some r)) free m m' (Err f) h a refl
    (unwrites_less (write_of level p es ∷ []) (write_of level (get_or free (used + 1) 0) (entries r.entries) ∷ []) m m' f u)

pub second_refused : (level used p q : ℕ) (right : Option (RightHalf EntryList)) (r : RightHalf EntryList) (es : List Entry) (free : List ℕ) (m m₁ m' : Image) (f : Fault) → used + 2 ≤ length free
    → p ≡ get_or free used 0 → q ≡ get_or free (used + 1) 0 → right ≡ Some r → Wrote (write_of level p es ∷ []) m m₁ → Unwrites (write_of level q (entries r.entries) ∷ []) m₁ f m'
    → Places m level (halves_of es right) free used (Err f) m'
second_refused level used p q right r es free m m₁ m' f h a b e w u =
    subst (λ (x : Option (RightHalf EntryList)). Places m level (halves_of es x) free used (Err f) m') (sym e)
    (at_front level used p q (halves_of es (Some r)) free m m' (Err f) h a b
    (unwrites_more (write_of level p es ∷ []) (write_of level q (entries r.entries) ∷ []) m m₁ m' f w u))
