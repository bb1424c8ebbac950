-- What a row of words writes.
use Rattle.std.specs.Prelude.{◌≡◌, ℕ, ◌+◌, ◌-◌, ◌^◌, ◌<◌, ◌⊎◌, List, [], ◌∷◌, ◌++◌, map, filter, length, nat_lt, ◌==◌, codes, take, drop, Some, None, ◌≢◌, slice_index, slice_index_or}
use Rattle.std.specs.Borrow.{Bor}
use Rattle.std.specs.List.{slice_split}
use Rattle.orders.specs.declared.point.Point.{Point}
use Rattle.orders.specs.declared.refusal.Refusal.TheVariants.{BoxEnds}
use Rattle.orders.specs.Spaces.{Ordered}
use Rattle.script.specs.Numbers.{NumberIs, PointIs}
use Rattle.script.specs.declared.reason.Reason.TheVariants.{Number}
use Rattle.script.specs.declared.trouble.Trouble.{Trouble}
use Rattle.script.specs.declared.trouble.Trouble.TheVariants.{Refused, Unclear, Memory}

-- the words of a line: the pieces between its spaces, without the empty ones
abbrev pub words_of : List ℕ → List (List ℕ)
words_of line = filter (λ piece. nat_lt 0 (length piece)) (slice_split (λ b. b == 32) line)

-- so spaces before, behind and between words are nothing
abbrev pub SpacesAreNothing : Type 0
SpacesAreNothing = words_of (codes "  grant  5 ") ≡ codes "grant" ∷ codes "5" ∷ []

-- the bytes of each word
abbrev pub texts : List (Bor (List ℕ)) → List (List ℕ)
texts ws = map (λ w. w.now) ws

-- the word is one of these
abbrev pub IsOneOf : List (List ℕ) → List ℕ → Type 0
IsOneOf [] w = ⊥
IsOneOf (v ∷ vs) w = (w ≡ v) ⊎ IsOneOf vs w

-- the word in the place i writes the number, which is no greater than the limit
abbrev pub NumberAt : List (List ℕ) → ℕ → ℕ → ℕ → Type 0
NumberAt ws i limit v = NumberIs (slice_index_or ws i []) limit (Some v)

-- the words end in the name and its number, behind the words `before`; or they do not end in the name and one word: then `before` is all of them, and the
-- number is the usual one
abbrev pub EndsIn : List ℕ → ℕ → ℕ → List (List ℕ) → List (List ℕ) → ℕ → Type 0
EndsIn name usual limit ws before v =
    ((w : List ℕ) × (ws ≡ before ++ name ∷ w ∷ []) × NumberIs w limit (Some v))
    ⊎ ((before ≡ ws) × (v ≡ usual) × ((bs : List (List ℕ)) (w : List ℕ) → ws ≢ bs ++ name ∷ w ∷ []))

-- the words end in the name and a word that writes no number
abbrev pub EndsWrongly : List ℕ → ℕ → List (List ℕ) → Type 0
EndsWrongly name limit ws = (bs : List (List ℕ)) × (w : List ℕ) × (ws ≡ bs ++ name ∷ w ∷ []) × NumberIs w limit None

-- each word writes the number in its place, which is no greater than the limit
abbrev pub NumbersTo : ℕ → List (List ℕ) → List ℕ → Type 0
NumbersTo limit ws vs = (length vs ≡ length ws) × ((i : ℕ) → i < length vs → NumberAt ws i limit (slice_index vs i))

-- why the words write no row of such numbers: one of them writes none; or memory was short
abbrev pub NoNumbersTo : ℕ → List (List ℕ) → Trouble → Type 0
NoNumbersTo limit ws (Unclear r) = (r ≡ Number) × ((i : ℕ) × (i < length ws) × NumberIs (slice_index_or ws i []) limit None)
NoNumbersTo limit ws (Refused f) = ⊥
NoNumbersTo limit ws Memory = Unit {0}

-- the same of 64 bits
abbrev pub Numbers : List (List ℕ) → List ℕ → Type 0
Numbers ws vs = NumbersTo (2 ^ 64 - 1) ws vs

-- the words write the point, in a space of n coordinates
abbrev pub Written : ℕ → List (List ℕ) → Point → Type 0
Written n ws x = (vs : List ℕ) × Numbers ws vs × PointIs n vs (Some x)

-- why they write no point: they write none; or memory was short
abbrev pub NoPoint : ℕ → List (List ℕ) → Trouble → Type 0
NoPoint n ws (Unclear r) = (x : Point) → Written n ws x → ⊥
NoPoint n ws (Refused f) = ⊥
NoPoint n ws Memory = Unit {0}

-- the first half of the words writes the low point of a box, the second half the high one
abbrev pub Ends : ℕ → List (List ℕ) → Point → Point → Type 0
Ends n ws low high = (k : ℕ) × (length ws ≡ k + k) × Written n (take k ws) low × Written n (drop k ws) high

-- why they write no box: they write no two points; or a low end lies above its high end; or memory was short
abbrev pub NoBox : ℕ → List (List ℕ) → Trouble → Type 0
NoBox n ws (Unclear r) = (low high : Point) → Ends n ws low high → ⊥
NoBox n ws (Refused f) = (f ≡ BoxEnds) × ((low : Point) × (high : Point) × Ends n ws low high × (Ordered low.coords high.coords → ⊥))
NoBox n ws Memory = Unit {0}
