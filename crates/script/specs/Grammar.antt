-- Which words write which question. A question's first word says what is asked.
use Rattle.std.specs.Prelude.{◌≡◌, ℕ, ◌+◌, ◌-◌, ◌^◌, List, [], ◌∷◌, length, take, Some, None, Ok, Err, codes, Option, Result, slice_index_or}
use Rattle.orders.specs.declared.point.Point.{Point}
use Rattle.orders.specs.declared.refusal.Refusal.TheVariants.{BoxEnds}
use Rattle.orders.specs.Spaces.{Ordered}
use Rattle.script.specs.Numbers.{NumberIs}
use Rattle.script.specs.Words.{IsOneOf, Written, Ends}
use Rattle.script.specs.declared.question.Question.{Question}
use Rattle.script.specs.declared.question.Question.TheVariants.{AddressOf, PointOf, FirstOf}
use Rattle.script.specs.declared.trouble.Trouble.{Trouble}
use Rattle.script.specs.declared.trouble.Trouble.TheVariants.{Refused, Unclear, Memory}

-- the first words of the questions
abbrev pub question_verbs : List (List ℕ)
question_verbs = codes "address" ∷ codes "point" ∷ codes "first" ∷ []

-- a box, the word `from`, and an address
abbrev pub FirstWritten : ℕ → List (List ℕ) → Point → Point → ℕ → Type 0
FirstWritten n ws low high a =
    (k : ℕ) × (length ws ≡ k + 2) × (slice_index_or ws k [] ≡ codes "from") × NumberIs (slice_index_or ws (k + 1) []) (2 ^ 64 - 1) (Some a) × Ends n (take k ws) low high

-- the same words, but of a box that cannot be: a low end lies above its high end
abbrev pub Crossed : ℕ → List (List ℕ) → Type 0
Crossed n ws = (low high : Point) × (a : ℕ) × FirstWritten n ws low high a × ¬ Ordered low.coords high.coords

-- the first word and the words behind it ask the question, in a space of n coordinates
abbrev pub Asks : ℕ → List ℕ → List (List ℕ) → Question → Type 0
Asks n verb ws (AddressOf x) = (verb ≡ codes "address") × Written n ws x
Asks n verb ws (PointOf a) = (verb ≡ codes "point") × (length ws ≡ 1) × NumberIs (slice_index_or ws 0 []) (2 ^ 64 - 1) (Some a)
Asks n verb ws (FirstOf b a) = (verb ≡ codes "first") × FirstWritten n ws b.low b.high a

-- what a line is read as: a question; none, where the first word asks nothing; or a line that is refused or not understood
abbrev pub QuestionIs : ℕ → List ℕ → List (List ℕ) → Result (Option Question) Trouble → Type 0
QuestionIs n verb ws (Ok (Some q)) = Asks n verb ws q
QuestionIs n verb ws (Ok None) = ¬ IsOneOf question_verbs verb
QuestionIs n verb ws (Err (Unclear r)) = IsOneOf question_verbs verb × ((q : Question) → ¬ Asks n verb ws q) × (verb ≡ codes "first" → ¬ Crossed n ws)
QuestionIs n verb ws (Err (Refused f)) = (f ≡ BoxEnds) × (verb ≡ codes "first") × Crossed n ws
QuestionIs n verb ws (Err Memory) = Unit {0}

-- the same behind the word `first`
abbrev pub FirstIs : ℕ → List (List ℕ) → Result Question Trouble → Type 0
FirstIs n ws (Ok (AddressOf x)) = ⊥
FirstIs n ws (Ok (PointOf a)) = ⊥
FirstIs n ws (Ok (FirstOf b a)) = FirstWritten n ws b.low b.high a
FirstIs n ws (Err (Unclear r)) = (low high : Point) (a : ℕ) → ¬ FirstWritten n ws low high a
FirstIs n ws (Err (Refused f)) = (f ≡ BoxEnds) × Crossed n ws
FirstIs n ws (Err Memory) = Unit {0}
