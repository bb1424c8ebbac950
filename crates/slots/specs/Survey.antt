-- The tables of a slot store, as its making reads them off the slots.
use Rattle.std.specs.Prelude.{◌≡◌, ℕ, ◌+◌, ◌≤◌, Bool, false, not, List, [], length, Some, None, Ok, Err, Option, Result, ◌==◌, ◌≢◌, slice_index, slice_index_or}
use Rattle.pages.specs.declared.making.MakingFault.{MakingFault}
use Rattle.pages.specs.declared.making.MakingFault.TheVariants.{Slots}
use Rattle.slots.specs.declared.survey.Survey.{Survey}
use Rattle.slots.specs.Slot.{number, slot_at, Allowed}

-- `home` has the slot of each page, or 0, and `used` marks the slots that hold a page
pub record Tables (slots : List (List ℕ)) (n : ℕ) (home : List ℕ) (used : List Bool) : Type 0 where
  pub homes : length home ≡ 1025
  pub long : (i : ℕ) → i ≤ n → length (slice_index_or slots i []) ≡ 130
  pub placed : (i : ℕ) → i ≤ n → (number (slice_index_or slots i []) ≢ 0) → slice_index home (number (slice_index_or slots i [])) ≡ i + 1
  pub homed : (q : ℕ) → (slice_index home q ≢ 0) → number (slot_at slots (slice_index home q)) ≡ q
  pub reach : (q : ℕ) → slice_index home q ≤ n + 1
  pub marked : (s : ℕ) → 1 ≤ s → s ≤ n + 1 → slice_index_or used s false ≡ not (number (slot_at slots s) == 0)

-- there are tables just where the slots are allowed
abbrev pub Surveys : List (List ℕ) → ℕ → Option Survey → Type 0
Surveys slots n (Some t) = Allowed slots n × Tables slots n t.home t.used
Surveys slots n None = Allowed slots n → ⊥

-- the answer to the question before the making
abbrev pub Answers : List (List ℕ) → ℕ → Result (Unit {0}) MakingFault → Type 0
Answers slots n (Ok _) = Allowed slots n
Answers slots n (Err f) = (f ≡ Slots) × (Allowed slots n → ⊥)
