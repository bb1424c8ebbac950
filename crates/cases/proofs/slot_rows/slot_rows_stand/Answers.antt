use Rattle.std.proofs.Common.{◌≡◌, ℕ, ◌<◌, ◌≤◌, [], ◌∷◌, get_or, refl, inl, inr, arith, lit<, lit≤}
use Rattle.std.proofs.lemmas.Bool.{cases_eq}
use Rattle.slots.specs.Slot.{number}
use Rattle.cases.specs.SlotRows.{zeros}
use Rattle.cases.proofs.slot_rows.slot_rows_stand.Goals as goal

low : (i : ℕ) → i ≤ 1 → number (get_or (zeros 0 ∷ zeros 1 ∷ []) i []) ≤ 1
low i le = elim (cases_eq i 0) [ inl e ↦ rw e (lit≤ tt) | inr ne ↦ let one : i ≡ 1 = omega arith in rw one (lit≤ tt) ]

once : (i j : ℕ) → i < j → j ≤ 1 → number (get_or (zeros 0 ∷ zeros 1 ∷ []) i []) ≡ number (get_or (zeros 0 ∷ zeros 1 ∷ []) j []) → number (get_or (zeros 0 ∷ zeros 1 ∷ []) i []) ≡ 0
once i j lt le e = let zero : i ≡ 0 = omega arith in rw zero refl

pub returns : goal.returns
returns c = (
  (λ a. omega (arith, a.once 0 1 (lit< tt) (lit≤ tt) refl)),
  (λ a. omega (arith, a.low 1 (lit≤ tt))),
  (λ a. omega (arith, a.room)),
  record { some = lit≤ tt; few = lit≤ tt; room = lit< tt; low = low; once = once },
)
