use Rattle.std.proofs.Common.{◌≡◌, ℕ, ◌-◌, ◌<◌, ◌≤◌, length, get_or}
use Rattle.pages.proofs.turned.turn_all.Given as goal

abbrev pub invariant-loop-b : goal.invariant-loop-b
invariant-loop-b l =
    (length l.page ≡ 128)
    × ((k : ℕ) → k < l.b-index → get_or l.page k 0 ≡ 255 - get_or l.initial.page k 0)
    × ((k : ℕ) → k < l.b-index → get_or l.initial.page k 0 ≤ 255)
    × ((k : ℕ) → l.b-index ≤ k → get_or l.page k 0 ≡ get_or l.initial.page k 0)
