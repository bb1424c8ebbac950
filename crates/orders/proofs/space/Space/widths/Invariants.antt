use Rattle.std.proofs.Common.{◌≡◌, ℕ, ◌<◌, ◌≤◌, length, slice_index}
use Rattle.orders.proofs.space.Space.widths.Given as goal

-- the first j coordinates have their bits
abbrev pub invariant-loop-j : goal.invariant-loop-j
invariant-loop-j l = (length l.widths ≡ 4) × ((k : ℕ) → k < l.j → slice_index l.widths k ≡ l.self.p) × ((k : ℕ) → l.j ≤ k → slice_index l.widths k ≡ 0)
