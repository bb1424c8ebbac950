use Rattle.std.proofs.Common.{◌≡◌, ℕ, ◌<◌, ◌≤◌, length, get_or}
use Rattle.script.proofs.point.point_of.Given as goal

abbrev pub invariant-loop-j : goal.invariant-loop-j
invariant-loop-j l =
    (length l.coords ≡ 4)
    × ((k : ℕ) → k < l.j → get_or l.numbers k 0 ≤ 65535)
    × ((k : ℕ) → k < l.j → get_or l.coords k 0 ≡ get_or l.numbers k 0)
    × ((k : ℕ) → l.j ≤ k → get_or l.coords k 0 ≡ 0)
