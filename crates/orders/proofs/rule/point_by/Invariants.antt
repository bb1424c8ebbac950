use Rattle.std.proofs.Common.{◌≡◌, ◌-◌, ◌/◌, ◌^◌}
use Rattle.orders.specs.Interleave.{point_at}
use Rattle.orders.proofs.rule.point_by.Given as goal

-- the point of the first t bits
abbrev pub invariant-loop-t : goal.invariant-loop-t
invariant-loop-t g l = l.q ≡ point_at (g.R.BitRule.turn_of l.s) l.t (l.a / 2 ^ (l.bits - l.t))
