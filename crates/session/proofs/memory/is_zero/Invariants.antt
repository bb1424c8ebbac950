use Rattle.std.proofs.Common.{◌≡◌, ◌↔◌}
use Rattle.session.proofs.Zeros.{ZerosTo}
use Rattle.session.proofs.memory.is_zero.Given as goal

abbrev pub invariant-loop-b : goal.invariant-loop-b
invariant-loop-b l = (l.bits ≡ 0) ↔ ZerosTo l.bytes l.b-index
