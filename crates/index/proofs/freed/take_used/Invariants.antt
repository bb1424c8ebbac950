use Rattle.std.proofs.Common.{◌≡◌, drop}
use Rattle.records.specs.Free.{numbers}
use Rattle.index.proofs.freed.take_used.Given as goal

abbrev pub invariant-loop : goal.invariant-loop
invariant-loop l = numbers l.free ≡ drop l.counter (numbers l.initial.free)
