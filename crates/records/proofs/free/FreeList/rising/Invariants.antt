use Rattle.records.specs.Free.{numbers}
use Rattle.records.proofs.Rising.{Built}
use Rattle.records.proofs.free.FreeList.rising.Given as goal

abbrev pub invariant-loop-k : goal.invariant-loop-k
invariant-loop-k l = Built l.marks l.low l.high l.k (numbers l.list)
