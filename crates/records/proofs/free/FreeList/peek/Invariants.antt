use Rattle.records.specs.Free.{numbers}
use Rattle.records.proofs.Peeks.{From}
use Rattle.records.proofs.free.FreeList.peek.Given as goal

abbrev pub invariant-loop : goal.invariant-loop
invariant-loop l = From l.self.next (numbers l.self) l.counter l.k
