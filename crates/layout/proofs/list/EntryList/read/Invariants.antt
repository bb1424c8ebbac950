use Rattle.std.proofs.Common.{◌≡◌, ◌++◌}
use Rattle.layout.specs.Bytes.{entries_of}
use Rattle.layout.specs.Reading.{to_come}
use Rattle.layout.proofs.list.EntryList.read.Given as goal

abbrev pub invariant-loop-e : goal.invariant-loop-e
invariant-loop-e l = l.self.items.items ++ to_come l.e-iterator ≡ entries_of l.bytes
