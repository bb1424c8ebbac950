use Rattle.std.proofs.Common.{◌≡◌, ◌+◌, ◌-◌, ◌++◌, take}
use Rattle.std.specs.List.{range_with_len}
use Rattle.pages.proofs.table.filling.fill.Given as goal

abbrev pub invariant-loop-k : goal.invariant-loop-k
invariant-loop-k l = l.places.items ≡ take 1024 (l.initial.places.items ++ range_with_len (l.after + 1) (l.k - l.after))
