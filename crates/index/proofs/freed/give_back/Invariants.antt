use Rattle.std.proofs.Common.{◌≡◌, ◌++◌, reverse, take}
use Rattle.records.specs.Free.{numbers}
use Rattle.tree.specs.Tree.{Apart}
use Rattle.index.specs.Freed.{FitsList}
use Rattle.index.proofs.freed.give_back.Given as goal

abbrev pub invariant-loop-page : goal.invariant-loop-page
invariant-loop-page l = FitsList (reverse l.path) → Apart (reverse l.path ++ numbers l.initial.free) → numbers l.free ≡ reverse (take l.page-index l.path) ++ numbers l.initial.free
