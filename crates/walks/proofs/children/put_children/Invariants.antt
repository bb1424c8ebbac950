use Rattle.std.proofs.Common.{◌≡◌, ◌+◌, ◌-◌, ◌++◌, length, drop}
use Rattle.tree.specs.Scan.{child_visits}
use Rattle.walks.specs.Pending.{to_come, SameSize}
use Rattle.walks.proofs.children.put_children.Given as goal

-- the visits from i on are put
abbrev pub invariant-loop-i : goal.invariant-loop-i
invariant-loop-i l =
    (l.pending.used + l.i ≡ l.initial.pending.used + length l.entries)
    × SameSize l.initial.pending l.pending
    × (to_come l.pending ≡ drop l.i (child_visits (l.v.at.level - 1) l.v.lo l.v.hi l.entries) ++ to_come l.initial.pending)
