use Rattle.std.proofs.Common.{◌≡◌, ◌+◌, ◌*◌}
use Rattle.searches.specs.declared.find.Ending.TheVariants.{Done}
use Rattle.searches.specs.Sought.{sought}
use Rattle.searches.proofs.PageWalk.{Turned}
use Rattle.searches.proofs.walking.+walk.Given as goal

abbrev pub decreases-walk_page : goal.decreases-walk_page
decreases-walk_page g l = 2 * l.at.level

-- the level is that of the children
abbrev pub decreases-walk_children : goal.decreases-walk_children
decreases-walk_children g l = 2 * l.level + 1

abbrev pub invariant-walk_children-loop-i : goal.invariant-walk_children-loop-i
invariant-walk_children-loop-i g l =
    (l.walked.ending ≡ Done)
    × Turned (sought g.O.PointOrder.meaning l.request) (g.S.PageStore.meaning l.initial.store) l.level l.children l.end l.fn.next l.initial.finds
    l.i l.walked (g.S.PageStore.meaning l.store) l.finds
