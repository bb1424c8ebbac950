use Rattle.std.proofs.Common.{◌≡◌, List, length, take}
use Rattle.index.specs.Histories.{Event}
use Rattle.exports.specs.Batches.{Sought, onward, opened}
use Rattle.exports.specs.Standing.{StandsAt}
use Rattle.exports.proofs.batch.search_all.Given as goal

-- the boxes before this one are searched
abbrev pub invariant-loop-i : goal.invariant-loop-i
invariant-loop-i g l =
    ((events : List Event)
    × Sought l.initial.finds (take l.i l.boxes) events l.searched.finds l.searched.reads l.finds
    × StandsAt g.S.PageStore.meaning g.O.PointOrder.meaning l.fn.store l.fn.order (onward events (opened l.charge)) l.index)
    × (l.searched.done ≡ l.i) × (l.searched.refusal ≡ 0) × (length l.finds ≡ length l.initial.finds)
