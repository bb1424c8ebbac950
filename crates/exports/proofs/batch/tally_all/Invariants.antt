use Rattle.std.proofs.Common.{◌≡◌, ℕ, ◌≤◌, length, take, slice_index}
use Rattle.exports.specs.Batches.{tallied, onward, opened}
use Rattle.exports.specs.Standing.{StandsAt}
use Rattle.exports.proofs.batch.tally_all.Given as goal

-- the first i points are tallied
abbrev pub invariant-loop-i : goal.invariant-loop-i
invariant-loop-i g l =
    StandsAt g.S.PageStore.meaning g.O.PointOrder.meaning l.fn.store l.fn.order (onward (tallied (take l.i l.points) l.counts) (opened l.charge)) l.index
    × (length l.counts ≡ length l.initial.counts)
    × ((j : ℕ) → l.i ≤ j → slice_index l.counts j ≡ slice_index l.initial.counts j)
