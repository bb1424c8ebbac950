use Rattle.std.proofs.Common.{◌≡◌, ℕ, ◌-◌, ◌/◌, ◌^◌, ◌<◌, slice_index}
use Rattle.orders.specs.Interleave.{address_of, lacking}
use Rattle.orders.specs.Interleaved.{bits_of}
use Rattle.orders.proofs.rule.address_by.Given as goal

-- the first t bits are in a, and each coordinate lacks the bits of the others
abbrev pub invariant-loop-t : goal.invariant-loop-t
invariant-loop-t g l =
    let o = g.R.BitRule in
    let bits = bits_of (o.space_of l.s) in
    (l.a ≡ address_of (o.turn_of l.s) bits l.x / 2 ^ (bits - l.t)) × ((j : ℕ) → j < 4 → slice_index l.lacks j ≡ lacking bits (o.used_of l.s) l.t j)
