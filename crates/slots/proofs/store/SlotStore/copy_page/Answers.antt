use Rattle.std.proofs.Common.{ℕ, List, take, drop, ap, ◌∙◌, arith}
use Rattle.slots.proofs.Stores.{home_in, page_none, page_some}
use Rattle.slots.proofs.store.SlotStore.copy_page.Goals as goal

pub returns-then-s-eq0 : goal.returns-then-s-eq0
returns-then-s-eq0 c = page_none c.args.self.now c.args.page c.requires.low c.requires.high c.if-s-eq0.true

pub slot-slot-requires : goal.slot-slot-requires
slot-slot-requires c = record { low = omega arith; high = home_in c.args.self.now c.args.page c.requires.low c.requires.high }

pub returns-else-s-eq0 : goal.returns-else-s-eq0
returns-else-s-eq0 c =
    page_some c.args.self.now c.args.page c.requires.low c.requires.high _ c.if-s-eq0.false (c.copy_from_slice.ensures.after ∙ ap (λ (slot : List ℕ). take 128 (drop 2 slot)) c.slot-slot.ensures)
