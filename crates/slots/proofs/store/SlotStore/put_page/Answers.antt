use Rattle.std.proofs.Common.{refl, ◌∙◌, arith}
use Rattle.slots.proofs.Stores.{ghosts, never_none, in_slots, first_time, again, stores}
use Rattle.slots.proofs.store.SlotStore.put_page.Goals as goal

pub unreachable-requires : goal.unreachable-requires
unreachable-requires c = never_none c.args.self.now (omega arith) c.in_default.ensures.0

pub put-requires : goal.put-requires
put-requires c =
    record { low = c.in-Some.ensures.0; high = in_slots c.args.self.now c.in-Some.s c.args.page c.args.from.now _ c.in-Some.ensures c.requires.low c.requires.high }

pub invariant_of-self : goal.invariant_of-self
invariant_of-self c =
    ghosts _ _ _ _ (again c.args.self.now c.in-Some.s c.args.page c.args.from.now _ c.in-Some.ensures c.requires.low c.requires.high c.told-from _ c.slot_of.ensures _ c.put.ensures.slots
    _ refl c.if-old-ne0.true _ _ c.slot.ensures c.vacated-free.ensures _ _ c.put_front.result c.put-then-old-ne0.ensures.slots c.put_front.ensures).sound

pub invariant_of-self-else-old-ne0 : goal.invariant_of-self-else-old-ne0
invariant_of-self-else-old-ne0 c =
    ghosts _ _ _ _ (first_time c.args.self.now c.in-Some.s c.args.page c.args.from.now _ c.in-Some.ensures c.requires.low c.requires.high c.told-from _ c.slot_of.ensures _ c.put.ensures.slots
    c.if-old-ne0.false).sound

pub returns-then-old-ne0 : goal.returns-then-old-ne0
returns-then-old-ne0 c =
    let w = again c.args.self.now c.in-Some.s c.args.page c.args.from.now _ c.in-Some.ensures c.requires.low c.requires.high c.told-from _ c.slot_of.ensures _ c.put.ensures.slots
    _ refl c.if-old-ne0.true _ _ c.slot.ensures c.vacated-free.ensures _ _ c.put_front.result c.put-then-old-ne0.ensures.slots c.put_front.ensures in
    record {
      pages = w.pages;
      stores = stores c.args.self.now c.in-Some.s c.args.page c.args.from.now _ c.in-Some.ensures c.requires.low c.requires.high _ _ w;
      size = refl;
      charge = refl;
      lent = c.put-then-old-ne0.ensures.lent ∙ c.put.ensures.lent;
    }

pub returns-else-old-ne0 : goal.returns-else-old-ne0
returns-else-old-ne0 c =
    let w = first_time c.args.self.now c.in-Some.s c.args.page c.args.from.now _ c.in-Some.ensures c.requires.low c.requires.high c.told-from _ c.slot_of.ensures _ c.put.ensures.slots
    c.if-old-ne0.false in
    record {
      pages = w.pages;
      stores = stores c.args.self.now c.in-Some.s c.args.page c.args.from.now _ c.in-Some.ensures c.requires.low c.requires.high _ _ w;
      size = refl;
      charge = refl;
      lent = c.put.ensures.lent;
    }
