-- The meaning of a slot store.
use Rattle.pages.specs.Image.{Image}
use Rattle.slots.specs.declared.store.SlotStore.{SlotStore}
use Rattle.slots.specs.Slot.{held}

abbrev pub meaning_of : SlotStore → Image
meaning_of s = held s.row.slots.now s.pages s.charge.left
