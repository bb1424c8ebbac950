-- What a script sets up, and what set-up lines are answered.
use Rattle.std.specs.Prelude.{◌≡◌, ◌≢◌, ℕ, ◌*◌, ◌⊎◌, Some, None, replicate, Bool, true, false, [], ◌∷◌, ◌++◌}
use Rattle.orders.specs.Spaces.{Range}
use Rattle.orders.specs.declared.refusal.Refusal.TheVariants.{SpaceRange}
use Rattle.answers.specs.declared.answer.Answer.{Answer}
use Rattle.answers.specs.declared.answer.Answer.TheVariants.{Ok as ok, Impossible, Unclear}
use Rattle.script.specs.declared.reason.Reason.{Reason}
use Rattle.script.specs.declared.reason.Reason.TheVariants.{Order as out_of_order, Layers as too_many_layers}
use Rattle.script.specs.declared.setup.OrderKind.{OrderKind}
use Rattle.script.specs.declared.setup.OrderKind.TheVariants.{Z}
use Rattle.script.specs.declared.setup.Setup.{Setup}
use Rattle.script.specs.declared.setup.Setup.TheVariants.{Order, Memory as SetMemory, Image, Slot, SlotImage, Turned, Skip, Dump, Save}
use Rattle.session.specs.declared.memory.Kind.TheVariants.{Pages}
use Rattle.session.specs.declared.memory.Memory.{Memory}
use Rattle.session.specs.declared.session.Chosen.{Chosen}
use Rattle.session.specs.declared.session.Ending.{Ending}
use Rattle.session.specs.declared.session.Session.{Session}

-- so many pages for a memory store, with the same byte everywhere
abbrev pub Filled : ℕ → ℕ → Memory → Type 0
Filled pages byte m = (m.bytes.items ≡ replicate (pages * 128) byte) × (m.kind ≡ Pages)

-- the order that stands: the one that a line chose, or Z over four coordinates of 15 bits
abbrev pub Stands : Session → Chosen → Type 0
Stands s c = (s.order ≡ Some c) ⊎ ((s.order ≡ None) × (c.kind ≡ Z) × (c.space.n ≡ 4) × (c.space.p ≡ 15))

-- a line that chooses an order: a second choice comes out of its order, a space out of range is refused, and otherwise the order stands
abbrev pub Chooses : Session → OrderKind → ℕ → ℕ → Answer → Session → Type 0
Chooses s kind n p a t =
    ((s.order ≢ None) × (a ≡ Unclear out_of_order) × (t ≡ s))
    ⊎ ((s.order ≡ None) × (Range n p → ⊥) × (a ≡ Impossible SpaceRange) × (t ≡ s))
    ⊎ ((s.order ≡ None) × (a ≡ ok) × (t.called ≡ s.called) × (t.endings ≡ s.endings)
    × ((c : Chosen) × (t.order ≡ Some c) × (c.kind ≡ kind) × (c.space.n ≡ n) × (c.space.p ≡ p)))

-- why a layer comes too late: after a call, or because there are two layers already
abbrev pub late_layer : Bool → Reason
late_layer true = out_of_order
late_layer false = too_many_layers

-- why a set-up line comes too late, once no layer more can be put on; `dump` and `save` are answered where they are heard and never come here
abbrev pub late_line : Bool → Setup → Reason
late_line called (Order kind n p) = out_of_order
late_line called (SetMemory pages byte) = out_of_order
late_line called (Image file) = out_of_order
late_line called (Slot pages) = out_of_order
late_line called (SlotImage pages file) = out_of_order
late_line called Turned = late_layer called
late_line called (Skip bad) = late_layer called
late_line called Dump = out_of_order
late_line called (Save file) = out_of_order

-- one more thing to do at the end, behind those that are to be done already
abbrev pub Notes : Session → Ending → Session → Type 0
Notes s e t = (t.order ≡ s.order) × (t.called ≡ s.called) × (t.endings.items ≡ s.endings.items ++ e ∷ [])
