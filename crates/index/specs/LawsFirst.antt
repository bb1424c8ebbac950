-- A history that ends with an event: histories in which a format and a lodge are accepted exist.
use Rattle.std.specs.Prelude.{ℕ, ◌≤◌, List, [], ◌∷◌, length}
use Rattle.pages.specs.Image.{Image}
use Rattle.orders.specs.Orders.{Order, Lawful, InSpaceOf}
use Rattle.index.specs.Model.{State}
use Rattle.index.specs.Model.Call.{formats, lodges}
use Rattle.index.specs.Model.Answer.{accepted}
use Rattle.index.specs.Histories.{Led, event}

-- over every memory of at least eight pages with a charge of three: format, then lodge
abbrev pub FirstLaw : Type 0
FirstLaw = (o : Order) → Lawful o → (m : Image) (x : List ℕ) → InSpaceOf o x → 8 ≤ length m.pages → 3 ≤ m.charge →
    (s : State) × Led o m (event (lodges x) accepted ∷ event formats accepted ∷ []) s
