-- What a search looks for: the addresses of a box, in an order, from a start on.
use Rattle.std.specs.Prelude.{◌≡◌, ℕ, ◌≤◌, Bool, List, Some, None, Option, Decides}
use Rattle.orders.specs.Orders.{Order, InBox, FirstIs}
use Rattle.orders.specs.declared.point.Point.{Point}
use Rattle.searches.specs.declared.request.Request.{Request}

pub record Sought : Type 0 where
  pub order : Order
  pub low : List ℕ
  pub high : List ℕ
  pub start : ℕ

-- what a request asks for, by the order's meaning
abbrev pub sought : {O : Type 0} → (O → Order) → Request O → Sought
sought meaning r = record { order = meaning r.order.now; low = r.query.now.low.coords; high = r.query.now.high.coords; start = r.start }

abbrev pub Wanted : Sought → ℕ → Type 0
Wanted q a = InBox q.order q.low q.high a × (q.start ≤ a)

-- the answer to: is the address wanted, and which point has it?
abbrev pub Passes : Sought → ℕ → Option Point → Type 0
Passes q a (Some x) = Wanted q a × (x.coords ≡ q.order.point a)
Passes q a None = Wanted q a → ⊥

-- P is the test of it
abbrev pub Tests : Sought → (ℕ → Bool) → Type 0
Tests q P = (a : ℕ) → Decides (P a) (Wanted q a)

-- the answer to: which is the first address of the box at or above b?
abbrev pub FirstFrom : Sought → ℕ → Option ℕ → Type 0
FirstFrom q b r = FirstIs q.order q.low q.high b r

-- `ask` answers it for each
abbrev pub Asks : Sought → (ℕ → Option ℕ) → Type 0
Asks q ask = (b : ℕ) → FirstFrom q b (ask b)
