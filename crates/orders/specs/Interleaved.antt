-- The order that a rule makes.
use Rattle.std.specs.Prelude.{ℕ, ◌*◌}
use Rattle.orders.specs.declared.space.Space.{Space}
use Rattle.orders.specs.Interleave.{address_of, point_at}
use Rattle.orders.specs.Orders.{Order}

-- how many bits an address has
abbrev pub bits_of : Space → ℕ
bits_of s = s.n * s.p

abbrev pub order_of : ℕ → Space → (ℕ → ℕ) → Order
order_of kind s turn = record { kind = kind; n = s.n; p = s.p; address = address_of turn (bits_of s); point = point_at turn (bits_of s) }
