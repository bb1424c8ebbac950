-- What the making of a slot store gives.
use Rattle.std.specs.Prelude.{◌≡◌, ℕ, List, []}
use Rattle.slots.specs.Slot.{Allowed, vacant}

-- a store over these slots with n pages, asked for by its maker: it got its pages and the rising chain of its free slots, or no page
pub record Makes (slots : List (List ℕ)) (n pages : ℕ) (free : List ℕ) : Type 0 where
  pub yes : Allowed slots n → (pages ≡ n) × (free ≡ vacant slots n)
  pub no : (Allowed slots n → ⊥) → (pages ≡ 0) × (free ≡ [])
