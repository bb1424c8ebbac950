-- Slots of 130 bytes: a page number in two bytes, little-endian, then the page. Number 0 is that of a free slot.
use Rattle.std.specs.Prelude.{◌≡◌, ℕ, zero, suc, ◌+◌, ◌-◌, ◌*◌, ◌/◌, ◌%◌, ◌<◌, ◌≤◌, cond, List, [], ◌∷◌, ◌++◌, map, length, take, drop, replicate, Ok, Err, filter, Result, ◌==◌, nat_eq, slice_index, slice_index_or, slice_set}
use Rattle.std.specs.List.{range_with_len}
use Rattle.pages.specs.declared.fault.StoreFault.{StoreFault}
use Rattle.pages.specs.Image.{Image}

-- a number in two bytes
abbrev pub le16 : ℕ → List ℕ
le16 v = (v % 256) ∷ (v / 256 % 256) ∷ []

-- the number of a slot
abbrev pub number : List ℕ → ℕ
number slot = slice_index slot 0 + slice_index slot 1 * 256

-- the slot that holds the page p of these bytes
abbrev pub filled : ℕ → List ℕ → List ℕ
filled p page = le16 p ++ page

-- a slot made free: only its number changes
abbrev pub freed : List ℕ → List ℕ
freed slot = le16 0 ++ drop 2 slot

-- the slot s, counted from 1
abbrev pub slot_at : List (List ℕ) → ℕ → List ℕ
slot_at slots s = slice_index_or slots (s - 1) []

abbrev pub past : ℕ → ℕ
past zero = 0
past (suc s) = suc (suc s)

-- the first slot, counted from 1, that has the number p, or 0 where none has it
unfoldable pub holder : List (List ℕ) → ℕ → ℕ
holder [] p = 0
holder (slot ∷ slots) p = cond (number slot == p) 1 (past (holder slots p))

-- the page p: what its slot holds, or zeros where it has none
abbrev pub page_in : List (List ℕ) → ℕ → List ℕ
page_in slots p = cond (holder slots p == 0) (replicate 128 0) (drop 2 (slot_at slots (holder slots p)))

-- how many slots a store of n pages uses
abbrev pub span : ℕ → ℕ
span zero = 0
span (suc n) = suc (suc n)

-- what a store of n pages over the first n + 1 of these slots means
abbrev pub held : List (List ℕ) → ℕ → ℕ → Image
held slots n charge = record { pages = map (page_in (take (n + 1) slots)) (range_with_len 1 n); charge = charge }

-- the free ones of the first n + 1 slots, rising
abbrev pub vacant : List (List ℕ) → ℕ → List ℕ
vacant slots n = filter (λ s. nat_eq (number (slot_at slots s)) 0) (range_with_len 1 (n + 1))

-- the question before the making: is n in range, are there more than n slots, and is no slot number above n or, but for 0, used twice?
pub record Allowed (slots : List (List ℕ)) (n : ℕ) : Type 0 where
  pub some : 1 ≤ n
  pub few : n ≤ 1024
  pub room : n < length slots
  pub low : (i : ℕ) → i ≤ n → number (slice_index_or slots i []) ≤ n
  pub once : (i j : ℕ) → i < j → j ≤ n → number (slice_index_or slots i []) ≡ number (slice_index_or slots j []) → number (slice_index_or slots i []) ≡ 0

-- the slots after a write of the page p into the slot s, where the page was in the slot old, or in none if that is 0
abbrev pub stored : List (List ℕ) → ℕ → ℕ → ℕ → List ℕ → List (List ℕ)
stored slots s old p bytes = cond (old == 0) (slice_set slots (s - 1) (filled p bytes)) (slice_set (slice_set slots (s - 1) (filled p bytes)) (old - 1) (freed (slot_at slots old)))

-- the free slots after it
abbrev pub returned : ℕ → List ℕ → List ℕ
returned old free = cond (old == 0) (drop 1 free) (old ∷ drop 1 free)

-- What a write to the page p that was answered with r leaves of the slots and of the free ones: the front free slot receives the page and its
-- number, the page's old slot becomes the front free one, and every other slot keeps its bytes, also those past the first n + 1.
abbrev pub Stores : List (List ℕ) → List ℕ → ℕ → ℕ → List ℕ → Result (Unit {0}) StoreFault → List (List ℕ) → List ℕ → Type 0
Stores slots free n p bytes (Ok _) slots' free' =
    (slots' ≡ stored slots (slice_index free 0) (holder (take (n + 1) slots) p) p bytes) × (free' ≡ returned (holder (take (n + 1) slots) p) free)
    × (drop (n + 1) slots' ≡ drop (n + 1) slots)
Stores slots free n p bytes (Err _) slots' free' = (slots' ≡ slots) × (free' ≡ free)
