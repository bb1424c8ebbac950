-- The meaning of a store: the bytes of its pages, and its charge, the number of page accesses that the cell still carries.
use Rattle.std.specs.Prelude.{◌≡◌, ℕ, ◌-◌, ◌^◌, ◌<◌, ◌≤◌, ◌⊎◌, List, [], length, replicate, Ok, Err, Result, slice_index_or, slice_set}
use Rattle.pages.specs.declared.fault.StoreFault.{StoreFault}
use Rattle.pages.specs.declared.fault.StoreFault.TheVariants.{Absent, Uncharged}

-- page p is element p - 1 of the list
pub record Image : Type 0 where
  pub pages : List (List ℕ)
  pub charge : ℕ

-- the store has the page p
abbrev pub Has : Image → ℕ → Type 0
Has m p = (0 < p) × (p ≤ length m.pages)

-- it has not
abbrev pub Lacks : Image → ℕ → Type 0
Lacks m p = (p ≡ 0) ⊎ (length m.pages < p)

-- the bytes of the page p
abbrev pub at : Image → ℕ → List ℕ
at m p = slice_index_or m.pages (p - 1) []

-- one access less
abbrev pub spent : Image → Image
spent m = record { pages = m.pages; charge = m.charge - 1 }

-- another charge
abbrev pub granted : Image → ℕ → Image
granted m c = record { pages = m.pages; charge = c }

-- the page p replaced, at the price of one access
abbrev pub written : Image → ℕ → List ℕ → Image
written m p bytes = record { pages = slice_set m.pages (p - 1) bytes; charge = m.charge - 1 }

-- The questions of an access to the page p of n, at the charge c: is the page there, and does the charge carry the access? A no changes
-- nothing, two yeses cost one.
abbrev pub Accesses : ℕ → ℕ → ℕ → Result (Unit {0}) StoreFault → ℕ → Type 0
Accesses c p n (Ok _) c' = (0 < p) × (p ≤ n) × (0 < c) × (c' ≡ c - 1)
Accesses c p n (Err Absent) c' = ((p ≡ 0) ⊎ (n < p)) × (c' ≡ c)
Accesses c p n (Err Uncharged) c' = (0 < p) × (p ≤ n) × (c ≡ 0) × (c' ≡ c)

-- A read of the page p: meaning m and lent page old before, answer r, meaning m' and lent page new after.
abbrev pub Reads : Image → ℕ → List ℕ → Result (Unit {0}) StoreFault → Image → List ℕ → Type 0
Reads m p old (Ok _) m' new = Has m p × (0 < m.charge) × (new ≡ at m p) × (m' ≡ spent m)
Reads m p old (Err Absent) m' new = Lacks m p × (new ≡ old) × (m' ≡ m)
Reads m p old (Err Uncharged) m' new = Has m p × (m.charge ≡ 0) × (new ≡ old) × (m' ≡ m)

-- A write of these bytes to the page p: meaning m before, answer r, meaning m' after.
abbrev pub Writes : Image → ℕ → List ℕ → Result (Unit {0}) StoreFault → Image → Type 0
Writes m p bytes (Ok _) m' = Has m p × (0 < m.charge) × (m' ≡ written m p bytes)
Writes m p bytes (Err Absent) m' = Lacks m p × (m' ≡ m)
Writes m p bytes (Err Uncharged) m' = Has m p × (m.charge ≡ 0) × (m' ≡ m)

-- at most 65,535 pages of 128 bytes each, and a charge of 32 bits
pub record Sized (m : Image) : Type 0 where
  pub few : length m.pages ≤ 65535
  pub long : (p : ℕ) → Has m p → length (at m p) ≡ 128
  pub carried : m.charge < 2 ^ 32

-- factory-blank: each page reads as 128 zeros or as 128 bytes of 255
abbrev pub Blank : Image → Type 0
Blank m = (p : ℕ) → Has m p → (at m p ≡ replicate 128 0) ⊎ (at m p ≡ replicate 128 255)
