-- The table of a skip layer.
use Rattle.std.specs.Prelude.{◌≡◌, ℕ, ◌-◌, ◌<◌, ◌≤◌, cond, ◌⊎◌, List, length, Some, None, Ok, Err, Option, Result, nat_le, slice_index}
use Rattle.pages.specs.declared.table.SkipTable.{SkipTable}
use Rattle.pages.specs.declared.making.MakingFault.{MakingFault}
use Rattle.pages.specs.declared.making.MakingFault.TheVariants.{BadPages}
use Rattle.pages.specs.declared.fault.StoreFault.{StoreFault}
use Rattle.pages.specs.declared.fault.StoreFault.TheVariants.{Absent, Uncharged}
use Rattle.pages.specs.Image.{Image, written}
use Rattle.pages.specs.Skip.{Allowed, places, placed_within}

-- the numbers that the table holds
abbrev pub places_in : SkipTable → List ℕ
places_in t = t.places.items

-- what a layer with this table means over a store of meaning m
abbrev pub seen : SkipTable → Image → Image
seen t m = placed_within t.reach (places_in t) m

-- how many pages the layer has over a store of n pages
abbrev pub counted : SkipTable → ℕ → ℕ
counted t n = cond (nat_le t.reach n) (length (places_in t)) 0

-- where the page p of the layer lies in a store of n pages
abbrev pub Finds : SkipTable → ℕ → ℕ → Result ℕ StoreFault → Type 0
Finds t n p (Ok k) = (0 < p) × (p ≤ counted t n) × (k ≡ slice_index (places_in t) (p - 1))
Finds t n p (Err Absent) = (p ≡ 0) ⊎ (counted t n < p)
Finds t n p (Err Uncharged) = ⊥

-- what a write to the page p of the layer that was answered with r leaves of the store below: at a yes one page of it is replaced, no bad one
abbrev pub WritesBelow : SkipTable → Image → ℕ → List ℕ → Result (Unit {0}) StoreFault → Image → Type 0
WritesBelow t m p bytes (Ok _) m' = m' ≡ written m (slice_index (places_in t) (p - 1)) bytes
WritesBelow t m p bytes (Err _) m' = m' ≡ m

-- the table of a list of bad pages for a store of n pages: there is one just where the list is allowed
abbrev pub Tabulates : List ℕ → ℕ → Option SkipTable → Type 0
Tabulates bad n (Some t) = Allowed bad n × (places_in t ≡ places bad n) × (t.reach ≡ n)
Tabulates bad n None = Allowed bad n → ⊥

-- the answer to the question before the making
abbrev pub Answers : List ℕ → ℕ → Result (Unit {0}) MakingFault → Type 0
Answers bad n (Ok _) = Allowed bad n
Answers bad n (Err f) = (f ≡ BadPages) × (Allowed bad n → ⊥)
