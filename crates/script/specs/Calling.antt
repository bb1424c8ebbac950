-- Which words write which call. A call's first word says what is called.
use Rattle.std.specs.Prelude.{◌≡◌, ℕ, ◌-◌, ◌^◌, ◌⊎◌, List, [], ◌∷◌, ◌++◌, length, codes, slice_index_or}
use Rattle.orders.specs.declared.point.Point.{Point}
use Rattle.orders.specs.declared.refusal.Refusal.TheVariants.{BoxEnds}
use Rattle.orders.specs.Spaces.{Ordered}
use Rattle.script.specs.Words.{IsOneOf, NumberAt, Written, Ends}
use Rattle.script.specs.Grammar.{question_verbs, Crossed, Asks}
use Rattle.script.specs.declared.call.Call.{Call}
use Rattle.script.specs.declared.call.Call.TheVariants.{Ask, Access as ToStore, Index}
use Rattle.script.specs.declared.call.Access.{Access}
use Rattle.script.specs.declared.call.Access.TheVariants.{Read, Write}
use Rattle.script.specs.declared.trouble.Trouble.{Trouble}
use Rattle.script.specs.declared.trouble.Trouble.TheVariants.{Refused, Unclear, Memory}
use Rattle.script.specs.declared.call.IndexCall.{IndexCall}
use Rattle.script.specs.declared.call.IndexCall.TheVariants.{Grant, Format, Open, Shut, Lodge, Withdraw, Tally, Search}

-- the first words of the accesses to the store
abbrev pub access_verbs : List (List ℕ)
access_verbs = codes "read" ∷ codes "write" ∷ []

-- a page has 16 bits, a byte 8
abbrev pub Accesses : List ℕ → List (List ℕ) → Access → Type 0
Accesses verb ws (Read page) = (verb ≡ codes "read") × (length ws ≡ 1) × NumberAt ws 0 (2 ^ 16 - 1) page
Accesses verb ws (Write page byte) = (verb ≡ codes "write") × (length ws ≡ 2) × NumberAt ws 0 (2 ^ 16 - 1) page × NumberAt ws 1 (2 ^ 8 - 1) byte

-- a number is given by its name and itself; or no word is there, and it is the usual one
abbrev pub Given : List ℕ → ℕ → ℕ → List (List ℕ) → ℕ → Type 0
Given name usual limit ws v = ((length ws ≡ 0) × (v ≡ usual)) ⊎ ((length ws ≡ 2) × (slice_index_or ws 0 [] ≡ name) × NumberAt ws 1 limit v)

-- a box, then the address that the search begins at, then for how many finds there is room
abbrev pub Searches : ℕ → List (List ℕ) → Point → Point → ℕ → ℕ → Type 0
Searches n ws low high start room =
    (ends from for : List (List ℕ))
    × (ws ≡ ends ++ from ++ for)
    × Ends n ends low high
    × Given (codes "from") 0 (2 ^ 64 - 1) from start
    × Given (codes "room") 1000 (2 ^ 32 - 1) for room

-- the same words, but of a box that cannot be: a low end lies above its high end
abbrev pub SearchCrossed : ℕ → List (List ℕ) → Type 0
SearchCrossed n ws = (low high : Point) × (start room : ℕ) × Searches n ws low high start room × ¬ Ordered low.coords high.coords

-- why they write no search: they write none, of no box either; or a low end lies above its high end; or memory was short
abbrev pub NoSearch : ℕ → List (List ℕ) → Trouble → Type 0
NoSearch n ws (Unclear r) = (low high : Point) (start room : ℕ) → ¬ Searches n ws low high start room
NoSearch n ws (Refused f) = (f ≡ BoxEnds) × SearchCrossed n ws
NoSearch n ws Memory = Unit {0}

-- the first words of the calls of the index that name no point
abbrev pub plain_verbs : List (List ℕ)
plain_verbs = codes "grant" ∷ codes "format" ∷ codes "open" ∷ codes "shut" ∷ []

-- the first words of all calls of the index
abbrev pub index_verbs : List (List ℕ)
index_verbs = codes "lodge" ∷ codes "withdraw" ∷ codes "tally" ∷ codes "search" ∷ plain_verbs

-- a charge, work records and room have 32 bits, an address 64
abbrev pub CallsIndex : ℕ → List ℕ → List (List ℕ) → IndexCall → Type 0
CallsIndex n verb ws (Grant charge) = (verb ≡ codes "grant") × (length ws ≡ 1) × NumberAt ws 0 (2 ^ 32 - 1) charge
CallsIndex n verb ws Format = (verb ≡ codes "format") × (length ws ≡ 0)
CallsIndex n verb ws (Open records) = (verb ≡ codes "open") × Given (codes "work") 64 (2 ^ 32 - 1) ws records
CallsIndex n verb ws Shut = (verb ≡ codes "shut") × (length ws ≡ 0)
CallsIndex n verb ws (Lodge x) = (verb ≡ codes "lodge") × Written n ws x
CallsIndex n verb ws (Withdraw x) = (verb ≡ codes "withdraw") × Written n ws x
CallsIndex n verb ws (Tally x) = (verb ≡ codes "tally") × Written n ws x
CallsIndex n verb ws (Search s) = (verb ≡ codes "search") × Searches n ws s.query.low s.query.high s.start s.room

-- why the words write no call of the index, though the first word calls it: they write none, and no search of a box that cannot be; or they write such
-- a search; or memory was short
abbrev pub NoIndexCall : ℕ → List ℕ → List (List ℕ) → Trouble → Type 0
NoIndexCall n verb ws (Unclear r) =
    IsOneOf index_verbs verb × ((c : IndexCall) → ¬ CallsIndex n verb ws c) × (verb ≡ codes "search" → ¬ SearchCrossed n ws)
NoIndexCall n verb ws (Refused f) = (f ≡ BoxEnds) × (verb ≡ codes "search") × SearchCrossed n ws
NoIndexCall n verb ws Memory = Unit {0}

-- the first words of all calls
abbrev pub call_verbs : List (List ℕ)
call_verbs = access_verbs ++ index_verbs ++ question_verbs

-- the first word and the words behind it call, in a space of n coordinates
abbrev pub Calls : ℕ → List ℕ → List (List ℕ) → Call → Type 0
Calls n verb ws (Ask q) = Asks n verb ws q
Calls n verb ws (ToStore a) = Accesses verb ws a
Calls n verb ws (Index c) = CallsIndex n verb ws c

-- they would call, but name a box that cannot be: a low end lies above its high end
abbrev pub CrossedIn : ℕ → List ℕ → List (List ℕ) → Type 0
CrossedIn n verb ws = ((verb ≡ codes "first") × Crossed n ws) ⊎ ((verb ≡ codes "search") × SearchCrossed n ws)

-- why they do not call, though the first word does: they write no call, and none with a box that cannot be; or they write such a call; or memory was short
abbrev pub NoCall : ℕ → List ℕ → List (List ℕ) → Trouble → Type 0
NoCall n verb ws (Unclear r) = IsOneOf call_verbs verb × ((c : Call) → ¬ Calls n verb ws c) × ¬ CrossedIn n verb ws
NoCall n verb ws (Refused f) = (f ≡ BoxEnds) × CrossedIn n verb ws
NoCall n verb ws Memory = Unit {0}
