-- Bytes of a tree page, both ways. All numbers are little-endian; a page has 128 bytes.
use Rattle.std.specs.Prelude.{◌≡◌, ℕ, zero, suc, ◌+◌, ◌-◌, ◌*◌, ◌/◌, ◌%◌, ◌^◌, ◌<◌, ◌≤◌, min, Bool, List, [], ◌∷◌, ◌++◌, map, length, replicate, Decides, slice_index}
use Rattle.std.specs.List.{range_with_len, flat_map, AllByRecursion}
use Rattle.std.specs.Str.{bytes_eq}
use Rattle.layout.specs.declared.entry.Entry.{Entry}
use Rattle.layout.specs.Content.{Content, page, Filled}

-- the low n bytes of a number, the lowest first
abbrev pub little : ℕ → ℕ → List ℕ
little zero k = []
little (suc n) k = (k % 256) ∷ map (λ i. k / 256 ^ i % 256) (range_with_len 1 n)

-- the number that stands in n bytes from the place p on
abbrev pub number_at : ℕ → List ℕ → ℕ → ℕ
number_at zero bs p = 0
number_at (suc zero) bs p = slice_index bs p
number_at (suc (suc n)) bs p = number_at (suc n) bs p + slice_index bs (p + suc n) * 256 ^ suc n

-- An entry: a key of 8 bytes, a value of 2, two zeros. Entry i, from 0, begins at byte 8 + 12 * i.
abbrev pub entry_bytes : Entry → List ℕ
entry_bytes e = little 8 e.key ++ (little 2 e.value ++ (0 ∷ 0 ∷ []))

abbrev pub entry_at : List ℕ → ℕ → Entry
entry_at bs i = record { key = number_at 8 bs (8 + 12 * i); value = number_at 2 bs (8 + 12 * i + 8) }

-- A tree page: its level, its number of entries, its own page number in two bytes, four zeros; the entries; zeros.
abbrev pub front_bytes : ℕ → ℕ → ℕ → List ℕ
front_bytes level count number = level ∷ count ∷ (little 2 number ++ (0 ∷ 0 ∷ 0 ∷ 0 ∷ []))

-- a page for `count` entries of which these are written, with zeros behind them
abbrev pub begun_bytes : ℕ → ℕ → ℕ → List Entry → List ℕ
begun_bytes level count number es = front_bytes level count number ++ (flat_map entry_bytes es ++ replicate (120 - 12 * length es) 0)

abbrev pub page_bytes : ℕ → ℕ → List Entry → List ℕ
page_bytes level number es = begun_bytes level (length es) number es

-- What bytes say: level, own number, and as many entries as the second byte says, at most the ten that have a place.
abbrev pub level_of : List ℕ → ℕ
level_of bs = slice_index bs 0

abbrev pub count_of : List ℕ → ℕ
count_of bs = slice_index bs 1

abbrev pub number_of : List ℕ → ℕ
number_of bs = number_at 2 bs 2

abbrev pub entries_of : List ℕ → List Entry
entries_of bs = map (entry_at bs) (range_with_len 0 (min (count_of bs) 10))

-- A page is clean when it is the encoding of what it says; `CleanLaw` says this of its zeros.
unfoldable pub clean_of : List ℕ → Bool
clean_of bs = bytes_eq bs (page_bytes (level_of bs) (number_of bs) (entries_of bs))

abbrev pub content_of : List ℕ → Content
content_of bs = record { level = level_of bs; number = number_of bs; clean = clean_of bs; entries = entries_of bs }

-- numbers that are bytes
abbrev pub Bytes : List ℕ → Type 0
Bytes bs = AllByRecursion (λ b. b < 256) bs

-- an entry whose key and value fit their bytes
abbrev pub Fit : Entry → Type 0
Fit e = (e.key < 2 ^ 64) × (e.value < 2 ^ 16)

-- An encoded page says what was encoded, where number, keys and values fit their bytes: no entries are lost, and it is clean.
abbrev pub RoundTrip : Type 0
RoundTrip = (level number : ℕ) (es : List Entry) → number < 2 ^ 16 → length es ≤ 10 → AllByRecursion Fit es → content_of (page_bytes level number es) ≡ page level number es

-- the named zeros and the unused bytes of a page
pub record Zeros (bs : List ℕ) : Type 0 where
  pub front : (k : ℕ) → 4 ≤ k → k < 8 → slice_index bs k ≡ 0
  pub entry : (i : ℕ) → i < count_of bs → (slice_index bs (8 + 12 * i + 10) ≡ 0) × (slice_index bs (8 + 12 * i + 11) ≡ 0)
  pub unused : (k : ℕ) → 8 + 12 * count_of bs ≤ k → k < 128 → slice_index bs k ≡ 0

-- A page is clean just when it is the encoding of what it says, and that is just when it has at most ten entries,
-- and its named zeros and unused bytes are zero.
abbrev pub CleanLaw : Type 0
CleanLaw = (bs : List ℕ) → length bs ≡ 128 → Bytes bs
    → Decides (clean_of bs) (bs ≡ page_bytes (level_of bs) (number_of bs) (entries_of bs)) × Decides (clean_of bs) ((count_of bs ≤ 10) × Zeros bs)

-- Rule C by the bytes: the page says 1 to 10 entries, and its named zeros and unused bytes are zero.
abbrev pub FilledLaw : Type 0
FilledLaw = (bs : List ℕ) → length bs ≡ 128 → Bytes bs
    → (Filled (content_of bs) → (1 ≤ count_of bs) × (count_of bs ≤ 10) × Zeros bs) × ((1 ≤ count_of bs) × (count_of bs ≤ 10) × Zeros bs → Filled (content_of bs))
