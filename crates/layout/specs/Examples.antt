-- Worked encodings: pages as they stand in memory, byte by byte. Bytes past those written here are zero.
use Rattle.std.specs.Prelude.{◌≡◌, ℕ, ◌-◌, false, List, [], ◌∷◌, ◌++◌, length, replicate}
use Rattle.std.specs.List.{AllByRecursion}
use Rattle.layout.specs.declared.entry.Entry.{Entry}
use Rattle.layout.specs.declared.header.Header.{Header}
use Rattle.layout.specs.Content.{page}
use Rattle.layout.specs.Bytes.{page_bytes, content_of, clean_of}
use Rattle.layout.specs.Heads.{header_bytes, header_of}
use Rattle.layout.specs.Edits.{entry}

abbrev pub padded : List ℕ → List ℕ
padded bs = bs ++ replicate (128 - length bs) 0

pub record HeaderRow : Type 0 where
  pub header : Header
  pub bytes : List ℕ

pub record PageRow : Type 0 where
  pub level : ℕ
  pub number : ℕ
  pub entries : List Entry
  pub bytes : List ℕ

abbrev pub header : ℕ → ℕ → ℕ → ℕ → ℕ → ℕ → Header
header kind n p height root total = record { kind = kind; n = n; p = p; height = height; root = root; total = total }

abbrev pub header_rows : List HeaderRow
header_rows =
    -- no events yet, for the order of kind 1 over 4 coordinates of 15 bits
    record { header = header 1 4 15 0 0 0; bytes = 85 ∷ 66 ∷ 84 ∷ 49 ∷ 1 ∷ 4 ∷ 15 ∷ 0 ∷ [] }
    -- one leaf, page 2, with ten events
    ∷ record { header = header 2 2 3 1 2 10; bytes = 85 ∷ 66 ∷ 84 ∷ 49 ∷ 2 ∷ 2 ∷ 3 ∷ 1 ∷ 2 ∷ 0 ∷ 0 ∷ 0 ∷ 10 ∷ [] }
    -- the two-level tree below: root page 5, eleven events
    ∷ record { header = header 1 2 3 2 5 11; bytes = 85 ∷ 66 ∷ 84 ∷ 49 ∷ 1 ∷ 2 ∷ 3 ∷ 2 ∷ 5 ∷ 0 ∷ 0 ∷ 0 ∷ 11 ∷ [] }
    -- the greatest height; a root of two bytes and a total of four
    ∷ record { header = header 255 4 15 6 1024 16909060; bytes = 85 ∷ 66 ∷ 84 ∷ 49 ∷ 255 ∷ 4 ∷ 15 ∷ 6 ∷ 0 ∷ 4 ∷ 0 ∷ 0 ∷ 4 ∷ 3 ∷ 2 ∷ 1 ∷ [] }
    ∷ []

-- an entry's twelve bytes where key and value are below 256
abbrev pub small : ℕ → ℕ → List ℕ → List ℕ
small key value rest = key ∷ 0 ∷ 0 ∷ 0 ∷ 0 ∷ 0 ∷ 0 ∷ 0 ∷ value ∷ 0 ∷ 0 ∷ 0 ∷ rest

abbrev pub page_rows : List PageRow
page_rows =
    -- a leaf with one event at address 0, page 2
    record { level = 1; number = 2; entries = entry 0 1 ∷ []; bytes = 1 ∷ 1 ∷ 2 ∷ 0 ∷ 0 ∷ 0 ∷ 0 ∷ 0 ∷ 0 ∷ 0 ∷ 0 ∷ 0 ∷ 0 ∷ 0 ∷ 0 ∷ 0 ∷ 1 ∷ [] }
    -- a page number, a key and a value of two bytes: 1023, 258 and 65535
    ∷ record { level = 1; number = 1023; entries = entry 258 65535 ∷ []; bytes = 1 ∷ 1 ∷ 255 ∷ 3 ∷ 0 ∷ 0 ∷ 0 ∷ 0 ∷ 2 ∷ 1 ∷ 0 ∷ 0 ∷ 0 ∷ 0 ∷ 0 ∷ 0 ∷ 255 ∷ 255 ∷ [] }
    -- the greatest address of 4 coordinates of 15 bits, twice
    ∷ record { level = 1; number = 9; entries = entry 1152921504606846975 2 ∷ []; bytes = 1 ∷ 1 ∷ 9 ∷ 0 ∷ 0 ∷ 0 ∷ 0 ∷ 0 ∷ 255 ∷ 255 ∷ 255 ∷ 255 ∷ 255 ∷ 255 ∷ 255 ∷ 15 ∷ 2 ∷ [] }
    -- two entries: the second begins at byte 20
    ∷ record { level = 1; number = 3; entries = entry 28 1 ∷ entry 39 300 ∷ []; bytes = 1 ∷ 2 ∷ 3 ∷ 0 ∷ 0 ∷ 0 ∷ 0 ∷ 0 ∷ small 28 1 (39 ∷ 0 ∷ 0 ∷ 0 ∷ 0 ∷ 0 ∷ 0 ∷ 0 ∷ 44 ∷ 1 ∷ []) }
    -- a tree of two levels with the addresses 0 to 10, once each: its root, page 5, with the key 5 between its children 2 and 4
    ∷ record { level = 2; number = 5; entries = entry 5 2 ∷ entry 0 4 ∷ []; bytes = 2 ∷ 2 ∷ 5 ∷ 0 ∷ 0 ∷ 0 ∷ 0 ∷ 0 ∷ small 5 2 (small 0 4 []) }
    -- its left leaf
    ∷ record {
      level = 1;
      number = 2;
      entries = entry 0 1 ∷ entry 1 1 ∷ entry 2 1 ∷ entry 3 1 ∷ entry 4 1 ∷ entry 5 1 ∷ [];
      bytes = 1 ∷ 6 ∷ 2 ∷ 0 ∷ 0 ∷ 0 ∷ 0 ∷ 0 ∷ small 0 1 (small 1 1 (small 2 1 (small 3 1 (small 4 1 (small 5 1 [])))));
    }
    -- its right leaf
    ∷ record {
      level = 1;
      number = 4;
      entries = entry 6 1 ∷ entry 7 1 ∷ entry 8 1 ∷ entry 9 1 ∷ entry 10 1 ∷ [];
      bytes = 1 ∷ 5 ∷ 4 ∷ 0 ∷ 0 ∷ 0 ∷ 0 ∷ 0 ∷ small 6 1 (small 7 1 (small 8 1 (small 9 1 (small 10 1 []))));
    }
    -- an inner page with one child: its only key is 0
    ∷ record { level = 3; number = 12; entries = entry 0 7 ∷ []; bytes = 3 ∷ 1 ∷ 12 ∷ 0 ∷ 0 ∷ 0 ∷ 0 ∷ 0 ∷ small 0 7 [] }
    ∷ []

-- pages that are not clean: a byte before the entries, behind a value, and past the entries; eleven entries
abbrev pub unclean_rows : List (List ℕ)
unclean_rows =
    (1 ∷ 1 ∷ 2 ∷ 0 ∷ 0 ∷ 0 ∷ 0 ∷ 1 ∷ small 0 1 [])
    ∷ (1 ∷ 1 ∷ 2 ∷ 0 ∷ 0 ∷ 0 ∷ 0 ∷ 0 ∷ 0 ∷ 0 ∷ 0 ∷ 0 ∷ 0 ∷ 0 ∷ 0 ∷ 0 ∷ 1 ∷ 0 ∷ 1 ∷ [])
    ∷ (1 ∷ 1 ∷ 2 ∷ 0 ∷ 0 ∷ 0 ∷ 0 ∷ 0 ∷ small 0 1 (small 1 1 []))
    ∷ (1 ∷ 11 ∷ 2 ∷ [])
    ∷ []

-- each row is an encoding, and says what was encoded
pub record Examples : Type 0 where
  pub headers : AllByRecursion (λ r. (header_bytes r.header ≡ padded r.bytes) × (header_of (padded r.bytes) ≡ r.header)) header_rows
  pub pages : AllByRecursion (λ r. (page_bytes r.level r.number r.entries ≡ padded r.bytes) × (content_of (padded r.bytes) ≡ page r.level r.number r.entries)) page_rows
  pub unclean : AllByRecursion (λ bs. clean_of (padded bs) ≡ false) unclean_rows
