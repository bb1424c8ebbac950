-- Which words write which set-up line. Its first word says what is set up.
use Rattle.std.specs.Prelude.{◌≡◌, ℕ, ◌-◌, ◌^◌, ◌⊎◌, List, [], ◌∷◌, length, codes, slice_index_or}
use Rattle.script.specs.Words.{IsOneOf, NumberAt, NumbersTo}
use Rattle.script.specs.declared.setup.OrderKind.{OrderKind}
use Rattle.script.specs.declared.setup.OrderKind.TheVariants.{Z, Row}
use Rattle.script.specs.declared.setup.Setup.{Setup}
use Rattle.script.specs.declared.setup.Setup.TheVariants.{Order, Memory, Image, Slot, SlotImage, Turned, Skip, Dump, Save}
use Rattle.script.specs.declared.trouble.Trouble.{Trouble}
use Rattle.script.specs.declared.trouble.Trouble.TheVariants.{Refused, Unclear, Memory as OutOfMemory}

-- the first words of the set-up lines
abbrev pub setup_verbs : List (List ℕ)
setup_verbs = codes "order" ∷ codes "store" ∷ codes "layer" ∷ codes "dump" ∷ codes "save" ∷ []

abbrev pub order_word : OrderKind → List ℕ
order_word Z = codes "z"
order_word Row = codes "row"

-- what the bytes of a new store hold: 0, or 255 where the words behind the pages say so
abbrev pub Fills : List (List ℕ) → ℕ → Type 0
Fills ws byte =
    ((length ws ≡ 2) × (byte ≡ 0)) ⊎ ((length ws ≡ 4) × (slice_index_or ws 2 [] ≡ codes "erased") × NumberAt ws 3 (2 ^ 8 - 1) byte × (byte ≡ 255))

-- the numbers of coordinates and bits have 8 bits, pages 16
abbrev pub SetsUp : List ℕ → List (List ℕ) → Setup → Type 0
SetsUp verb ws (Order kind n p) =
    (verb ≡ codes "order") × (length ws ≡ 3) × (slice_index_or ws 0 [] ≡ order_word kind) × NumberAt ws 1 (2 ^ 8 - 1) n × NumberAt ws 2 (2 ^ 8 - 1) p
SetsUp verb ws (Memory pages byte) = (verb ≡ codes "store") × (slice_index_or ws 0 [] ≡ codes "memory") × NumberAt ws 1 (2 ^ 16 - 1) pages × Fills ws byte
SetsUp verb ws (Image file) = (verb ≡ codes "store") × (length ws ≡ 2) × (slice_index_or ws 0 [] ≡ codes "image") × (slice_index_or ws 1 [] ≡ file.now)
SetsUp verb ws (Slot pages) = (verb ≡ codes "store") × (length ws ≡ 2) × (slice_index_or ws 0 [] ≡ codes "slot") × NumberAt ws 1 (2 ^ 16 - 1) pages
SetsUp verb ws (SlotImage pages file) =
    (verb ≡ codes "store")
    × (length ws ≡ 4)
    × (slice_index_or ws 0 [] ≡ codes "slot")
    × NumberAt ws 1 (2 ^ 16 - 1) pages
    × (slice_index_or ws 2 [] ≡ codes "image")
    × (slice_index_or ws 3 [] ≡ file.now)
SetsUp verb ws Turned = (verb ≡ codes "layer") × (length ws ≡ 1) × (slice_index_or ws 0 [] ≡ codes "turned")
SetsUp verb ws (Skip pages) = (verb ≡ codes "layer") × ((ps : List (List ℕ)) × (ws ≡ codes "skip" ∷ ps) × NumbersTo (2 ^ 16 - 1) ps pages.items)
SetsUp verb ws Dump = (verb ≡ codes "dump") × (length ws ≡ 0)
SetsUp verb ws (Save file) = (verb ≡ codes "save") × (length ws ≡ 1) × (slice_index_or ws 0 [] ≡ file.now)

-- why the words set up nothing, though the first word does: they write no set-up line; or memory was short
abbrev pub NoSetup : List ℕ → List (List ℕ) → Trouble → Type 0
NoSetup verb ws (Unclear r) = IsOneOf setup_verbs verb × ((s : Setup) → ¬ SetsUp verb ws s)
NoSetup verb ws (Refused f) = ⊥
NoSetup verb ws OutOfMemory = Unit {0}
