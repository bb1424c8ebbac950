-- The header, page 1: how it is laid out, and which headers there are.
use Rattle.std.specs.Prelude.{◌≡◌, ℕ, ◌^◌, ◌<◌, ◌≤◌, ◌⊎◌, List, ◌∷◌, ◌++◌, replicate, Ok, Err, Result, ◌≢◌, slice_index}
use Rattle.layout.specs.declared.header.Header.{Header}
use Rattle.layout.specs.declared.header.NotHeader.{NotHeader}
use Rattle.layout.specs.Bytes.{little, number_at}

-- bytes 85, 66, 84, 49 ("UBT1"); one byte each for kind, n, p and height; two for the root; two zeros; four for the total of events; zeros
abbrev pub header_bytes : Header → List ℕ
header_bytes h =
    85 ∷ 66 ∷ 84 ∷ 49 ∷ h.kind ∷ h.n ∷ h.p ∷ h.height ∷ (little 2 h.root ++ (0 ∷ 0 ∷ (little 4 h.total ++ replicate 112 0)))

-- what bytes say at the places of a header
abbrev pub header_of : List ℕ → Header
header_of bs = record { kind = slice_index bs 4; n = slice_index bs 5; p = slice_index bs 6; height = slice_index bs 7; root = number_at 2 bs 8; total = number_at 4 bs 12 }

-- height, root and total are all 0 or none is
abbrev pub AllOrNone : ℕ → ℕ → ℕ → Type 0
AllOrNone a b c = ((a ≡ 0) × (b ≡ 0) × (c ≡ 0)) ⊎ ((1 ≤ a) × (1 ≤ b) × (1 ≤ c))

-- the kind is above 0, n is 1 to 4, p is 1 to 15, the height is at most 6; and each number fits its bytes
pub record Proper (h : Header) : Type 0 where
  pub kind_low : 1 ≤ h.kind
  pub kind_high : h.kind < 256
  pub n_low : 1 ≤ h.n
  pub n_high : h.n ≤ 4
  pub p_low : 1 ≤ h.p
  pub p_high : h.p ≤ 15
  pub height_high : h.height ≤ 6
  pub root_high : h.root < 2 ^ 16
  pub total_high : h.total < 2 ^ 32
  pub together : AllOrNone h.height h.root h.total

-- a header that was read is proper, and the page is its encoding; where none was read, the page is no proper header's
abbrev pub ReadsHeader : List ℕ → Result Header NotHeader → Type 0
ReadsHeader bs (Ok h) = Proper h × (bs ≡ header_bytes h)
ReadsHeader bs (Err e) = (h : Header) → Proper h → bs ≢ header_bytes h

-- an encoded header says what was encoded
abbrev pub HeaderLaw : Type 0
HeaderLaw = (h : Header) → Proper h → header_of (header_bytes h) ≡ h
