-- Bytes that are all zero, and their bits put together.
use Rattle.std.proofs.Common.{◌≡◌, ℕ, ◌+◌, ◌<◌, List, slice_index_or, bit_or, inl, inr, refl, sym, ap, ◌∙◌, subst, arith}
use Rattle.std.specs.Prelude.{◌↔◌}
use Rattle.std.specs.Int.Bits.{or_zero_l}
use Rattle.std.proofs.Math.Nat.{eq-or-lt_of_le}
use Rattle.std.proofs.lemmas.Nat.{le_or_l, le_or_r}

-- the first i are zeros
abbrev pub ZerosTo : List ℕ → ℕ → Type 0
ZerosTo xs i = (k : ℕ) → k < i → slice_index_or xs k 0 ≡ 0

no_bits : (xs : List ℕ) (i a : ℕ) → (a ≡ 0 → ZerosTo xs i) → bit_or a (slice_index_or xs i 0) ≡ 0 → ZerosTo xs (i + 1)
no_bits xs i a h e k l = elim (eq-or-lt_of_le {n = k} {m = i} (omega (arith, l))) [
  | inl q ↦ ap (λ n. slice_index_or xs n 0) q ∙ omega (arith, le_or_r a (slice_index_or xs i 0), e)
  | inr q ↦ h (omega (arith, le_or_l a (slice_index_or xs i 0), e)) k q
]

all_zeros : (xs : List ℕ) (i a : ℕ) → (ZerosTo xs i → a ≡ 0) → ZerosTo xs (i + 1) → bit_or a (slice_index_or xs i 0) ≡ 0
all_zeros xs i a h z =
    ap (λ n. bit_or n (slice_index_or xs i 0)) (h (λ k l. z k (omega (arith, l)))) ∙ or_zero_l (slice_index_or xs i 0) ∙ z i (omega arith)

-- one byte more
pub zeros_more : (xs : List ℕ) (i a : ℕ) → (a ≡ 0) ↔ ZerosTo xs i → (bit_or a (slice_index_or xs i 0) ≡ 0) ↔ ZerosTo xs (i + 1)
zeros_more xs i a h = (no_bits xs i a h.0, all_zeros xs i a h.1)
