-- The proof that the ghost member `sized` of the slot store hands over: at most 65,535 pages of 128 bytes each, and a charge of 32 bits.
use Rattle.std.specs.Prelude.{◌≡◌, ℕ, zero, suc, ◌+◌, ◌-◌, ◌^◌, ◌<◌, ◌≤◌, Bool, true, false, cond, List, [], ◌∷◌, length, take, drop, replicate, ◌==◌, slice_index_or, refl}
use Rattle.std.proofs.Common.{◌∙◌, ap, arith}
use Rattle.std.proofs.lemmas.Bool.{eqb-false}
use Rattle.std.proofs.lemmas.List.FromFn.{length-map-range_with_len, get_or-map-range_with_len}
use Rattle.std.proofs.lemmas.List.{length-take, length-drop, get_or-take}
use Rattle.pages.specs.Image.{Sized}
use Rattle.slots.specs.Slot.{number, past, holder, slot_at, span, page_in, held}

past_low : (a n : ℕ) → a ≤ n → past a ≤ suc n
past_low zero n h = omega arith
past_low (suc a) n h = omega arith

by_test : (b : Bool) (a n : ℕ) → a ≤ n → cond b 1 (past a) ≤ suc n
by_test true a n h = omega arith
by_test false a n h = past_low a n h

holder_low : (slots : List (List ℕ)) (p : ℕ) → holder slots p ≤ length slots
unfolding holder
holder_low [] p = omega arith
holder_low (x ∷ xs) p = by_test (number x == p) (holder xs p) (length xs) (holder_low xs p)

-- the slots that a store uses, by their places from 0
pub span_in : (n i : ℕ) → 0 < n → i ≤ n → i < span n
span_in zero i z h = absurd (omega arith)
span_in (suc n) i z h = omega arith

pub span_out : (n i : ℕ) → i < span n → (0 < n) × (i ≤ n)
span_out zero i h = absurd (omega arith)
span_out (suc n) i h = (omega arith, omega arith)

module _ (slots : List (List ℕ)) (n : ℕ) (room : span n ≤ length slots) (long : (i : ℕ) → i < span n → length (slice_index_or slots i []) ≡ 130) where
  page_long : (p : ℕ) → 0 < n → (b : Bool) → (holder (take (n + 1) slots) p == 0) ≡ b
      → length (cond b (replicate 128 0) (drop 2 (slot_at (take (n + 1) slots) (holder (take (n + 1) slots) p)))) ≡ 128
  page_long p z true e = refl
  page_long p z false e =
      let h = holder_low (take (n + 1) slots) p in
      let t = length-take (n + 1) slots in
      let d = eqb-false (holder (take (n + 1) slots) p) 0 e in
      let r : n < span n = span_in n n z (omega arith) in
      let i : holder (take (n + 1) slots) p - 1 < n + 1 = omega arith in
      let l : length (slot_at (take (n + 1) slots) (holder (take (n + 1) slots) p)) ≡ 130 =
      ap length (get_or-take (n + 1) slots (holder (take (n + 1) slots) p - 1) [] i) ∙ long (holder (take (n + 1) slots) p - 1) (span_in n (holder (take (n + 1) slots) p - 1) z (omega arith)) in
      length-drop 2 (slot_at (take (n + 1) slots) (holder (take (n + 1) slots) p)) ∙ omega arith

  pub held_sized : (c : ℕ) → n ≤ 1024 → c < 2 ^ 32 → Sized (held slots n c)
  held_sized c few low = record {
    few = rw (length-map-range_with_len (page_in (take (n + 1) slots)) 1 n) (omega arith);
    long = λ p h.
        let q : p ≤ n = rw (length-map-range_with_len (page_in (take (n + 1) slots)) 1 n) at h.1 in
        let z : 0 < p = h.0 in
        ap length (get_or-map-range_with_len (page_in (take (n + 1) slots)) 1 n (p - 1) p [] (omega arith) (omega arith))
        ∙ page_long p (omega arith) (holder (take (n + 1) slots) p == 0) refl;
    carried = low;
  }
