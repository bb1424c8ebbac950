-- One bit more of an address, from the low end and from the top; and one bit less that the coordinates of a block lack.
use Rattle.std.proofs.Math.Nat.{pow-zero}
use Rattle.std.proofs.Common.{◌≡◌, div-one, ◌∙◌, ℕ, suc, refl, div-le_self, ◌+◌, ◌-◌, ◌*◌, ◌/◌, ◌%◌, ◌^◌, ◌<◌, ◌≤◌, List, length, sym, inl, inr, arith, get_or-set_same, get_or-set_other}
use Rattle.std.specs.Prelude.{[], ◌∷◌, slice_index, slice_set}
use Rattle.std.proofs.lemmas.Bool.{cases_eq, cases_lt}
use Rattle.std.proofs.lemmas.List.{get_or_past}
use Rattle.orders.specs.Interleave.{point_at, address_of, grown, Schedule, lacking}
use Rattle.orders.specs.Spaces.{InSpace}
use Rattle.orders.specs.Laws.{point_step, used_total, address_lt, address_cap, place, fits_in}
use native.Mathlib.Nat.{div-eq_of_lt}
use Rattle.orders.proofs.Blocks.{shr_half}

-- the bit t of the address a, of which there are so many, is put to its coordinate
pub bit_on : (turn : ℕ → ℕ) (total t a : ℕ) → t < total →
    grown (point_at turn t (a / 2 ^ (total - t))) (turn t) (a / 2 ^ (total - 1 - t) % 2) ≡ point_at turn (t + 1) (a / 2 ^ (total - (t + 1)))
bit_on turn total t a lt =
    let rest : total - t ≡ suc (total - 1 - t) = omega arith in
    let same : total - (t + 1) ≡ total - 1 - t = omega arith in
    let before : t + 1 - 1 ≡ t = omega arith in
    sym (rw (same, point_step turn (t + 1) (a / 2 ^ (total - 1 - t)) (omega arith), before, rest, shr_half a (total - 1 - t)) refl)

-- with all its bits the point is that of the address
pub bits_all : (turn : ℕ → ℕ) (total t a : ℕ) (q : List ℕ) → t ≤ total → total ≤ t → q ≡ point_at turn t (a / 2 ^ (total - t)) → q ≡ point_at turn total a
bits_all turn total t a q le ge e =
    let same : t ≡ total = omega arith in
    let none : total - t ≡ 0 = omega arith in
    e ∙ rw (none, same, pow-zero, div-one) refl

-- four numbers that are taken out of a list one by one are the list
pub four_of : (xs : List ℕ) → length xs ≡ 4 → slice_index xs 0 ∷ slice_index xs 1 ∷ slice_index xs 2 ∷ slice_index xs 3 ∷ [] ≡ xs
four_of [] e = absurd (omega arith)
four_of (a ∷ []) e = absurd (omega arith)
four_of (a ∷ (b ∷ [])) e = absurd (omega arith)
four_of (a ∷ (b ∷ (c ∷ []))) e = absurd (omega arith)
four_of (a ∷ (b ∷ (c ∷ (d ∷ [])))) e = refl
four_of (a ∷ (b ∷ (c ∷ (d ∷ (x ∷ xs))))) e = absurd (omega arith)

module _ (n p : ℕ) (turn : ℕ → ℕ) (used : ℕ → ℕ → ℕ) (S : Schedule n p turn used) where
  -- the coordinate whose bit is next lacks one
  pub lacks_some : (t : ℕ) → t < n * p → 1 ≤ lacking (n * p) used t (turn t)
  lacks_some t lt = let total = used_total n p turn used S (suc t) (turn t) lt in omega (arith, S.one t lt, total)

  -- with it, it lacks one less, and the others as many as before
  pub lacks_less : (t u : ℕ) (ks : List ℕ) → t < n * p → u ≡ suc t → ((j : ℕ) → j < 4 → slice_index ks j ≡ lacking (n * p) used t j) →
      (j : ℕ) → j < 4 → slice_index (slice_set ks (turn t) (slice_index ks (turn t) - 1)) j ≡ lacking (n * p) used u j
  lacks_less t u ks lt next lack j in_four =
      rw next (elim (cases_eq j (turn t)) [
        | inl e ↦
            let here = lack (turn t) (S.within t lt) in
            let in-ks : turn t < length ks = elim (cases_lt (turn t) (length ks)) [ inl l ↦ l | inr past ↦ absurd (omega (arith, get_or_past ks (turn t) 0 past, here, lacks_some t lt)) ] in
            rw (e, get_or-set_same ks (turn t) (slice_index ks (turn t) - 1) 0 in-ks) (omega (arith, here, S.one t lt))
        | inr ne ↦
            rw (get_or-set_other ks (turn t) j (slice_index ks (turn t) - 1) 0 ne) (omega (arith, lack j in_four, S.same t j lt ne))
      ])

  -- before the first bit they lack all their bits
  pub lacks_all : (ks : List ℕ) → ((j : ℕ) → j < n → slice_index ks j ≡ p) → ((j : ℕ) → n ≤ j → slice_index ks j ≡ 0) → (j : ℕ) → slice_index ks j ≡ lacking (n * p) used 0 j
  lacks_all ks some none j =
      elim (cases_lt j n) [
        | inl l ↦ omega (arith, some j l, S.full j l, S.none j)
        | inr past ↦ omega (arith, none j past, S.bare j past, S.none j)
      ]

  -- the bits of an address before the first, and with one bit more
  pub bits_none : (xs : List ℕ) → 0 ≡ address_of turn (n * p) xs / 2 ^ (n * p - 0)
  bits_none xs =
      let all : n * p - 0 ≡ n * p = omega arith in
      rw all (sym (div-eq_of_lt (address_lt n p turn used S (n * p) xs)))

  pub bits_more : (t u : ℕ) (xs : List ℕ) → t < n * p → u ≡ suc t → InSpace n p xs →
      address_of turn (n * p) xs / 2 ^ (n * p - t) * 2 + slice_index xs (turn t) / 2 ^ lacking (n * p) used u (turn t) % 2 ≡ address_of turn (n * p) xs / 2 ^ (n * p - u)
  bits_more t u xs lt next inside =
      let m : ℕ = n * p - suc t in
      let rest : n * p - t ≡ suc m = omega arith in
      let a : ℕ = address_of turn (n * p) xs in
      let bit = place n p turn used S t m xs (omega arith) (fits_in n p turn used S xs inside) in
      rw (next, rest, shr_half a m, ← bit) (omega arith)

  pub bits_small : (m : ℕ) (xs : List ℕ) → address_of turn (n * p) xs / 2 ^ m < 2 ^ 60
  bits_small m xs =
      let a : ℕ = address_of turn (n * p) xs in
      omega (arith, div-le_self a (2 ^ m), address_lt n p turn used S (n * p) xs, address_cap n p turn used S (n * p) (omega arith))
