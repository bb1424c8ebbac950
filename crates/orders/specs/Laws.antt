-- The laws of addresses that a rule makes.
use Rattle.std.specs.Prelude.{◌≡◌, ℕ, zero, suc, ◌+◌, ◌-◌, ◌*◌, ◌/◌, ◌%◌, ◌^◌, ◌<◌, ◌≤◌, List, length, set, slice_index, slice_index_or, refl}
use Rattle.std.proofs.Common.{sym, ap, ap₂, ◌∙◌, inl, inr, pow-suc, add-suc, add-zero, div-one, add-one, arith, length-set, get_or-set_same, get_or-set_other, set-set, ext_get_or, pow_pos, pow_mono, shr-shr}
use Rattle.std.proofs.Math.Nat.{sub_self, pow-zero}
use Rattle.std.proofs.lemmas.Bool.{cases_eq, cases_lt}
use Rattle.std.proofs.lemmas.Nat.{mul-le}
use Rattle.std.proofs.lemmas.List.{get_or_past, set-get_or}
use Rattle.orders.specs.Spaces.{InSpace}
use Rattle.orders.specs.Interleave.{origin, grown, halved, point_at, address_of, Schedule, Fits, lacking}

pub origin_zero : (i : ℕ) → slice_index origin i ≡ 0
origin_zero zero = refl
origin_zero (suc zero) = refl
origin_zero (suc (suc zero)) = refl
origin_zero (suc (suc (suc zero))) = refl
origin_zero (suc (suc (suc (suc i)))) = refl

pub low_grown : (q : List ℕ) (j b : ℕ) → j < length q → b < 2 → slice_index (grown q j b) j % 2 ≡ b
low_grown q j b in-q two = rw get_or-set_same (omega arith)

pub halved_grown : (q : List ℕ) (j b : ℕ) → j < length q → b < 2 → halved (grown q j b) j ≡ q
halved_grown q j b in-q two =
    let v : slice_index_or (grown q j b) j 0 / 2 ≡ slice_index_or q j 0 = rw get_or-set_same (omega arith) in
    rw set-set (ap (set q j) v ∙ set-get_or q j 0)

pub grown_halved : (xs : List ℕ) (j : ℕ) → j < length xs → grown (halved xs j) j (slice_index xs j % 2) ≡ xs
grown_halved xs j in-xs =
    let v : slice_index_or (halved xs j) j 0 * 2 + slice_index xs j % 2 ≡ slice_index_or xs j 0 = rw get_or-set_same (omega arith) in
    rw set-set (ap (set xs j) v ∙ set-get_or xs j 0)

pub half_shr : (n d : ℕ) → n / 2 ^ suc d ≡ n / 2 / 2 ^ d
half_shr n d = ap (λ k. n / 2 ^ k) (omega arith) ∙ sym (shr-shr n 1 d)

pub address_step : (turn : ℕ → ℕ) (t : ℕ) (xs : List ℕ) → 0 < t → address_of turn t xs ≡ address_of turn (t - 1) (halved xs (turn (t - 1))) * 2 + slice_index xs (turn (t - 1)) % 2
address_step turn zero xs pos = absurd (omega arith)
address_step turn (suc t) xs pos = let e : suc t - 1 ≡ t = omega arith in rw e

pub point_step : (turn : ℕ → ℕ) (t a : ℕ) → 0 < t → point_at turn t a ≡ grown (point_at turn (t - 1) (a / 2)) (turn (t - 1)) (a % 2)
point_step turn zero a pos = absurd (omega arith)
point_step turn (suc t) a pos = let e : suc t - 1 ≡ t = omega arith in rw e

pub point_more : (turn : ℕ → ℕ) (t c b : ℕ) → b < 2 → point_at turn (t + 1) (c * 2 + b) ≡ grown (point_at turn t c) (turn t) b
point_more turn t c b two =
    let hi : (c * 2 + b) / 2 ≡ c = omega arith in
    let lo : (c * 2 + b) % 2 ≡ b = omega arith in
    rw (add-one t, hi, lo)

pub pow_more : (t : ℕ) → 2 ^ (t + 1) ≡ 2 ^ t * 2
pow_more t = rw (add-one, pow-suc)

module _ (n p : ℕ) (turn : ℕ → ℕ) (used : ℕ → ℕ → ℕ) (S : Schedule n p turn used) where
  pub four : (t a : ℕ) → length (point_at turn t a) ≡ 4
  four zero a = refl
  four (suc t) a = length-set _ _ _ ∙ four t (a / 2)

  -- what t bits leave of a coordinate below the limit of t + 1 bits
  halved_lt : (t : ℕ) (xs : List ℕ) (i : ℕ) → suc t ≤ (n * p) → turn t < length xs → slice_index xs i < 2 ^ used i (suc t) → slice_index (halved xs (turn t)) i < 2 ^ used i t
  halved_lt t xs i le in-xs lt =
      elim (cases_eq i (turn t)) [
        | inl e ↦
            let big : slice_index_or xs (turn t) 0 < 2 ^ used (turn t) t * 2 = rw (e, S.one t le, pow-suc) at lt in
            rw (e, get_or-set_same xs (turn t) (slice_index xs (turn t) / 2) 0 in-xs) (omega arith)
        | inr ne ↦ rw (get_or-set_other xs (turn t) i (slice_index xs (turn t) / 2) 0 ne) (rw (S.same t i le ne) at lt)
      ]

  pub address_lt : (t : ℕ) (xs : List ℕ) → address_of turn t xs < 2 ^ t
  address_lt zero xs = omega arith
  address_lt (suc t) xs =
      let h = address_lt t (halved xs (turn t)) in
      rw (pow-suc) (omega arith)

  pub address_point : (t a : ℕ) → t ≤ (n * p) → a < 2 ^ t → address_of turn t (point_at turn t a) ≡ a
  address_point zero a le lt = omega arith
  address_point (suc t) a le lt =
      let q : List ℕ = point_at turn t (a / 2) in
      let in-q : turn t < length q = omega (arith, S.within t le, four t (a / 2)) in
      let two : a % 2 < 2 = omega arith in
      let small : a / 2 < 2 ^ t = omega (arith, rw pow-suc at lt) in
      let back = address_point t (a / 2) (omega arith) small in
      rw (halved_grown q (turn t) (a % 2) in-q two, low_grown q (turn t) (a % 2) in-q two, back) (omega arith)

  pub point_address : (t : ℕ) (xs : List ℕ) → t ≤ (n * p) → Fits used t xs → point_at turn t (address_of turn t xs) ≡ xs
  point_address zero xs le fits =
      ext_get_or 0 origin xs (sym fits.0) (λ i lt. omega (arith, origin_zero i, rw (S.none i) at (fits.1 i lt)))
  point_address (suc t) xs le fits =
      let j : ℕ = turn t in
      let in-xs : j < length xs = omega (arith, S.within t le, fits.0) in
      let w : ℕ = address_of turn t (halved xs j) in
      let b : ℕ = slice_index xs j % 2 in
      let hi : (w * 2 + b) / 2 ≡ w = omega arith in
      let lo : (w * 2 + b) % 2 ≡ b = omega arith in
      let small : (i : ℕ) → i < 4 → slice_index (halved xs j) i < 2 ^ used i t = λ i lt. halved_lt t xs i le in-xs (fits.1 i lt) in
      let back = point_address t (halved xs j) (omega arith) (length-set _ _ _ ∙ fits.0, small) in
      ap₂ (λ h l. grown (point_at turn t h) j l) hi lo ∙ ap (λ q. grown q j b) back ∙ grown_halved xs j in-xs

  pub point_lt : (t a j : ℕ) → t ≤ (n * p) → j < 4 → slice_index (point_at turn t a) j < 2 ^ used j t
  point_lt zero a j le lt = omega (arith, origin_zero j, pow_pos (used j 0))
  point_lt (suc t) a j le lt =
      let q : List ℕ = point_at turn t (a / 2) in
      let before = point_lt t (a / 2) j (omega arith) lt in
      elim (cases_eq j (turn t)) [
        | inl e ↦
            let in-q : turn t < length q = omega (arith, S.within t le, four t (a / 2)) in
            let at : slice_index_or q (turn t) 0 < 2 ^ used (turn t) t = rw e at before in
            rw (e, get_or-set_same q (turn t) (slice_index q (turn t) * 2 + a % 2) 0 in-q, S.one t le, pow-suc) (omega arith)
        | inr ne ↦ rw (get_or-set_other q (turn t) j (slice_index q (turn t) * 2 + a % 2) 0 ne, S.same t j le ne) before
      ]

  pub used_mono : (m t j : ℕ) → t + m ≤ (n * p) → used j t ≤ used j (t + m)
  used_mono zero t j le = rw add-zero (omega arith)
  used_mono (suc m) t j le =
      let le' : suc (t + m) ≤ (n * p) = omega arith in
      let before = used_mono m t j (omega arith) in
      rw add-suc (elim (cases_eq j (turn (t + m))) [
        | inl e ↦ omega (arith, rw (← e) at (S.one (t + m) le'))
        | inr ne ↦ omega (arith, S.same (t + m) j le' ne)
      ])

  pub used_total : (t j : ℕ) → t ≤ (n * p) → used j t ≤ used j (n * p)
  used_total t j le =
      let e : t + ((n * p) - t) ≡ (n * p) = omega arith in
      rw e at (used_mono ((n * p) - t) t j (omega arith))

  few : (j : ℕ) → used j (n * p) ≤ 15
  few j = elim (cases_lt j n) [ inl h ↦ omega (arith, S.full j h, S.range.3) | inr h ↦ omega (arith, S.bare j h) ]

  pub limit : n * p ≤ 60
  limit = mul-le n p 4 15 S.range.1 S.range.3

  pub used_le : (t j : ℕ) → t ≤ n * p → used j t ≤ 15
  used_le t j le = omega (arith, used_total t j le, few j)

  -- room for one bit more in a number of 16 bits
  pub room : (t a j : ℕ) → t ≤ (n * p) → j < 4 → slice_index (point_at turn t a) j < 2 ^ 15
  room t a j le lt = omega (arith, point_lt t a j le lt, pow_mono (used_le t j le))

  -- the coordinates of an address, with the bits of the last m turns taken off, are those of the address without its last m bits
  pub prefix : (m t a j : ℕ) → t + m ≤ (n * p) → j < 4 → slice_index (point_at turn (t + m) a) j / 2 ^ (used j (t + m) - used j t) ≡ slice_index (point_at turn t (a / 2 ^ m)) j
  prefix zero t a j le lt = simp (add-zero, sub_self, pow-zero, div-one)
  prefix (suc m) t a j le lt =
      let s : ℕ = t + m in
      let le' : suc s ≤ (n * p) = omega arith in
      let q : List ℕ = point_at turn s (a / 2) in
      let rec : slice_index_or q j 0 / 2 ^ (used j s - used j t) ≡ slice_index_or (point_at turn t (a / 2 / 2 ^ m)) j 0 = prefix m t (a / 2) j (omega arith) lt in
      let mono = used_mono m t j (omega arith) in
      rw (add-suc, half_shr a m) (elim (cases_eq j (turn s)) [
        | inl e ↦
            let in-q : turn s < length q = omega (arith, S.within s le', four s (a / 2)) in
            let more : used j (suc s) - used j t ≡ suc (used j s - used j t) = omega (arith, rw (← e) at (S.one s le')) in
            let x : slice_index_or (grown q (turn s) (a % 2)) j 0 / 2 ≡ slice_index_or q j 0 = rw (e, get_or-set_same q (turn s) (slice_index q (turn s) * 2 + a % 2) 0 in-q) (omega arith) in
            rw (more, half_shr, x) rec
        | inr ne ↦
            rw (get_or-set_other q (turn s) j (slice_index q (turn s) * 2 + a % 2) 0 ne, S.same s j le' ne) rec
      ])

  -- where a bit stands: the bit at place m of the address of xs is the bit of the coordinate `turn t` at place left (t + 1), where t + 1 + m is the number of bits
  pub place : (t m : ℕ) (xs : List ℕ) → suc t + m ≡ (n * p) → Fits used (n * p) xs → address_of turn (n * p) xs / 2 ^ m % 2 ≡ slice_index xs (turn t) / 2 ^ lacking (n * p) used (suc t) (turn t) % 2
  place t m xs e fits =
      let a : ℕ = address_of turn (n * p) xs in
      let j : ℕ = turn t in
      let four-j : j < 4 = S.within t (omega arith) in
      let q : List ℕ = point_at turn t (a / 2 ^ m / 2) in
      let in-q : j < length q = omega (arith, four t (a / 2 ^ m / 2)) in
      let two : a / 2 ^ m % 2 < 2 = omega arith in
      let cut : slice_index_or (point_at turn (n * p) a) j 0 / 2 ^ lacking (n * p) used (suc t) j ≡ slice_index_or (grown q j (a / 2 ^ m % 2)) j 0 =
      rw e at (prefix m (suc t) a j (omega arith) four-j) in
      let same : slice_index_or xs j 0 / 2 ^ lacking (n * p) used (suc t) j ≡ slice_index_or (grown q j (a / 2 ^ m % 2)) j 0 =
      rw (point_address (n * p) xs (omega arith) fits) at cut in
      sym (ap (λ v. v % 2) same ∙ low_grown q j (a / 2 ^ m % 2) in-q two)

  -- The round trips, in the words of the space.
  pub fits_in : (xs : List ℕ) → InSpace n p xs → Fits used (n * p) xs
  fits_in xs h = (
    h.0,
    λ j lt. elim (cases_lt j n) [
      | inl in-n ↦ rw (S.full j in-n) (h.1 j in-n)
      | inr out ↦ rw (S.bare j out, pow-zero) (omega (arith, h.2 j out))
    ],
  )

  pub there : (xs : List ℕ) → InSpace n p xs → (address_of turn (n * p) xs < 2 ^ (n * p)) × (point_at turn (n * p) (address_of turn (n * p) xs) ≡ xs)
  there xs h = (address_lt (n * p) xs, point_address (n * p) xs (omega arith) (fits_in xs h))

  pub back : (a : ℕ) → a < 2 ^ (n * p) → InSpace n p (point_at turn (n * p) a) × (address_of turn (n * p) (point_at turn (n * p) a) ≡ a)
  back a lt =
      let len = four (n * p) a in
      let n-four = S.range.1 in (
        (
          len,
          (λ j in-n. rw (S.full j in-n) at (point_lt (n * p) a j (omega arith) (omega arith))),
          λ j out. elim (cases_lt j 4) [
            | inl in_four ↦ omega (arith, rw (S.bare j out, pow-zero) at (point_lt (n * p) a j (omega arith) in_four))
            | inr past ↦ get_or_past (point_at turn (n * p) a) j 0 (omega arith)
          ],
        ),
        address_point (n * p) a (omega arith) lt,
      )

  -- an address and its half fit 60 bits
  pub address_cap : (t : ℕ) → t ≤ n * p → 2 ^ t ≤ 2 ^ 60
  address_cap t le = let h : t ≤ 60 = omega (arith, limit) in pow_mono h
