-- The two rules keep their schedules, and what their addresses are in the subject's words.
use Rattle.std.specs.Prelude.{◌≡◌, ℕ, suc, ◌+◌, ◌-◌, ◌*◌, ◌/◌, ◌%◌, ◌<◌, ◌≤◌, ◌≢◌, nat_lt}
use Rattle.std.proofs.Common.{sym, ap, ◌∙◌, inl, inr, mod-lt, div-add-mod', mul-le-mul_right, suc-mul, mul_comm, add-mul, arith}
use Rattle.std.proofs.lemmas.Bool.{cases_lt, cases_order, lt-ltb, le-ltb, cond-true, cond-false}
use Rattle.std.proofs.lemmas.Nat.{div_below, div-mul-add}
use Rattle.orders.specs.Spaces.{Range}
use Rattle.orders.specs.Interleave.{Schedule, lacking}
use Rattle.orders.specs.Rules.{z_turn, z_used, row_turn, row_used, ZPlaces}
use Rattle.orders.specs.Laws.{place, fits_in}

-- a multiple of p and p more
row_step : (i j p : ℕ) → i < j → i * p + p ≤ j * p
row_step i j p lt = omega (arith, suc-mul i p, mul-le-mul_right p lt)

-- a number with a known quotient and remainder
quotient : (x q n r : ℕ) → x ≡ q * n + r → r < n → x / n ≡ q
quotient x q n r e lt = ap (λ y. y / n) e ∙ div-mul-add q n r lt

remainder : (x q n r : ℕ) → x ≡ q * n + r → r < n → x % n ≡ r
remainder x q n r e lt = omega (arith, div-add-mod' x n, ap (λ k. k * n) (quotient x q n r e lt))

pub used_in : (n j t : ℕ) → j < n → z_used n j t ≡ (t + j) / n
used_in n j t lt = cond-true (nat_lt j n) ((t + j) / n) 0 (lt-ltb j n lt)

pub used_out : (n j t : ℕ) → n ≤ j → z_used n j t ≡ 0
used_out n j t le = cond-false (nat_lt j n) ((t + j) / n) 0 (le-ltb j n le)

-- the coordinate j has as many bits as there are rounds, and one more where its turn has come in the round begun
used_low : (n j t q r : ℕ) → j < n → t ≡ q * n + r → r + j < n → z_used n j t ≡ q
used_low n j t q r in-n e lt = used_in n j t in-n ∙ quotient (t + j) q n (r + j) (omega arith) lt

used_high : (n j t q r : ℕ) → j < n → t ≡ q * n + r → r < n → n ≤ r + j → z_used n j t ≡ suc q
used_high n j t q r in-n e lt le = used_in n j t in-n ∙ quotient (t + j) (suc q) n (r + j - n) (omega (arith, suc-mul q n)) (omega arith)

module _ (n : ℕ) (pos : 1 ≤ n) where
  rounds : (t : ℕ) → t ≡ t / n * n + t % n
  rounds t = sym (div-add-mod' t n)

  pub z_one : (t : ℕ) → z_used n (z_turn n t) (suc t) ≡ suc (z_used n (z_turn n t) t)
  z_one t =
      let q : ℕ = t / n in
      let r : ℕ = t % n in
      let lt : r < n = mod-lt t pos in
      let e = rounds t in
      let before = used_low n (n - 1 - r) t q r (omega arith) e (omega arith) in
      elim (cases_lt (suc r) n) [
        | inl less ↦ used_high n (n - 1 - r) (suc t) q (suc r) (omega arith) (omega arith) less (omega arith) ∙ sym (ap suc before)
        | inr last ↦ used_low n (n - 1 - r) (suc t) (suc q) 0 (omega arith) (omega (arith, suc-mul q n)) (omega arith) ∙ sym (ap suc before)
      ]

  pub z_same : (t j : ℕ) → (j ≢ z_turn n t) → z_used n j (suc t) ≡ z_used n j t
  z_same t j ne =
      let q : ℕ = t / n in
      let r : ℕ = t % n in
      let lt : r < n = mod-lt t pos in
      let e = rounds t in
      elim (cases_lt j n) [
        | inr out ↦ used_out n j (suc t) out ∙ sym (used_out n j t out)
        | inl in-n ↦ elim (cases_order j (n - 1 - r)) [
          | inl eq ↦ absurd (ne eq)
          | inr (inl less) ↦ used_low n j (suc t) q (suc r) in-n (omega arith) (omega arith) ∙ sym (used_low n j t q r in-n e (omega arith))
          | inr (inr more) ↦
              let before = used_high n j t q r in-n e lt (omega arith) in
              elim (cases_lt (suc r) n) [
                | inl on ↦ used_high n j (suc t) q (suc r) in-n (omega arith) on (omega arith) ∙ sym before
                | inr last ↦ used_low n j (suc t) (suc q) 0 in-n (omega (arith, suc-mul q n)) (omega arith) ∙ sym before
              ]
        ]
      ]

  -- after k whole rounds each coordinate has k bits
  pub z_rounds : (j k : ℕ) → j < n → z_used n j (n * k) ≡ k
  z_rounds j k in-n = used_low n j (n * k) k 0 in-n (omega (arith, mul_comm n k)) (omega arith)

pub z_schedule : (n p : ℕ) → Range n p → Schedule n p (z_turn n) (z_used n)
z_schedule n p range = record {
  range = range;
  within = λ t lt. omega (arith, range.0, range.1);
  none = λ j. elim (cases_lt j n) [ inl h ↦ used_low n j 0 0 0 h (omega arith) (omega arith) | inr h ↦ used_out n j 0 h ];
  one = λ t lt. z_one n range.0 t;
  same = λ t j lt ne. z_same n range.0 t j ne;
  full = λ j lt. z_rounds n range.0 j p lt;
  bare = λ j le. used_out n j (n * p) le;
}

-- the bit at place i * n + j is dealt to the coordinate j in the round that leaves i rounds
z_at : (n p i j : ℕ) → Range n p → i < p → j < n →
    (suc (n * p - 1 - (i * n + j)) + (i * n + j) ≡ n * p) × (z_turn n (n * p - 1 - (i * n + j)) ≡ j) × (lacking (n * p) (z_used n) (suc (n * p - 1 - (i * n + j))) j ≡ i)
z_at n p i j range lt in-n =
    let q : ℕ = p - 1 - i in
    let t : ℕ = n * p - 1 - (i * n + j) in
    let rest : p ≡ suc (q + i) = omega arith in
    let all : n * p ≡ q * n + i * n + n = mul_comm n p ∙ ap (λ k. k * n) rest ∙ omega (arith, suc-mul (q + i) n, add-mul q i n) in
    let at : t ≡ q * n + (n - 1 - j) = omega arith in
    let turn : t % n ≡ n - 1 - j = remainder t q n (n - 1 - j) at (omega arith) in
    let used : z_used n j (suc t) ≡ suc q =
    elim (cases_lt 0 j) [
      | inl some ↦ used_high n j (suc t) q (n - j) in-n (omega arith) (omega arith) (omega arith)
      | inr none ↦ used_low n j (suc t) (suc q) 0 in-n (omega (arith, suc-mul q n)) (omega arith)
    ] in
    (omega arith, omega arith, omega (arith, z_rounds n range.0 j p in-n))

pub z_places : (n p : ℕ) → ZPlaces n p
z_places n p range xs inside i j lt in-n =
    let at = z_at n p i j range lt in-n in
    let S = z_schedule n p range in
    let t : ℕ = n * p - 1 - (i * n + j) in
    rw (at.1, at.2) at (place n p (z_turn n) (z_used n) S t (i * n + j) xs at.0 (fits_in n p (z_turn n) (z_used n) S xs inside))

pub row_schedule : (n p : ℕ) → Range n p → Schedule n p (row_turn p) (row_used p)
row_schedule n p range =
    let pos : 1 ≤ p = range.2 in
    record {
      range = range;
      within = λ t lt. omega (arith, range.1, div_below t p n pos lt);
      none = λ j. omega arith;
      one = λ t lt. omega (arith, div-add-mod' t p, mod-lt t pos);
      same = λ t j lt ne. elim (cases_order j (t / p)) [
        | inl e ↦ absurd (ne e)
        | inr (inl less) ↦ omega (arith, div-add-mod' t p, mod-lt t pos, row_step j (t / p) p less)
        | inr (inr more) ↦ omega (arith, div-add-mod' t p, mod-lt t pos, row_step (t / p) j p more)
      ];
      full = λ j lt. omega (arith, row_step j n p lt);
      bare = λ j le. omega (arith, mul-le-mul_right p le);
    }
