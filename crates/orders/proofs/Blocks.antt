-- A block of addresses against a box.
use Rattle.std.proofs.Common.{◌≡◌, ℕ, zero, suc, ◌+◌, ◌-◌, ◌*◌, ◌/◌, ◌^◌, ◌<◌, ◌≤◌, ◌⊎◌, List, get_or, Some, None, Option, sym, ap, ◌∙◌, inl, inr, mod-lt, zero-mul, arith, pow_pos, shr-shr}
use native.Mathlib.Nat.{div-eq_of_lt}
use lib.Pow.{shr_mono}
use Rattle.std.proofs.lemmas.Nat.{shr_split}
use Rattle.std.proofs.lemmas.Bool.{cases_eq}
use Rattle.orders.specs.Spaces.{InSpace}
use Rattle.orders.specs.Interleave.{grown, point_at, address_of, Schedule, Touches, Hit, Least, lacking}
use Rattle.orders.specs.Orders.{FirstIs}
use Rattle.orders.specs.Laws.{prefix, room, point_more, pow_more}

-- the number without its last m + 1 bits is half of that without its last m bits
pub shr_half : (n m : ℕ) → n / 2 ^ suc m ≡ n / 2 ^ m / 2
shr_half n m = ap (λ k. n / 2 ^ k) (omega arith) ∙ sym (shr-shr n m 1)

pub lt_of_shr : (a k : ℕ) → a / 2 ^ k ≡ 0 → a < 2 ^ k
lt_of_shr a k e = omega (arith, shr_split a k, mod-lt a (pow_pos k), zero-mul (2 ^ k), ap (λ q. q * 2 ^ k) e)

-- One bit deeper: the halves of a block, by what is known of the block.
deeper : (total left : ℕ) → 0 < left → left ≤ total → total - (left - 1) ≡ total - left + 1
deeper total left pos le = omega arith

pub half_below : (total left c b : ℕ) → 0 < left → left ≤ total → c < 2 ^ (total - left) → b < 2 → c * 2 + b < 2 ^ (total - (left - 1))
half_below total left c b pos le lt two = rw (deeper total left pos le, pow_more) (omega arith)

pub half_at : (turn : ℕ → ℕ) (total left c b j : ℕ) (q : List ℕ) → 0 < left → left ≤ total → b < 2 → q ≡ point_at turn (total - left) c → j ≡ turn (total - left) →
    grown q j b ≡ point_at turn (total - (left - 1)) (c * 2 + b)
half_at turn total left c b j q pos le two at-q at_j = rw (deeper total left pos le, at-q, at_j) (sym (point_more turn (total - left) c b two))

pub room_at : (n p : ℕ) (turn : ℕ → ℕ) (used : ℕ → ℕ → ℕ) (S : Schedule n p turn used) (left c j : ℕ) (q : List ℕ) → q ≡ point_at turn (n * p - left) c → j < 4 → get_or q j 0 < 2 ^ 15
room_at n p turn used S left c j q at-q lt = rw at-q (room n p turn used S (n * p - left) c j (omega arith) lt)

module _ (n p : ℕ) (turn : ℕ → ℕ) (used : ℕ → ℕ → ℕ) (S : Schedule n p turn used) (lo hi : List ℕ) (from : ℕ) where
  -- the block has no point in common with the box
  pub apart : (left c : ℕ) → left ≤ n * p → (Touches (lacking (n * p) used (n * p - left)) lo hi (point_at turn (n * p - left) c) → ⊥) → (a : ℕ) → Hit (n * p) turn lo hi from left c a → ⊥
  apart left c le no_touch a hit = no_touch (λ j lt.
      let e : n * p - left + left ≡ n * p = omega arith in
      let whole : get_or (point_at turn (n * p) a) j 0 / 2 ^ lacking (n * p) used (n * p - left) j ≡ get_or (point_at turn (n * p - left) c) j 0 =
      rw (e, hit.0) at (prefix n p turn used S left (n * p - left) a j (omega arith) lt) in
      let w = hit.2 j lt in
      (omega (arith, shr_mono (lacking (n * p) used (n * p - left) j) w.0), omega (arith, shr_mono (lacking (n * p) used (n * p - left) j) w.1)))

  -- the block lies wholly below `from`
  pub below : (left c : ℕ) → c < from / 2 ^ left → (a : ℕ) → Hit (n * p) turn lo hi from left c a → ⊥
  below left c lt a hit = omega (arith, shr_mono left hit.1, hit.0)

  pub halves : (left c a : ℕ) → Hit (n * p) turn lo hi from (suc left) c a → Hit (n * p) turn lo hi from left (c * 2 + 0) a ⊎ Hit (n * p) turn lo hi from left (c * 2 + 1) a
  halves left c a hit =
      let e = shr_half a left in
      elim (cases_eq (a / 2 ^ left) (c * 2)) [
        | inl low ↦ inl (omega arith, hit.1, hit.2)
        | inr high ↦ inr (omega (arith, hit.0), hit.1, hit.2)
      ]

  pub whole : (left c b a : ℕ) → b < 2 → Hit (n * p) turn lo hi from left (c * 2 + b) a → Hit (n * p) turn lo hi from (suc left) c a
  whole left c b a two hit = (omega (arith, shr_half a left, hit.0), hit.1, hit.2)

  -- the lower half has an answer
  pub from_lower : (left c : ℕ) (r : ℕ) → 0 < left → Least (Some r) (Hit (n * p) turn lo hi from (left - 1) (c * 2 + 0)) → Least (Some r) (Hit (n * p) turn lo hi from left c)
  from_lower zero c r pos least = absurd (omega arith)
  from_lower (suc left) c r pos least =
      let e : suc left - 1 ≡ left = omega arith in
      let half : Least (Some r) (Hit (n * p) turn lo hi from left (c * 2 + 0)) = rw e at least in (
        whole left c 0 r (omega arith) half.0,
        λ b less hit.
            elim (halves left c b hit) [
              | inl h ↦ half.1 b less h
              | inr h ↦
                  let mono : b / 2 ^ left ≤ r / 2 ^ left = shr_mono left (omega arith) in
                  omega (arith, h.0, half.0.0)
            ],
      )

  upper_some : (left c r : ℕ) → Least None (Hit (n * p) turn lo hi from left (c * 2 + 0)) → Least (Some r) (Hit (n * p) turn lo hi from left (c * 2 + 1)) → Least (Some r) (Hit (n * p) turn lo hi from (suc left) c)
  upper_some left c r none half =
      (whole left c 1 r (omega arith) half.0, λ b less hit. elim (halves left c b hit) [ inl h ↦ none b h | inr h ↦ half.1 b less h ])

  -- the lower half has none
  pub from_upper : (left c : ℕ) (r : Option ℕ) → 0 < left → Least None (Hit (n * p) turn lo hi from (left - 1) (c * 2 + 0)) → Least r (Hit (n * p) turn lo hi from (left - 1) (c * 2 + 1)) → Least r (Hit (n * p) turn lo hi from left c)
  from_upper zero c r pos none least = absurd (omega arith)
  from_upper (suc left) c None pos none least =
      let e : suc left - 1 ≡ left = omega arith in
      λ b hit. elim (halves left c b hit) [ inl h ↦ none b (rw e h) | inr h ↦ least b (rw e h) ]
  from_upper (suc left) c (Some r) pos none least =
      let e : suc left - 1 ≡ left = omega arith in
      upper_some left c r (λ b h. none b (rw e h)) (rw e at least)

  -- the whole line, as a block
  pub first_whole : (kind : ℕ) (r : Option ℕ) → InSpace n p lo → InSpace n p hi → Least r (Hit (n * p) turn lo hi from (n * p) 0) →
      FirstIs (record { kind = kind; n = n; p = p; address = address_of turn (n * p); point = point_at turn (n * p) }) lo hi from r
  first_whole kind None in-lo in-hi least = λ _ _ b le h. least b (div-eq_of_lt h.0, le, h.1)
  first_whole kind (Some a) in-lo in-hi least =
      (in-lo, in-hi, least.0.1, (lt_of_shr a (n * p) least.0.0, least.0.2), λ b le less h. least.1 b less (div-eq_of_lt h.0, le, h.1))
