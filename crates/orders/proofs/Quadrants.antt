-- The Z order fills each hyper-quadrant before it enters the next.
use Rattle.std.proofs.Common.{◌≡◌, ℕ, ◌+◌, ◌-◌, ◌*◌, ◌/◌, ◌^◌, ◌<◌, ◌≤◌, length, get_or, sym, ap, ◌∙◌, inl, inr, mul-add, arith, ext_get_or, pow_pos, pow-add}
use native.Mathlib.Nat.{pow-zero}
use lib.Pow.{shr_mono}
use Rattle.std.proofs.lemmas.Bool.{cases_lt}
use Rattle.std.proofs.lemmas.Nat.{div_below}
use Rattle.orders.specs.Spaces.{Range}
use Rattle.orders.specs.Interleave.{point_at, address_of}
use Rattle.orders.specs.Rules.{z_turn, z_used, z_point, ZQuadrants, SameQuadrant}
use Rattle.orders.specs.Laws.{prefix, address_point, point_lt, four}
use Rattle.orders.specs.Schedules.{z_schedule, z_rounds, used_out}

module _ (n p m : ℕ) (range : Range n p) (le : m ≤ p) where
  parts : n * (p - m) + n * m ≡ n * p
  parts = sym (mul-add n (p - m) m) ∙ ap (λ k. n * k) (omega arith)

  -- the coordinates without their last m bits are the point of the address without its last n * m bits
  cut : (x j : ℕ) → j < n → get_or (z_point n p x) j 0 / 2 ^ m ≡ get_or (point_at (z_turn n) (n * (p - m)) (x / 2 ^ (n * m))) j 0
  cut x j lt =
      let e = parts in
      let lack : z_used n j (n * p) - z_used n j (n * (p - m)) ≡ m = omega (arith, z_rounds n range.0 j p lt, z_rounds n range.0 j (p - m) lt) in
      rw (e, lack) at (prefix n p (z_turn n) (z_used n) (z_schedule n p range) (n * m) (n * (p - m)) x j (omega arith) (omega (arith, range.1)))

  -- points that agree in the first n coordinates agree
  level : (x y : ℕ) → SameQuadrant n m (z_point n p x) (z_point n p y) →
      point_at (z_turn n) (n * (p - m)) (x / 2 ^ (n * m)) ≡ point_at (z_turn n) (n * (p - m)) (y / 2 ^ (n * m))
  level x y same =
      let S = z_schedule n p range in
      let low : n * (p - m) ≤ n * p = omega (arith, parts) in
      let len : (a : ℕ) → length (point_at (z_turn n) (n * (p - m)) a) ≡ 4 = λ a. four n p (z_turn n) (z_used n) S (n * (p - m)) a in
      let bare : (a j : ℕ) → n ≤ j → j < 4 → get_or (point_at (z_turn n) (n * (p - m)) a) j 0 ≡ 0 =
      λ a j out in_four. omega (arith, rw (used_out n j (n * (p - m)) out, pow-zero) at (point_lt n p (z_turn n) (z_used n) S (n * (p - m)) a j low in_four)) in
      ext_get_or 0 (point_at (z_turn n) (n * (p - m)) (x / 2 ^ (n * m))) (point_at (z_turn n) (n * (p - m)) (y / 2 ^ (n * m))) (len (x / 2 ^ (n * m)) ∙ sym (len (y / 2 ^ (n * m)))) (λ j lt.
      let in_four : j < 4 = omega (arith, len (x / 2 ^ (n * m))) in
      elim (cases_lt j n) [
        | inl in-n ↦ sym (cut x j in-n) ∙ same j in-n ∙ cut y j in-n
        | inr out ↦ bare (x / 2 ^ (n * m)) j out in_four ∙ sym (bare (y / 2 ^ (n * m)) j out in_four)
      ])

  -- so they are in the same block of addresses
  block : (x y : ℕ) → x < 2 ^ (n * p) → y < 2 ^ (n * p) → SameQuadrant n m (z_point n p x) (z_point n p y) → x / 2 ^ (n * m) ≡ y / 2 ^ (n * m)
  block x y lx ly same =
      let S = z_schedule n p range in
      let low : n * (p - m) ≤ n * p = omega (arith, parts) in
      let wide : 2 ^ (n * p) ≡ 2 ^ (n * (p - m)) * 2 ^ (n * m) = ap (λ k. 2 ^ k) (sym parts) ∙ pow-add 2 (n * (p - m)) (n * m) in
      let small : (a : ℕ) → a < 2 ^ (n * p) → a / 2 ^ (n * m) < 2 ^ (n * (p - m)) = λ a lt. div_below a (2 ^ (n * m)) (2 ^ (n * (p - m))) (pow_pos (n * m)) (omega arith) in
      let back : (a : ℕ) → a < 2 ^ (n * p) → address_of (z_turn n) (n * (p - m)) (point_at (z_turn n) (n * (p - m)) (a / 2 ^ (n * m))) ≡ a / 2 ^ (n * m) =
      λ a lt. address_point n p (z_turn n) (z_used n) S (n * (p - m)) (a / 2 ^ (n * m)) low (small a lt) in
      sym (back x lx) ∙ ap (address_of (z_turn n) (n * (p - m))) (level x y same) ∙ back y ly

pub z_quadrants : (n p : ℕ) → ZQuadrants n p
z_quadrants n p range m le a b c ab bc lt same =
    let ends = block n p m range le a c (omega arith) lt same in
    let mid : a / 2 ^ (n * m) ≡ b / 2 ^ (n * m) = omega (arith, shr_mono (n * m) ab, shr_mono (n * m) bc) in
    λ j in-n. cut n p m range le a j in-n ∙ ap (λ k. get_or (point_at (z_turn n) (n * (p - m)) k) j 0) mid ∙ sym (cut n p m range le b j in-n)
