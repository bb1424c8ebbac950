-- A word of digits against what `parse` reads.
use Rattle.std.proofs.Common.{◌≡◌, ℕ, ◌^◌, ◌<◌, true, false, List, length, Some, None, Ok, Err, Result, inl, inr, arith, rules}
use Rattle.std.proofs.lemmas.Bool.{cases_lt}
use Rattle.std.specs.Str.Parse.{ParsesUnsigned}
use Rattle.std.specs.Bool.{then_some, nat_le}
use Rattle.std.specs.Result.{OkIff, result_ok}
use Rattle.std.proofs.lemmas.Str.Parse.{IsNumeralModel, numerals_by_fold, tells_by_index, parse_digits}
use Rattle.script.specs.Numbers.{read_on, Digits, NumberIs}

own : IsNumeralModel Digits (read_on 0)
own = numerals_by_fold Digits tells_by_index read_on (search rules)

pub read_within : {E : Type 0} (bs : List ℕ) (limit : ℕ) (r : Result ℕ E) (v : ℕ) → Digits bs → ParsesUnsigned {E = E} 64 10 bs r → Some v ≡ result_ok r
    → NumberIs bs limit (then_some (nat_le v limit) v)
read_within {E} bs limit (Ok x) v digits reads is =
    let h : OkIff {E = E} (Ok x) ((0 < length bs) × (read_on 0 bs < 2 ^ 64)) (read_on 0 bs) = parse_digits own {E = E} 64 bs (Ok x) reads digits in
    let e : v ≡ x = cc in
    elim (cases_lt limit v) [
      | inl past ↦ let no : nat_le v limit ≡ false = grind arith in rw no (λ writes. omega (arith, h.1, writes.2))
      | inr le ↦ let yes : nat_le v limit ≡ true = grind arith in rw yes ((h.0.0, digits, omega (arith, h.1)), omega (arith, h.1))
    ]
read_within {E} bs limit (Err x) v digits reads is = absurd (cc)

pub read_none : {E : Type 0} (bs : List ℕ) (limit : ℕ) (r : Result ℕ E) → limit < 2 ^ 64 → Digits bs → ParsesUnsigned {E = E} 64 10 bs r → None ≡ result_ok r → NumberIs bs limit None
read_none {E} bs limit (Ok x) small digits reads is = absurd (cc)
read_none {E} bs limit (Err x) small digits reads is =
    let h : OkIff {E = E} (Err x) ((0 < length bs) × (read_on 0 bs < 2 ^ 64)) (read_on 0 bs) = parse_digits own {E = E} 64 bs (Err x) reads digits in
    λ writes. h (writes.0, omega (arith, writes.2))
