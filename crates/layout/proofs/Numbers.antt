-- Little-endian numbers of any width: written, they are read back; read, they are written back.
use Rattle.std.proofs.Common.{◌≡◌, ℕ, zero, suc, ◌+◌, ◌-◌, ◌*◌, ◌/◌, ◌%◌, ◌^◌, ◌<◌, ◌≤◌, List, [], ◌++◌, map, length, get_or, take, drop, sym, ap, ◌∙◌, inl, inr, append-nil, add-zero, mod-eq_of_lt, mul_assoc, mul_comm, add_comm, div-one, arith, pow-add}
use native.Mathlib.Nat.{pow-succ', add-mul-div_left, add-mul-mod_self_left}
use lib.Arith.{mod-mul, digits_lt, digits_div}
use Rattle.std.specs.List.{range_with_len}
use Rattle.std.proofs.lemmas.Bool.{cases_eq}
use Rattle.std.proofs.lemmas.List.{ext_get_or, get_or-drop, get_or-take, get_or_append_left, length-take-le, length-drop}
use Rattle.std.proofs.lemmas.List.FromFn.{length-map-range_with_len, get_or-map-range_with_len}
use Rattle.layout.specs.Bytes.{little, number_at}

pow_some : (n : ℕ) → 0 < 256 ^ n
pow_some zero = omega arith
pow_some (suc n) = omega (arith, pow-succ' 256 n, pow_some n)

-- the byte i of a number
abbrev pub byte : ℕ → ℕ → ℕ
byte k i = k / 256 ^ i % 256

pub length_little : (n k : ℕ) → length (little (suc n) k) ≡ suc n
length_little n k = ap suc (length-map-range_with_len (byte k) 1 n)

pub little_at : (n k i : ℕ) (r : List ℕ) → i < suc n → get_or (little (suc n) k ++ r) i 0 ≡ byte k i
little_at n k zero r h = ap (λ q. q % 256) (sym (div-one k))
little_at n k (suc i) r h =
    get_or_append_left (map (byte k) (range_with_len 1 n)) r 0 i (omega (arith, length-map-range_with_len (byte k) 1 n))
    ∙ get_or-map-range_with_len (byte k) 1 n i (suc i) 0 (omega arith) (omega arith)

-- the bytes of a number give it, as far as they go
pub number_back : (n k p : ℕ) (bs : List ℕ) → ((i : ℕ) → i < suc n → get_or bs (p + i) 0 ≡ byte k i) → number_at (suc n) bs p ≡ k % 256 ^ suc n
number_back zero k p bs h = ap (λ q. get_or bs q 0) (sym (add-zero p)) ∙ h 0 (omega arith) ∙ ap (λ q. q % 256) (div-one k)
number_back (suc n) k p bs h =
    let a = number_back n k p bs (λ i l. h i (omega arith)) in
    let b = h (suc n) (omega arith) in
    let m = mod-mul k {m = 256} {c = 256 ^ suc n} (omega arith) (pow_some (suc n)) in
    rw b (omega (arith, a, m, ap (λ q. k % q) (pow-succ' 256 (suc n))))

pub number_there : (n k p : ℕ) (bs r : List ℕ) → drop p bs ≡ little (suc n) k ++ r → k < 256 ^ suc n → number_at (suc n) bs p ≡ k
number_there n k p bs r e l =
    number_back n k p bs (λ i h. sym (get_or-drop p bs i 0) ∙ ap (λ xs. get_or xs i 0) e ∙ little_at n k i r h) ∙ mod-eq_of_lt l

-- bytes read as a number
module _ (bs : List ℕ) (p : ℕ) where
  pub number_below : (n : ℕ) → ((i : ℕ) → i < suc n → get_or bs (p + i) 0 < 256) → number_at (suc n) bs p < 256 ^ suc n
  number_below zero h = omega (arith, h 0 (omega arith), ap (λ q. get_or bs q 0) (add-zero p))
  number_below (suc n) h =
      let a = number_below n (λ i l. h i (omega arith)) in
      omega (arith, digits_lt {q = get_or bs (p + suc n) 0} {m = 256} (h (suc n) (omega arith)) a, pow-succ' 256 (suc n))

  -- one more byte on top leaves the byte i below it
  more_top : (x b n i : ℕ) → i < suc n → byte (x + b * 256 ^ suc n) i ≡ byte x i
  more_top x b n i h =
      let d : i + suc (n - i) ≡ suc n = omega arith in
      let e : 256 ^ suc n ≡ 256 ^ i * (256 * 256 ^ (n - i)) = ap (λ m. 256 ^ m) (sym d) ∙ pow-add 256 i (suc (n - i)) ∙ ap (λ m. 256 ^ i * m) (pow-succ' 256 (n - i)) in
      let f : b * 256 ^ suc n ≡ 256 ^ i * (256 * (256 ^ (n - i) * b)) =
      mul_comm b (256 ^ suc n) ∙ ap (λ m. m * b) e ∙ mul_assoc (256 ^ i) (256 * 256 ^ (n - i)) b ∙ ap (λ m. 256 ^ i * m) (mul_assoc 256 (256 ^ (n - i)) b) in
      ap (λ m. (x + m) / 256 ^ i % 256) f ∙ ap (λ m. m % 256) (add-mul-div_left x (256 * (256 ^ (n - i) * b)) (pow_some i)) ∙ add-mul-mod_self_left (x / 256 ^ i) 256 (256 ^ (n - i) * b)

  pub byte_there : (n i : ℕ) → ((j : ℕ) → j < suc n → get_or bs (p + j) 0 < 256) → i < suc n → byte (number_at (suc n) bs p) i ≡ get_or bs (p + i) 0
  byte_there zero zero h l = ap (λ m. m % 256) (div-one (get_or bs p 0)) ∙ mod-eq_of_lt (omega (arith, h 0 (omega arith), ap (λ q. get_or bs q 0) (add-zero p))) ∙ ap (λ q. get_or bs q 0) (sym (add-zero p))
  byte_there zero (suc i) h l = absurd (omega arith)
  byte_there (suc n) i h l =
      let x = number_at (suc n) bs p in
      let b = get_or bs (p + suc n) 0 in
      let low = number_below n (λ j k. h j (omega arith)) in
      let top : byte (x + b * 256 ^ suc n) (suc n) ≡ b =
      ap (λ m. m / 256 ^ suc n % 256) (add_comm x (b * 256 ^ suc n)) ∙ ap (λ m. m % 256) (digits_div b low) ∙ mod-eq_of_lt (h (suc n) (omega arith)) in
      elim (cases_eq i (suc n)) [
        | inl e ↦ ap (byte (x + b * 256 ^ suc n)) e ∙ top ∙ ap (λ q. get_or bs (p + q) 0) (sym e)
        | inr k ↦ (let s : i < suc n = omega arith in more_top x b n i s ∙ byte_there n i (λ j m. h j (omega arith)) s)
      ]

  pub little_there : (n : ℕ) → p + suc n ≤ length bs → ((j : ℕ) → j < suc n → get_or bs (p + j) 0 < 256) → little (suc n) (number_at (suc n) bs p) ≡ take (suc n) (drop p bs)
  little_there n l h =
      let k = number_at (suc n) bs p in
      let t : length (take (suc n) (drop p bs)) ≡ suc n = length-take-le (suc n) (drop p bs) (omega (arith, length-drop p bs)) in
      ext_get_or 0 (little (suc n) k) (take (suc n) (drop p bs)) (length_little n k ∙ sym t)
      (λ i m. let s : i < suc n = omega (arith, length_little n k) in
      ap (λ xs. get_or xs i 0) (sym (append-nil (little (suc n) k))) ∙ little_at n k i [] s ∙ byte_there n i h s ∙ sym (get_or-drop p bs i 0) ∙ sym (get_or-take (suc n) (drop p bs) i 0 s))
