-- The answers of reading the header.
use Rattle.std.proofs.Common.{◌≡◌, ℕ, ◌*◌, ◌%◌, ◌^◌, ◌<◌, ◌≤◌, List, [], Ok, Err, sym, refl, ◌∙◌, mod-eq_of_lt, one-mul, arith, pow_pos}
use lib.Pow.{pow-lt}
use Rattle.std.proofs.lemmas.Nat.{mul-le}
use Rattle.pages.specs.Image.{Image, Reads}
use Rattle.pages.specs.declared.fault.StoreFault.{StoreFault}
use Rattle.pages.specs.declared.fault.StoreFault.TheVariants.{Absent, Uncharged}
use Rattle.layout.specs.declared.header.Header.{Header}
use Rattle.layout.specs.Heads.{header_bytes, Proper}
use Rattle.orders.specs.Orders.{Order, Lawful, size}
use Rattle.faults.specs.declared.fault.Fault.{Fault}
use Rattle.faults.specs.declared.fault.Fault.TheVariants.{OtherOrder}
use Rattle.faults.specs.Accesses.{access, Fetches}
use Rattle.index.specs.Head.{ReadsHead}
use Rattle.index.specs.Head.NoHead.{refused, other}
use Rattle.index.specs.Keeping.{Ours}

-- a refused read does not say what the lent page held
refuses : (m m' : Image) (p : ℕ) (old new : List ℕ) (f : StoreFault) → Reads m p old (Err f) m' new → Reads m p [] (Err f) m' []
refuses m m' p old new Absent r = (r.0, refl, r.2)
refuses m m' p old new Uncharged r = (r.0, r.1, refl, r.3)

pub head_refused : (o : Order) (m m' : Image) (f : Fault) (old new : List ℕ) → Fetches m 1 0 old (Err f) m' new → ReadsHead o m (Err f) m'
head_refused o m m' f old new t = refused (access 1 0 t.0) t.1 refl refl (refuses m m' 1 old new t.0 t.2)

pub head_other : (o : Order) (m m' : Image) (old new : List ℕ) (h : Header) → Reads m 1 old (Ok tt) m' new → Proper h → new ≡ header_bytes h → (Ours o h → ⊥) → ReadsHead o m (Err OtherOrder) m'
head_other o m m' old new h r proper e not_ours =
    other h refl (record { there = r.0.1; charged = r.1; spends = r.3 }) (record { proper = proper; bytes = sym r.2 ∙ e }) not_ours

-- the greatest address, as the code shifts for it
module _ (o : Order) (law : Lawful o) where
  pub few_bits : (n p : ℕ) → n ≡ o.n → p ≡ o.p → n * p < 64
  few_bits n p en ep =
      let le : n ≤ 4 = omega (arith, law.range.1) in
      let pe : p ≤ 15 = omega (arith, law.range.3) in
      omega (arith, mul-le n p 4 15 le pe)

  pub shifted : (n p : ℕ) → n ≡ o.n → p ≡ o.p → 1 * 2 ^ (n * p) % 18446744073709551616 ≡ size o
  shifted n p en ep =
      let small : 2 ^ (n * p) < 2 ^ 64 = pow-lt (few_bits n p en ep) in
      let lt : 1 * 2 ^ (n * p) < 18446744073709551616 = omega (arith, one-mul (2 ^ (n * p))) in
      mod-eq_of_lt lt ∙ one-mul (2 ^ (n * p)) ∙ (λ i. 2 ^ (en i * ep i))

  pub some_address : 1 ≤ size o
  some_address = pow_pos (o.n * o.p)
