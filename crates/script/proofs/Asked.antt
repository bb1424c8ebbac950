-- The questions that words write.
use Rattle.std.proofs.Common.{◌≡◌, ℕ, ◌+◌, ◌-◌, ◌≤◌, List, [], length, get_or, take, Some, None, Err, codes, refl, sym, ap, ◌∙◌, subst, inl, inr, arith, Bor}
use Rattle.std.proofs.lemmas.List.{length-map, take-map}
use Rattle.orders.specs.declared.point.Point.{Point}
use Rattle.script.specs.Numbers.{NumberIs}
use Rattle.script.specs.Words.{texts, NoPoint, Ends, NoBox}
use Rattle.script.specs.Grammar.{FirstWritten, FirstIs, Asks, QuestionIs}
use Rattle.script.specs.declared.question.Question.{Question}
use Rattle.script.specs.declared.question.Question.TheVariants.{AddressOf, PointOf, FirstOf}
use Rattle.script.specs.declared.trouble.Trouble.{Trouble}
use Rattle.script.specs.declared.trouble.Trouble.TheVariants.{Refused, Unclear, Memory}
use Rattle.script.proofs.Rows.{M, past, text_at, number_at}
use Rattle.script.proofs.Verbs.{apart}

module _ (ws : List (Bor (List ℕ))) where
  len : length (texts ws) ≡ length ws
  len = length-map ws (λ (w : Bor (List ℕ)). w.now)

  box_words : texts (take (length ws - 2) ws) ≡ take (length ws - 2) (texts ws)
  box_words = sym (take-map (λ (w : Bor (List ℕ)). w.now) (length ws - 2) ws)

  -- a box, `from` and an address, the last two by their places
  pub first_written : (n : ℕ) (low high : Point) (a : ℕ) → 2 ≤ length ws → (get_or ws (length ws - 2) past).now ≡ codes "from"
      → NumberIs (get_or ws (length ws - 1) past).now M (Some a) → Ends n (texts (take (length ws - 2) ws)) low high → FirstWritten n (texts ws) low high a
  first_written n low high a two from number ends =
      let k : ℕ = length ws - 2 in
      let more : length ws - 1 ≡ k + 1 = omega arith in (
        k,
        omega (arith, len),
        text_at ws k (omega arith) ∙ from,
        number_at M ws (k + 1) (Some a) (omega arith) (subst (λ (i : ℕ). NumberIs (get_or ws i past).now M (Some a)) more number),
        subst (λ (ts : List (List ℕ)). Ends n ts low high) box_words ends,
      )

  pub first_unnumbered : (n : ℕ) → 2 ≤ length ws → NumberIs (get_or ws (length ws - 1) past).now M None → (low high : Point) (a : ℕ) → FirstWritten n (texts ws) low high a → ⊥
  first_unnumbered n two never low high a w =
      let k : w.0 + 1 ≡ length ws - 1 = omega (arith, len, w.1) in
      let at : NumberIs (get_or (texts ws) (length ws - 1) []) M (Some a) = subst (λ (i : ℕ). NumberIs (get_or (texts ws) i []) M (Some a)) k w.3 in
      number_at M ws (length ws - 1) None (omega arith) never at.0

  pub first_no_box : (n a : ℕ) (e : Trouble) → 2 ≤ length ws → (get_or ws (length ws - 2) past).now ≡ codes "from"
      → NumberIs (get_or ws (length ws - 1) past).now M (Some a) → NoBox n (texts (take (length ws - 2) ws)) e → FirstIs n (texts ws) (Err e)
  first_no_box n a (Unclear r) two from number h =
      λ low high start w.
      let k : w.0 ≡ length ws - 2 = omega (arith, len, w.1) in
      h low high (subst (λ (ts : List (List ℕ)). Ends n ts low high) (ap (λ (i : ℕ). take i (texts ws)) k ∙ sym box_words) w.4)
  first_no_box n a (Refused f) two from number h =
      let low = h.1.0 in
      let high = h.1.1 in
      (h.0, (low, high, a, first_written n low high a two from number h.1.2, h.1.3))
  first_no_box n a Memory two from number h = tt

-- `address` asks with a point
pub address_words : (n : ℕ) (verb : List ℕ) (ts : List (List ℕ)) (e : Trouble) → verb ≡ codes "address" → NoPoint n ts e → QuestionIs n verb ts (Err e)
address_words n verb ts (Unclear r) is h = (inl is, not_address, λ first crossed. apart (codes "address") (codes "first") verb refl is first)
  where
    not_address : (q : Question) → Asks n verb ts q → ⊥
    not_address (AddressOf x) asks = h x asks.1
    not_address (PointOf a) asks = apart (codes "address") (codes "point") verb refl is asks.0
    not_address (FirstOf b a) asks = apart (codes "address") (codes "first") verb refl is asks.0
address_words n verb ts (Refused f) is h = absurd h
address_words n verb ts Memory is h = tt

pub first_words : (n : ℕ) (verb : List ℕ) (ts : List (List ℕ)) (e : Trouble) → verb ≡ codes "first" → FirstIs n ts (Err e) → QuestionIs n verb ts (Err e)
first_words n verb ts (Unclear r) is h = (inr (inr (inl is)), not_first, λ first crossed. h crossed.0 crossed.1 crossed.2 crossed.3)
  where
    not_first : (q : Question) → Asks n verb ts q → ⊥
    not_first (AddressOf x) asks = apart (codes "first") (codes "address") verb refl is asks.0
    not_first (PointOf a) asks = apart (codes "first") (codes "point") verb refl is asks.0
    not_first (FirstOf b a) asks = h b.low b.high a asks.1
first_words n verb ts (Refused f) is h = (h.0, is, h.1)
first_words n verb ts Memory is h = tt
