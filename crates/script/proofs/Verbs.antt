-- Words that differ.
use Rattle.std.proofs.Common.{◌≡◌, ℕ, Bool, true, false, List, [], ◌∷◌, refl, sym, ap, ◌∙◌, inl, inr, ◌&&◌, not, nat_eq}
use Rattle.std.proofs.lemmas.Bool.{eq-eqb}
use Rattle.script.specs.Words.{IsOneOf}

-- whether two words are the same
abbrev pub same : List ℕ → List ℕ → Bool
same [] [] = true
same [] (y ∷ ys) = false
same (x ∷ xs) [] = false
same (x ∷ xs) (y ∷ ys) = nat_eq x y && same xs ys

-- whether a word is none of those in a row
abbrev pub same_nowhere : List (List ℕ) → List ℕ → Bool
same_nowhere [] v = true
same_nowhere (w ∷ ws) v = not (same v w) && same_nowhere ws v

both : (x y : Bool) → (x && y) ≡ true → (x ≡ true) × (y ≡ true)
both true y h = (refl, h)
both false y h = absurd (cc)

untrue : (x : Bool) → not x ≡ true → x ≡ false
untrue true h = absurd (cc)
untrue false h = refl

same_self : (v : List ℕ) → same v v ≡ true
same_self [] = refl
same_self (x ∷ xs) = rw (eq-eqb x x refl) (same_self xs)

-- a word is not two that differ
pub apart : (a b v : List ℕ) → same a b ≡ false → v ≡ a → v ≡ b → ⊥
apart a b v differ is-a is-b =
    let e : a ≡ b = sym is-a ∙ is-b in
    let s : same a b ≡ true = ap (λ (w : List ℕ). same a w) (sym e) ∙ same_self a in
    absurd (cc (differ, s))

-- nor one of those that differ from it
pub outside : (ws : List (List ℕ)) (a v : List ℕ) → same_nowhere ws a ≡ true → v ≡ a → IsOneOf ws v → ⊥
outside [] a v differ is is-one = is-one
outside (w ∷ ws) a v differ is (inl is-w) = apart a w v (untrue (same a w) (both (not (same a w)) (same_nowhere ws a) differ).0) is is-w
outside (w ∷ ws) a v differ is (inr later) = outside ws a v (both (not (same a w)) (same_nowhere ws a) differ).1 is later
