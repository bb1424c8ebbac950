-- Factory-blank memory has no header.
use Rattle.std.proofs.Common.{◌≡◌, ℕ, ◌≤◌, ◌⊎◌, List, [], ◌∷◌, length, get_or, replicate, sym, refl, ap, ◌∙◌, inl, inr, arith}
use Rattle.index.specs.LawsSteps.{BlankLaw}

no_header : (ps : List (List ℕ)) (bs : List ℕ) → (1 ≤ length ps → (get_or ps 0 [] ≡ replicate 128 0) ⊎ (get_or ps 0 [] ≡ replicate 128 255)) → get_or ps 0 [] ≡ 85 ∷ bs → ⊥
no_header [] bs h e = let z : ◌≡◌ {A = ℕ} 0 85 = ap (λ (xs : List ℕ). get_or xs 0 0) e in omega arith
no_header (p ∷ ps) bs h e = elim (h (omega arith)) [
  | inl z ↦ let y : ◌≡◌ {A = ℕ} 0 85 = ap (λ (xs : List ℕ). get_or xs 0 0) (sym z ∙ e) in omega arith
  | inr z ↦ let y : ◌≡◌ {A = ℕ} 255 85 = ap (λ (xs : List ℕ). get_or xs 0 0) (sym z ∙ e) in omega arith
]

pub blank_law : BlankLaw
blank_law o m b = (refl, λ h proper ours e. no_header m.pages _ (λ le. b 1 (omega arith, le)) e)
