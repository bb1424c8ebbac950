-- What one turn says: it goes on just where the visit passes every rule; it breaks a rule that the visit does not keep; it is unpaid only without charge.
use Rattle.std.proofs.Common.{◌≡◌, ℕ, zero, suc, ◌≤◌, Bool, true, false, cond, ◌⊎◌, List, [], sym, refl, ◌∙◌, subst, inl, inr, arith}
use Rattle.std.proofs.lemmas.Bool.{cond-true}
use Rattle.std.proofs.lemmas.Bool.Decides.{not_from_Decides}
use Rattle.layout.specs.declared.entry.Entry.{Entry}
use Rattle.layout.specs.Content.{Content}
use Rattle.tree.specs.Tree.{Contents, counts}
use Rattle.tree.specs.Scan.{Visit, Rule, A, B, C, D, E, Turn, breaks, unpaid, onward, admits, own, filled, leaf_keys, inner_keys, child_visits, expand, judged, charged, turn}
use Rattle.tree.specs.ScanRules.{Admitted, Keeps, Expands, Passes}
use Rattle.tree.proofs.ScanTests.{admits_decides, own_decides, filled_decides, leaf_keys_decides, inner_keys_decides}

-- a step behind a test: what it says when it goes on, breaks a rule or is unpaid
goes_on : (b : Bool) (t : Turn) (x : Rule) (n : ℕ) (vs : List Visit) → cond b t (breaks x) ≡ onward n vs → (b ≡ true) × (t ≡ onward n vs)
goes_on true t x n vs e = (refl, e)
goes_on false t x n vs e = let z : ◌≡◌ {A = ℕ} 0 1 = cc in absurd (omega arith)

breaks_at : (b : Bool) (t : Turn) (x r : Rule) → cond b t (breaks x) ≡ breaks r → ((b ≡ false) × (x ≡ r)) ⊎ ((b ≡ true) × (t ≡ breaks r))
breaks_at true t x r e = inr (refl, e)
breaks_at false t x r e = inl (refl, cc)

unpaid_at : (b : Bool) (t : Turn) (x : Rule) → cond b t (breaks x) ≡ unpaid → (b ≡ true) × (t ≡ unpaid)
unpaid_at true t x e = (refl, e)
unpaid_at false t x e = let z : ◌≡◌ {A = ℕ} 0 1 = cc in absurd (omega arith)

-- 1. it goes on

expand_forth : (l lo hi : ℕ) (es : List Entry) (n : ℕ) (vs : List Visit) → expand l lo hi es ≡ onward n vs → Expands l lo hi es n vs
unfolding expand
expand_forth zero lo hi es n vs e = let z : ◌≡◌ {A = ℕ} 0 1 = cc in absurd (omega arith)
expand_forth (suc zero) lo hi es n vs e =
    let g = goes_on (leaf_keys lo hi es) (onward (counts es) []) D n vs e in
    let h = g.1 in
    ((leaf_keys_decides lo hi es).0 g.0, cc, cc)
expand_forth (suc (suc k)) lo hi es n vs e =
    let g = goes_on (inner_keys lo hi es) (onward 0 (child_visits (suc k) lo hi es)) E n vs e in
    let h = g.1 in
    ((inner_keys_decides lo hi es).0 g.0, cc, cc)

expand_back : (l lo hi : ℕ) (es : List Entry) (n : ℕ) (vs : List Visit) → Expands l lo hi es n vs → expand l lo hi es ≡ onward n vs
unfolding expand
expand_back zero lo hi es n vs h = absurd h
expand_back (suc zero) lo hi es n vs h =
    cond-true (leaf_keys lo hi es) (onward (counts es) []) (breaks D) ((leaf_keys_decides lo hi es).1 h.0) ∙ (λ i. onward (sym h.1 i) (sym h.2 i))
expand_back (suc (suc k)) lo hi es n vs h =
    cond-true (inner_keys lo hi es) (onward 0 (child_visits (suc k) lo hi es)) (breaks E) ((inner_keys_decides lo hi es).1 h.0) ∙ (λ i. onward (sym h.1 i) (sym h.2 i))

charged_forth : (c : ℕ) (t : Turn) (n : ℕ) (vs : List Visit) → charged c t ≡ onward n vs → (1 ≤ c) × (t ≡ onward n vs)
charged_forth zero t n vs e = let z : ◌≡◌ {A = ℕ} 0 1 = cc in absurd (omega arith)
charged_forth (suc c) t n vs e = (omega arith, e)

charged_back : (c : ℕ) (t : Turn) → 1 ≤ c → charged c t ≡ t
charged_back zero t h = absurd (omega arith)
charged_back (suc c) t h = refl

module _ (m : Contents) (limit charge : ℕ) (marks : List ℕ) (v : Visit) where
  pub turn_forth : (n : ℕ) (vs : List Visit) → turn m limit charge marks v ≡ onward n vs → Passes m limit charge marks v n vs
  unfolding turn judged
  turn_forth n vs e =
      let c = m v.at.page in
      let x = expand v.at.level v.lo v.hi c.entries in
      let a = goes_on (admits limit marks v.at.page) (charged charge (judged c v)) A n vs e in
      let p = charged_forth charge (judged c v) n vs a.1 in
      let b = goes_on (own c v) (cond (filled c) x (breaks C)) B n vs p.1 in
      let f = goes_on (filled c) x C n vs b.1 in
      record {
        admitted = (admits_decides limit marks v.at.page).0 a.0;
        paid = p.0;
        own = (own_decides c v).0 b.0;
        filled = (filled_decides c).0 f.0;
        expands = expand_forth v.at.level v.lo v.hi c.entries n vs f.1;
      }

  pub turn_back : (n : ℕ) (vs : List Visit) → Passes m limit charge marks v n vs → turn m limit charge marks v ≡ onward n vs
  unfolding turn judged
  turn_back n vs h =
      let c = m v.at.page in
      let x = expand v.at.level v.lo v.hi c.entries in
      cond-true (admits limit marks v.at.page) (charged charge (judged c v)) (breaks A) ((admits_decides limit marks v.at.page).1 h.admitted)
      ∙ charged_back charge (judged c v) h.paid
      ∙ cond-true (own c v) (cond (filled c) x (breaks C)) (breaks B) ((own_decides c v).1 h.own)
      ∙ cond-true (filled c) x (breaks C) ((filled_decides c).1 h.filled)
      ∙ expand_back v.at.level v.lo v.hi c.entries n vs h.expands

-- 2. it is unpaid

expand_read : (l lo hi : ℕ) (es : List Entry) → expand l lo hi es ≡ unpaid → ⊥
unfolding expand
expand_read zero lo hi es e = let z : ◌≡◌ {A = ℕ} 0 1 = cc in omega arith
expand_read (suc zero) lo hi es e = let g = (unpaid_at (leaf_keys lo hi es) (onward (counts es) []) D e).1 in let z : ◌≡◌ {A = ℕ} 0 1 = cc in omega arith
expand_read (suc (suc k)) lo hi es e =
    let g = (unpaid_at (inner_keys lo hi es) (onward 0 (child_visits (suc k) lo hi es)) E e).1 in let z : ◌≡◌ {A = ℕ} 0 1 = cc in omega arith

-- a page that was read is not unpaid
judged_read : (c : Content) (v : Visit) → judged c v ≡ unpaid → ⊥
unfolding judged
judged_read c v e =
    let x = expand v.at.level v.lo v.hi c.entries in
    let b = unpaid_at (own c v) (cond (filled c) x (breaks C)) B e in
    expand_read v.at.level v.lo v.hi c.entries (unpaid_at (filled c) x C b.1).1

charged_unpaid : (c : ℕ) (t : Turn) → (t ≡ unpaid → ⊥) → charged c t ≡ unpaid → c ≡ 0
charged_unpaid zero t h e = refl
charged_unpaid (suc c) t h e = absurd (h e)

pub turn_unpaid : (m : Contents) (limit charge : ℕ) (marks : List ℕ) (v : Visit) → turn m limit charge marks v ≡ unpaid → (charge ≡ 0) × Admitted limit marks v.at.page
unfolding turn
turn_unpaid m limit charge marks v e =
    let t = judged (m v.at.page) v in
    let a = unpaid_at (admits limit marks v.at.page) (charged charge t) A e in
    (charged_unpaid charge t (judged_read (m v.at.page) v) a.1, (admits_decides limit marks v.at.page).0 a.0)

pub unpaid_turn : (m : Contents) (limit : ℕ) (marks : List ℕ) (v : Visit) → Admitted limit marks v.at.page → turn m limit 0 marks v ≡ unpaid
unfolding turn
unpaid_turn m limit marks v a = cond-true (admits limit marks v.at.page) (charged 0 (judged (m v.at.page) v)) (breaks A) ((admits_decides limit marks v.at.page).1 a)

-- 3. it breaks a rule

charged_breaks : (c : ℕ) (t : Turn) (r : Rule) → charged c t ≡ breaks r → (1 ≤ c) × (t ≡ breaks r)
charged_breaks zero t r e = let z : ◌≡◌ {A = ℕ} 0 1 = cc in absurd (omega arith)
charged_breaks (suc c) t r e = (omega arith, e)

module _ (m : Contents) (limit : ℕ) (marks : List ℕ) (v : Visit) where
  letter : (x r : Rule) → x ≡ r → (Keeps m limit marks v x → ⊥) → Keeps m limit marks v r → ⊥
  letter x r e h = subst (λ y. Keeps m limit marks v y → ⊥) e h

  -- the level apart, so that it is a pattern
  expand_breaks : (l : ℕ) → v.at.level ≡ l → 1 ≤ l → (r : Rule) → expand l v.lo v.hi (m v.at.page).entries ≡ breaks r → Keeps m limit marks v r → ⊥
  unfolding expand
  expand_breaks zero el h r e = absurd (omega arith)
  expand_breaks (suc zero) el h r e =
      let es = (m v.at.page).entries in
      elim (breaks_at (leaf_keys v.lo v.hi es) (onward (counts es) []) D r e) [
        | inl w ↦ letter D r w.1 (λ k. not_from_Decides (leaf_keys v.lo v.hi es) (leaf_keys_decides v.lo v.hi es) w.0 (k el))
        | inr w ↦ (let t = w.1 in let z : ◌≡◌ {A = ℕ} 0 1 = cc in absurd (omega arith))
      ]
  expand_breaks (suc (suc k)) el h r e =
      let es = (m v.at.page).entries in
      elim (breaks_at (inner_keys v.lo v.hi es) (onward 0 (child_visits (suc k) v.lo v.hi es)) E r e) [
        | inl w ↦ letter E r w.1 (λ i. not_from_Decides (inner_keys v.lo v.hi es) (inner_keys_decides v.lo v.hi es) w.0 (i (omega arith)))
        | inr w ↦ (let t = w.1 in let z : ◌≡◌ {A = ℕ} 0 1 = cc in absurd (omega arith))
      ]

  pub turn_breaks : (charge : ℕ) (r : Rule) → 1 ≤ v.at.level → turn m limit charge marks v ≡ breaks r → Keeps m limit marks v r → ⊥
  unfolding turn judged
  turn_breaks charge r h e =
      let c = m v.at.page in
      let x = expand v.at.level v.lo v.hi c.entries in
      elim (breaks_at (admits limit marks v.at.page) (charged charge (judged c v)) A r e) [
        | inl w ↦ letter A r w.1 (not_from_Decides (admits limit marks v.at.page) (admits_decides limit marks v.at.page) w.0)
        | inr w ↦ elim (breaks_at (own c v) (cond (filled c) x (breaks C)) B r (charged_breaks charge (judged c v) r w.1).1) [
          | inl y ↦ letter B r y.1 (not_from_Decides (own c v) (own_decides c v) y.0)
          | inr y ↦ elim (breaks_at (filled c) x C r y.1) [
            | inl z ↦ letter C r z.1 (not_from_Decides (filled c) (filled_decides c) z.0)
            | inr z ↦ expand_breaks v.at.level refl h r z.1
          ]
        ]
      ]

  -- A is asked before the read, the other rules after it
  pub turn_asked : (charge : ℕ) (r : Rule) → turn m limit charge marks v ≡ breaks r → (r ≡ A) ⊎ (Admitted limit marks v.at.page × (1 ≤ charge))
  unfolding turn
  turn_asked charge r e =
      let t = judged (m v.at.page) v in
      elim (breaks_at (admits limit marks v.at.page) (charged charge t) A r e) [
        | inl w ↦ inl (sym w.1)
        | inr w ↦ inr ((admits_decides limit marks v.at.page).0 w.0, (charged_breaks charge t r w.1).0)
      ]
