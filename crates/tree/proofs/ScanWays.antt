-- The way of a scan: visits that all passed, then the one where it ends.
use Rattle.std.proofs.Common.{◌≡◌, ℕ, zero, suc, ◌+◌, ◌-◌, ◌≤◌, ◌⊎◌, List, [], ◌∷◌, ◌++◌, length, refl, ap, ◌∙◌, subst, arith}
use Rattle.layout.specs.Content.{InnerKeys}
use Rattle.tree.specs.Tree.{Contents}
use Rattle.tree.specs.Scan.{Visit, Rule, A, B, C, D, E, F, Outcome, refused, uncharged, Turn, breaks, unpaid, onward, left_at, turn, follow, scan}
use Rattle.tree.specs.ScanRules.{Admitted, Keeps, Expands, Passes, ScanState, scan_state, Leads, Reaches}
use Rattle.tree.specs.ScanLaws.{EachReadIsPaid}
use Rattle.tree.proofs.ScanTurns.{turn_forth, turn_back, turn_breaks, turn_asked, turn_unpaid}
use Rattle.tree.proofs.ScanStacks.{next}
use Rattle.tree.proofs.ScanDepth.{StackFits, fits_pass}

-- the scan from a state
abbrev pub scan_from : ℕ → Contents → ℕ → ScanState → Outcome
scan_from fuel m limit s = scan fuel m limit s.charge s.marks s.stack s.sum

-- a visit that breaks a rule, or cannot be paid for, where a scan comes to it
abbrev pub RefusedAt : Contents → ℕ → ScanState → ℕ → Rule → ℕ → Type 0
RefusedAt m limit s p r left =
    (v : Visit) × (charge' : ℕ) × (marks : List ℕ) × Reaches m limit s v charge' marks
    × (v.at.page ≡ p) × (Keeps m limit marks v r → ⊥) × ((r ≡ A) ⊎ (Admitted limit marks p × (1 ≤ charge'))) × (left ≡ left_at r charge')

abbrev pub UnchargedAt : Contents → ℕ → ScanState → ℕ → ℕ → Type 0
UnchargedAt m limit s p level = (v : Visit) × (marks : List ℕ) × Reaches m limit s v 0 marks × (v.at.page ≡ p) × (v.at.level ≡ level) × Admitted limit marks p

module _ (m : Contents) (limit room : ℕ) where
  here : (v : Visit) (charge : ℕ) (marks : List ℕ) (stack : List Visit) (sum : ℕ) → Reaches m limit (scan_state charge marks (v ∷ stack) sum) v charge marks
  here v charge marks stack sum = record { passed = 0; others = stack; sum = sum; leads = refl }

  later : (charge : ℕ) (marks : List ℕ) (v : Visit) (stack : List Visit) (sum n : ℕ) (vs : List Visit) (u : Visit) (charge' : ℕ) (reached : List ℕ) → Passes m limit charge marks v n vs →
      Reaches m limit (scan_state (charge - 1) (v.at.page ∷ marks) (vs ++ stack) (sum + n)) u charge' reached → Reaches m limit (scan_state charge marks (v ∷ stack) sum) u charge' reached
  later charge marks v stack sum n vs u charge' reached p r = record { passed = suc r.passed; others = r.others; sum = r.sum; leads = (v, stack, n, vs, refl, p, r.leads) }

  pub refused_at : (fuel charge : ℕ) (marks : List ℕ) (stack : List Visit) (sum p : ℕ) (r : Rule) (left : ℕ) → StackFits room stack →
      scan fuel m limit charge marks stack sum ≡ refused p r left → RefusedAt m limit (scan_state charge marks stack sum) p r left
  unfolding scan
  refused_at zero charge marks stack sum p r left h e = let z : ◌≡◌ {A = ℕ} 0 1 = cc in absurd (omega arith)
  refused_at (suc f) charge marks [] sum p r left h e = let z : ◌≡◌ {A = ℕ} 0 1 = cc in absurd (omega arith)
  refused_at (suc f) charge marks (v ∷ stack) sum p r left h e =
      go (λ n vs. refused_at f (charge - 1) (v.at.page ∷ marks) (vs ++ stack) (sum + n) p r left) (turn m limit charge marks v) refl e
    where
      go : ((n : ℕ) (vs : List Visit) → StackFits room (vs ++ stack) → next f m limit charge marks v stack sum n vs ≡ refused p r left →
          RefusedAt m limit (scan_state (charge - 1) (v.at.page ∷ marks) (vs ++ stack) (sum + n)) p r left) →
          (t : Turn) → turn m limit charge marks v ≡ t → follow charge v t (next f m limit charge marks v stack sum) ≡ refused p r left →
          RefusedAt m limit (scan_state charge marks (v ∷ stack) sum) p r left
      go ih (breaks x) w d =
          let a : v.at.page ≡ p = cc in
          let b : x ≡ r = cc in
          let c : left ≡ left_at x charge = cc in
          let q = w ∙ ap breaks b in (
            v,
            charge,
            marks,
            here v charge marks stack sum,
            a,
            turn_breaks m limit marks v charge r h.0 q,
            subst (λ k. (r ≡ A) ⊎ (Admitted limit marks k × (1 ≤ charge))) a (turn_asked m limit marks v charge r q),
            c ∙ ap (λ y. left_at y charge) b,
          )
      go ih unpaid w d = let z : ◌≡◌ {A = ℕ} 0 1 = cc in absurd (omega arith)
      go ih (onward n vs) w d =
          let t = turn_forth m limit charge marks v n vs w in
          let i = ih n vs (fits_pass m limit room charge marks v stack n vs h t) d in
          (i.0, i.1, i.2, later charge marks v stack sum n vs i.0 i.1 i.2 t i.3, i.4, i.5, i.6, i.7)

  pub uncharged_at : (fuel charge : ℕ) (marks : List ℕ) (stack : List Visit) (sum p level : ℕ) → scan fuel m limit charge marks stack sum ≡ uncharged p level →
      UnchargedAt m limit (scan_state charge marks stack sum) p level
  unfolding scan
  uncharged_at zero charge marks stack sum p level e = let z : ◌≡◌ {A = ℕ} 0 1 = cc in absurd (omega arith)
  uncharged_at (suc f) charge marks [] sum p level e = let z : ◌≡◌ {A = ℕ} 0 1 = cc in absurd (omega arith)
  uncharged_at (suc f) charge marks (v ∷ stack) sum p level e =
      go (λ n vs. uncharged_at f (charge - 1) (v.at.page ∷ marks) (vs ++ stack) (sum + n) p level) (turn m limit charge marks v) refl e
    where
      go : ((n : ℕ) (vs : List Visit) → next f m limit charge marks v stack sum n vs ≡ uncharged p level →
          UnchargedAt m limit (scan_state (charge - 1) (v.at.page ∷ marks) (vs ++ stack) (sum + n)) p level) →
          (t : Turn) → turn m limit charge marks v ≡ t → follow charge v t (next f m limit charge marks v stack sum) ≡ uncharged p level →
          UnchargedAt m limit (scan_state charge marks (v ∷ stack) sum) p level
      go ih (breaks x) w d = let z : ◌≡◌ {A = ℕ} 0 1 = cc in absurd (omega arith)
      go ih unpaid w d =
          let a : v.at.page ≡ p = cc in
          let b : v.at.level ≡ level = cc in
          let u = turn_unpaid m limit charge marks v w in
          (v, marks, subst (λ c. Reaches m limit (scan_state charge marks (v ∷ stack) sum) v c marks) u.0 (here v charge marks stack sum), a, b, subst (λ q. Admitted limit marks q) a u.1)
      go ih (onward n vs) w d =
          let i = ih n vs d in
          (i.0, i.1, later charge marks v stack sum n vs i.0 0 i.1 (turn_forth m limit charge marks v n vs w) i.2, i.3, i.4, i.5)

-- visits that pass keep every rule
pub passes_keeps : (m : Contents) (limit charge : ℕ) (marks : List ℕ) (v : Visit) (n : ℕ) (vs : List Visit) (r : Rule) → Passes m limit charge marks v n vs → Keeps m limit marks v r
passes_keeps m limit charge marks v n vs A h = h.admitted
passes_keeps m limit charge marks v n vs B h = h.own
passes_keeps m limit charge marks v n vs C h = h.filled
passes_keeps m limit charge marks v n vs D h = λ e. (subst (λ l. Expands l v.lo v.hi (m v.at.page).entries n vs) e h.expands).0
passes_keeps m limit charge marks v n vs E h = go v.at.level h.expands
  where
    go : (l : ℕ) → Expands l v.lo v.hi (m v.at.page).entries n vs → 2 ≤ l → InnerKeys v.lo v.hi (m v.at.page).entries
    go zero x e = absurd x
    go (suc zero) x e = absurd (omega arith)
    go (suc (suc k)) x e = x.0
passes_keeps m limit charge marks v n vs F h = tt

-- visits that pass are the scan's own
pub scan_leads : (m : Contents) (limit k fuel : ℕ) (s t : ScanState) → Leads m limit k s t → (f : ℕ) × (scan_from fuel m limit s ≡ scan_from f m limit t)
unfolding scan
scan_leads m limit zero fuel s t h = (fuel, ap (scan_from fuel m limit) h)
scan_leads m limit (suc k) zero s t h = (0, refl)
scan_leads m limit (suc k) (suc f) s t h =
    let v = h.0 in
    let st = h.1 in
    let ih = scan_leads m limit k f (scan_state (s.charge - 1) (v.at.page ∷ s.marks) (h.3 ++ st) (s.sum + h.2)) t h.6 in (
      ih.0,
      ap (λ us. scan (suc f) m limit s.charge s.marks us s.sum) h.4
          ∙ ap (λ u. follow s.charge v u (next f m limit s.charge s.marks v st s.sum)) (turn_back m limit s.charge s.marks v h.2 h.3 h.5)
          ∙ ih.1,
    )

pub each_read_is_paid : EachReadIsPaid
each_read_is_paid m limit zero s t h =
    let c = ap (λ u. u.charge) h in
    let l = ap (λ u. length u.marks) h in
    (omega arith, omega arith)
each_read_is_paid m limit (suc k) s t h =
    let ih = each_read_is_paid m limit k (scan_state (s.charge - 1) (h.0.at.page ∷ s.marks) (h.3 ++ h.1) (s.sum + h.2)) t h.6 in
    let p = h.5.paid in
    (omega (arith, ih.0), omega (arith, ih.1))
