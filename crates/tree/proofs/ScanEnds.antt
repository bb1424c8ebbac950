-- Each turn marks one more page, and there are no more than limit pages: a scan ends within its fuel.
use Rattle.std.proofs.Common.{◌≡◌, ℕ, zero, suc, ◌+◌, ◌-◌, ◌<◌, ◌≤◌, List, [], ◌∷◌, ◌++◌, length, refl, arith}
use Rattle.std.specs.List.{AllByRecursion}
use Rattle.tree.specs.Tree.{Contents, Apart}
use Rattle.tree.specs.Scan.{Visit, uncharged, unfinished, Turn, breaks, unpaid, onward, turn, follow, scan}
use Rattle.tree.specs.ScanRules.{Admitted}
use Rattle.tree.proofs.ScanTurns.{turn_forth, turn_unpaid}
use Rattle.tree.proofs.ScanStacks.{next}
use Rattle.tree.proofs.ScanMarks.{InRange, few_marks}

module _ (m : Contents) (limit : ℕ) where
  -- the sum of fuel and marks is the same at each turn
  pub ends : (fuel charge : ℕ) (marks : List ℕ) (stack : List Visit) (sum : ℕ) → Apart marks → AllByRecursion (InRange limit) marks → limit < fuel + length marks →
      scan fuel m limit charge marks stack sum ≡ unfinished → ⊥
  unfolding scan
  ends zero charge marks stack sum a r h e = omega (arith, few_marks limit marks a r)
  ends (suc f) charge marks [] sum a r h e = let z : ◌≡◌ {A = ℕ} 0 1 = cc in omega arith
  ends (suc f) charge marks (v ∷ stack) sum a r h e =
      go (λ n vs ad. ends f (charge - 1) (v.at.page ∷ marks) (vs ++ stack) (sum + n) (ad.1, a) (ad.0, r) (omega arith)) (turn m limit charge marks v) refl e
    where
      go : ((n : ℕ) (vs : List Visit) → Admitted limit marks v.at.page → next f m limit charge marks v stack sum n vs ≡ unfinished → ⊥) →
          (t : Turn) → turn m limit charge marks v ≡ t → follow charge v t (next f m limit charge marks v stack sum) ≡ unfinished → ⊥
      go ih (breaks r) q d = let z : ◌≡◌ {A = ℕ} 0 1 = cc in omega arith
      go ih unpaid q d = let z : ◌≡◌ {A = ℕ} 0 1 = cc in omega arith
      go ih (onward n vs) q d = ih n vs (turn_forth m limit charge marks v n vs q).admitted d

  -- and with the charge in place of the fuel: a charge for every page is enough
  pub suffices : (fuel charge : ℕ) (marks : List ℕ) (stack : List Visit) (sum p level : ℕ) → Apart marks → AllByRecursion (InRange limit) marks → limit ≤ charge + length marks →
      scan fuel m limit charge marks stack sum ≡ uncharged p level → ⊥
  unfolding scan
  suffices zero charge marks stack sum p level a r h e = let z : ◌≡◌ {A = ℕ} 0 1 = cc in omega arith
  suffices (suc f) charge marks [] sum p level a r h e = let z : ◌≡◌ {A = ℕ} 0 1 = cc in omega arith
  suffices (suc f) charge marks (v ∷ stack) sum p level a r h e =
      go (λ n vs ad w. suffices f (charge - 1) (v.at.page ∷ marks) (vs ++ stack) (sum + n) p level (ad.1, a) (ad.0, r) (omega arith)) (turn m limit charge marks v) refl e
    where
      go : ((n : ℕ) (vs : List Visit) → Admitted limit marks v.at.page → 1 ≤ charge → next f m limit charge marks v stack sum n vs ≡ uncharged p level → ⊥) →
          (t : Turn) → turn m limit charge marks v ≡ t → follow charge v t (next f m limit charge marks v stack sum) ≡ uncharged p level → ⊥
      go ih (breaks x) q d = let z : ◌≡◌ {A = ℕ} 0 1 = cc in omega arith
      go ih unpaid q d =
          let s = turn_unpaid m limit charge marks v q in
          let c = s.0 in
          omega (arith, few_marks limit (v.at.page ∷ marks) (s.1.1, a) (s.1.0, r))
      go ih (onward n vs) q d = let w = turn_forth m limit charge marks v n vs q in ih n vs w.admitted w.paid d
