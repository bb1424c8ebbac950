-- A stack is accepted just where a tree stands at each of its visits, with pages that rule A admits; where the charge is too little, the first page past it is named.
use Rattle.std.proofs.Common.{◌≡◌, ℕ, zero, suc, ◌+◌, ◌-◌, ◌<◌, ◌≤◌, List, [], ◌∷◌, ◌++◌, length, get_or, sym, refl, ap, ◌∙◌, subst, arith}
use Rattle.tree.specs.Tree.{Node, Contents}
use Rattle.tree.specs.Scan.{Visit, Outcome, accepted, uncharged, Turn, breaks, unpaid, onward, turn, follow, scan}
use Rattle.tree.specs.ScanRules.{Passes, StandAll, pages_all, counts_all, AdmittedAll, marked}
use Rattle.tree.proofs.ScanTurns.{turn_forth, turn_back, unpaid_turn}
use Rattle.tree.proofs.ScanVisits.{joined, Parted, parted}

-- what is left to do after a visit that goes on
abbrev pub next : ℕ → Contents → ℕ → ℕ → List ℕ → Visit → List Visit → ℕ → ℕ → List Visit → Outcome
next fuel m limit charge marks v stack sum n vs = scan fuel m limit (charge - 1) (v.at.page ∷ marks) (vs ++ stack) (sum + n)

-- trees at the visits of a stack, with what was accepted
pub record Found (m : Contents) (limit charge : ℕ) (marks : List ℕ) (stack : List Visit) (sum : ℕ) (seen : List ℕ) (total left : ℕ) : Type 0 where
  pub trees : List Node
  pub stand : StandAll m stack trees
  pub admitted : AdmittedAll limit marks (pages_all trees)
  pub seen_is : seen ≡ marked marks (pages_all trees)
  pub total_is : total ≡ sum + counts_all trees
  pub spent : charge ≡ left + length (pages_all trees)

module _ (m : Contents) (limit : ℕ) where
  found_turn : (charge : ℕ) (marks : List ℕ) (v : Visit) (stack : List Visit) (sum : ℕ) (seen : List ℕ) (total left n : ℕ) (vs : List Visit) →
      Passes m limit charge marks v n vs → Found m limit (charge - 1) (v.at.page ∷ marks) (vs ++ stack) (sum + n) seen total left → Found m limit charge marks (v ∷ stack) sum seen total left
  found_turn charge marks v stack sum seen total left n vs h r =
      let j = joined m v.at.level v.at.page v.lo v.hi n vs stack r.trees h.own h.filled h.expands r.stand in
      let pg = j.pages in
      record {
        trees = j.tree ∷ j.rest;
        stand = (j.number, j.stands, j.others);
        admitted = subst (λ ps. AdmittedAll limit marks ps) (sym pg) (h.admitted, r.admitted);
        seen_is = r.seen_is ∙ ap (marked marks) (sym pg);
        total_is = omega (arith, r.total_is, j.total);
        spent = omega (arith, r.spent, ap length pg, h.paid);
      }

  -- what is accepted
  pub found : (fuel charge : ℕ) (marks : List ℕ) (stack : List Visit) (sum : ℕ) (seen : List ℕ) (total left : ℕ) →
      scan fuel m limit charge marks stack sum ≡ accepted seen total left → Found m limit charge marks stack sum seen total left
  unfolding scan
  found zero charge marks stack sum seen total left e = let z : ◌≡◌ {A = ℕ} 0 1 = cc in absurd (omega arith)
  found (suc f) charge marks [] sum seen total left e =
      let b : total ≡ sum = cc in
      let c : charge ≡ left = cc in
      record { trees = []; stand = tt; admitted = tt; seen_is = cc; total_is = omega arith; spent = omega arith }
  found (suc f) charge marks (v ∷ stack) sum seen total left e =
      go (λ n vs. found f (charge - 1) (v.at.page ∷ marks) (vs ++ stack) (sum + n) seen total left) (turn m limit charge marks v) refl e
    where
      go : ((n : ℕ) (vs : List Visit) → next f m limit charge marks v stack sum n vs ≡ accepted seen total left → Found m limit (charge - 1) (v.at.page ∷ marks) (vs ++ stack) (sum + n) seen total left) →
          (t : Turn) → turn m limit charge marks v ≡ t → follow charge v t (next f m limit charge marks v stack sum) ≡ accepted seen total left →
          Found m limit charge marks (v ∷ stack) sum seen total left
      go ih (breaks r) q d = let z : ◌≡◌ {A = ℕ} 0 1 = cc in absurd (omega arith)
      go ih unpaid q d = let z : ◌≡◌ {A = ℕ} 0 1 = cc in absurd (omega arith)
      go ih (onward n vs) q d = found_turn charge marks v stack sum seen total left n vs (turn_forth m limit charge marks v n vs q) (ih n vs d)

  passes_from : (charge : ℕ) (marks : List ℕ) (v : Visit) (stack : List Visit) (t : Node) (ts : List Node) (k : Parted m v.at.page v.at.level v.lo v.hi stack t ts) →
      AdmittedAll limit marks (v.at.page ∷ pages_all k.below) → 1 ≤ charge → Passes m limit charge marks v k.adds k.brings
  passes_from charge marks v stack t ts k a c = record { admitted = a.0; paid = c; own = k.own; filled = k.filled; expands = k.expands }

  -- trees that stand are accepted, with fuel and charge for each page
  pub accepts : (fuel charge : ℕ) (marks : List ℕ) (stack : List Visit) (sum : ℕ) (ts : List Node) → StandAll m stack ts → AdmittedAll limit marks (pages_all ts) →
      length (pages_all ts) < fuel → length (pages_all ts) ≤ charge →
      scan fuel m limit charge marks stack sum ≡ accepted (marked marks (pages_all ts)) (sum + counts_all ts) (charge - length (pages_all ts))
  unfolding scan
  accepts zero charge marks stack sum ts a ad lf lc = absurd (omega arith)
  accepts (suc f) charge marks [] sum [] a ad lf lc =
      let b : sum ≡ sum + 0 = omega arith in
      let c : charge ≡ charge - 0 = omega arith in
      λ i. accepted marks (b i) (c i)
  accepts (suc f) charge marks [] sum (t ∷ ts) a ad lf lc = absurd a
  accepts (suc f) charge marks (v ∷ stack) sum [] a ad lf lc = absurd a
  accepts (suc f) charge marks (v ∷ stack) sum (t ∷ ts) a ad lf lc =
      let k = parted m v.at.level v.at.page v.lo v.hi stack t ts a.0 a.1 a.2 in
      let pg = k.pages in
      let len = ap length pg in
      let ad₁ = subst (λ ps. AdmittedAll limit marks ps) pg ad in
      let pass = passes_from charge marks v stack t ts k ad₁ (omega (arith, len)) in
      let ih = accepts f (charge - 1) (v.at.page ∷ marks) (k.brings ++ stack) (sum + k.adds) k.below k.stand ad₁.1 (omega (arith, len)) (omega (arith, len)) in
      let s : sum + k.adds + counts_all k.below ≡ sum + counts_all (t ∷ ts) = omega (arith, k.total) in
      let c : charge - 1 - length (pages_all k.below) ≡ charge - length (pages_all (t ∷ ts)) = omega (arith, len) in
      ap (λ u. follow charge v u (next f m limit charge marks v stack sum)) (turn_back m limit charge marks v k.adds k.brings pass)
      ∙ ih
      ∙ (λ i. accepted (marked marks (sym pg i)) (s i) (c i))

  -- with less charge than pages, the scan ends at the page whose place in visiting order is the charge
  pub falls_short : (fuel charge : ℕ) (marks : List ℕ) (stack : List Visit) (sum : ℕ) (ts : List Node) → StandAll m stack ts → AdmittedAll limit marks (pages_all ts) →
      length (pages_all ts) < fuel → charge < length (pages_all ts) →
      (level : ℕ) × (scan fuel m limit charge marks stack sum ≡ uncharged (get_or (pages_all ts) charge 0) level)
  unfolding scan
  falls_short zero charge marks stack sum ts a ad lf lc = absurd (omega arith)
  falls_short (suc f) charge marks [] sum [] a ad lf lc = absurd (omega arith)
  falls_short (suc f) charge marks [] sum (t ∷ ts) a ad lf lc = absurd a
  falls_short (suc f) charge marks (v ∷ stack) sum [] a ad lf lc = absurd a
  falls_short (suc f) zero marks (v ∷ stack) sum (t ∷ ts) a ad lf lc =
      let k = parted m v.at.level v.at.page v.lo v.hi stack t ts a.0 a.1 a.2 in
      let ad₁ = subst (λ ps. AdmittedAll limit marks ps) k.pages ad in (
        v.at.level,
        ap (λ u. follow 0 v u (next f m limit 0 marks v stack sum)) (unpaid_turn m limit marks v ad₁.0) ∙ ap (λ ps. uncharged (get_or ps 0 0) v.at.level) (sym k.pages),
      )
  falls_short (suc f) (suc c) marks (v ∷ stack) sum (t ∷ ts) a ad lf lc =
      let k = parted m v.at.level v.at.page v.lo v.hi stack t ts a.0 a.1 a.2 in
      let pg = k.pages in
      let len = ap length pg in
      let ad₁ = subst (λ ps. AdmittedAll limit marks ps) pg ad in
      let pass = passes_from (suc c) marks v stack t ts k ad₁ (omega arith) in
      let one : suc c - 1 ≡ c = omega arith in
      let ih = falls_short f (suc c - 1) (v.at.page ∷ marks) (k.brings ++ stack) (sum + k.adds) k.below k.stand ad₁.1 (omega (arith, len)) (omega (arith, len)) in (
        ih.0,
        ap (λ u. follow (suc c) v u (next f m limit (suc c) marks v stack sum)) (turn_back m limit (suc c) marks v k.adds k.brings pass)
            ∙ ih.1
            ∙ ap (λ i. uncharged (get_or (pages_all k.below) i 0) ih.0) one
            ∙ ap (λ ps. uncharged (get_or ps (suc c) 0) ih.0) (sym pg),
      )
