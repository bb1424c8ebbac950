-- How many visits a stack holds.
use Rattle.std.proofs.Common.{◌≡◌, ℕ, zero, suc, ◌+◌, ◌-◌, ◌*◌, ◌≤◌, List, [], ◌∷◌, ◌++◌, length, sym, subst, arith}
use Rattle.layout.specs.declared.entry.Entry.{Entry}
use Rattle.tree.specs.Tree.{Contents}
use Rattle.tree.specs.Scan.{Visit, child_visits, start}
use Rattle.tree.specs.ScanRules.{Expands, Passes, ScanState, scan_state, Leads}

-- Of each visit on the stack: its level is 1 or more, and there is room above it for 9 visits for each level:
-- the page itself makes room for one of its ten children.
abbrev pub StackFits : ℕ → List Visit → Type 0
StackFits room [] = Unit {0}
StackFits room (v ∷ st) = (1 ≤ v.at.level) × (9 * v.at.level + length (v ∷ st) ≤ room) × StackFits room st

length_visits : (l : ℕ) (st : List Visit) (es : List Entry) (lo hi : ℕ) → length (child_visits l lo hi es ++ st) ≡ length es + length st
length_visits l st [] lo hi = omega arith
length_visits l st (e ∷ []) lo hi = omega arith
length_visits l st (e ∷ (d ∷ es)) lo hi = omega (arith, length_visits l st (d ∷ es) (suc e.key) hi)

fits_visits : (room l : ℕ) (st : List Visit) (es : List Entry) (lo hi : ℕ) → 1 ≤ l → 9 * l + length es + length st ≤ room → StackFits room st → StackFits room (child_visits l lo hi es ++ st)
fits_visits room l st [] lo hi p h f = f
fits_visits room l st (e ∷ []) lo hi p h f = (p, omega arith, f)
fits_visits room l st (e ∷ (d ∷ es)) lo hi p h f =
    (p, omega (arith, length_visits l st (d ∷ es) (suc e.key) hi), fits_visits room l st (d ∷ es) (suc e.key) hi p (omega arith) f)

-- one visit
pub fits_expand : (room l lo hi n : ℕ) (es : List Entry) (vs st : List Visit) → Expands l lo hi es n vs → length es ≤ 10 → 9 * l + suc (length st) ≤ room → StackFits room st → StackFits room (vs ++ st)
fits_expand room zero lo hi n es vs st o z h f = absurd o
fits_expand room (suc zero) lo hi n es vs st o z h f = subst (λ us. StackFits room (us ++ st)) (sym o.2) f
fits_expand room (suc (suc k)) lo hi n es vs st o z h f =
    subst (λ us. StackFits room (us ++ st)) (sym o.2) (fits_visits room (suc k) st es lo hi (omega arith) (omega arith) f)

pub fits_pass : (m : Contents) (limit room charge : ℕ) (marks : List ℕ) (v : Visit) (st : List Visit) (n : ℕ) (vs : List Visit) →
    StackFits room (v ∷ st) → Passes m limit charge marks v n vs → StackFits room (vs ++ st)
fits_pass m limit room charge marks v st n vs f p =
    fits_expand room v.at.level v.lo v.hi n (m v.at.page).entries vs st p.expands p.filled.0.1 f.1 f.2

pub fits_leads : (m : Contents) (limit room k : ℕ) (s t : ScanState) → StackFits room s.stack → Leads m limit k s t → StackFits room t.stack
fits_leads m limit room zero s t f h = subst (λ u. StackFits room u.stack) h f
fits_leads m limit room (suc k) s t f h =
    let v = h.0 in
    let st = h.1 in
    let g : StackFits room (v ∷ st) = subst (λ us. StackFits room us) h.4 f in
    fits_leads m limit room k (scan_state (s.charge - 1) (v.at.page ∷ s.marks) (h.3 ++ st) (s.sum + h.2)) t (fits_pass m limit room s.charge s.marks v st h.2 h.3 g h.5) h.6

-- the stack of a scan from a root at level h
pub fits_start : (height root top : ℕ) → StackFits (9 * height + 1) (start height root top)
fits_start zero root top = tt
fits_start (suc h) root top = (omega arith, omega arith, tt)

pub fits_length : (height : ℕ) (st : List Visit) → StackFits (9 * height + 1) st → length st ≤ 9 * (height - 1) + 1
fits_length height [] f = omega arith
fits_length height (v ∷ st) f = omega (arith, f.0, f.1)
