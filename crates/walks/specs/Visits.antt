-- What comes of one visit, and what it does to the visits to come.
use Rattle.std.specs.Prelude.{◌≡◌, ℕ, ◌<◌, ◌≤◌, List, ◌++◌, Ok, Err, Result}
use Rattle.layout.specs.Content.{Content}
use Rattle.pages.specs.Image.{Image, Lacks, spent}
use Rattle.pages.specs.declared.fault.StoreFault.TheVariants.{Uncharged}
use Rattle.layout.specs.declared.visit.Visit.{Visit}
use Rattle.layout.specs.declared.visit.Rule.{Rule}
use Rattle.layout.specs.declared.visit.Rule.TheVariants.{A, B, C, D, E, F}
use Rattle.tree.specs.Scan.{judged, breaks, onward}
use Rattle.faults.specs.Accesses.{contents}
use Rattle.faults.specs.declared.fault.Access.{Access}
use Rattle.faults.specs.declared.fault.Fault.{Fault}
use Rattle.faults.specs.declared.fault.Fault.TheVariants.{Absent, Unread, Unsound}

-- a rule that one page can show by itself
abbrev pub OfPage : Rule → Type 0
OfPage A = ⊥
OfPage B = Unit {0}
OfPage C = Unit {0}
OfPage D = Unit {0}
OfPage E = Unit {0}
OfPage F = ⊥

-- A page that says c, asked for a visit with `stack` to come after it. It keeps its rules: it adds n (ten counts of 65,535 at most), and its
-- visits come before the others. It breaks one of B to E: nothing changes.
abbrev pub Judges : Content → Visit → List Visit → Result ℕ Rule → List Visit → Type 0
Judges c v stack (Ok n) stack' = ((vs : List Visit) × (judged c v ≡ onward n vs) × (stack' ≡ vs ++ stack)) × (n ≤ 655350)
Judges c v stack (Err r) stack' = (judged c v ≡ breaks r) × OfPage r × (stack' ≡ stack)

-- the page, its level and the fault of a read that the charge does not carry
abbrev pub UnchargedAt : Access → ℕ → ℕ → Type 0
UnchargedAt a p level = (a.at.page ≡ p) × (a.at.level ≡ level) × (a.fault ≡ Uncharged)

-- The visit of a page in the memory m, which is m' after it: one charge less where the page was read.
abbrev pub Visits : Image → Visit → List Visit → Result ℕ Fault → Image → List Visit → Type 0
Visits m v stack (Ok n) m' stack' = (0 < m.charge) × (m' ≡ spent m) × Judges (contents m v.at.page) v stack (Ok n) stack'
Visits m v stack (Err (Unsound p r)) m' stack' = (0 < m.charge) × (m' ≡ spent m) × (p ≡ v.at.page) × Judges (contents m v.at.page) v stack (Err r) stack'
Visits m v stack (Err (Unread a)) m' stack' = (m.charge ≡ 0) × (m' ≡ m) × UnchargedAt a v.at.page v.at.level
Visits m v stack (Err (Absent a)) m' stack' = Lacks m v.at.page × (m' ≡ m)
Visits m v stack (Err _) m' stack' = ⊥
