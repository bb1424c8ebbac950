-- The rules that a scan asks, by their properties; the way of a scan, visit by visit; and what it is for trees to stand at the visits of a stack.
use Rattle.std.specs.Prelude.{◌≡◌, ℕ, zero, suc, ◌+◌, ◌-◌, ◌≤◌, List, [], ◌∷◌, ◌++◌}
use Rattle.layout.specs.declared.entry.Entry.{Entry}
use Rattle.layout.specs.Content.{Own, Filled as FilledPage, LeafKeys, InnerKeys}
use Rattle.tree.specs.Tree.{Node, Held, none, held, number, pages, events, counts, Contents, Level, Stands, Filled, Ordered, Absent, Sound}
use Rattle.tree.specs.Scan.{Visit, Rule, A, B, C, D, E, F, child_visits}

-- A at one number, where `marks` were reached before
abbrev pub Admitted : ℕ → List ℕ → ℕ → Type 0
Admitted limit marks p = ((2 ≤ p) × (p ≤ limit)) × Absent p marks

-- that a visit keeps a rule, by the letter; F is asked of no visit
abbrev pub Keeps : Contents → ℕ → List ℕ → Visit → Rule → Type 0
Keeps m limit marks v A = Admitted limit marks v.at.page
Keeps m limit marks v B = Own v.at.page v.at.level (m v.at.page)
Keeps m limit marks v C = FilledPage (m v.at.page)
Keeps m limit marks v D = v.at.level ≡ 1 → LeafKeys v.lo v.hi (m v.at.page).entries
Keeps m limit marks v E = 2 ≤ v.at.level → InnerKeys v.lo v.hi (m v.at.page).entries
Keeps m limit marks v F = Unit {0}

-- D or E by the level, and what the page brings: its counts, or the visits of its children
abbrev pub Expands : ℕ → ℕ → ℕ → List Entry → ℕ → List Visit → Type 0
Expands zero lo hi es n vs = ⊥
Expands (suc zero) lo hi es n vs = LeafKeys lo hi es × (n ≡ counts es) × (vs ≡ [])
Expands (suc (suc k)) lo hi es n vs = InnerKeys lo hi es × (n ≡ 0) × (vs ≡ child_visits (suc k) lo hi es)

-- a visit whose page is read and keeps every rule
pub record Passes (m : Contents) (limit charge : ℕ) (marks : List ℕ) (v : Visit) (n : ℕ) (vs : List Visit) : Type 0 where
  pub admitted : Admitted limit marks v.at.page
  pub paid : 1 ≤ charge
  pub own : Own v.at.page v.at.level (m v.at.page)
  pub filled : FilledPage (m v.at.page)
  pub expands : Expands v.at.level v.lo v.hi (m v.at.page).entries n vs

-- where a scan stands between two visits
pub record ScanState : Type 0 where
  pub charge : ℕ
  pub marks : List ℕ
  pub stack : List Visit
  pub sum : ℕ

abbrev pub scan_state : ℕ → List ℕ → List Visit → ℕ → ScanState
scan_state c ms st s = record { charge = c; marks = ms; stack = st; sum = s }

-- k visits lead from s to t, and each of them passed every rule: the way of a depth-first scan
abbrev pub Leads : Contents → ℕ → ℕ → ScanState → ScanState → Type 0
Leads m limit zero s t = s ≡ t
Leads m limit (suc k) s t =
    (v : Visit) × (st : List Visit) × (n : ℕ) × (vs : List Visit) × (s.stack ≡ v ∷ st) × Passes m limit s.charge s.marks v n vs
    × Leads m limit k (scan_state (s.charge - 1) (v.at.page ∷ s.marks) (vs ++ st) (s.sum + n)) t

-- from s, visits that all passed lead to the visit v, which comes next: with this charge left and these pages reached before
pub record Reaches (m : Contents) (limit : ℕ) (s : ScanState) (v : Visit) (charge : ℕ) (marks : List ℕ) : Type 0 where
  pub passed : ℕ
  pub others : List Visit
  pub sum : ℕ
  pub leads : Leads m limit passed s (scan_state charge marks (v ∷ others) sum)

-- rules B to E at every page of a tree whose root has this level and region
abbrev pub StandsAt : Contents → Node → ℕ → ℕ → ℕ → Type 0
StandsAt m t level lo hi = Level t level × Stands t m × Filled t × Ordered t lo hi

-- one tree to each visit of a stack, which stands there
abbrev pub StandAll : Contents → List Visit → List Node → Type 0
StandAll m [] [] = Unit {0}
StandAll m [] (t ∷ ts) = ⊥
StandAll m (v ∷ st) [] = ⊥
StandAll m (v ∷ st) (t ∷ ts) = (number t ≡ v.at.page) × StandsAt m t v.at.level v.lo v.hi × StandAll m st ts

-- the pages of a list of trees in visiting order, and the sum of their counts
abbrev pub pages_all : List Node → List ℕ
pages_all [] = []
pages_all (t ∷ ts) = pages t ++ pages_all ts

abbrev pub counts_all : List Node → ℕ
counts_all [] = 0
counts_all (t ∷ ts) = counts (events t) + counts_all ts

-- rule A over pages in visiting order: each is admitted after those before it
abbrev pub AdmittedAll : ℕ → List ℕ → List ℕ → Type 0
AdmittedAll limit marks [] = Unit {0}
AdmittedAll limit marks (p ∷ ps) = Admitted limit marks p × AdmittedAll limit (p ∷ marks) ps

-- the marks after these pages were marked in their order
abbrev pub marked : List ℕ → List ℕ → List ℕ
marked marks [] = marks
marked marks (p ∷ ps) = marked (p ∷ marks) ps

-- A tree that may be empty: what a header names. The empty tree has height 0 and total 0 (a header's root is then 0 too) and owes no free pages.
abbrev pub pages_held : Held Node → List ℕ
pages_held none = []
pages_held (held t) = pages t

abbrev pub events_held : Held Node → List Entry
events_held none = []
events_held (held t) = events t

abbrev pub SoundHeld : Contents → ℕ → ℕ → ℕ → ℕ → ℕ → Held Node → Type 0
SoundHeld m limit height root total top none = (height ≡ 0) × (total ≡ 0)
SoundHeld m limit height root total top (held t) = Sound m limit height root total top t
