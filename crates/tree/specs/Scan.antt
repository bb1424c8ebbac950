-- The scan of an opening: depth first over the pages under a root, with a stack of visits. Each page passes rules A to E before the next is read,
-- and rule F is asked after the last.
use Rattle.std.specs.Prelude.{ℕ, zero, suc, ◌+◌, ◌-◌, Bool, true, false, cond, ◌&&◌, List, [], ◌∷◌, ◌++◌, length, ◌==◌, nat_le, nat_lt}
use Rattle.layout.specs.declared.entry.Entry.{Entry}
use Rattle.layout.specs.Content.{Content}
pub use Rattle.layout.specs.declared.visit.Visit.{Visit}
pub use Rattle.layout.specs.declared.visit.Rule.{Rule}
pub use Rattle.layout.specs.declared.visit.Rule.TheVariants.{A, B, C, D, E, F}
use Rattle.tree.specs.Tree.{Contents, counts}

abbrev pub visit : ℕ → ℕ → ℕ → ℕ → Visit
visit p level lo hi = record { at = record { page = p; level = level }; lo = lo; hi = hi }

-- How a scan ends. `accepted`: the pages read, the newest first; the sum of their counts; the charge left.
-- `refused`: the page, a rule that it breaks, the charge left. `uncharged`: the page that could not be read and its level; no charge is left.
-- `unfinished` is the end of the fuel, which never comes (see ScanLaws).
pub data Outcome : Type 0 where
  accepted : List ℕ → ℕ → ℕ → Outcome
  refused : ℕ → Rule → ℕ → Outcome
  uncharged : ℕ → ℕ → Outcome
  unfinished : Outcome

-- What comes of one visit: a rule is broken, there is no charge for the read, or the scan goes on,
-- with so much more in the sum and these visits on top of the stack.
pub data Turn : Type 0 where
  breaks : Rule → Turn
  unpaid : Turn
  onward : ℕ → List Visit → Turn

-- The rules as tests. (proofs/ScanTests says that each decides its rule.)
abbrev pub absent : ℕ → List ℕ → Bool
absent k [] = true
absent k (x ∷ xs) = cond (x == k) false (absent k xs)

-- A: the number is 2 to limit and was not reached before
unfoldable pub admits : ℕ → List ℕ → ℕ → Bool
admits limit marks p = (nat_le 2 p && nat_le p limit) && absent p marks

-- B: own number and level
unfoldable pub own : Content → Visit → Bool
own c v = c.number == v.at.page && c.level == v.at.level

-- C: 1 to 10 entries, and zeros where zeros belong
unfoldable pub filled : Content → Bool
filled c = (nat_le 1 (length c.entries) && nat_le (length c.entries) 10) && c.clean

-- D: the keys and counts of a leaf
abbrev pub leaf_keys : ℕ → ℕ → List Entry → Bool
leaf_keys lo hi [] = true
leaf_keys lo hi (e ∷ es) = ((nat_le lo e.key && nat_le e.key hi) && nat_le 1 e.value) && leaf_keys (suc e.key) hi es

-- E: the keys of an inner page
abbrev pub inner_keys : ℕ → ℕ → List Entry → Bool
inner_keys lo hi [] = false
inner_keys lo hi (e ∷ []) = e.key == 0
inner_keys lo hi (e ∷ (d ∷ es)) = (nat_le lo e.key && nat_lt e.key hi) && inner_keys (suc e.key) hi (d ∷ es)

-- the visits of an inner page's children, lower regions first: a child's region ends with its key, the last child's with the page's
abbrev pub child_visits : ℕ → ℕ → ℕ → List Entry → List Visit
child_visits level lo hi [] = []
child_visits level lo hi (e ∷ []) = visit e.value level lo hi ∷ []
child_visits level lo hi (e ∷ (d ∷ es)) = visit e.value level lo e.key ∷ child_visits level (suc e.key) hi (d ∷ es)

-- a page that kept B and C, by its level: a leaf adds its counts, an inner page brings its children. (No visit has level 0.)
unfoldable pub expand : ℕ → ℕ → ℕ → List Entry → Turn
expand zero lo hi es = breaks B
expand (suc zero) lo hi es = cond (leaf_keys lo hi es) (onward (counts es) []) (breaks D)
expand (suc (suc n)) lo hi es = cond (inner_keys lo hi es) (onward 0 (child_visits (suc n) lo hi es)) (breaks E)

-- a page that was read
unfoldable pub judged : Content → Visit → Turn
judged c v = cond (own c v) (cond (filled c) (expand v.at.level v.lo v.hi c.entries) (breaks C)) (breaks B)

-- a read takes one charge
abbrev pub charged : ℕ → Turn → Turn
charged zero t = unpaid
charged (suc charge) t = t

-- one turn: rule A, then the read, then what the page says
unfoldable pub turn : Contents → ℕ → ℕ → List ℕ → Visit → Turn
turn m limit charge marks v = cond (admits limit marks v.at.page) (charged charge (judged (m v.at.page) v)) (breaks A)

-- the charge left where a visit breaks a rule: A is asked before the read, the others after it
abbrev pub left_at : Rule → ℕ → ℕ
left_at A charge = charge
left_at B charge = charge - 1
left_at C charge = charge - 1
left_at D charge = charge - 1
left_at E charge = charge - 1
left_at F charge = charge

abbrev pub follow : ℕ → Visit → Turn → (ℕ → List Visit → Outcome) → Outcome
follow charge v (breaks r) next = refused v.at.page r (left_at r charge)
follow charge v unpaid next = uncharged v.at.page v.at.level
follow charge v (onward n vs) next = next n vs

-- The scan. `marks` has the pages read so far, `sum` their counts; the first number is the fuel: how many turns may be made.
unfoldable pub scan : ℕ → Contents → ℕ → ℕ → List ℕ → List Visit → ℕ → Outcome
scan zero m limit charge marks stack sum = unfinished
scan (suc fuel) m limit charge marks [] sum = accepted marks sum charge
scan (suc fuel) m limit charge marks (v ∷ stack) sum =
    follow charge v (turn m limit charge marks v) (λ n vs. scan fuel m limit (charge - 1) (v.at.page ∷ marks) (vs ++ stack) (sum + n))

-- the root's visit, over the region 0 to top; an empty tree (height 0) has none
abbrev pub start : ℕ → ℕ → ℕ → List Visit
start zero root top = []
start (suc h) root top = visit root (suc h) 0 top ∷ []

-- F, as a test: the counts sum to the total, and a tree with pages leaves 6 of the pages 2 to limit free
abbrev pub room : ℕ → List ℕ → Bool
room limit [] = true
room limit (p ∷ ps) = nat_le (length (p ∷ ps) + 7) limit

unfoldable pub concluded : ℕ → ℕ → Outcome → Outcome
concluded limit total (accepted seen sum left) = cond (sum == total && room limit seen) (accepted seen sum left) (refused 1 F left)
concluded limit total (refused p r left) = refused p r left
concluded limit total (uncharged p level) = uncharged p level
concluded limit total unfinished = unfinished

-- the opening of a tree, for a header with this height, root and total: the scan from the root, then rule F, named at page 1
unfoldable pub opened : Contents → ℕ → ℕ → ℕ → ℕ → ℕ → ℕ → Outcome
opened m limit charge height root total top = concluded limit total (scan (suc limit) m limit charge [] (start height root top) 0)
