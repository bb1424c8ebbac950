-- What every step does to the counts of points, to the pages and to page 1.
use Rattle.std.specs.Prelude.{◌≡◌, ℕ, suc, ◌+◌, ◌-◌, ◌≤◌, List, length, ◌≢◌}
use Rattle.std.specs.List.{AllByRecursion}
use Rattle.pages.specs.Image.{Image, Blank, at}
use Rattle.layout.specs.Content.{LeafKeys}
use Rattle.orders.specs.Orders.{Order, Lawful, InSpaceOf}
use Rattle.tree.specs.Tree.{Apart, counts}
use Rattle.tree.specs.CopyLaws.{events_of, pages_of, root_of, usable}
use Rattle.tree.specs.CopyWrites.{times}
use Rattle.index.specs.Model.{Call, Answer, State, Known, state, limit}
use Rattle.index.specs.Model.Call.{formats, opens, shuts, lodges, withdraws, tallies, searches, grants}
use Rattle.index.specs.Model.Answer.{accepted, refused, counted, found}
use Rattle.index.specs.Model.Known.{shut, knows}
use Rattle.index.specs.Keeping.{Content, Filed, Kept, top}
use Rattle.index.specs.Keeping.Content.{blank, filed}
use Rattle.index.specs.Steps.{Step}
use Rattle.index.specs.Histories.{held_in}

-- no other point of the space changes its count, and none at all
abbrev pub OthersStay : Order → Content → Content → List ℕ → Type 0
OthersStay o c v y = (x : List ℕ) → InSpaceOf o x → (x ≢ y) → held_in o v x ≡ held_in o c x

abbrev pub AllStay : Order → Content → Content → Type 0
AllStay o c v = (x : List ℕ) → held_in o v x ≡ held_in o c x

abbrev pub IfAccepted : Answer → Type 0 → Type 0 → Type 0
IfAccepted accepted Yes No = Yes
IfAccepted (refused n values) Yes No = No
IfAccepted (counted n) Yes No = No
IfAccepted (found xs n ending) Yes No = No

-- The counts, from what the memory held (c) to what it holds (v). An accepted format empties every point; an accepted lodge gives its
-- point, which is in the space, one event more; an accepted withdrawal takes one, and there was one. No other point changes. Every
-- other call, and every call that is refused, changes no count.
abbrev pub Counts : Order → Content → Content → Call → Answer → Type 0
Counts o c v formats a = IfAccepted a ((x : List ℕ) → held_in o v x ≡ 0) (AllStay o c v)
Counts o c v (lodges y) a = IfAccepted a (InSpaceOf o y × (held_in o v y ≡ suc (held_in o c y)) × OthersStay o c v y) (AllStay o c v)
Counts o c v (withdraws y) a = IfAccepted a (InSpaceOf o y × (suc (held_in o v y) ≡ held_in o c y) × OthersStay o c v y) (AllStay o c v)
Counts o c v (tallies y) a = AllStay o c v
Counts o c v (searches lo hi start room) a = AllStay o c v
Counts o c v (opens w) a = AllStay o c v
Counts o c v shuts a = AllStay o c v
Counts o c v (grants k) a = AllStay o c v

abbrev pub CountsLaw : Type 0
CountsLaw = (o : Order) → Lawful o → (s u : State) (a : Answer) (call : Call) (step : Step o s a u call) (c : Content) (kept : Kept o s c) →
    Counts o c (step.exact c kept).next call a

-- a tally that is answered by a number answers the count of its point, which is in the space
abbrev pub AnsweredLaw : Type 0
AnsweredLaw = (o : Order) (s u : State) (x : List ℕ) (n : ℕ) → Step o s (counted n) u (tallies x) → (c : Content) → Kept o s c → InSpaceOf o x × (n ≡ held_in o c x)

-- Tree pages and free pages, and the events.
pub record Accounted (o : Order) (l : ℕ) (f : Filed) (free : List ℕ) : Type 0 where
  -- together they are the pages 2 to L, each once, and number L - 1
  pub once : (p : ℕ) → times p (pages_of f.tree) + times p free ≡ times p (usable l)
  pub number : length (pages_of f.tree) + length free ≡ l - 1
  pub range : AllByRecursion (λ p. (2 ≤ p) × (p ≤ l)) (pages_of f.tree) × AllByRecursion (λ p. (2 ≤ p) × (p ≤ l)) free
  pub apart : Apart free
  -- a tree with pages leaves six free
  pub six : 1 ≤ length (pages_of f.tree) → 6 ≤ length free
  -- the events' addresses rise strictly from 0 to the greatest, each has a count of 1 at least, and the counts sum to the total
  pub rising : LeafKeys 0 (top o) (events_of f.tree)
  pub sum : counts (events_of f.tree) ≡ f.total

-- an open index has a tree on file, knows its height, root and total, and accounts for its pages
abbrev pub Accounts : Order → ℕ → Content → Known → Type 0
Accounts o l c shut = Unit {0}
Accounts o l blank (knows height root total free) = ⊥
Accounts o l (filed f) (knows height root total free) = (height ≡ f.height) × (root ≡ root_of f.tree) × (total ≡ f.total) × Accounted o l f free

-- in every kept state; so after every step
abbrev pub AccountsLaw : Type 0
AccountsLaw = (o : Order) (s : State) (c : Content) → Kept o s c → Accounts o (limit s.image) c s.known

abbrev pub StepAccountsLaw : Type 0
StepAccountsLaw = (o : Order) (s u : State) (a : Answer) (call : Call) (step : Step o s a u call) (c : Content) (kept : Kept o s c) →
    Accounts o (limit u.image) (step.exact c kept).next u.known

-- a refused opening leaves the index shut; after any other refusal it knows what it knew
abbrev pub KnowsAfter : Call → Known → Known → Type 0
KnowsAfter (opens w) before now = now ≡ shut
KnowsAfter formats before now = now ≡ before
KnowsAfter shuts before now = now ≡ before
KnowsAfter (lodges x) before now = now ≡ before
KnowsAfter (withdraws x) before now = now ≡ before
KnowsAfter (tallies x) before now = now ≡ before
KnowsAfter (searches lo hi start room) before now = now ≡ before
KnowsAfter (grants n) before now = now ≡ before

-- a refused call leaves the same tree standing under page 1, and page 1 as it was
abbrev pub RefusedLaw : Type 0
RefusedLaw = (o : Order) (s u : State) (number : ℕ) (values : List ℕ) (call : Call) (step : Step o s (refused number values) u call) (c : Content) (kept : Kept o s c) →
    ((step.exact c kept).next ≡ c) × (at u.image 1 ≡ at s.image 1) × KnowsAfter call s.known u.known

-- an index over factory-blank memory, as it is made, is kept: no tree is on file
abbrev pub BlankLaw : Type 0
BlankLaw = (o : Order) (m : Image) → Blank m → Kept o (state m shut) blank
