-- What code that walks the tree for a search uses: the walk of one page, the loop over its children, the loop over a leaf's entries.
-- `ask` gives first addresses, P tests addresses, `next` is the next address; the region of the page ends at hi.
use Rattle.std.specs.Prelude.{◌≡◌, ℕ, suc, ◌+◌, ◌-◌, ◌<◌, ◌≤◌, Bool, true, false, List, [], ◌∷◌, ◌++◌, length, get_or, take, Some, Option, ◌≢◌, slice_index_or}
use Rattle.std.specs.List.{AllByRecursion}
use Rattle.layout.specs.declared.entry.Entry.{Entry}
use Rattle.tree.specs.Tree.{Node, Forest, number, pages, pages_in, child_entries, Level, LevelIn, Contents, Stands, StandsIn}
use Rattle.tree.specs.SearchSteps.{find_steps}
use Rattle.tree.specs.Tree.Node.{leaf, inner}
use Rattle.tree.specs.SearchRuns.{Outcome, outcome, run, add_read, after}
use Rattle.tree.specs.SearchRuns.Ending.{done, more, cut}
use Rattle.tree.specs.SearchWalks.{walk, walk_in}
use Rattle.tree.specs.SearchLoops.{Child, children, walk_child, walk_children}
use Rattle.tree.specs.SearchLimits.{Agrees}

-- A page is passed by, or cannot be read, or is read for an address a;
-- then a leaf's entries are searched, or an inner page's children are walked.
abbrev pub PassLaw : Type 0
PassLaw = (ask : ℕ → Option ℕ) (P : ℕ → Bool) (n : Node) (hi : ℕ) (next : Option ℕ) (charge room : ℕ) → ((a : ℕ) → next ≡ Some a → hi < a) →
    Agrees (outcome [] done 0) next (walk ask P n hi next) charge room

abbrev pub UnpaidLaw : Type 0
UnpaidLaw = (ask : ℕ → Option ℕ) (P : ℕ → Bool) (n : Node) (hi a : ℕ) (next : Option ℕ) (room : ℕ) → a ≤ hi →
    Agrees (outcome [] (cut (number n) a) 0) next (walk ask P n hi (Some a)) 0 room

abbrev pub LeafLaw : Type 0
LeafLaw = (ask : ℕ → Option ℕ) (P : ℕ → Bool) (page : ℕ) (es : List Entry) (hi a : ℕ) (next : Option ℕ) (charge less room : ℕ) → a ≤ hi → charge ≡ suc less →
    ((run (find_steps P es) less room).ending ≡ done → next ≡ ask (suc hi)) →
    Agrees (add_read (run (find_steps P es) less room)) next (walk ask P (leaf page es) hi (Some a)) charge room

abbrev pub InnerLaw : Type 0
InnerLaw = (ask : ℕ → Option ℕ) (P : ℕ → Bool) (page : ℕ) (f : Forest) (hi a : ℕ) (o : Outcome) (next : Option ℕ) (charge less room : ℕ) → a ≤ hi → charge ≡ suc less →
    Agrees o next (walk_in ask P f hi (Some a)) less room → Agrees (add_read o) next (walk ask P (inner page f) hi (Some a)) charge room

-- child j of an inner page is what entry j of the page names, and what holds of all children holds of it
abbrev pub ChildLaw : Type 0
ChildLaw = (f : Forest) (hi j : ℕ) (d : Child) (e : Entry) → j < length (child_entries f) →
    (length (children f hi) ≡ length (child_entries f)) ×
    ((get_or (child_entries f) j e).value ≡ number (get_or (children f hi) j d).node) ×
    (j + 1 < length (child_entries f) → (get_or (children f hi) j d).end ≡ (get_or (child_entries f) j e).key) ×
    (j + 1 ≡ length (child_entries f) → (get_or (children f hi) j d).end ≡ hi) ×
    ((h : ℕ) → LevelIn f h → Level (get_or (children f hi) j d).node h) ×
    ((m : Contents) → StandsIn f m → Stands (get_or (children f hi) j d).node m) ×
    ((limit : ℕ) → AllByRecursion (λ p. (2 ≤ p) × (p ≤ limit)) (pages_in f) → AllByRecursion (λ p. (2 ≤ p) × (p ≤ limit)) (pages (get_or (children f hi) j d).node))

-- the loop over the children: its beginning, a turn, in which child j is walked after all before it ended done, its end, and a return before the end
abbrev pub LoopBeginLaw : Type 0
LoopBeginLaw = (ask : ℕ → Option ℕ) (P : ℕ → Bool) (xs : List Child) (next : Option ℕ) (charge room : ℕ) →
    Agrees (outcome [] done 0) next (walk_children ask P (take 0 xs) next) charge room

abbrev pub LoopTurnLaw : Type 0
LoopTurnLaw = (ask : ℕ → Option ℕ) (P : ℕ → Bool) (xs : List Child) (j : ℕ) (d : Child) (next : Option ℕ) (charge room : ℕ) (o p : Outcome) (after-o after-p : Option ℕ) →
    j < length xs → Agrees o after-o (walk_children ask P (take j xs) next) charge room → o.ending ≡ done →
    Agrees p after-p (walk_child ask P (slice_index_or xs j d) after-o) (charge - o.reads) (room - length o.found) →
    Agrees (after o p) after-p (walk_children ask P (take (j + 1) xs) next) charge room

abbrev pub LoopEndLaw : Type 0
LoopEndLaw = (ask : ℕ → Option ℕ) (P : ℕ → Bool) (f : Forest) (hi j : ℕ) (next : Option ℕ) (charge room : ℕ) (o : Outcome) (after-o : Option ℕ) →
    length (children f hi) ≤ j → Agrees o after-o (walk_children ask P (take j (children f hi)) next) charge room → Agrees o after-o (walk_in ask P f hi next) charge room

abbrev pub LoopEarlyLaw : Type 0
LoopEarlyLaw = (ask : ℕ → Option ℕ) (P : ℕ → Bool) (f : Forest) (hi j : ℕ) (next : Option ℕ) (charge room : ℕ) (o : Outcome) (after-o : Option ℕ) →
    (o.ending ≢ done) → Agrees o after-o (walk_children ask P (take j (children f hi)) next) charge room → Agrees o after-o (walk_in ask P f hi next) charge room

-- the loop over a leaf's entries: entry i is passed by, or put to the finds, or ends it where there is no room
abbrev pub EntryLaw : Type 0
EntryLaw = (P : ℕ → Bool) (es : List Entry) (i : ℕ) (d : Entry) (charge room : ℕ) (found : List Entry) → i < length es →
    run (find_steps P (take i es)) charge room ≡ outcome found done 0 →
    (P (get_or es i d).key ≡ false → run (find_steps P (take (i + 1) es)) charge room ≡ outcome found done 0) ×
    (P (get_or es i d).key ≡ true → length found < room → run (find_steps P (take (i + 1) es)) charge room ≡ outcome (found ++ slice_index_or es i d ∷ []) done 0) ×
    (P (get_or es i d).key ≡ true → room ≤ length found → run (find_steps P es) charge room ≡ outcome found (more (get_or es i d).key) 0)
