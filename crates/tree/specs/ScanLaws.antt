-- What holds of the scan of an opening: statements only, each the contract of a function in src/scan_laws.rt.
-- In all of them m is what the pages say, limit the last page that a tree may use, charge the reads that may be made;
-- height, root and total are the header's, and top is the end of the root's region.
use Rattle.std.specs.Prelude.{◌≡◌, ℕ, ◌+◌, ◌-◌, ◌*◌, ◌<◌, ◌≤◌, cond, ◌⊎◌, List, [], ◌∷◌, length, ◌==◌, ◌≢◌, slice_index}
use Rattle.layout.specs.declared.entry.Entry.{Entry}
use Rattle.layout.specs.Content.{page}
use Rattle.tree.specs.Tree.{Node, Held, counts, Contents}
use Rattle.tree.specs.Scan.{Visit, Rule, A, D, F, accepted, refused, uncharged, unfinished, left_at, start, opened}
use Rattle.tree.specs.ScanRules.{Admitted, Keeps, ScanState, scan_state, Leads, Reaches, StandAll, pages_all, counts_all, AdmittedAll, marked, pages_held, events_held, SoundHeld}

-- where a scan begins
abbrev pub begin : ℕ → ℕ → ℕ → ℕ → ScanState
begin charge height root top = scan_state charge [] (start height root top) 0

-- F: the counts sum to the total, and where there are pages, 6 of the pages 2 to limit are left free
abbrev pub SumsHold : ℕ → ℕ → List Node → Type 0
SumsHold limit total ts = (counts_all ts ≡ total) × (1 ≤ length (pages_all ts) → length (pages_all ts) + 7 ≤ limit)

-- what is accepted is a sound tree, or the empty one: the pages read are its pages in visiting order, once each, and the charge falls by their number
abbrev pub AcceptedIsSound : Type 0
AcceptedIsSound = (m : Contents) (limit charge height root total top : ℕ) (seen : List ℕ) (sum left : ℕ) →
    opened m limit charge height root total top ≡ accepted seen sum left →
    (t : Held Node) × SoundHeld m limit height root total top t × (seen ≡ marked [] (pages_held t)) × (sum ≡ counts (events_held t))
    × (charge ≡ left + length (pages_held t))

-- and a sound tree is accepted, with a charge for each of its pages
abbrev pub SoundIsAccepted : Type 0
SoundIsAccepted = (m : Contents) (limit charge height root total top : ℕ) (t : Held Node) →
    SoundHeld m limit height root total top t → length (pages_held t) ≤ charge →
    opened m limit charge height root total top ≡ accepted (marked [] (pages_held t)) (counts (events_held t)) (charge - length (pages_held t))

-- a refusal by A to E names the first visit in visiting order that breaks a rule, and a rule that it breaks; all before it passed.
-- A is asked before the page is read; B to E after an admitted page was read, which took one charge.
-- F names page 1: all pages passed, and sums or room are wrong.
abbrev pub RefusedAtFirstUnsound : Type 0
RefusedAtFirstUnsound = (m : Contents) (limit charge height root total top p : ℕ) (r : Rule) (left : ℕ) →
    opened m limit charge height root total top ≡ refused p r left →
    ((v : Visit) × (charge' : ℕ) × (marks : List ℕ) × Reaches m limit (begin charge height root top) v charge' marks
    × (v.at.page ≡ p) × (Keeps m limit marks v r → ⊥) × ((r ≡ A) ⊎ (Admitted limit marks p × (1 ≤ charge'))) × (left ≡ left_at r charge'))
    ⊎ ((r ≡ F) × (p ≡ 1) × (ts : List Node) × StandAll m (start height root top) ts × AdmittedAll limit [] (pages_all ts)
    × (charge ≡ left + length (pages_all ts)) × (SumsHold limit total ts → ⊥))

-- the first visit that breaks a rule is refused, where its read is paid for or A is broken
abbrev pub FirstUnsoundIsRefused : Type 0
FirstUnsoundIsRefused = (m : Contents) (limit charge height root total top : ℕ) (v : Visit) (charge' : ℕ) (marks : List ℕ) (r : Rule) →
    Reaches m limit (begin charge height root top) v charge' marks → (Keeps m limit marks v r → ⊥) → (Admitted limit marks v.at.page → 1 ≤ charge') →
    (x : Rule) × (opened m limit charge height root total top ≡ refused v.at.page x (left_at x charge'))

-- where all pages pass, but sums or room are wrong, F is refused at page 1 after the last read
abbrev pub WrongSumsAreRefused : Type 0
WrongSumsAreRefused = (m : Contents) (limit charge height root total top : ℕ) (ts : List Node) →
    StandAll m (start height root top) ts → AdmittedAll limit [] (pages_all ts) → length (pages_all ts) ≤ charge → (SumsHold limit total ts → ⊥) →
    opened m limit charge height root total top ≡ refused 1 F (charge - length (pages_all ts))

-- where something is refused no sound tree stands, with any charge
abbrev pub RefusedIsUnsound : Type 0
RefusedIsUnsound = (m : Contents) (limit charge height root total top p : ℕ) (r : Rule) (left : ℕ) →
    opened m limit charge height root total top ≡ refused p r left → (t : Held Node) → SoundHeld m limit height root total top t → ⊥

-- with too little charge the scan ends at the first page that could not be read, with its level; all before it passed, and A admits it
abbrev pub UnchargedAtPage : Type 0
UnchargedAtPage = (m : Contents) (limit charge height root total top p level : ℕ) →
    opened m limit charge height root total top ≡ uncharged p level →
    (v : Visit) × (marks : List ℕ) × Reaches m limit (begin charge height root top) v 0 marks
    × (v.at.page ≡ p) × (v.at.level ≡ level) × Admitted limit marks p

-- then a sound tree, if there is one, has more pages than the charge
abbrev pub UnchargedIsShort : Type 0
UnchargedIsShort = (m : Contents) (limit charge height root total top p level : ℕ) →
    opened m limit charge height root total top ≡ uncharged p level → (t : Held Node) → SoundHeld m limit height root total top t → charge < length (pages_held t)

-- with a charge below a sound tree's pages, it ends at the page whose place in visiting order (from 0) is the charge
abbrev pub ShortIsUncharged : Type 0
ShortIsUncharged = (m : Contents) (limit charge height root total top : ℕ) (t : Held Node) →
    SoundHeld m limit height root total top t → charge < length (pages_held t) →
    (level : ℕ) × (opened m limit charge height root total top ≡ uncharged (slice_index (pages_held t) charge) level)

-- a charge for each page that may be used is enough for every memory
abbrev pub ChargeSuffices : Type 0
ChargeSuffices = (m : Contents) (limit charge height root total top p level : ℕ) → limit ≤ charge → opened m limit charge height root total top ≢ uncharged p level

-- a stack never holds more than 9 visits for each level below the root, and one; up to height 6, the 64 records suffice
abbrev pub StackSuffices : Type 0
StackSuffices = (m : Contents) (limit charge height root top k : ℕ) (s : ScanState) → Leads m limit k (begin charge height root top) s →
    (length s.stack ≤ 9 * (height - 1) + 1) × (height ≤ 6 → length s.stack ≤ 64)

-- the scan ends: its fuel is never used up
abbrev pub ScanEnds : Type 0
ScanEnds = (m : Contents) (limit charge height root total top : ℕ) → opened m limit charge height root total top ≢ unfinished

-- each visit that passes takes one charge and marks one page
abbrev pub EachReadIsPaid : Type 0
EachReadIsPaid = (m : Contents) (limit k : ℕ) (s t : ScanState) → Leads m limit k s t → (s.charge ≡ t.charge + k) × (length t.marks ≡ length s.marks + k)

-- at most one sound tree stands for a header
abbrev pub OneSoundTree : Type 0
OneSoundTree = (m : Contents) (limit height root total top : ℕ) (t u : Held Node) →
    SoundHeld m limit height root total top t → SoundHeld m limit height root total top u → t ≡ u

-- An example: a root, page 2, over two leaves, pages 3 and `second`; page 4 has one event, with `count`.
abbrev pub entry : ℕ → ℕ → Entry
entry k v = record { key = k; value = v }

abbrev pub two_leaves : ℕ → ℕ → Contents
two_leaves second count p =
    cond (p == 2) (page 2 2 (entry 100 3 ∷ entry 0 second ∷ [])) (cond (p == 3) (page 1 3 (entry 7 1 ∷ entry 9 5 ∷ [])) (page 1 4 (entry 150 count ∷ [])))

-- It opens on 20 pages, and two of five charges are left. A wrong count, another total, or too few free pages are refused by F at page 1;
-- a page reached twice by A, with one charge more left; a key past the region by D. With a charge of 2 page 4, at level 1, is not read.
-- An empty tree opens on one page and without charge.
pub record ScanExample : Type 0 where
  pub opens : opened (two_leaves 4 2) 20 5 2 2 8 1000 ≡ accepted (4 ∷ 3 ∷ 2 ∷ []) 8 2
  pub count : opened (two_leaves 4 3) 20 5 2 2 8 1000 ≡ refused 1 F 2
  pub total : opened (two_leaves 4 2) 20 5 2 2 9 1000 ≡ refused 1 F 2
  pub room : opened (two_leaves 4 2) 9 5 2 2 8 1000 ≡ refused 1 F 2
  pub twice : opened (two_leaves 3 2) 20 5 2 2 8 1000 ≡ refused 3 A 3
  pub region : opened (two_leaves 4 2) 20 5 2 2 8 120 ≡ refused 4 D 2
  pub charge : opened (two_leaves 4 2) 20 2 2 2 8 1000 ≡ uncharged 4 1
  pub empty : opened (two_leaves 4 2) 1 0 0 0 0 1000 ≡ accepted [] 0 0
