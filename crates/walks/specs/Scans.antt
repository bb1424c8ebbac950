-- What the scan of an opening answers, told by the outcome of the theory's `opened`.
use Rattle.std.specs.Prelude.{◌≡◌, ℕ, ◌<◌, ◌≤◌, min, Bool, false, not, List, length, Ok, Err, Result, slice_index_or}
use Rattle.layout.specs.declared.header.Header.{Header}
use Rattle.pages.specs.Image.{Image, granted}
use Rattle.tree.specs.Tree.{limit_of}
use Rattle.tree.specs.Scan.{Outcome, accepted, refused, uncharged, absent, opened}
use Rattle.faults.specs.Accesses.{contents}
use Rattle.faults.specs.declared.fault.Fault.{Fault}
use Rattle.faults.specs.declared.fault.Fault.TheVariants.{Work, Unread, NoHeader, Unsound}
use Rattle.walks.specs.declared.scanning.Seen.{Seen}
use Rattle.walks.specs.Visits.{UnchargedAt}

-- the last page that is used: `limit`, but no page past the store's last or past 1,024
abbrev pub last_page : ℕ → ℕ → ℕ
last_page limit size = min limit (limit_of size)

-- the marks are those of the pages seen: all of these, and no others
abbrev pub Marked : List Bool → List ℕ → Type 0
Marked marks seen = (p : ℕ) → slice_index_or marks p false ≡ not (absent p seen)

-- An outcome that accepts: the pages are as they were, with the charge that it leaves; the sum of counts; the pages seen are marked.
abbrev pub Accepts : Outcome → Image → ℕ → List ℕ → Image → List Bool → Type 0
Accepts o m sum seen m' marks = ((left : ℕ) × (o ≡ accepted seen sum left) × (m' ≡ granted m left)) × Marked marks seen

-- An outcome that refuses, as a fault: the page and its rule, or the read that the charge did not carry. The pages are as they were.
abbrev pub Refuses : Outcome → Image → Fault → Image → Type 0
Refuses o m (Unsound p r) m' = (left : ℕ) × (o ≡ refused p r left) × (m' ≡ granted m left)
Refuses o m (Unread a) m' = (p : ℕ) × (level : ℕ) × (o ≡ uncharged p level) × UnchargedAt a p level × (m' ≡ granted m 0)
Refuses o m _ m' = ⊥

-- the scan of all pages, before the sums are asked
abbrev pub ScansPages : Outcome → Image → Result Seen Fault → Image → List Bool → Type 0
ScansPages o m (Ok s) m' marks = (seen : List ℕ) × (s.pages ≡ length seen) × Accepts o m s.sum seen m' marks
ScansPages o m (Err f) m' marks = Refuses o m f m'

-- the whole scan's answer tells the outcome o
abbrev pub Tells : Outcome → Image → ℕ → Result (Unit {0}) Fault → Image → List Bool → Type 0
Tells o m total (Ok u) m' marks = (seen : List ℕ) × Accepts o m total seen m' marks
Tells o m total (Err f) m' marks = Refuses o m f m'

-- which is that of the opening, for a header, over addresses up to top
abbrev pub TellsOpened : Image → ℕ → Header → ℕ → Result (Unit {0}) Fault → Image → List Bool → Type 0
TellsOpened m limit h top r m' marks =
    Tells (opened (contents m) (last_page limit (length m.pages)) m.charge h.height h.root h.total top) m h.total r m' marks

-- A scan of the memory m with `work` work records lent; m' and marks are after it. With fewer than 64 records, and then at a height above 6, no page
-- is read. Else the outcome of the opening tells the answer. After a refusal nothing is said of the marks.
abbrev pub Scans : Image → ℕ → Header → ℕ → ℕ → Result (Unit {0}) Fault → Image → List Bool → Type 0
Scans m limit h top work (Err Work) m' marks = (work < 64) × (m' ≡ m)
Scans m limit h top work (Err NoHeader) m' marks = (64 ≤ work) × (6 < h.height) × (m' ≡ m)
Scans m limit h top work r m' marks = (64 ≤ work) × (h.height ≤ 6) × TellsOpened m limit h top r m' marks
