-- One page of a path, read or written.
use Rattle.std.specs.Prelude.{◌≡◌, ℕ, ◌<◌, ◌≤◌, List, [], ◌∷◌, length, Ok, Err, Result}
use Rattle.pages.specs.Image.{Image, Has, spent}
use Rattle.layout.specs.declared.entry.Entry.{Entry}
use Rattle.layout.specs.Content.{Own, page}
use Rattle.layout.specs.declared.visit.Rule.{Rule}
use Rattle.layout.specs.declared.visit.Rule.TheVariants.{A, B, C, D, E, F}
use Rattle.tree.specs.Tree.{Contents}
use Rattle.tree.specs.CopyWrites.{Write}
use Rattle.faults.specs.declared.fault.Access.{Access}
use Rattle.faults.specs.declared.fault.Fault.{Fault}
use Rattle.faults.specs.declared.fault.Fault.TheVariants.{Unsound}
use Rattle.faults.specs.Refusals.{unread}
use Rattle.faults.specs.Accesses.{contents}
use Rattle.paths.specs.PathsWrites.{Refuses, Wrote, Unwrites}

-- the rule that a page breaks for a reader who expects this level: B, it has another number or level; C, it has no entry
abbrev pub Breaks : Contents → ℕ → ℕ → Rule → Type 0
Breaks m p level A = ⊥
Breaks m p level B = Own p level (m p) → ⊥
Breaks m p level C = Own p level (m p) × ((m p).entries ≡ [])
Breaks m p level D = ⊥
Breaks m p level E = ⊥
Breaks m p level F = ⊥

-- a page that was read
pub record Read (m : Image) (p level : ℕ) (es : List Entry) (m' : Image) : Type 0 where
  pub has : Has m p
  pub charged : 0 < m.charge
  pub own : Own p level (contents m p)
  pub holds : es ≡ (contents m p).entries
  pub some : 1 ≤ length es
  pub few : length es ≤ 10
  pub spends : m' ≡ spent m

-- a page that was not: the store refuses, or the page breaks a rule
pub data UnreadPage (m : Image) (p level : ℕ) (f : Fault) (m' : Image) : Type 0 where
  refused : (x : Access) → f ≡ unread x → x.at.page ≡ p → x.at.level ≡ level → Refuses m p x.fault → m' ≡ m → UnreadPage m p level f m'
  broken : (r : Rule) → f ≡ Unsound p r → 0 < m.charge → Breaks (contents m) p level r → m' ≡ spent m → UnreadPage m p level f m'

abbrev pub ReadsPage : Image → ℕ → ℕ → Result (Unit {0}) Fault → List Entry → Image → Type 0
ReadsPage m p level (Ok u) es m' = Read m p level es m'
ReadsPage m p level (Err f) es m' = UnreadPage m p level f m'

-- a page written with these entries
abbrev pub write_of : ℕ → ℕ → List Entry → Write
write_of level p es = record { page = p; says = page level p es }

abbrev pub WritesPage : Image → ℕ → ℕ → List Entry → Result (Unit {0}) Fault → Image → Type 0
WritesPage m level p es (Ok u) m' = Wrote (write_of level p es ∷ []) m m'
WritesPage m level p es (Err f) m' = Unwrites (write_of level p es ∷ []) m f m'
