-- How lodge and withdraw change the tree: the path is copied to free pages, then the header is written, and only then are the
-- old path's pages free.
use Rattle.std.specs.Prelude.{◌≡◌, ℕ, ◌<◌, List, [], ◌∷◌, Ok, Err, Result}
use Rattle.pages.specs.Image.{Image, written}
use Rattle.layout.specs.Heads.{header_bytes}
use Rattle.orders.specs.Orders.{Order}
use Rattle.tree.specs.CopyMoves.{State as TreeState}
use Rattle.tree.specs.CopyLaws.{root_of}
use Rattle.faults.specs.declared.fault.Fault.{Fault}
use Rattle.index.specs.Model.{Answer, State, Known, state, refusal}
use Rattle.index.specs.Model.Answer.{accepted, refused}
use Rattle.index.specs.Model.Known.{knows}
use Rattle.index.specs.Keeping.{Content, Filed, header_for}
use Rattle.index.specs.Keeping.Content.{filed}

-- a tree on file with its free pages, and back, with so many events in all
abbrev pub tree_state : Filed → List ℕ → TreeState
tree_state f free = record { tree = f.tree; height = f.height; free = free }

abbrev pub file_of : TreeState → ℕ → Filed
file_of t total = record { tree = t.tree; height = t.height; total = total }

-- what an index knows that is open on it
abbrev pub known_of : TreeState → ℕ → Known
known_of t total = knows t.height (root_of t.tree) total t.free

-- From the state s and the tree f on file. `Copy r m` says what comes of the path copy: its result r, and the memory m after it;
-- t is the tree after a copy that was made, `total` its events.
pub data Changes {G : Type 0} (o : Order) (s : State) (f : Filed) (Copy : Result G Fault → Image → Type 0) (t : TreeState) (total : ℕ) (a : Answer) (u : State) (v : Content) : Type 0 where
  -- a question said no: the tree, the free pages and what the index knows stay
  copy_refused : (fault : Fault) (m : Image) → Copy (Err fault) m → a ≡ refusal fault → u ≡ state m s.known → v ≡ filed f → Changes o s f Copy t total a u v
  -- the copy is made, and the charge does not carry the header: they stay as well
  header_unpaid : (g : G) (m : Image) → Copy (Ok g) m → m.charge ≡ 0 → a ≡ refused 17 (1 ∷ 0 ∷ 2 ∷ []) → u ≡ state m s.known → v ≡ filed f → Changes o s f Copy t total a u v
  -- the header names the new tree
  changed : (g : G) (m : Image) → Copy (Ok g) m → 0 < m.charge → a ≡ accepted
      → u ≡ state (written m 1 (header_bytes (header_for o (file_of t total)))) (known_of t total) → v ≡ filed (file_of t total) → Changes o s f Copy t total a u v
