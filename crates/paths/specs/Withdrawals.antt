-- Withdraw at a page of a level, on a store: for every memory, sound or not.
use Rattle.std.specs.Prelude.{◌≡◌, ℕ, ◌+◌, ◌≤◌, List, [], length, drop, None, Ok, Err, Result, ◌≢◌}
use Rattle.pages.specs.Image.{Image}
use Rattle.layout.specs.declared.entry.Entry.{Entry}
use Rattle.layout.specs.Edits.{found}
use Rattle.tree.specs.Tree.{Held}
use Rattle.tree.specs.CopyMoves.{Made}
use Rattle.tree.specs.CopyMemory.{place_left_at, withdraw_at, leaf_at}
use Rattle.faults.specs.declared.fault.Fault.{Fault}
use Rattle.faults.specs.declared.fault.Fault.TheVariants.{NoEvent}
use Rattle.faults.specs.Accesses.{contents}
use Rattle.paths.specs.declared.left.Left.{Left}
use Rattle.paths.specs.WithdrawEdits.{left_of}
use Rattle.paths.specs.PathsWrites.{after_reads, Wrote, Unwrites}
use Rattle.paths.specs.PathsReading.{Misread}

-- what the code gives is what is made of the free pages `free`, of which `used` were used before
pub record Gives (made : Made (Held ℕ)) (free : List ℕ) (used : ℕ) (g : Left) : Type 0 where
  pub part : left_of g.page ≡ made.part
  pub rest : drop g.trade.used free ≡ made.rest
  pub uses : g.trade.used ≡ used + length made.writes

-- one page written to the next free page, or none where no entry is left
abbrev pub Placed : Made (Held ℕ) → List ℕ → ℕ → Image → Result Left Fault → Image → Type 0
Placed made free used m (Ok g) m' = Gives made free used g × Wrote made.writes m m'
Placed made free used m (Err f) m' = Unwrites made.writes m f m'

abbrev pub PlacesLeft : Image → ℕ → List Entry → List ℕ → ℕ → Result Left Fault → Image → Type 0
PlacesLeft m level es free used r m' = Placed (place_left_at level es [] (drop used free)) free used m r m'

-- How a withdrawal at a page fails: the reading of the path stops; the leaf has no event at the address; a write is refused.
-- In the first two cases nothing is written.
pub data Refusal (m : Image) (l p a : ℕ) (free : List ℕ) (f : Fault) (m' : Image) : Type 0 where
  misread : Misread m l p a f m' → Refusal m l p a free f m'
  no_event : f ≡ NoEvent → l ≤ m.charge → found a (leaf_at l (contents m) p a) ≡ None → m' ≡ after_reads m l → Refusal m l p a free f m'
  unwrites : l ≤ m.charge → (found a (leaf_at l (contents m) p a) ≢ None) → Unwrites (withdraw_at l (contents m) p a free).writes (after_reads m l) f m' → Refusal m l p a free f m'

-- how it succeeds: what is left of the page, and all pages written
pub record Done (m : Image) (l p a : ℕ) (free : List ℕ) (g : Left) (m' : Image) : Type 0 where
  pub charged : l ≤ m.charge
  pub event : found a (leaf_at l (contents m) p a) ≡ None → ⊥
  pub gives : Gives (withdraw_at l (contents m) p a free) free 0 g
  pub wrote : Wrote (withdraw_at l (contents m) p a free).writes (after_reads m l) m'

abbrev pub Withdrawn : Image → ℕ → ℕ → ℕ → List ℕ → Result Left Fault → Image → Type 0
Withdrawn m l p a free (Ok g) m' = Done m l p a free g m'
Withdrawn m l p a free (Err f) m' = Refusal m l p a free f m'
