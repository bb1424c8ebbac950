-- Whole histories of calls on a store, each by the contract of the trait alone.
use Rattle.std.specs.Prelude.{◌≡◌, ℕ, cond, List, [], ◌∷◌, length, Ok, Err, Result, ◌==◌}
use Rattle.pages.specs.declared.fault.StoreFault.{StoreFault}
use Rattle.pages.specs.Image.{Image, Has, at, Reads, Writes, granted}

-- a call with its answer: a read of a page with what the lent page held before and after, a write of these bytes to a page, a grant
pub data Event : Type 0 where
  reads : ℕ → List ℕ → List ℕ → Result (Unit {0}) StoreFault → Event
  writes : ℕ → List ℕ → Result (Unit {0}) StoreFault → Event
  grants : ℕ → Event

-- what the contracts say of it
abbrev pub Goes : Image → Event → Image → Type 0
Goes m (reads p old new r) m' = Reads m p old r m' new
Goes m (writes p bytes r) m' = Writes m p bytes r m'
Goes m (grants c) m' = m' ≡ granted m c

-- a history, the newest event first, leads from one meaning to another
abbrev pub Leads : Image → List Event → Image → Type 0
Leads m [] m' = m' ≡ m
Leads m (e ∷ earlier) m' = (mid : Image) × Leads m earlier mid × Goes mid e m'

-- what the history last wrote to the page p, or else what stood there first
abbrev pub last : List Event → ℕ → List ℕ → List ℕ
last [] p first = first
last (reads _ _ _ _ ∷ earlier) p first = last earlier p first
last (grants _ ∷ earlier) p first = last earlier p first
last (writes q bytes (Ok _) ∷ earlier) p first = cond (q == p) bytes (last earlier p first)
last (writes q bytes (Err _) ∷ earlier) p first = last earlier p first

-- Every page of the store holds what was last written to it, and the store has the pages that it had: nothing else changed.
pub record Remembers (m : Image) (h : List Event) (m' : Image) : Type 0 where
  pub size : length m'.pages ≡ length m.pages
  pub page : (p : ℕ) → Has m p → at m' p ≡ last h p (at m p)

-- the law of a read: after any history, an accepted read gives what was last written to the page, and the store remembers as before
abbrev pub ReadsBack : Image → ℕ → Result (Unit {0}) StoreFault → Image → List ℕ → Type 0
ReadsBack m p (Ok _) m' new = (start : Image) (h : List Event) → Leads start h m → (new ≡ last h p (at start p)) × Remembers start h m'
ReadsBack m p (Err _) m' new = (start : Image) (h : List Event) → Leads start h m → Remembers start h m'
