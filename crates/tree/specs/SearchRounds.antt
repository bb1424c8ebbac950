-- Search after search, each from the address at which the one before stopped.
use Rattle.std.specs.Prelude.{ℕ, zero, suc, Bool, true, false, List, [], ◌++◌, Some, None, Option}
use Rattle.layout.specs.declared.entry.Entry.{Entry}
use Rattle.tree.specs.SearchRuns.{Outcome, stopped_at}

-- all that was found, and whether the last search ended done
pub record Collected : Type 0 where
  pub found : List Entry
  pub ended : Bool

abbrev pub next_round : Outcome → Option ℕ → (ℕ → Collected) → Collected
next_round o None next = record { found = o.found; ended = true }
next_round o (Some a) next = record { found = o.found ++ (next a).found; ended = (next a).ended }

-- at most k searches, where `result s` is what comes of the search from s
abbrev pub rounds : (ℕ → Outcome) → ℕ → ℕ → Collected
rounds result zero start = record { found = []; ended = false }
rounds result (suc k) start = next_round (result start) (stopped_at (result start).ending) (λ a. rounds result k a)
