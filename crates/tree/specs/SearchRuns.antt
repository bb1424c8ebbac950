-- What comes of steps with a charge (the reads that are paid for) and room for finds.
use Rattle.std.specs.Prelude.{ℕ, zero, suc, ◌+◌, Bool, List, [], ◌∷◌, ◌++◌, length, Some, None, Option}
use Rattle.layout.specs.declared.entry.Entry.{Entry}
use Rattle.tree.specs.Tree.{Node}
use Rattle.tree.specs.SearchSteps.{Step, search_steps, pages_read, found_of}
use Rattle.tree.specs.SearchSteps.Step.{reads, finds}

-- done; or more, with the address of the first event without room; or cut, with the page that could not be read for want of charge
-- and the address that it was to be read for
pub data Ending : Type 0 where
  done : Ending
  more : ℕ → Ending
  cut : ℕ → ℕ → Ending

-- the address from which it is to be resumed
abbrev pub stopped_at : Ending → Option ℕ
stopped_at done = None
stopped_at (more a) = Some a
stopped_at (cut page a) = Some a

-- what was found, how it ended, and how many reads were made
pub record Outcome : Type 0 where
  pub found : List Entry
  pub ending : Ending
  pub reads : ℕ

abbrev pub outcome : List Entry → Ending → ℕ → Outcome
outcome found ending reads_made = record { found = found; ending = ending; reads = reads_made }

abbrev pub add_find : Entry → Outcome → Outcome
add_find e o = outcome (e ∷ o.found) o.ending o.reads

abbrev pub add_read : Outcome → Outcome
add_read o = outcome o.found o.ending (suc o.reads)

-- a read without charge ends it cut, a find without room ends it more
abbrev pub run : List Step → ℕ → ℕ → Outcome
run [] charge room = outcome [] done 0
run (reads page a ∷ ss) zero room = outcome [] (cut page a) 0
run (reads page a ∷ ss) (suc charge) room = add_read (run ss charge room)
run (finds e ∷ ss) charge zero = outcome [] (more e.key) 0
run (finds e ∷ ss) charge (suc room) = add_find e (run ss charge room)

-- what comes of a search of a box from start on, in a tree whose region is lo to hi
abbrev pub search_run : (ℕ → Bool) → ℕ → Node → ℕ → ℕ → ℕ → ℕ → Outcome
search_run inside start n lo hi charge room = run (search_steps inside start n lo hi) charge room

abbrev pub read_count : List Step → ℕ
read_count ss = length (pages_read ss)

-- every step made
abbrev pub whole : List Step → Outcome
whole ss = outcome (found_of ss) done (read_count ss)

-- one run and another behind it
abbrev pub after : Outcome → Outcome → Outcome
after o p = outcome (o.found ++ p.found) p.ending (o.reads + p.reads)

-- the second comes to pass only where the first ended done
abbrev pub and_then : Ending → Outcome → Outcome → Outcome
and_then done o p = after o p
and_then (more a) o p = o
and_then (cut page a) o p = o

-- the read that a cut could not pay
abbrev pub unpaid : Ending → ℕ
unpaid done = 0
unpaid (more a) = 0
unpaid (cut page a) = 1
