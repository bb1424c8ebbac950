-- The index from outside: its calls, its answers, and what it is at a moment.
use Rattle.std.specs.Prelude.{ℕ, min, List, length, take, Ok, Err, Result}
use Rattle.pages.specs.Image.{Image}
use Rattle.faults.specs.declared.fault.Fault.{Fault}
use Rattle.faults.specs.Refusals.{number_of, values_of}
use Rattle.tree.specs.SearchRuns.{Ending}
use Rattle.searches.specs.declared.find.Find.{Find}
use Rattle.searches.specs.declared.find.Found.{Found}
use Rattle.searches.specs.Finds.{ending_of}

-- The calls. Lodge records one event at a point, withdraw takes one back, tally asks how many there are,
-- search finds the events of a box, grant sets the store's charge. A point is its four coordinates; an opening is lent so many work records; a search has
-- the low and the high end of a box, the address from which it searches, and memory for so many finds.
pub data Call : Type 0 where
  formats : Call
  opens : ℕ → Call
  shuts : Call
  lodges : List ℕ → Call
  withdraws : List ℕ → Call
  tallies : List ℕ → Call
  searches : List ℕ → List ℕ → ℕ → ℕ → Call
  grants : ℕ → Call

-- A call is accepted, or refused with a number and the values that go with it; a tally is answered by a count, a search by its finds, the number of
-- pages that it read, and how it ended.
pub data Answer : Type 0 where
  accepted : Answer
  refused : ℕ → List ℕ → Answer
  counted : ℕ → Answer
  found : List Find → ℕ → Ending → Answer

-- the number and the values of a refusal, case by case in Refusals
abbrev pub refusal : Fault → Answer
refusal f = refused (number_of f) (values_of f)

abbrev pub told : Result (Unit {0}) Fault → Answer
told (Ok u) = accepted
told (Err f) = refusal f

abbrev pub told_count : Result ℕ Fault → Answer
told_count (Ok n) = counted n
told_count (Err f) = refusal f

-- the finds of a search are the first records of the memory lent to it
abbrev pub told_found : Result Found Fault → List Find → Answer
told_found (Ok r) memory = found (take r.count memory) r.reads (ending_of r.ending)
told_found (Err f) memory = refusal f

-- What an index knows: nothing while it is shut; while it is open, the tree's height, root and total of events,
-- and the free pages, front first.
pub data Known : Type 0 where
  shut : Known
  knows : ℕ → ℕ → ℕ → List ℕ → Known

-- the memory below and what the index knows of it
pub record State : Type 0 where
  pub image : Image
  pub known : Known

abbrev pub state : Image → Known → State
state m k = record { image = m; known = k }

-- L, the last page that a tree may use
abbrev pub limit : Image → ℕ
limit m = min (length m.pages) 1024
