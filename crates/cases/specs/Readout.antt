-- Searches in the 8 x 8 space after the day: eleven events, at the Z addresses 0 to 10, once each.
use Rattle.std.specs.Prelude.{◌≡◌, ℕ, List, [], ◌∷◌, ◌++◌, length}
use Rattle.pages.specs.Image.{Image, Blank}
use Rattle.tree.specs.SearchRuns.Ending.{done, more, cut}
use Rattle.searches.specs.declared.find.Find.{Find}
use Rattle.index.specs.Model.{Call, Answer, State, state}
use Rattle.index.specs.Model.Call.{searches, grants}
use Rattle.index.specs.Model.Answer.{accepted, found}
use Rattle.index.specs.Model.Known.{shut}
use Rattle.cases.specs.EightByEight.{z, at, Each}
use Rattle.cases.specs.Branch.{Chain, day, all_accepted}

-- one event
abbrev pub once : ℕ → List ℕ → Find
once a x = record { address = a; point = record { coords = x }; count = 1 }

-- the day with a charge of 35, then so much charge, and a search of the box (2, 0) to (3, 1) with room for so many finds
abbrev pub day_and_search : ℕ → ℕ → List Call
day_and_search charge room = day 35 ++ (grants charge ∷ (searches (at 2 0) (at 3 1) 0 room ∷ []))

-- over any store of 16 pages as it comes from the factory: this charge and room give this answer
abbrev pub ReadsOut : ℕ × ℕ × Answer → Type 0
ReadsOut (charge, room, a) = (m : Image) (answers : List Answer) (u : State) → Blank m → length m.pages ≡ 16 → Chain z (state m shut) (day_and_search charge room) answers u →
    answers ≡ all_accepted (day 35) ++ (accepted ∷ (a ∷ []))

-- With 3 it is done; with 2 it finds two and is cut at 6, the first address of page 4; with 0 it is cut at 4, at the root, page 5; with room for one it ends more
-- at 5, after two reads.
abbrev pub Readouts : Type 0
Readouts = Each ReadsOut (
    (3, 16, found (once 4 (at 2 0) ∷ once 5 (at 3 0) ∷ once 6 (at 2 1) ∷ once 7 (at 3 1) ∷ []) 3 done) ∷
    (2, 16, found (once 4 (at 2 0) ∷ once 5 (at 3 0) ∷ []) 2 (cut 4 6)) ∷
    (0, 16, found [] 0 (cut 5 4)) ∷
    (3, 1, found (once 4 (at 2 0) ∷ []) 2 (more 5)) ∷ []
    )
