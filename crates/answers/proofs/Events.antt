-- How many events a sound tree has, and searches with more room than that.
use Rattle.std.proofs.Common.{◌≡◌, ℕ, zero, suc, ◌*◌, ◌≤◌, min, List, [], ◌∷◌, length, refl, ap, arith, length-append}
use Rattle.std.proofs.lemmas.List.Sums.{length-filter, count_by-le-length}
use Rattle.orders.specs.Orders.{Order}
use Rattle.tree.specs.Tree.{Node, Forest, Held, Contents, Filled, FilledIn, pages, pages_in, events, events_in}
use Rattle.tree.specs.Tree.Node.{leaf, inner}
use Rattle.tree.specs.Tree.Forest.{last, more}
use Rattle.tree.specs.Tree.Held.{none, held}
use Rattle.tree.specs.CopyLaws.{SoundOf}
use Rattle.tree.specs.SearchSteps.{Step, search_steps, found_of, passes, from}
use Rattle.tree.specs.SearchSteps.Step.{reads, finds}
use Rattle.tree.specs.SearchRuns.{run, add_read, add_find}
use Rattle.tree.proofs.SearchFinds.{finds_law}
use Rattle.searches.specs.Inside.{inside}
use Rattle.index.specs.Keeping.{top}
use Rattle.index.specs.Searched.{search_of}

-- ten on each page at most
mutual
  few_events : (n : Node) → Filled n → length (events n) ≤ 10 * length (pages n)
  few_events (leaf p es) filled = omega arith
  few_events (inner p f) filled = let h = few_events_in f filled.1 in omega arith

  few_events_in : (f : Forest) → FilledIn f → length (events_in f) ≤ 10 * length (pages_in f)
  few_events_in (last n) filled = few_events n filled
  few_events_in (more n k f) filled =
      let a = few_events n filled.0 in
      let b = few_events_in f filled.1 in
      omega (arith, length-append (events n) (events_in f), length-append (pages n) (pages_in f))

-- any room that is enough gives the same
same_run : (ss : List Step) (charge room more_room : ℕ) → length (found_of ss) ≤ room → length (found_of ss) ≤ more_room → run ss charge more_room ≡ run ss charge room
same_run [] charge room other h k = refl
same_run (reads p a ∷ ss) zero room other h k = refl
same_run (reads p a ∷ ss) (suc charge) room other h k = ap add_read (same_run ss charge room other h k)
same_run (finds e ∷ ss) charge zero other h k = absurd (omega arith)
same_run (finds e ∷ ss) charge (suc room) zero h k = absurd (omega arith)
same_run (finds e ∷ ss) charge (suc room) (suc other) h k = ap (add_find e) (same_run ss charge room other (omega arith) (omega arith))

-- so does any from 10,240 on
pub same_search : (o : Order) (lo hi : List ℕ) (start : ℕ) (m : Contents) (pages height total : ℕ) (t : Held Node) → SoundOf m (min pages 1024) height total (top o) t
    → (charge room : ℕ) → 10240 ≤ room → search_of o lo hi start t charge room ≡ search_of o lo hi start t charge 10240
same_search o lo hi start m pages height total none sound charge room h = refl
same_search o lo hi start m pages height total (held n) sound charge room h =
    let few = few_events n sound.filled in
    let steps = search_steps (inside o lo hi) start n 0 (top o) in
    let all = ap length (finds_law (inside o lo hi) start n 0 (top o) sound.ordered).0 in
    let test = passes (from (inside o lo hi) start) in
    let some = length-filter test (events n) in
    let fewer = count_by-le-length test (events n) in
    let left = sound.room in
    same_run steps charge 10240 room (omega arith) (omega arith)
