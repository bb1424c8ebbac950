-- What a search that goes on reads twice: no more than one way down.
use Rattle.std.proofs.Common.{◌≡◌, ℕ, zero, suc, ◌+◌, ◌-◌, ◌≤◌, max, Bool, true, false, cond, ◌⊎◌, List, [], ◌∷◌, ◌++◌, length, Some, None, Option, refl, ap, ◌∙◌, inl, inr, arith}
use Rattle.layout.specs.declared.entry.Entry.{Entry}
use Rattle.tree.specs.Tree.{Node, Forest, Ordered, OrderedIn}
use Rattle.tree.specs.Tree.Node.{leaf, inner}
use Rattle.tree.specs.Tree.Forest.{last, more}
use Rattle.tree.specs.SearchSteps.{first, from, Step, find_steps, visit, steps, steps_in}
use Rattle.tree.specs.SearchSteps.Step.{finds}
use Rattle.tree.specs.SearchRuns.{Ending, stopped_at, unpaid, run, read_count, and_then}
use Rattle.tree.specs.SearchRuns.Ending.{done, cut}
use Rattle.tree.specs.SearchLaws.{AgainLaw}
use Rattle.tree.proofs.SearchTests.{from_inside, from_start, from_is}
use Rattle.tree.proofs.SearchFirst.{first_is}
use Rattle.tree.proofs.SearchRunning.{append_law, only_law, count_append}
use Rattle.tree.proofs.SearchReads.{fewer_reads_in, find_free}
use Rattle.tree.proofs.SearchRising.{run_stopped, steps_rise_in}
use Rattle.tree.proofs.SearchResume.{resume_law}
use Rattle.tree.proofs.SearchProgress.{unvisited, height, height_in, level_height}

-- a run of two lists of steps ends in the first, or in the second when all reads of the first are made
ends_in : (xs ys : List Step) (charge room : ℕ) →
    (run (xs ++ ys) charge room ≡ run xs charge room)
    ⊎ ((c : ℕ) × (r : ℕ) × ((run (xs ++ ys) charge room).reads ≡ read_count xs + (run ys c r).reads) × ((run (xs ++ ys) charge room).ending ≡ (run ys c r).ending))
ends_in xs ys charge room = go (run xs charge room).ending refl (append_law xs ys charge room)
  where
    go : (e : Ending) → (run xs charge room).ending ≡ e → run (xs ++ ys) charge room ≡ and_then (run xs charge room).ending (run xs charge room) (run ys (charge - (run xs charge room).reads) (room - length (run xs charge room).found)) →
        (run (xs ++ ys) charge room ≡ run xs charge room)
        ⊎ ((c : ℕ) × (r : ℕ) × ((run (xs ++ ys) charge room).reads ≡ read_count xs + (run ys c r).reads) × ((run (xs ++ ys) charge room).ending ≡ (run ys c r).ending))
    go done e q =
        let all = (only_law xs charge room e).0 in
        let q' = rw e at q in
        inr (
          charge - (run xs charge room).reads,
          room - length (run xs charge room).found,
          ap (λ o. o.reads) q' ∙ ap (λ o. o.reads + (run ys (charge - (run xs charge room).reads) (room - length (run xs charge room).found)).reads) all,
          ap (λ o. o.ending) q',
        )
    go (Ending.more a) e q = inl (rw e at q)
    go (cut page a) e q = inl (rw e at q)

visit_cheap : (page : ℕ) (r : Option ℕ) (ss : List Step) → read_count (visit page r ss) ≤ suc (read_count ss)
visit_cheap page None ss = omega arith
visit_cheap page (Some a) ss = omega arith

-- no read is made in a leaf's entries, and no cut
finds_read_none : (P : ℕ → Bool) (es : List Entry) (charge room : ℕ) → ((run (find_steps P es) charge room).reads ≡ 0) × (unpaid (run (find_steps P es) charge room).ending ≡ 0)
finds_read_none P [] charge room = (refl, refl)
finds_read_none P (e ∷ es) charge room = go (P e.key) room (finds_read_none P es charge)
  where
    go : (t : Bool) (room : ℕ) → ((r : ℕ) → ((run (find_steps P es) charge r).reads ≡ 0) × (unpaid (run (find_steps P es) charge r).ending ≡ 0)) →
        ((run (cond t (finds e ∷ find_steps P es) (find_steps P es)) charge room).reads ≡ 0) × (unpaid (run (cond t (finds e ∷ find_steps P es) (find_steps P es)) charge room).ending ≡ 0)
    go true zero ih = (refl, refl)
    go true (suc room) ih = ih room
    go false room ih = ih room

module _ (P R : ℕ → Bool) (a : ℕ) (narrow : (b : ℕ) → R b ≡ true → P b ≡ true) (later : (b : ℕ) → R b ≡ true → a ≤ b) where
  -- the reads from a on, the reads made, and the one that was not paid for
  abbrev Bounded : List Step → List Step → ℕ → ℕ → ℕ → Type 0
  Bounded rest all height charge room =
      stopped_at (run all charge room).ending ≡ Some a →
      read_count rest + (run all charge room).reads + unpaid (run all charge room).ending ≤ read_count all + height

  visit_again : (page h : ℕ) (all rest : List Step) → read_count rest ≤ read_count all → ((charge room : ℕ) → Bounded rest all h charge room) →
      (r s : Option ℕ) (charge room : ℕ) → Bounded (visit page s rest) (visit page r all) (suc h) charge room
  visit_again page h all rest few ih None s charge room e = let z : ◌≡◌ {A = ℕ} 0 1 = cc in absurd (omega arith)
  visit_again page h all rest few ih (Some b) s zero room e = omega (arith, visit_cheap page s rest)
  visit_again page h all rest few ih (Some b) s (suc charge) room e = omega (arith, visit_cheap page s rest, ih charge room e)

  leaf_again : (es : List Entry) (charge room : ℕ) → Bounded (find_steps R es) (find_steps P es) 0 charge room
  leaf_again es charge room e =
      let m = finds_read_none P es charge room in omega (arith, find_free R es, m.0, m.1)

  join_again : (n : Node) (key : ℕ) (ks : Forest) (lo hi : ℕ) → OrderedIn (more n key ks) lo hi → (charge room : ℕ) →
      ((charge room : ℕ) → Bounded (steps R n lo key) (steps P n lo key) (height n) charge room) →
      ((charge room : ℕ) → Bounded (steps_in R ks (suc key) hi) (steps_in P ks (suc key) hi) (height_in ks) charge room) →
      (run (steps P n lo key ++ steps_in P ks (suc key) hi) charge room ≡ run (steps P n lo key) charge room)
      ⊎ ((c : ℕ) × (r : ℕ) × ((run (steps P n lo key ++ steps_in P ks (suc key) hi) charge room).reads ≡ read_count (steps P n lo key) + (run (steps_in P ks (suc key) hi) c r).reads)
      × ((run (steps P n lo key ++ steps_in P ks (suc key) hi) charge room).ending ≡ (run (steps_in P ks (suc key) hi) c r).ending)) →
      Bounded (steps R n lo key ++ steps_in R ks (suc key) hi) (steps P n lo key ++ steps_in P ks (suc key) hi) (max (height n) (height_in ks)) charge room
  join_again n key ks lo hi o charge room one rest (inl q) e =
      let e' = rw q at e in
      rw (q, count_append (steps R n lo key) (steps_in R ks (suc key) hi), count_append (steps P n lo key) (steps_in P ks (suc key) hi))
      (omega (arith, one charge room e', fewer_reads_in P R narrow ks (suc key) hi o.3))
  join_again n key ks lo hi o charge room one rest (inr w) e =
      let e' = rw w.3 at e in
      let past = (run_stopped P (suc key) hi (steps_in P ks (suc key) hi) (steps_rise_in P ks (suc key) hi o.3) w.0 w.1 a e').0 in
      let none = first_is R lo key None (λ b h. omega (arith, later b h.2, h.1, past)) in
      rw (w.2, w.3, unvisited R n lo key none, count_append (steps P n lo key) (steps_in P ks (suc key) hi))
      (omega (arith, rest w.0 w.1 e'))

  mutual
    again_node : (n : Node) (lo hi : ℕ) → Ordered n lo hi → (charge room : ℕ) → Bounded (steps R n lo hi) (steps P n lo hi) (height n) charge room
    again_node (leaf page es) lo hi o = visit_again page 0 (find_steps P es) (find_steps R es) (omega (arith, find_free R es)) (leaf_again es) (first P lo hi) (first R lo hi)
    again_node (inner page ks) lo hi o =
        visit_again page (height_in ks) (steps_in P ks lo hi) (steps_in R ks lo hi) (fewer_reads_in P R narrow ks lo hi o) (again_in ks lo hi o) (first P lo hi) (first R lo hi)

    again_in : (ks : Forest) (lo hi : ℕ) → OrderedIn ks lo hi → (charge room : ℕ) → Bounded (steps_in R ks lo hi) (steps_in P ks lo hi) (height_in ks) charge room
    again_in (last n) lo hi o charge room = again_node n lo hi o charge room
    again_in (more n key ks) lo hi o charge room =
        join_again n key ks lo hi o charge room (again_node n lo key o.2) (again_in ks (suc key) hi o.3) (ends_in (steps P n lo key) (steps_in P ks (suc key) hi) charge room)

pub again_law : AgainLaw
again_law inside start n lo hi height₀ o lv charge room a e =
    let le = (resume_law inside start n lo hi o charge room a e).not_back in
    let narrow : (b : ℕ) → from inside a b ≡ true → from inside start b ≡ true =
    λ b h. from_is inside start b (from_inside inside a b h) (omega (arith, from_start inside a b h)) in
    omega (arith, level_height n height₀ lv, again_node (from inside start) (from inside a) a narrow (from_start inside a) n lo hi o charge room e)
