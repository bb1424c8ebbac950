-- What the runs of a search from address 0 come to, in a tree that may be empty.
use Rattle.std.proofs.Common.{◌≡◌, ℕ, zero, suc, ◌<◌, ◌≤◌, Bool, true, false, cond, ◌&&◌, List, [], ◌∷◌, ◌++◌, map, length, Decides, filter, sym, refl, ap, ◌∙◌, subst, arith, le-leb}
use mathlib.Core.List.{map-append}
use lib.ListN.{length-map}
use Rattle.orders.specs.Orders.{Order, Meets}
use Rattle.tree.specs.Tree.{Node, Held, Contents, Ordered, events}
use Rattle.tree.specs.Tree.Held.{none, held}
use Rattle.tree.specs.CopyLaws.{SoundOf, events_of}
use Rattle.tree.specs.SearchSteps.{Region, regions, Step, search_steps, found_of, from, met}
use Rattle.tree.specs.SearchSteps.Step.{reads, finds}
use Rattle.tree.specs.SearchRuns.{Outcome, run, read_count, stopped_at}
use Rattle.tree.specs.SearchRuns.Ending.{done, cut}
use Rattle.tree.proofs.SearchFinds.{finds_law}
use Rattle.tree.proofs.SearchFirst.{meets_decides}
use Rattle.tree.proofs.SearchReads.{count_law}
use Rattle.tree.proofs.SearchResume.{resume_law}
use Rattle.tree.proofs.SearchRunning.{done_law, only_law, cut_law}
use Rattle.tree.proofs.SearchTests.{from_inside, from_is}
use Rattle.searches.specs.declared.find.Find.{Find}
use Rattle.searches.specs.Inside.{inside}
use Rattle.searches.specs.Finds.{find_of}
use Rattle.searches.specs.Searching.{finds_of}
use Rattle.searches.proofs.Insides.{inside_decides}
use Rattle.index.specs.Model.Answer.{found}
use Rattle.index.specs.Keeping.{top}
use Rattle.index.specs.Searched.{search_of, answer_of}
use Rattle.index.specs.Law.{regions_of, NumberOf}
use Rattle.index.specs.Law.NumberOf.{nothing, one_more, passed}

-- how many there are, by any test
pub counted_by : (P : Region → Type 0) (test : Region → Bool) → ((r : Region) → Decides (test r) (P r)) → (rs : List Region) → NumberOf P rs (length (filter test rs))
counted_by P test decides [] = nothing
counted_by P test decides (r ∷ rs) = go (test r) (decides r) (counted_by P test decides rs)
  where
    go : (b : Bool) → Decides b (P r) → NumberOf P rs (length (filter test rs)) → NumberOf P (r ∷ rs) (length (cond b (r ∷ filter test rs) (filter test rs)))
    go true d n = one_more (d.0 refl) n
    go false d n = passed (λ p. let e = d.1 p in absurd cc) n

-- the events of a box, in a tree that may be empty, as finds
abbrev pub box_finds : Order → List ℕ → List ℕ → Held Node → List Find
box_finds o lo hi t = map (find_of o) (filter (λ e. inside o lo hi e.key) (events_of t))

-- What is known of the runs from address 0, all together.
pub record Runs (o : Order) (lo hi : List ℕ) (t : Held Node) (pages : ℕ) : Type 0 where
  pub meet : NumberOf (λ r. Meets o lo hi r.lo r.hi) (regions_of o t) pages
  pub enough : (charge room : ℕ) → pages ≤ charge → length (box_finds o lo hi t) ≤ room → answer_of o (search_of o lo hi 0 t charge room) ≡ found (box_finds o lo hi t) pages done
  pub only : (charge room : ℕ) → (search_of o lo hi 0 t charge room).ending ≡ done → (finds_of o (search_of o lo hi 0 t charge room) ≡ box_finds o lo hi t) × ((search_of o lo hi 0 t charge room).reads ≡ pages)
  pub paid : (charge room : ℕ) → (search_of o lo hi 0 t charge room).reads ≤ charge
  pub less : (charge room : ℕ) → charge < pages → length (box_finds o lo hi t) ≤ room →
      (first : List Find) × (rest : List Find) × (page : ℕ) × (a : ℕ) × (box_finds o lo hi t ≡ first ++ rest)
      × (answer_of o (search_of o lo hi 0 t charge room) ≡ found first charge (cut page a))
      × ((charge' room' : ℕ) → pages ≤ charge' → length rest ≤ room' → (reads : ℕ) × (answer_of o (search_of o lo hi a t charge' room') ≡ found rest reads done))

-- reads are paid for
pub reads_paid : (ss : List Step) (charge room : ℕ) → (run ss charge room).reads ≤ charge
reads_paid [] charge room = omega arith
reads_paid (reads page a ∷ ss) zero room = omega arith
reads_paid (reads page a ∷ ss) (suc charge) room = omega (arith, reads_paid ss charge room)
reads_paid (finds e ∷ ss) charge zero = omega arith
reads_paid (finds e ∷ ss) charge (suc room) = reads_paid ss charge room

module _ (o : Order) (lo hi : List ℕ) where
  from_zero : (a : ℕ) → from (inside o lo hi) 0 a ≡ inside o lo hi a
  from_zero a = ap (λ (b : Bool). inside o lo hi a && b) (le-leb 0 a (omega arith)) ∙ whole-and (inside o lo hi a)
    where
      whole-and : (b : Bool) → (b && true) ≡ b
      whole-and true = refl
      whole-and false = refl

  met_decides : (r : Region) → Decides (met (from (inside o lo hi) 0) r) (Meets o lo hi r.lo r.hi)
  met_decides r =
      let d = meets_decides (from (inside o lo hi) 0) r.lo r.hi in (
        λ e. (let w = d.0 e in (w.0, w.1, w.2, (inside_decides o lo hi w.0).0 (from_inside (inside o lo hi) 0 w.0 w.3))),
        λ w. d.1 (w.0, w.1, w.2, from_is (inside o lo hi) 0 w.0 ((inside_decides o lo hi w.0).1 w.3) (omega arith)),
      )

  module _ (n : Node) (ordered : Ordered n 0 (top o)) where
    abbrev ss : ℕ → List Step
    ss start = search_steps (inside o lo hi) start n 0 (top o)

    all_found : map (find_of o) (found_of (ss 0)) ≡ box_finds o lo hi (held n)
    all_found = ap (map (find_of o)) ((finds_law (inside o lo hi) 0 n 0 (top o) ordered).0 ∙ (λ i. filter (λ e. from_zero e.key i) (events n)))

    long : length (found_of (ss 0)) ≡ length (box_finds o lo hi (held n))
    long = sym (length-map (found_of (ss 0)) (find_of o)) ∙ ap length all_found

    pub tree_runs : Runs o lo hi (held n) (read_count (ss 0))
    tree_runs = record {
      meet = subst (λ (k : ℕ). NumberOf (λ r. Meets o lo hi r.lo r.hi) (regions n 0 (top o)) k) (sym (count_law (inside o lo hi) 0 n 0 (top o) ordered))
          (counted_by (λ r. Meets o lo hi r.lo r.hi) (met (from (inside o lo hi) 0)) met_decides (regions n 0 (top o)));
      enough = λ charge room h k. ap (answer_of o) (done_law (ss 0) charge room h (omega (arith, long))) ∙ ap (λ (xs : List Find). found xs (read_count (ss 0)) done) all_found;
      only = λ charge room e. (let w = only_law (ss 0) charge room e in (ap (finds_of o) w.0 ∙ all_found, ap (λ (x : Outcome). x.reads) w.0));
      paid = λ charge room. reads_paid (ss 0) charge room;
      less = λ charge room h k.
          (let c = cut_law (ss 0) charge room h (omega (arith, long)) in
          let page = c.0.0 in
          let a = c.0.1 in
          let r = resume_law (inside o lo hi) 0 n 0 (top o) ordered charge room a (ap stopped_at c.0.2) in
          let got = (run (ss 0) charge room).found in
          let rest = found_of (ss a) in (
            map (find_of o) got,
            map (find_of o) rest,
            page,
            a,
            sym all_found ∙ ap (map (find_of o)) (sym r.all) ∙ map-append (find_of o) got rest,
            (λ i. found (map (find_of o) got) (c.1 i) (c.0.2 i)),
            λ charge' room' h' k'.
                (read_count (ss a), ap (answer_of o) (done_law (ss a) charge' room' (omega (arith, r.no_dearer)) (omega (arith, length-map rest (find_of o))))),
          ));
    }

  pub empty_runs : Runs o lo hi none 0
  empty_runs = record {
    meet = nothing;
    enough = λ charge room h k. refl;
    only = λ charge room e. (refl, refl);
    paid = λ charge room. omega arith;
    less = λ charge room h k. absurd (omega arith);
  }

-- how many pages meet the box
pub runs : (o : Order) (lo hi : List ℕ) (m : Contents) (limit height total : ℕ) (t : Held Node) → SoundOf m limit height total (top o) t → (pages : ℕ) × Runs o lo hi t pages
runs o lo hi m limit height total none sound = (0, empty_runs o lo hi)
runs o lo hi m limit height total (held n) sound = (read_count (search_steps (inside o lo hi) 0 n 0 (top o)), tree_runs o lo hi n sound.ordered)
