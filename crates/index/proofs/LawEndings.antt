-- How a search ends.
use Rattle.std.proofs.Common.{◌≡◌, ℕ, zero, suc, ◌≤◌, List, [], ◌∷◌, map, Decides, sym, refl, ap, ◌∙◌, subst, arith}
use mathlib.Core.List.{map-append}
use lib.ListN.{length-map}
use Rattle.layout.specs.declared.entry.Entry.{Entry}
use Rattle.orders.specs.Orders.{Order}
use Rattle.tree.specs.Tree.{Node, Held}
use Rattle.tree.specs.Tree.Held.{none, held}
use Rattle.tree.specs.CopyLaws.{SoundOf}
use Rattle.tree.specs.SearchSteps.{Region, Hit, Step, search_steps, found_of, from, met, regions}
use Rattle.tree.specs.SearchSteps.Step.{reads, finds}
use Rattle.tree.specs.SearchRuns.{Ending, Outcome, run}
use Rattle.tree.specs.SearchRuns.Ending.{done, more, cut}
use Rattle.tree.specs.SearchLaws.{Begins}
use Rattle.tree.proofs.SearchCut.{cut_page_law}
use Rattle.tree.proofs.SearchFinds.{finds_law}
use Rattle.tree.proofs.SearchFirst.{meets_decides}
use Rattle.tree.proofs.SearchProgress.{progress_law}
use Rattle.tree.proofs.SearchReads.{count_law}
use Rattle.tree.proofs.SearchRunning.{only_law, more_law}
use Rattle.tree.proofs.SearchTests.{from_inside, from_start, from_is}
use Rattle.faults.specs.Accesses.{contents}
use Rattle.searches.specs.declared.find.Find.{Find}
use Rattle.searches.specs.Inside.{inside}
use Rattle.searches.specs.Finds.{find_of}
use Rattle.searches.specs.Searching.{finds_of}
use Rattle.searches.proofs.Insides.{inside_decides}
use Rattle.index.specs.Model.{Answer, State, limit}
use Rattle.index.specs.Model.Call.{searches}
use Rattle.index.specs.Model.Answer.{found}
use Rattle.index.specs.Keeping.{Content, Filed, Kept, Holds, top}
use Rattle.index.specs.Searched.{search_of}
use Rattle.index.specs.Steps.{Step as IndexStep, Does}
use Rattle.index.specs.Steps.Does.{not_open, outside, searched}
use Rattle.index.specs.Law.{NumberOf}
use Rattle.index.specs.Law.NumberOf.{nothing}
use Rattle.index.specs.LawEndings.{in_leaves_from, WantedIn, Ends, Ended, EndingLaw}
use Rattle.index.proofs.LawRuns.{counted_by, reads_paid}

-- what a run found is a beginning of what its steps find
begins : (ss : List Step) (charge room : ℕ) → Begins (run ss charge room).found (found_of ss)
begins [] charge room = ([], refl)
begins (reads page a ∷ ss) zero room = (found_of ss, refl)
begins (reads page a ∷ ss) (suc charge) room = begins ss charge room
begins (finds e ∷ ss) charge zero = (e ∷ found_of ss, refl)
begins (finds e ∷ ss) charge (suc room) = let b = begins ss charge room in (b.0, ap (λ (xs : List Entry). e ∷ xs) b.1)

module _ (o : Order) (lo hi : List ℕ) (start : ℕ) where
  -- the test and what it stands for
  hit_wanted : (r : Region) (a : ℕ) → Hit (from (inside o lo hi) start) r.lo r.hi a → WantedIn o lo hi start r a
  hit_wanted r a h = (h.0, h.1, from_start (inside o lo hi) start a h.2, (inside_decides o lo hi a).0 (from_inside (inside o lo hi) start a h.2))

  wanted_hit : (r : Region) (a : ℕ) → WantedIn o lo hi start r a → Hit (from (inside o lo hi) start) r.lo r.hi a
  wanted_hit r a w = (w.0, w.1, from_is (inside o lo hi) start a ((inside_decides o lo hi a).1 w.3) w.2)

  met_wanted : (r : Region) → Decides (met (from (inside o lo hi) start) r) ((a : ℕ) × WantedIn o lo hi start r a)
  met_wanted r =
      let d = meets_decides (from (inside o lo hi) start) r.lo r.hi in (
        λ e. (let w = d.0 e in (w.0, hit_wanted r w.0 (w.1, w.2, w.3))),
        λ w. (let h = wanted_hit r w.0 w.1 in d.1 (w.0, h.0, h.1, h.2)),
      )

  module _ (s : State) (room : ℕ) (f : Filed) where
    abbrev charge : ℕ
    charge = s.image.charge

    module _ (n : Node) (sound : SoundOf (contents s.image) (limit s.image) f.height f.total (top o) (held n)) where
      abbrev ss : List Step
      ss = search_steps (inside o lo hi) start n 0 (top o)

      all_found : (xs : List Entry) → found_of ss ≡ xs → map (find_of o) xs ≡ in_leaves_from o lo hi start (record { tree = held n; height = f.height; total = f.total })
      all_found xs e = ap (map (find_of o)) (sym e ∙ (finds_law (inside o lo hi) start n 0 (top o) sound.ordered).0)

      ends_tree : (ending : Ending) → (run ss charge room).ending ≡ ending →
          Ends o s lo hi start room (record { tree = held n; height = f.height; total = f.total }) (map (find_of o) (run ss charge room).found) (run ss charge room).reads ending
      ends_tree done e =
          let w = only_law ss charge room e in (
            ap (finds_of o) w.0 ∙ all_found (found_of ss) refl,
            subst (λ (k : ℕ). NumberOf (λ r. (a : ℕ) × WantedIn o lo hi start r a) (regions n 0 (top o)) k)
                (sym (ap (λ (x : Outcome). x.reads) w.0 ∙ count_law (inside o lo hi) start n 0 (top o) sound.ordered))
                (counted_by (λ r. (a : ℕ) × WantedIn o lo hi start r a) (met (from (inside o lo hi) start)) met_wanted (regions n 0 (top o))),
          )
      ends_tree (more a) e =
          let w = more_law ss charge room a e in
          let next = w.1.0 in
          let rest = w.1.1 in (
            length-map (run ss charge room).found (find_of o) ∙ w.0,
            (find_of o next, map (find_of o) rest, sym (all_found _ w.1.2) ∙ map-append (find_of o) (run ss charge room).found (next ∷ rest), w.1.3),
          )
      ends_tree (cut page a) e =
          let w = cut_page_law (inside o lo hi) start n 0 (top o) charge room page a e in
          let b = begins ss charge room in
          let r = w.2.0 in
          let least = w.2.3 in (
            w.0,
            (map (find_of o) b.0, sym (all_found _ b.1) ∙ map-append (find_of o) (run ss charge room).found b.0),
            (r, w.2.1, w.2.2, hit_wanted r a least.0, λ c lt q. least.1 c lt (wanted_hit r c q)),
            λ way. progress_law (inside o lo hi) start n 0 (top o) f.height sound.ordered sound.levels charge room page a way e,
          )

  ends_in : (s : State) (room height total : ℕ) (t : Held Node) → SoundOf (contents s.image) (limit s.image) height total (top o) t → (ending : Ending) →
      (search_of o lo hi start t s.image.charge room).ending ≡ ending →
      Ends o s lo hi start room (record { tree = t; height = height; total = total }) (finds_of o (search_of o lo hi start t s.image.charge room)) (search_of o lo hi start t s.image.charge room).reads ending
  ends_in s room height total none sound done e = (refl, nothing)
  ends_in s room height total none sound (more a) e = absurd cc
  ends_in s room height total none sound (cut page a) e = absurd cc
  ends_in s room height total (held n) sound ending e = ends_tree s room (record { tree = held n; height = height; total = total }) n sound ending e

reads_within : (o : Order) (lo hi : List ℕ) (start charge room : ℕ) (t : Held Node) → (search_of o lo hi start t charge room).reads ≤ charge
reads_within o lo hi start charge room none = omega arith
reads_within o lo hi start charge room (held n) = reads_paid (search_steps (inside o lo hi) start n 0 (top o)) charge room

by_rule : (o : Order) (s u : State) (a : Answer) (c v : Content) (lo hi : List ℕ) (start room : ℕ) (got : List Find) (n : ℕ) (ending : Ending) → Kept o s c → a ≡ found got n ending →
    Does o c s a u v (searches lo hi start room) → Ended o s u lo hi start room got n ending
by_rule o s u a c v lo hi start room got n ending kept e (not_open x names is ea eu ev) = absurd (cc (ea, e))
by_rule o s u a c v lo hi start room got n ending kept e (outside x height root total free names is out ea eu ev) = absurd (cc (ea, e))
by_rule o s u a c v lo hi start room got n ending kept e (searched f free ec ek il ih ea eu ev) =
    let holds : Holds o s f = subst (λ (x : Content). Kept o s x) ec kept in
    let out = search_of o lo hi start f.tree s.image.charge room in
    let same : found got n ending ≡ found (finds_of o out) out.reads out.ending = sym e ∙ ea in
    let got-is : finds_of o out ≡ got = cc in
    let reads-are : out.reads ≡ n = cc in
    let ending-is : out.ending ≡ ending = cc in
    record {
      file = f;
      under = record { header = holds.header; tree = holds.sound };
      spent = omega (arith, ap (λ (x : State). x.image.charge) eu, reads-are, reads_within o lo hi start s.image.charge room f.tree);
      ends = subst (λ (k : ℕ). Ends o s lo hi start room f got k ending) reads-are
          (subst (λ (xs : List Find). Ends o s lo hi start room f xs out.reads ending) got-is (ends_in o lo hi start s room f.height f.total f.tree holds.sound ending ending-is));
    }

pub ending_law : (o : Order) (s u : State) (a : Answer) (lo hi : List ℕ) (start room : ℕ) → IndexStep o s a u (searches lo hi start room) → EndingLaw o s a u lo hi start room
ending_law o s u a lo hi start room step c kept got n ending e =
    let g = step.exact c kept in
    by_rule o s u a c g.next lo hi start room got n ending kept e g.does
