-- The law over whole runs.
use Rattle.std.proofs.Common.{◌≡◌, ℕ, ◌+◌, ◌-◌, ◌<◌, ◌≤◌, List, length, sym, refl, ap, ◌∙◌, subst, arith}
use Rattle.orders.specs.Orders.{Order, Lawful, InSpaceOf}
use Rattle.tree.specs.CopyLaws.{events_of}
use Rattle.tree.specs.SearchRuns.{Ending}
use Rattle.tree.specs.SearchRuns.Ending.{done}
use Rattle.tree.proofs.CopyKept.{sorted_law}
use Rattle.faults.specs.Accesses.{contents}
use Rattle.searches.specs.declared.find.Find.{Find}
use Rattle.searches.specs.Searching.{finds_of}
use Rattle.index.specs.Model.{Answer, State, limit}
use Rattle.index.specs.Model.Call.{searches}
use Rattle.index.specs.Model.Answer.{found}
use Rattle.index.specs.Keeping.{Content, Filed, Kept, Holds, top}
use Rattle.index.specs.Keeping.Content.{filed}
use Rattle.index.specs.Changes.{tree_state, known_of}
use Rattle.index.specs.Searched.{search_of, answer_of}
use Rattle.index.specs.Steps.{Step, Does}
use Rattle.index.specs.Steps.Does.{not_open, outside, searched}
use Rattle.index.specs.Histories.{History, held_in, held as holds_after}
use Rattle.index.specs.Law.{Due, Answered, CutAndResumed, EndedDone, Law, RunLaw, SearchLaw, in_leaves}
use Rattle.index.proofs.LawsCounts.{opened_tree}
use Rattle.index.proofs.LawsHistories.{history_law}
use Rattle.index.proofs.LawSame.{answered}
use Rattle.index.proofs.LawRuns.{Runs, runs}
use Rattle.index.proofs.LawExact.{exactly}

module _ (o : Order) (law : Lawful o) (h : History) (s u : State) (lo hi : List ℕ) (room : ℕ) (got : List Find) (reads : ℕ) (ending : Ending)
    (f : Filed) (free : List ℕ) (holds : Holds o s f) (ek : s.known ≡ known_of (tree_state f free) f.total) (il : InSpaceOf o lo) (ih : InSpaceOf o hi)
    (counts : (x : List ℕ) → InSpaceOf o x → held_in o (filed f) x ≡ holds_after h x)
    (ea : found got reads ending ≡ answer_of o (search_of o lo hi 0 f.tree s.image.charge room)) (left : u.image.charge ≡ s.image.charge - (search_of o lo hi 0 f.tree s.image.charge room).reads) where
  abbrev pages : ℕ
  pages = (runs o lo hi (contents s.image) (limit s.image) f.height f.total f.tree holds.sound).0

  all_runs : Runs o lo hi f.tree pages
  all_runs = (runs o lo hi (contents s.image) (limit s.image) f.height f.total f.tree holds.sound).1

  due : Due o h s lo hi (in_leaves o lo hi f) pages
  due = record {
    file = f;
    under = record { header = holds.header; tree = holds.sound };
    leaves = refl;
    exact = exactly o law h lo hi (events_of f.tree)
        (sorted_law (contents s.image) (limit s.image) f.total (top o) (tree_state f free) (opened_tree o s.image s.known _ _ _ free f ek holds)) counts;
    meet = all_runs.meet;
  }

  -- the same search is answered so
  so : (start charge n : ℕ) (a : Answer) → answer_of o (search_of o lo hi start f.tree charge n) ≡ a → Answered o s lo hi start charge n a
  so start charge n a e = subst (λ (b : Answer). Answered o s lo hi start charge n b) e (answered o s f free lo hi holds ek il ih start charge n)

  less : (charge n : ℕ) → charge < pages → length (in_leaves o lo hi f) ≤ n → CutAndResumed o s lo hi (in_leaves o lo hi f) pages charge n
  less charge n short fits =
      let c = all_runs.less charge n short fits in
      record {
        first = c.0;
        rest = c.1;
        page = c.2;
        address = c.3;
        beginning = c.4;
        is_cut = so 0 charge n _ c.5;
        resumed = λ charge' room' h' k'. (let r = c.6 charge' room' h' k' in (r.0, so c.3 charge' room' _ r.1));
      }

  reads_are : reads ≡ (search_of o lo hi 0 f.tree s.image.charge room).reads
  reads_are = cc ea

  ending_is : ending ≡ (search_of o lo hi 0 f.tree s.image.charge room).ending
  ending_is = cc ea

  got_is : got ≡ finds_of o (search_of o lo hi 0 f.tree s.image.charge room)
  got_is = cc ea

  spent : s.image.charge ≡ u.image.charge + reads
  spent = omega (arith, left, reads_are, all_runs.paid s.image.charge room)

  when_done : ending ≡ done → EndedDone o s u lo hi (in_leaves o lo hi f) pages got reads
  when_done e =
      let w = all_runs.only s.image.charge room (sym ending_is ∙ e) in
      let those : reads ≡ pages = reads_are ∙ w.1 in
      record {
        all_found = got_is ∙ w.0;
        those_read = those;
        fall = spent ∙ ap (λ (n : ℕ). u.image.charge + n) those;
        again = λ charge n h' k'. so 0 charge n _ (all_runs.enough charge n h' k');
        less = less;
      }

  enough : pages ≤ s.image.charge → length (in_leaves o lo hi f) ≤ room → ending ≡ done
  enough h' k' = let e = ea ∙ all_runs.enough s.image.charge room h' k' in cc

  pub lawful_search : Law o h s u lo hi room got reads ending
  lawful_search = record { finds = in_leaves o lo hi f; pages = pages; due = due; spent = spent; when_done = when_done; enough = enough }

by_rule : (o : Order) → Lawful o → (h : History) (s u : State) (a : Answer) (c v : Content) (lo hi : List ℕ) (room : ℕ) (got : List Find) (reads : ℕ) (ending : Ending) → Kept o s c →
    ((x : List ℕ) → InSpaceOf o x → held_in o c x ≡ holds_after h x) → a ≡ found got reads ending → Does o c s a u v (searches lo hi 0 room) → Law o h s u lo hi room got reads ending
by_rule o law h s u a c v lo hi room got reads ending kept counts e (not_open x names is ea eu ev) = absurd (cc (ea, e))
by_rule o law h s u a c v lo hi room got reads ending kept counts e (outside x height root total free names is out ea eu ev) = absurd (cc (ea, e))
by_rule o law h s u a c v lo hi room got reads ending kept counts e (searched f free ec ek il ih ea eu ev) =
    lawful_search o law h s u lo hi room got reads ending f free (subst (λ (x : Content). Kept o s x) ec kept) ek il ih
    (subst (λ (x : Content). (y : List ℕ) → InSpaceOf o y → held_in o x y ≡ holds_after h y) ec counts) (sym e ∙ ea) (ap (λ (x : State). x.image.charge) eu)

pub run_law : (o : Order) → Lawful o → (s u : State) (a : Answer) (lo hi : List ℕ) (start room : ℕ) → Step o s a u (searches lo hi start room) → RunLaw o s a u lo hi start room
run_law o law s u a lo hi start room step memory b h led zero got reads ending e =
    let r = history_law o law memory b h s led in
    let step' = subst (λ (n : ℕ). Step o s a u (searches lo hi n room)) zero step in
    let g = step'.exact r.content r.kept in
    by_rule o law h s u a r.content g.next lo hi room got reads ending r.kept r.counts e g.does

pub search_law : SearchLaw
search_law = run_law
