-- Where a run is cut: the first page that was not paid for, and the least address of its region that passes.
use Rattle.std.proofs.Common.{◌≡◌, ℕ, zero, suc, Bool, true, false, cond, List, [], ◌∷◌, ◌++◌, drop, Some, None, Option, refl, ap, arith}
use Rattle.std.specs.List.{ContainsAt as Has, AllByRecursion}
use Rattle.std.proofs.ByRecursion.{All-append, All-weaker, all_has_itself, has_append_left, has_append_right}
use Rattle.layout.specs.declared.entry.Entry.{Entry}
use Rattle.tree.specs.Tree.{Node, Forest}
use Rattle.tree.specs.Tree.Node.{leaf, inner}
use Rattle.tree.specs.Tree.Forest.{last, more}
use Rattle.tree.specs.SearchSteps.{Region, region, regions, regions_in, Hit, Least, first, from, Step, find_steps, visit, steps, steps_in, search_steps, pages_read}
use Rattle.tree.specs.SearchSteps.Step.{reads, finds}
use Rattle.tree.specs.SearchRuns.{run}
use Rattle.tree.specs.SearchRuns.Ending.{cut}
use Rattle.tree.specs.SearchLaws.{CutPageLaw}
use Rattle.tree.proofs.SearchFirst.{first_least}

-- a page of these regions is read for the least address of its region that passes
abbrev Due : (ℕ → Bool) → List Region → Step → Type 0
Due P rs (reads page a) = (r : Region) × Has rs r × (r.page ≡ page) × Least (Some a) (Hit P r.lo r.hi)
Due P rs (finds e) = Unit {0}

module _ (P : ℕ → Bool) where
  due_wider : (rs qs : List Region) → ((r : Region) → Has rs r → Has qs r) → (s : Step) → Due P rs s → Due P qs s
  due_wider rs qs h (reads page a) d = (d.0, h d.0 d.1, d.2, d.3)
  due_wider rs qs h (finds e) d = tt

  finds_due : (rs : List Region) (es : List Entry) → AllByRecursion (Due P rs) (find_steps P es)
  finds_due rs [] = tt
  finds_due rs (e ∷ es) = go (P e.key) (finds_due rs es)
    where
      go : (t : Bool) → AllByRecursion (Due P rs) (find_steps P es) → AllByRecursion (Due P rs) (cond t (finds e ∷ find_steps P es) (find_steps P es))
      go true h = (tt, h)
      go false h = h

  visit_due : (lo hi page : ℕ) (rs : List Region) (r : Option ℕ) → Least r (Hit P lo hi) → (ss : List Step) → AllByRecursion (Due P rs) ss →
      AllByRecursion (Due P (region page lo hi ∷ rs)) (visit page r ss)
  visit_due lo hi page rs None l ss h = tt
  visit_due lo hi page rs (Some a) l ss h = (
    (region page lo hi, (all_has_itself (region page lo hi ∷ rs)).0, refl, l),
    All-weaker (Due P rs) (Due P (region page lo hi ∷ rs)) (due_wider rs (region page lo hi ∷ rs) (has_append_right (region page lo hi ∷ []) rs)) ss h,
  )

  mutual
    steps_due : (n : Node) (lo hi : ℕ) → AllByRecursion (Due P (regions n lo hi)) (steps P n lo hi)
    steps_due (leaf page es) lo hi = visit_due lo hi page [] (first P lo hi) (first_least P lo hi) (find_steps P es) (finds_due [] es)
    steps_due (inner page ks) lo hi = visit_due lo hi page (regions_in ks lo hi) (first P lo hi) (first_least P lo hi) (steps_in P ks lo hi) (steps_due_in ks lo hi)

    steps_due_in : (ks : Forest) (lo hi : ℕ) → AllByRecursion (Due P (regions_in ks lo hi)) (steps_in P ks lo hi)
    steps_due_in (last n) lo hi = steps_due n lo hi
    steps_due_in (more n key ks) lo hi =
        let rs = regions n lo key in
        let qs = regions_in ks (suc key) hi in
        All-append (Due P (rs ++ qs)) (steps P n lo key) (steps_in P ks (suc key) hi)
        (All-weaker (Due P rs) (Due P (rs ++ qs)) (due_wider rs (rs ++ qs) (has_append_left rs qs)) (steps P n lo key) (steps_due n lo key))
        (All-weaker (Due P qs) (Due P (rs ++ qs)) (due_wider qs (rs ++ qs) (has_append_right rs qs)) (steps_in P ks (suc key) hi) (steps_due_in ks (suc key) hi))

-- a run that was cut: the charge is used up, and the page is the next to read
run_cut : (Q : Step → Type 0) (ss : List Step) (charge room page a : ℕ) → AllByRecursion Q ss → (run ss charge room).ending ≡ cut page a →
    ((run ss charge room).reads ≡ charge) × ((rest : List ℕ) × (drop charge (pages_read ss) ≡ page ∷ rest)) × Q (reads page a)
run_cut Q [] charge room page a q e = let z : ◌≡◌ {A = ℕ} 0 1 = cc in absurd (omega arith)
run_cut Q (reads p b ∷ ss) zero room page a q e =
    let same : p ≡ page = cc in
    let for : b ≡ a = cc in
    (refl, (pages_read ss, ap (λ x. x ∷ pages_read ss) same), rw (same, for) at q.0)
run_cut Q (reads p b ∷ ss) (suc charge) room page a q e =
    let h = run_cut Q ss charge room page a q.1 e in (ap suc h.0, h.1, h.2)
run_cut Q (finds g ∷ ss) charge zero page a q e = let z : ◌≡◌ {A = ℕ} 0 1 = cc in absurd (omega arith)
run_cut Q (finds g ∷ ss) charge (suc room) page a q e = run_cut Q ss charge room page a q.1 e

pub cut_page_law : CutPageLaw
cut_page_law inside start n lo hi charge room page a e =
    run_cut (Due (from inside start) (regions n lo hi)) (search_steps inside start n lo hi) charge room page a (steps_due (from inside start) n lo hi) e
