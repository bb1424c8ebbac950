-- The pages that a search reads: those whose region has an address that passes, in visiting order.
use Rattle.std.proofs.Common.{◌≡◌, ℕ, suc, ◌≤◌, Bool, true, false, cond, List, [], ◌∷◌, map, length, Some, None, Decides, filter, Option, sym, refl, ap, ◌∙◌, subst, arith}
use mathlib.Core.List.{map-append}
use lib.ListN.{length-map}
use Rattle.std.proofs.lemmas.List.Elements.{filter-append}
use Rattle.layout.specs.declared.entry.Entry.{Entry}
use Rattle.tree.specs.Tree.{Node, Forest, Ordered, OrderedIn, pages_in, Apart, Absent}
use Rattle.tree.specs.Tree.Node.{leaf, inner}
use Rattle.tree.specs.Tree.Forest.{last, more}
use Rattle.tree.specs.SearchSteps.{Region, region, regions, regions_in, Hit, Meets, Least, first, met, from, Step, find_steps, visit, steps, steps_in, pages_read}
use Rattle.tree.specs.SearchSteps.Step.{finds}
use Rattle.tree.specs.SearchRuns.{read_count}
use Rattle.tree.specs.SearchLaws.{RegionsLaw, ReadsLaw, ReadsFromLaw, CountLaw, OnceLaw}
use Rattle.tree.proofs.SearchFirst.{first_least, meets_decides}
use Rattle.tree.proofs.SearchRunning.{pages_append}
use Rattle.tree.proofs.SearchTests.{from_inside, from_is, kept_fewer, decided_false}

-- the page numbers of regions
abbrev numbers : List Region → List ℕ
numbers rs = map (λ r. r.page) rs

mutual
  pub regions_law : RegionsLaw
  regions_law (leaf page es) lo hi = refl
  regions_law (inner page ks) lo hi = ap (λ ps. page ∷ ps) (regions_law_in ks lo hi)

  regions_law_in : (ks : Forest) (lo hi : ℕ) → numbers (regions_in ks lo hi) ≡ pages_in ks
  regions_law_in (last n) lo hi = regions_law n lo hi
  regions_law_in (more n key ks) lo hi =
      map-append (λ r. r.page) (regions n lo key) (regions_in ks (suc key) hi)
      ∙ rw (regions_law n lo key, regions_law_in ks (suc key) hi)

-- the entries of a leaf read no page
pub find_none : (P : ℕ → Bool) (es : List Entry) → pages_read (find_steps P es) ≡ []
find_none P [] = refl
find_none P (e ∷ es) = go (P e.key) (find_none P es)
  where
    go : (t : Bool) → pages_read (find_steps P es) ≡ [] → pages_read (cond t (finds e ∷ find_steps P es) (find_steps P es)) ≡ []
    go true h = h
    go false h = h

pub find_free : (P : ℕ → Bool) (es : List Entry) → read_count (find_steps P es) ≡ 0
find_free P es = ap length (find_none P es)

module _ (P : ℕ → Bool) (test : Region → Bool) (d : (r : Region) → Decides (test r) (Meets P r.lo r.hi)) where
  -- where no address of a region passes, no page under it is met
  module _ (lo hi : ℕ) (none : (b : ℕ) → Hit P lo hi b → ⊥) where
    unmet : (page l h : ℕ) → lo ≤ l → h ≤ hi → test (region page l h) ≡ false
    unmet page l h k m = decided_false (test (region page l h)) (d (region page l h)) (λ w. none w.0 (omega (arith, w.1), omega (arith, w.2), w.3))

    mutual
      none_met : (n : Node) (l h : ℕ) → lo ≤ l → h ≤ hi → Ordered n l h → filter test (regions n l h) ≡ []
      none_met (leaf page es) l h k m o = rw (unmet page l h k m)
      none_met (inner page ks) l h k m o = rw (unmet page l h k m) (none_met_in ks l h k m o)

      none_met_in : (ks : Forest) (l h : ℕ) → lo ≤ l → h ≤ hi → OrderedIn ks l h → filter test (regions_in ks l h) ≡ []
      none_met_in (last n) l h k m o = none_met n l h k m o
      none_met_in (more n key ks) l h k m o =
          filter-append test (regions n l key) (regions_in ks (suc key) h)
          ∙ rw (none_met n l key k (omega (arith, o.1)) o.2) (none_met_in ks (suc key) h (omega (arith, o.0)) m o.3)

  visit_reads : (lo hi page : ℕ) (r : Option ℕ) → Least r (Hit P lo hi) → (ss : List Step) (rs : List Region) →
      pages_read ss ≡ numbers (filter test rs) → (((b : ℕ) → Hit P lo hi b → ⊥) → filter test rs ≡ []) →
      pages_read (visit page r ss) ≡ numbers (filter test (region page lo hi ∷ rs))
  visit_reads lo hi page None l ss rs e none = rw (unmet lo hi l page lo hi (omega arith) (omega arith), none l)
  visit_reads lo hi page (Some a) l ss rs e none = rw ((d (region page lo hi)).1 (a, l.0.0, l.0.1, l.0.2)) (ap (λ ps. page ∷ ps) e)

  mutual
    pub reads_node : (n : Node) (lo hi : ℕ) → Ordered n lo hi → pages_read (steps P n lo hi) ≡ numbers (filter test (regions n lo hi))
    reads_node (leaf page es) lo hi o = visit_reads lo hi page (first P lo hi) (first_least P lo hi) (find_steps P es) [] (find_none P es) (λ none. refl)
    reads_node (inner page ks) lo hi o =
        visit_reads lo hi page (first P lo hi) (first_least P lo hi) (steps_in P ks lo hi) (regions_in ks lo hi) (reads_in ks lo hi o)
        (λ none. none_met_in lo hi none ks lo hi (omega arith) (omega arith) o)

    reads_in : (ks : Forest) (lo hi : ℕ) → OrderedIn ks lo hi → pages_read (steps_in P ks lo hi) ≡ numbers (filter test (regions_in ks lo hi))
    reads_in (last n) lo hi o = reads_node n lo hi o
    reads_in (more n key ks) lo hi o =
        pages_append (steps P n lo key) (steps_in P ks (suc key) hi)
        ∙ rw (reads_node n lo key o.2, reads_in ks (suc key) hi o.3, filter-append)
        (sym (map-append (λ r. r.page) (filter test (regions n lo key)) (filter test (regions_in ks (suc key) hi))))

  pub count_node : (n : Node) (lo hi : ℕ) → Ordered n lo hi → read_count (steps P n lo hi) ≡ length (filter test (regions n lo hi))
  count_node n lo hi o = ap length (reads_node n lo hi o) ∙ length-map (filter test (regions n lo hi)) (λ r. r.page)

  pub count_in : (ks : Forest) (lo hi : ℕ) → OrderedIn ks lo hi → read_count (steps_in P ks lo hi) ≡ length (filter test (regions_in ks lo hi))
  count_in ks lo hi o = ap length (reads_in ks lo hi o) ∙ length-map (filter test (regions_in ks lo hi)) (λ r. r.page)

pub reads_from_law : ReadsFromLaw
reads_from_law inside start n lo hi o test d = reads_node (from inside start) test d n lo hi o

pub reads_law : ReadsLaw
reads_law inside n lo hi o test d =
    reads_node (from inside 0) test
    (λ r. (
      λ e. let m = (d r).0 e in (m.0, m.1, m.2, from_is inside 0 m.0 m.3 (omega arith)),
      λ m. (d r).1 (m.0, m.1, m.2, from_inside inside 0 m.0 m.3),
    )) n lo hi o

pub count_law : CountLaw
count_law inside start n lo hi o = let P = from inside start in count_node P (met P) (λ r. meets_decides P r.lo r.hi) n lo hi o

-- of numbers none of which stands twice, none that is kept does
absent_kept : (test : Region → Bool) (k : ℕ) (rs : List Region) → Absent k (numbers rs) → Absent k (numbers (filter test rs))
absent_kept test k [] a = tt
absent_kept test k (r ∷ rs) a = go (test r) (absent_kept test k rs a.1)
  where
    go : (t : Bool) → Absent k (numbers (filter test rs)) → Absent k (numbers (cond t (r ∷ filter test rs) (filter test rs)))
    go true h = (a.0, h)
    go false h = h

apart_kept : (test : Region → Bool) (rs : List Region) → Apart (numbers rs) → Apart (numbers (filter test rs))
apart_kept test [] a = tt
apart_kept test (r ∷ rs) a = go (test r) (apart_kept test rs a.1)
  where
    go : (t : Bool) → Apart (numbers (filter test rs)) → Apart (numbers (cond t (r ∷ filter test rs) (filter test rs)))
    go true h = (absent_kept test r.page rs a.0, h)
    go false h = h

pub once_law : OnceLaw
once_law inside start n lo hi o apart =
    let P = from inside start in
    let h = apart_kept (met P) (regions n lo hi) (subst Apart (sym (regions_law n lo hi)) apart) in
    subst Apart (sym (reads_node P (met P) (λ r. meets_decides P r.lo r.hi) n lo hi o)) h

-- a narrower test reads no more pages
module _ (P R : ℕ → Bool) (narrow : (a : ℕ) → R a ≡ true → P a ≡ true) where
  met_fewer : (rs : List Region) → length (filter (met R) rs) ≤ length (filter (met P) rs)
  met_fewer rs = kept_fewer (met R) (met P)
      (λ r e. let m = (meets_decides R r.lo r.hi).0 e in (meets_decides P r.lo r.hi).1 (m.0, m.1, m.2, narrow m.0 m.3)) rs

  pub fewer_reads : (n : Node) (lo hi : ℕ) → Ordered n lo hi → read_count (steps R n lo hi) ≤ read_count (steps P n lo hi)
  fewer_reads n lo hi o =
      rw (
        count_node R (met R) (λ r. meets_decides R r.lo r.hi) n lo hi o,
        count_node P (met P) (λ r. meets_decides P r.lo r.hi) n lo hi o,
      ) (met_fewer (regions n lo hi))

  pub fewer_reads_in : (ks : Forest) (lo hi : ℕ) → OrderedIn ks lo hi → read_count (steps_in R ks lo hi) ≤ read_count (steps_in P ks lo hi)
  fewer_reads_in ks lo hi o =
      rw (
        count_in R (met R) (λ r. meets_decides R r.lo r.hi) ks lo hi o,
        count_in P (met P) (λ r. meets_decides P r.lo r.hi) ks lo hi o,
      ) (met_fewer (regions_in ks lo hi))
