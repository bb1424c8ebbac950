-- The walk with one number makes the steps of the search, and asks for a first address once for each leaf that it reads.
use Rattle.std.proofs.Common.{◌≡◌, ℕ, suc, ◌<◌, ◌≤◌, Bool, true, false, cond, leb, List, [], length, Some, None, filter, Option, sym, refl, ap, ◌∙◌, arith, length-append, leb-false, leb-true}
use Rattle.std.proofs.lemmas.List.Elements.{filter-append}
use Rattle.tree.specs.Tree.{Node, Forest, Ordered, OrderedIn}
use Rattle.tree.specs.Tree.Node.{leaf, inner}
use Rattle.tree.specs.Tree.Forest.{last, more}
use Rattle.tree.specs.SearchSteps.{leaves, leaves_in, Hit, Least, first, meets, met, from, Step, find_steps, visit, steps, steps_in}
use Rattle.tree.specs.SearchWalks.{Walked, walk, walk_in, enter, entered, passed}
use Rattle.tree.specs.SearchLaws.{WalkLaw}
use Rattle.tree.proofs.SearchTests.{from_inside, from_start, from_is, decided_false}
use Rattle.tree.proofs.SearchFirst.{first_least, first_is, least_past, least_like, meets_decides}

abbrev pub walked : List Step → Option ℕ → ℕ → Walked
walked made next asks = record { steps = made; next = next; asks = asks }

pub walked_is : {made made' : List Step} {next next' : Option ℕ} {asks asks' : ℕ} → made ≡ made' → next ≡ next' → asks ≡ asks' →
    walked made next asks ≡ walked made' next' asks'
walked_is p q r i = walked (p i) (q i) (r i)

module _ (P : ℕ → Bool) where
  -- where no address of a region passes, no leaf under it is met
  module _ (lo hi : ℕ) (none : (b : ℕ) → Hit P lo hi b → ⊥) where
    mutual
      no_leaf : (n : Node) (l h : ℕ) → lo ≤ l → h ≤ hi → Ordered n l h → filter (met P) (leaves n l h) ≡ []
      no_leaf (leaf page es) l h k m o =
          let f = decided_false (meets P l h) (meets_decides P l h) (λ w. none w.0 (omega (arith, w.1), omega (arith, w.2), w.3)) in rw f
      no_leaf (inner page ks) l h k m o = no_leaf_in ks l h k m o

      no_leaf_in : (ks : Forest) (l h : ℕ) → lo ≤ l → h ≤ hi → OrderedIn ks l h → filter (met P) (leaves_in ks l h) ≡ []
      no_leaf_in (last n) l h k m o = no_leaf n l h k m o
      no_leaf_in (more n key ks) l h k m o =
          filter-append (met P) (leaves n l key) (leaves_in ks (suc key) h)
          ∙ rw (no_leaf n l key k (omega (arith, o.1)) o.2) (no_leaf_in ks (suc key) h (omega (arith, o.0)) m o.3)

  module _ (ask : ℕ → Option ℕ) (start top : ℕ) (asked : (b : ℕ) → start ≤ b → ask b ≡ first P b top) (above : (a : ℕ) → P a ≡ true → start ≤ a) where
    -- a page: w comes of it where it is read, and where it is not, no leaf under it is
    enter_is : (page lo hi : ℕ) → lo ≤ hi → hi ≤ top → (ss : List Step) (k : ℕ) (w : Walked) →
        ((a : ℕ) → Hit P lo hi a → w ≡ walked ss (first P (suc hi) top) k) → (((b : ℕ) → Hit P lo hi b → ⊥) → k ≡ 0) →
        (r : Option ℕ) → Least r (Hit P lo top) → enter page hi r w ≡ walked (visit page (first P lo hi) ss) (first P (suc hi) top) k
    enter_is page lo hi le in_top ss k w read unread None l =
        let none : ((b : ℕ) → Hit P lo hi b → ⊥) = λ b h. l b (h.0, omega (arith, h.1), h.2) in
        rw (first_is P lo hi None none, first_is P (suc hi) top None (least_past P lo hi top (omega arith) none None l), unread none)
    enter_is page lo hi le in_top ss k w read unread (Some a) l = go (leb a hi) refl
      where
        go : (t : Bool) → leb a hi ≡ t → cond t (entered page a w) (passed (Some a)) ≡ walked (visit page (first P lo hi) ss) (first P (suc hi) top) k
        go true e =
            let in-hi : a ≤ hi = leb-true a hi e in
            let here : Least (Some a) (Hit P lo hi) = ((l.0.0, in-hi, l.0.2), λ b lt h. l.1 b lt (h.0, omega (arith, h.1), h.2)) in
            rw (first_is P lo hi (Some a) here, read a here.0)
        go false e =
            let past : hi < a = leb-false a hi e in
            let none : ((b : ℕ) → Hit P lo hi b → ⊥) = λ b h. l.1 b (omega (arith, h.1)) (h.0, omega (arith, h.1), h.2) in
            rw (first_is P lo hi None none, first_is P (suc hi) top (Some a) (least_past P lo hi top (omega arith) none (Some a) l), unread none)

    mutual
      walk_node : (n : Node) (lo hi : ℕ) → lo ≤ hi → hi ≤ top → Ordered n lo hi →
          walk ask P n hi (first P lo top) ≡ walked (steps P n lo hi) (first P (suc hi) top) (length (filter (met P) (leaves n lo hi)))
      walk_node (leaf page es) lo hi le in_top o =
          enter_is page lo hi le in_top (find_steps P es) (length (filter (met P) (leaves (leaf page es) lo hi))) _
          (λ a h. walked_is refl (asked (suc hi) (omega (arith, above a h.2, h.1))) (rw ((meets_decides P lo hi).1 (a, h.0, h.1, h.2))))
          (λ none. ap length (no_leaf lo hi none (leaf page es) lo hi (omega arith) (omega arith) o))
          (first P lo top) (first_least P lo top)
      walk_node (inner page ks) lo hi le in_top o =
          enter_is page lo hi le in_top (steps_in P ks lo hi) (length (filter (met P) (leaves_in ks lo hi))) (walk_in ask P ks hi (first P lo top))
          (λ a h. walk_forest ks lo hi le in_top o)
          (λ none. ap length (no_leaf_in lo hi none ks lo hi (omega arith) (omega arith) o))
          (first P lo top) (first_least P lo top)

      walk_forest : (ks : Forest) (lo hi : ℕ) → lo ≤ hi → hi ≤ top → OrderedIn ks lo hi →
          walk_in ask P ks hi (first P lo top) ≡ walked (steps_in P ks lo hi) (first P (suc hi) top) (length (filter (met P) (leaves_in ks lo hi)))
      walk_forest (last n) lo hi le in_top o = walk_node n lo hi le in_top o
      walk_forest (more n key ks) lo hi le in_top o =
          rw (walk_node n lo key o.0 (omega (arith, o.1)) o.2, walk_forest ks (suc key) hi o.1 in_top o.3)
          (walked_is refl refl (sym (ap length (filter-append (met P) (leaves n lo key) (leaves_in ks (suc key) hi)) ∙ length-append (filter (met P) (leaves n lo key)) (filter (met P) (leaves_in ks (suc key) hi)))))

-- the order's answer from b on is the search's from c on, where no address from start on lies between
order_asked : (inside : ℕ → Bool) (start top b c : ℕ) → start ≤ b → c ≤ b → ((x : ℕ) → c ≤ x → start ≤ x → b ≤ x) →
    (r : Option ℕ) → Least r (Hit inside b top) → first (from inside start) c top ≡ r
order_asked inside start top b c h k between r l =
    first_is (from inside start) c top r
    (least_like (Hit inside b top) (Hit (from inside start) c top)
    (λ x g. (omega (arith, g.0), g.1, from_is inside start x g.2 (omega (arith, g.0))))
    (λ x g. (between x g.0 (from_start inside start x g.2), g.1, from_inside inside start x g.2)) r l)

pub walk_law : WalkLaw
walk_law inside start ask n top o answers =
    let P = from inside start in
    let begun = order_asked inside start top start 0 (omega arith) (omega arith) (λ x g s. s) (ask start) (answers start) in
    let asked : (b : ℕ) → start ≤ b → ask b ≡ first P b top = λ b h. sym (order_asked inside start top b b h (omega arith) (λ x g s. g) (ask b) (answers b)) in
    let same = rw begun at (walk_node P ask start top asked (from_start inside start) n 0 top (omega arith) (omega arith) o) in
    (ap (λ w. w.steps) same, ap (λ w. w.asks) same)
