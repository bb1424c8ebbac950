-- The search of a tree: what its walk comes to is the run of the theory's steps.
use Rattle.std.proofs.Common.{◌≡◌, ℕ, suc, ◌+◌, ◌-◌, ◌≤◌, Bool, List, [], ◌∷◌, ◌++◌, map, length, take, drop, set, Some, None, Option, sym, refl, ap, ◌∙◌, subst, append_assoc, arith, take-append-drop, drop-set-lt}
use lib.Seq.{take-append_seam}
use Rattle.std.proofs.lemmas.List.{length-set, take-set, take_more, get_or-set_same}
use Rattle.layout.specs.declared.page_ref.PageRef.{PageRef}
use Rattle.orders.specs.Orders.{InSpaceOf, size}
use Rattle.pages.specs.Image.{Image}
use Rattle.records.specs.declared.tray.Tray.{Tray}
use Rattle.tree.specs.Tree.{Node, Level, Ordered}
use Rattle.tree.specs.Tree.Node.{leaf, inner}
use Rattle.tree.specs.SearchSteps.{Step, from, search_steps}
use Rattle.tree.specs.SearchRuns.{Outcome, outcome, run, search_run}
use Rattle.tree.specs.SearchWalks.{walk}
use Rattle.tree.proofs.SearchFirst.{first_least}
use Rattle.tree.proofs.SearchWalking.{walk_law}
use Rattle.searches.specs.declared.find.Find.{Find}
use Rattle.searches.specs.declared.part.Part.{Part}
use Rattle.searches.specs.Sought.{Sought, FirstFrom}
use Rattle.searches.specs.Finds.{find_of, ending_of, put_all, Puts}
use Rattle.searches.specs.Walking.{StandsAs, Walks}
use Rattle.searches.specs.Searching.{finds_of, nothing, Tells, Searches}
use Rattle.searches.proofs.Insides.{in_box, asked, asked_asks, wanted_tests}
use Rattle.searches.proofs.LeafFinds.{length_put_all}
use Rattle.searches.proofs.PageWalk.{first_once, no_level}

-- 1. finds put into an empty tray stand first, and the rest is as it was

put_all_is : (memory : List Find) (used : ℕ) (xs : List Find) → used + length xs ≤ length memory → put_all memory used xs ≡ take used memory ++ (xs ++ drop (used + length xs) memory)
put_all_is memory used [] h = let e : used + 0 ≡ used = omega arith in sym (ap (λ k. take used memory ++ drop k memory) e ∙ take-append-drop used memory)
put_all_is memory used (x ∷ xs) h =
    let n = length-set memory used x in
    let one : take (used + 1) (set memory used x) ≡ take used memory ++ (x ∷ []) =
    take_more (set memory used x) used x (omega arith) ∙ (λ i. take-set memory used x i ++ (get_or-set_same memory used x x (omega arith) i ∷ [])) in
    let past : drop (used + 1 + length xs) (set memory used x) ≡ drop (used + suc (length xs)) memory =
    drop-set-lt (used + 1 + length xs) memory used x (omega arith) ∙ ap (λ k. drop k memory) (omega arith) in
    put_all_is (set memory used x) (used + 1) xs (omega arith)
    ∙ (λ i. one i ++ (xs ++ past i))
    ∙ append_assoc (take used memory) (x ∷ []) (xs ++ drop (used + suc (length xs)) memory)

put_first : (memory xs : List Find) → length xs ≤ length memory → put_all memory 0 xs ≡ xs ++ drop (length xs) memory
put_first memory xs h = put_all_is memory 0 xs (omega arith) ∙ ap (λ k. xs ++ drop k memory) (omega arith)

first_finds : (memory memory' xs : List Find) (used' : ℕ) → memory' ≡ put_all memory 0 xs → used' ≡ 0 + length xs → used' ≤ length memory → take used' memory' ≡ xs
first_finds memory memory' xs used' e u h =
    let n : used' ≡ length xs = omega arith in
    (λ i. take (n i) ((e ∙ put_first memory xs (omega arith)) i)) ∙ take-append_seam xs (drop (length xs) memory)

rest_kept : (memory memory' xs : List Find) (used' : ℕ) → memory' ≡ put_all memory 0 xs → used' ≡ 0 + length xs → used' ≤ length memory → memory' ≡ take used' memory' ++ drop used' memory
rest_kept memory memory' xs used' e u h =
    let n : used' ≡ length xs = omega arith in
    e ∙ put_first memory xs (omega arith) ∙ sym (λ i. first_finds memory memory' xs used' e u h i ++ drop (n i) memory)

module _ (q : Sought) where
  -- 2. the walk's steps are the search's
  same_steps : (n : Node) → Ordered n 0 (size q.order - 1) →
      (walk (asked q) (from (in_box q) q.start) n (size q.order - 1) (asked q q.start)).steps ≡ search_steps (in_box q) q.start n 0 (size q.order - 1)
  same_steps n ordered = (walk_law (in_box q) q.start (asked q) n (size q.order - 1) ordered (λ b. first_least (in_box q) b (size q.order - 1))).0

  passed_steps : (ask : ℕ → Option ℕ) (P : ℕ → Bool) (n : Node) (end : ℕ) → (walk ask P n end None).steps ≡ []
  passed_steps ask P (leaf p es) end = refl
  passed_steps ask P (inner p f) end = refl

  -- 3. the exits of the search
  module _ (m : Image) (root : PageRef) (top : ℕ) (memory : List Find) where
    found_nothing : ((n : Node) → StandsAs m root.page root.level n → Ordered n 0 top → top ≡ size q.order - 1 → InSpaceOf q.order q.low → InSpaceOf q.order q.high →
        search_steps (in_box q) q.start n 0 top ≡ []) → Searches q m root top memory nothing m memory
    found_nothing none = record {
      same = refl;
      paid = omega arith;
      fits = omega arith;
      lent = refl;
      empty = λ z. refl;
      tree = λ n s ordered t il ih.
          subst (λ (ss : List Step). Tells q.order (run ss m.charge (length memory)) nothing memory) (sym (none n s ordered t il ih)) (record { ending = refl; reads = refl; finds = refl });
    }

    pub no_tree : root.level ≡ 0 → Searches q m root top memory nothing m memory
    no_tree z = found_nothing (λ n s ordered t il ih. absurd (no_level n (subst (λ (h : ℕ). Level n h) z s.1)))

    pub none_left : FirstFrom q q.start None → Searches q m root top memory nothing m memory
    none_left f = found_nothing none
      where
        none : (n : Node) → StandsAs m root.page root.level n → Ordered n 0 top → top ≡ size q.order - 1 → InSpaceOf q.order q.low → InSpaceOf q.order q.high → search_steps (in_box q) q.start n 0 top ≡ []
        none n s ordered t il ih =
            let asks_none : asked q q.start ≡ None = first_once q q.start (asked q q.start) None (asked_asks q il ih q.start) f in
            ap (λ (k : ℕ). search_steps (in_box q) q.start n 0 k) t
            ∙ sym (same_steps n (subst (λ (k : ℕ). Ordered n 0 k) t ordered))
            ∙ ap (λ (x : Option ℕ). (walk (asked q) (from (in_box q) q.start) n (size q.order - 1) x).steps) asks_none
            ∙ passed_steps (asked q) (from (in_box q) q.start) n (size q.order - 1)

    -- a walk from an empty tray over the memory, which the lender then gets back
    pub walked : (a : ℕ) (r : Part) (m' : Image) (t t' : Tray Find) (memory' : List Find) (count : ℕ) → 1 ≤ root.level → FirstFrom q q.start (Some a) → t.memory.now ≡ memory → t.used ≡ 0 →
        Walks q m root top (Some a) t r m' t' → t'.used ≤ length t'.memory.now → memory' ≡ t'.memory.now → count ≡ t'.used →
        Searches q m root top memory (record { count = count; reads = r.reads; ending = r.ending }) m' memory'
    walked a r m' t t' memory' count some f eb ez w within e c = record {
      same = w.same;
      paid = w.paid;
      fits = fits w.laid;
      lent = rest_kept memory memory' w.laid.0 count (put w.laid) (used w.laid) (fits w.laid);
      empty = λ z. absurd (omega arith);
      tree = tells;
    }
      where
        put : (b : (xs : List Find) × Puts xs t t') → memory' ≡ put_all memory 0 b.0
        put b = e ∙ b.1.memory ∙ (λ i. put_all (eb i) (ez i) b.0)

        used : (b : (xs : List Find) × Puts xs t t') → count ≡ 0 + length b.0
        used b = omega (arith, c, b.1.used, ez)

        fits : (b : (xs : List Find) × Puts xs t t') → count ≤ length memory
        fits b = omega (arith, c, ap length e, ap length (put b), length_put_all memory 0 b.0)

        tells : (n : Node) → StandsAs m root.page root.level n → Ordered n 0 top → top ≡ size q.order - 1 → InSpaceOf q.order q.low → InSpaceOf q.order q.high →
            Tells q.order (search_run (in_box q) q.start n 0 top m.charge (length memory)) (record { count = count; reads = r.reads; ending = r.ending }) memory'
        tells n s ordered tops il ih =
            let b = w.walks n s (from (in_box q) q.start) (wanted_tests q) (asked q) (asked_asks q il ih) in
            let xs = map (find_of q.order) b.0 in
            let next : Some a ≡ asked q q.start = first_once q q.start (Some a) (asked q q.start) f (asked_asks q il ih q.start) in
            let steps-are : (walk (asked q) (from (in_box q) q.start) n top (Some a)).steps ≡ search_steps (in_box q) q.start n 0 top =
            (λ i. (walk (asked q) (from (in_box q) q.start) n (tops i) (next i)).steps)
            ∙ same_steps n (subst (λ (k : ℕ). Ordered n 0 k) tops ordered)
            ∙ sym (ap (λ (k : ℕ). search_steps (in_box q) q.start n 0 k) tops) in
            let left : length t.memory.now - t.used ≡ length memory = omega (arith, ap length eb, ez) in
            let is : outcome b.0 (ending_of r.ending) r.reads ≡ search_run (in_box q) q.start n 0 top m.charge (length memory) =
            b.1.outcome_is ∙ (λ i. run (steps-are i) m.charge (left i)) in
            record {
              ending = ap (λ (x : Outcome). x.ending) is;
              reads = ap (λ (x : Outcome). x.reads) is;
              finds = first_finds memory memory' xs count (put (xs, b.2)) (used (xs, b.2)) (fits (xs, b.2)) ∙ ap (λ (x : Outcome). finds_of q.order x) is;
            }
