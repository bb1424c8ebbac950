-- The walk with a charge and room asks for a first address no more often than it read leaves, besides the first.
use Rattle.std.proofs.Common.{◌≡◌, ℕ, zero, suc, ◌+◌, ◌-◌, ◌≤◌, Bool, true, false, cond, leb, ◌⊎◌, List, [], ◌∷◌, ◌++◌, length, take, Some, None, filter, Option, sym, refl, ap, ◌∙◌, subst, inl, inr, suc-add, zero-add, arith, length-append}
use Rattle.std.specs.List.{AllByRecursion}
use Rattle.std.proofs.lemmas.List.Elements.{filter-append}
use Rattle.std.proofs.lemmas.List.{take-append-le}
use Rattle.tree.specs.Tree.{Node, Forest}
use Rattle.tree.specs.Tree.Node.{leaf, inner}
use Rattle.tree.specs.Tree.Forest.{last, more}
use Rattle.tree.specs.SearchSteps.{Region, leaves, leaves_in, from, Step, find_steps, search_steps, pages_read}
use Rattle.tree.specs.SearchSteps.Step.{reads, finds}
use Rattle.tree.specs.SearchRuns.{Ending, Outcome, outcome, run, read_count}
use Rattle.tree.specs.SearchRuns.Ending.{done, cut}
use Rattle.tree.specs.SearchWalks.{Walked, walk, walk_in, enter, entered, passed, joined}
use Rattle.tree.specs.SearchLimits.{Limited, Agrees, charged, reach, after_leaf, continue, limited, limited_in, passing_reads}
use Rattle.tree.specs.SearchLaws.{LimitedLaw}
use Rattle.tree.proofs.SearchRunning.{only_law, pages_append}
use Rattle.tree.proofs.SearchTests.{all_split}
use Rattle.tree.proofs.SearchWalking.{walk_law}
use Rattle.tree.proofs.SearchLimiting.{limited_node}

-- no more reads are made than there are
reads_few : (ss : List Step) (charge room : ℕ) → (run ss charge room).reads ≤ read_count ss
reads_few [] charge room = omega arith
reads_few (reads page a ∷ ss) zero room = omega arith
reads_few (reads page a ∷ ss) (suc charge) room = omega (arith, reads_few ss charge room)
reads_few (finds e ∷ ss) charge zero = omega arith
reads_few (finds e ∷ ss) charge (suc room) = reads_few ss charge room

take_past : {X : Type 0} (xs ys : List X) (k : ℕ) → take (length xs + k) (xs ++ ys) ≡ xs ++ take k ys
take_past [] ys k = ap (λ j. take j ys) (zero-add k)
take_past (x ∷ xs) ys k = ap (λ j. take j (x ∷ (xs ++ ys))) (suc-add (length xs) k) ∙ ap (λ zs. x ∷ zs) (take_past xs ys k)

module _ (is_leaf : ℕ → Bool) where
  -- steps behind others: the reads of the first, all made, and some of the second; or some of the first
  passing_both : (xs ys : List Step) (j k : ℕ) → j ≡ read_count xs → passing_reads is_leaf (j + k) (xs ++ ys) ≡ passing_reads is_leaf j xs + passing_reads is_leaf k ys
  passing_both xs ys j k e =
      let ps = pages_read xs in
      let qs = pages_read ys in
      rw (e, pages_append xs ys, take_past ps qs k, filter-append is_leaf ps (take k qs), length-append (filter is_leaf ps) (filter is_leaf (take k qs)))
      (ap (λ zs. length (filter is_leaf zs) + length (filter is_leaf (take k qs))) (sym (take_whole ps)))
    where
      take_whole : {X : Type 0} (xs : List X) → take (length xs) xs ≡ xs
      take_whole [] = refl
      take_whole (x ∷ xs) = ap (λ zs. x ∷ zs) (take_whole xs)

  passing_first : (xs ys : List Step) (j : ℕ) → j ≤ read_count xs → passing_reads is_leaf j (xs ++ ys) ≡ passing_reads is_leaf j xs
  passing_first xs ys j h = rw (pages_append xs ys, take-append-le j (pages_read xs) (pages_read ys) h)

  -- a read more in front: `own` is 1 only where its page is a leaf
  own_read : (page a k own : ℕ) (ss : List Step) → (own ≡ 0) ⊎ (is_leaf page ≡ true) → own ≤ 1 → own + passing_reads is_leaf k ss ≤ passing_reads is_leaf (suc k) (reads page a ∷ ss)
  own_read page a k own ss c h = go (is_leaf page) c
    where
      go : (t : Bool) → (own ≡ 0) ⊎ (t ≡ true) → own + passing_reads is_leaf k ss ≤ length (cond t (page ∷ filter is_leaf (take k (pages_read ss))) (filter is_leaf (take k (pages_read ss))))
      go true c = omega arith
      go false (inl z) = omega arith
      go false (inr e) = let z : ◌≡◌ {A = ℕ} 0 1 = cc in absurd (omega arith)

  -- asks, against the leaves among the pages read
  abbrev Few : Limited → ℕ → Walked → Type 0
  Few d spare w = d.asks ≤ spare + passing_reads is_leaf d.out.reads w.steps

  reach_few : (page hi own : ℕ) (below : ℕ → Limited) (w : Walked) (charge : ℕ) → (own ≡ 0) ⊎ (is_leaf page ≡ true) → own ≤ 1 → ((c : ℕ) → Few (below c) own w) →
      (next : Option ℕ) → Few (reach page hi next charge below) 0 (enter page hi next w)
  reach_few page hi own below w charge l one h None = omega arith
  reach_few page hi own below w charge l one h (Some a) = go (leb a hi) charge
    where
      go : (t : Bool) (charge : ℕ) → Few (cond t (charged page a charge below) (record { out = outcome [] done 0; next = Some a; asks = 0 })) 0 (cond t (entered page a w) (passed (Some a)))
      go true zero = omega arith
      go true (suc c) = omega (arith, h c, own_read page a (below c).out.reads own w.steps l one)
      go false charge = omega arith

  leaf_few : (e : Ending) (o : Outcome) (next asked : Option ℕ) (w : Walked) → Few (after_leaf e o next asked) 1 w
  leaf_few done o next asked w = omega arith
  leaf_few (Ending.more a) o next asked w = omega arith
  leaf_few (cut page a) o next asked w = omega arith

  stopped_few : (d : Limited) (w v : Walked) (charge room : ℕ) → Agrees d.out d.next w charge room → Few d 0 w → Few d 0 (joined w v)
  stopped_few d w v charge room g hd =
      let few : d.out.reads ≤ read_count w.steps = omega (arith, ap (λ o. o.reads) g.outcome_is, reads_few w.steps charge room) in
      omega (arith, hd, passing_first w.steps v.steps d.out.reads few)

  continue_few : (d p : Limited) (w : Walked) (rest : Option ℕ → Walked) (charge room : ℕ) → Agrees d.out d.next w charge room →
      Few d 0 w → Few p 0 (rest d.next) → (e : Ending) → d.out.ending ≡ e → Few (continue e d p) 0 (joined w (rest w.next))
  continue_few d p w rest charge room g hd hp done e =
      let all = (only_law w.steps charge room (sym (ap (λ o. o.ending) g.outcome_is) ∙ e)).0 in
      let count : d.out.reads ≡ read_count w.steps = ap (λ o. o.reads) g.outcome_is ∙ ap (λ o. o.reads) all in
      let hp' = subst (λ (nx : Option ℕ). Few p 0 (rest nx)) (g.next_is e) hp in
      omega (arith, hd, hp', passing_both w.steps (rest w.next).steps d.out.reads p.out.reads count)
  continue_few d p w rest charge room g hd hp (Ending.more a) e = stopped_few d w (rest w.next) charge room g hd
  continue_few d p w rest charge room g hd hp (cut page a) e = stopped_few d w (rest w.next) charge room g hd

  module _ (ask : ℕ → Option ℕ) (P : ℕ → Bool) where
    mutual
      few_node : (n : Node) (lo hi : ℕ) (next : Option ℕ) (charge room : ℕ) → AllByRecursion (λ (r : Region). is_leaf r.page ≡ true) (leaves n lo hi) →
          Few (limited ask P n hi next charge room) 0 (walk ask P n hi next)
      few_node (leaf page es) lo hi next charge room l =
          let w : Walked = record { steps = find_steps P es; next = ask (suc hi); asks = 1 } in
          reach_few page hi 1 (λ c. after_leaf (run (find_steps P es) c room).ending (run (find_steps P es) c room) next (ask (suc hi))) w
          charge (inr l.0) (omega arith) (λ c. leaf_few (run (find_steps P es) c room).ending (run (find_steps P es) c room) next (ask (suc hi)) w) next
      few_node (inner page ks) lo hi next charge room l =
          reach_few page hi 0 (λ c. limited_in ask P ks hi next c room) (walk_in ask P ks hi next) charge (inl refl) (omega arith) (λ c. few_forest ks lo hi next c room l) next

      few_forest : (ks : Forest) (lo hi : ℕ) (next : Option ℕ) (charge room : ℕ) → AllByRecursion (λ (r : Region). is_leaf r.page ≡ true) (leaves_in ks lo hi) →
          Few (limited_in ask P ks hi next charge room) 0 (walk_in ask P ks hi next)
      few_forest (last n) lo hi next charge room l = few_node n lo hi next charge room l
      few_forest (more n key ks) lo hi next charge room l =
          let d = limited ask P n key next charge room in
          let both = all_split (λ (r : Region). is_leaf r.page ≡ true) (leaves n lo key) (leaves_in ks (suc key) hi) l in
          continue_few d (limited_in ask P ks hi d.next (charge - d.out.reads) (room - length d.out.found)) (walk ask P n key next) (λ nx. walk_in ask P ks hi nx) charge room
          (limited_node ask P n key next charge room) (few_node n lo key next charge room both.0)
          (few_forest ks (suc key) hi d.next (charge - d.out.reads) (room - length d.out.found) both.1) d.out.ending refl

pub limited_law : LimitedLaw
limited_law inside start ask n top o answers charge room =
    let P = from inside start in
    let same = (walk_law inside start ask n top o answers).0 in
    let out = (limited_node ask P n top (ask start) charge room).outcome_is ∙ ap (λ ss. run ss charge room) same in (
      out,
      λ is_leaf l.
          let few = few_node is_leaf ask P n 0 top (ask start) charge room l in
          let moved = ap (λ (k : ℕ). passing_reads is_leaf k (walk ask P n top (ask start)).steps) (ap (λ x. x.reads) out)
          ∙ ap (passing_reads is_leaf (run (search_steps inside start n 0 top) charge room).reads) same in
          omega (arith, few, moved),
    )
