-- A charge for one way down gets on: after the first leaf every page is read for an address past the least.
use Rattle.std.proofs.Common.{◌≡◌, ℕ, zero, suc, ◌<◌, ◌≤◌, max, Bool, true, false, cond, List, [], ◌∷◌, ◌++◌, Some, None, Option, sym, refl, ap, arith}
use Rattle.layout.specs.declared.entry.Entry.{Entry}
use Rattle.tree.specs.Tree.{Node, Forest, Ordered, OrderedIn, Level, LevelIn}
use Rattle.tree.specs.Tree.Node.{leaf, inner}
use Rattle.tree.specs.Tree.Forest.{last, more}
use Rattle.tree.specs.SearchSteps.{first, from, Step, find_steps, steps, steps_in, search_steps}
use Rattle.tree.specs.SearchSteps.Step.{reads, finds}
use Rattle.tree.specs.SearchRuns.{Ending, stopped_at, run}
use Rattle.tree.specs.SearchRuns.Ending.{cut}
use Rattle.tree.specs.SearchLaws.{ProgressLaw, ProgressMoreLaw}
use Rattle.tree.proofs.SearchTests.{from_start}
use Rattle.tree.proofs.SearchFirst.{first_is, is_least, least_past, least_wider}
use Rattle.tree.proofs.SearchRising.{Rises, run_stopped, steps_rise, steps_rise_in}

-- the pages on the longest way down; that is the height, where the leaves stand at one level
abbrev mutual
  pub height : Node → ℕ
  height (leaf page es) = 1
  height (inner page ks) = suc (height_in ks)

  pub height_in : Forest → ℕ
  height_in (last n) = height n
  height_in (more n key ks) = max (height n) (height_in ks)

mutual
  pub level_height : (n : Node) (h : ℕ) → Level n h → height n ≡ h
  level_height (leaf page es) h l = sym l
  level_height (inner page ks) zero l = absurd l
  level_height (inner page ks) (suc h) l = ap suc (level_height_in ks h l)

  level_height_in : (ks : Forest) (h : ℕ) → LevelIn ks h → height_in ks ≡ h
  level_height_in (last n) h l = level_height n h l
  level_height_in (more n key ks) h l = omega (arith, level_height n h l.0, level_height_in ks h l.1)

-- from the k-th read on, counted from 0, each read is for an address from c on
abbrev Later : ℕ → ℕ → List Step → Type 0
Later c k [] = Unit {0}
Later c zero (reads page a ∷ ss) = (c ≤ a) × Later c zero ss
Later c (suc k) (reads page a ∷ ss) = Later c k ss
Later c k (finds e ∷ ss) = Later c k ss

later_more : (c k m : ℕ) → k ≤ m → (ss : List Step) → Later c k ss → Later c m ss
later_more c k m h [] l = tt
later_more c zero zero h (reads page a ∷ ss) l = l
later_more c zero (suc m) h (reads page a ∷ ss) l = later_more c zero m (omega arith) ss l.1
later_more c (suc k) zero h (reads page a ∷ ss) l = absurd (omega arith)
later_more c (suc k) (suc m) h (reads page a ∷ ss) l = later_more c k m (omega arith) ss l
later_more c k m h (finds e ∷ ss) l = later_more c k m h ss l

later_append : (c k : ℕ) (xs ys : List Step) → Later c k xs → Later c zero ys → Later c k (xs ++ ys)
later_append c k [] ys l m = later_more c zero k (omega arith) ys m
later_append c zero (reads page a ∷ xs) ys l m = (l.0, later_append c zero xs ys l.1 m)
later_append c (suc k) (reads page a ∷ xs) ys l m = later_append c k xs ys l m
later_append c k (finds e ∷ xs) ys l m = later_append c k xs ys l m

rises_later : (P : ℕ → Bool) (c b top : ℕ) → c ≤ b → (ss : List Step) → Rises P b top ss → Later c zero ss
rises_later P c b top h [] r = tt
rises_later P c b top h (reads page a ∷ ss) r = (omega (arith, r.0), rises_later P c a top (omega (arith, r.0)) ss r.3)
rises_later P c b top h (finds e ∷ ss) r = rises_later P c (suc e.key) top (omega (arith, r.0)) ss r.3

finds_later : (P : ℕ → Bool) (c k : ℕ) (es : List Entry) → Later c k (find_steps P es)
finds_later P c k [] = tt
finds_later P c k (e ∷ es) = go (P e.key) (finds_later P c k es)
  where
    go : (t : Bool) → Later c k (find_steps P es) → Later c k (cond t (finds e ∷ find_steps P es) (find_steps P es))
    go true l = l
    go false l = l

-- a run that is paid for k reads is cut no earlier
later_cut : (c k : ℕ) (ss : List Step) → Later c k ss → (charge room page a : ℕ) → k ≤ charge → (run ss charge room).ending ≡ cut page a → c ≤ a
later_cut c k [] l charge room page a h e = let z : ◌≡◌ {A = ℕ} 0 1 = cc in absurd (omega arith)
later_cut c zero (reads p b ∷ ss) l zero room page a h e = let q : b ≡ a = cc in omega (arith, l.0)
later_cut c zero (reads p b ∷ ss) l (suc charge) room page a h e = later_cut c zero ss l.1 charge room page a (omega arith) e
later_cut c (suc k) (reads p b ∷ ss) l zero room page a h e = absurd (omega arith)
later_cut c (suc k) (reads p b ∷ ss) l (suc charge) room page a h e = later_cut c k ss l charge room page a (omega arith) e
later_cut c k (finds g ∷ ss) l charge zero page a h e = let z : ◌≡◌ {A = ℕ} 0 1 = cc in absurd (omega arith)
later_cut c k (finds g ∷ ss) l charge (suc room) page a h e = later_cut c k ss l charge room page a h e

pub unvisited : (P : ℕ → Bool) (n : Node) (lo hi : ℕ) → first P lo hi ≡ None → steps P n lo hi ≡ []
unvisited P (leaf page es) lo hi e = rw e
unvisited P (inner page ks) lo hi e = rw e

-- a child and those behind it: the first address is in the child, or in those behind it
join_later : (P : ℕ → Bool) (n : Node) (key : ℕ) (ks : Forest) (lo hi a : ℕ) → OrderedIn (more n key ks) lo hi → first P lo hi ≡ Some a →
    ((b : ℕ) → first P lo key ≡ Some b → Later (suc b) (height n) (steps P n lo key)) →
    (first P (suc key) hi ≡ Some a → Later (suc a) (height_in ks) (steps_in P ks (suc key) hi)) →
    (r : Option ℕ) → first P lo key ≡ r →
    Later (suc a) (max (height n) (height_in ks)) (steps P n lo key ++ steps_in P ks (suc key) hi)
join_later P n key ks lo hi a o e one rest None f =
    let none = is_least P lo key None f in
    let e' = first_is P (suc key) hi (Some a) (least_past P lo key hi (omega (arith, o.0)) none (Some a) (is_least P lo hi (Some a) e)) in
    rw (unvisited P n lo key f) (later_more (suc a) (height_in ks) (max (height n) (height_in ks)) (omega arith) (steps_in P ks (suc key) hi) (rest e'))
join_later P n key ks lo hi a o e one rest (Some b) f =
    let l = is_least P lo key (Some b) f in
    let w = first_is P lo hi (Some b) (least_wider P lo key hi b (omega (arith, o.1)) l) in
    let q : a ≡ b = cc in
    later_append (suc a) (max (height n) (height_in ks)) (steps P n lo key) (steps_in P ks (suc key) hi)
    (later_more (suc a) (height n) (max (height n) (height_in ks)) (omega arith) (steps P n lo key) (rw q (one b f)))
    (rises_later P (suc a) (suc key) hi (omega (arith, l.0.1)) (steps_in P ks (suc key) hi) (steps_rise_in P ks (suc key) hi o.3))

mutual
  down_node : (P : ℕ → Bool) (n : Node) (lo hi a : ℕ) → Ordered n lo hi → first P lo hi ≡ Some a → Later (suc a) (height n) (steps P n lo hi)
  down_node P (leaf page es) lo hi a o e = rw e (finds_later P (suc a) 0 es)
  down_node P (inner page ks) lo hi a o e = rw e (down_in P ks lo hi a o e)

  down_in : (P : ℕ → Bool) (ks : Forest) (lo hi a : ℕ) → OrderedIn ks lo hi → first P lo hi ≡ Some a → Later (suc a) (height_in ks) (steps_in P ks lo hi)
  down_in P (last n) lo hi a o e = down_node P n lo hi a o e
  down_in P (more n key ks) lo hi a o e =
      join_later P n key ks lo hi a o e (λ b f. down_node P n lo key b o.2 f) (λ f. down_in P ks (suc key) hi a o.3 f) (first P lo key) refl

pub progress_law : ProgressLaw
progress_law inside start n lo hi height₀ o lv charge room page a h e = go (first (from inside start) lo hi) refl
  where
    way : height n ≤ charge
    way = omega (arith, level_height n height₀ lv)

    go : (r : Option ℕ) → first (from inside start) lo hi ≡ r → start < a
    go None f =
        let no = ap (λ ss. (run ss charge room).ending) (unvisited (from inside start) n lo hi f) in
        let z : ◌≡◌ {A = ℕ} 0 1 = cc in absurd (omega arith)
    go (Some b) f =
        let l = is_least (from inside start) lo hi (Some b) f in
        let past = later_cut (suc b) (height n) (search_steps inside start n lo hi) (down_node (from inside start) n lo hi b o f) charge room page a way e in
        omega (arith, from_start inside start b l.0.2, past)

more_later : (P : ℕ → Bool) (start b top : ℕ) → ((x : ℕ) → P x ≡ true → start ≤ x) → (ss : List Step) → Rises P b top ss →
    (charge room a : ℕ) → 0 < room → (run ss charge room).ending ≡ Ending.more a → start < a
more_later P start b top s [] r charge room a h e = let z : ◌≡◌ {A = ℕ} 0 1 = cc in absurd (omega arith)
more_later P start b top s (reads page c ∷ ss) r zero room a h e = let z : ◌≡◌ {A = ℕ} 0 1 = cc in absurd (omega arith)
more_later P start b top s (reads page c ∷ ss) r (suc charge) room a h e = more_later P start c top s ss r.3 charge room a h e
more_later P start b top s (finds g ∷ ss) r charge zero a h e = absurd (omega arith)
more_later P start b top s (finds g ∷ ss) r charge (suc room) a h e =
    omega (arith, s g.key r.2, (run_stopped P (suc g.key) top ss r.3 charge room a (ap stopped_at e)).0)

pub progress_more_law : ProgressMoreLaw
progress_more_law inside start n lo hi o charge room a h e =
    more_later (from inside start) start lo hi (from_start inside start) (search_steps inside start n lo hi) (steps_rise (from inside start) n lo hi o) charge room a h e
