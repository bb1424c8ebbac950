-- The laws of a kept state: what a whole step does, with the totals, the pages and the memory.
use Rattle.std.proofs.Common.{◌≡◌, ℕ, suc, ◌+◌, ◌-◌, ◌≤◌, List, [], ◌∷◌, ◌++◌, length, drop, sym, refl, ap, ◌∙◌, subst, append-nil, arith, length-append, length-drop}
use Rattle.std.specs.List.{AllByRecursion}
use Rattle.layout.specs.declared.entry.Entry.{Entry}
use Rattle.layout.specs.Content.{LeafKeys}
use Rattle.tree.specs.Tree.{Node, Held, Contents, pages, counts, count_at}
use Rattle.tree.specs.Tree.Node.{leaf, inner}
use Rattle.tree.specs.Tree.Held.{none, held}
use Rattle.tree.specs.CopyWrites.{after, mark, times}
use Rattle.tree.specs.CopyMoves.{State, Step, lodge_step, withdraw_step}
use Rattle.tree.specs.CopyLaws.{Kept, Copies, SoundOf, StandsOf, events_of, pages_of, path_of, usable, push_each, leaf_first, lodge_takes, withdraw_takes, Within, LodgeLaw, WithdrawLaw, CountLaw, SumLaw, SortedLaw, GreatestLaw, NumberLaw, FrameLaw, AgreeLaw, EmptyLaw, RangeLaw, OpenedLaw}
use Rattle.tree.proofs.CopyBase.{weigh_append}
use Rattle.tree.proofs.CopyNumbers.{path_length}
use Rattle.tree.proofs.CopyStanding
use Rattle.tree.proofs.CopyShares
use Rattle.tree.proofs.CopySums
use Rattle.tree.proofs.CopySteps.{Shaped, Moved, lodge_moved, withdraw_moved, lodge_events, withdraw_events, tree_rising, enter_count, remove_count}

-- pages and free list as one list
all_numbers : (limit : ℕ) (ps free : List ℕ) → ((p : ℕ) → times p ps + times p free ≡ times p (usable limit)) → length ps + length free ≡ limit - 1
all_numbers limit ps free h =
    omega (
      arith,
      length-append ps free,
      CopyShares.upward_length 2 (limit - 1),
      CopyShares.same_length (ps ++ free) (usable limit) (λ p. weigh_append (mark p) ps free ∙ h p),
    )

disjoint_of : (limit : ℕ) (ps free : List ℕ) → ((p : ℕ) → times p ps + times p free ≡ times p (usable limit)) → CopyStanding.Disjoint ps free
disjoint_of limit ps free h p = omega (arith, h p, CopyShares.upward_once p 2 (limit - 1))

pages_some : (n : Node) → 1 ≤ length (pages n)
pages_some (leaf p es) = omega arith
pages_some (inner p f) = omega arith

-- from a sound tree
shaped_of : (m : Contents) (limit h total top : ℕ) (t : Held Node) → SoundOf m limit h total top t → Shaped t top h
shaped_of m limit h total top none s = s.0
shaped_of m limit h total top (held n) s = (s.ordered, s.levels, s.filled)

stands_of : (m : Contents) (limit h total top : ℕ) (t : Held Node) → SoundOf m limit h total top t → StandsOf t m
stands_of m limit h total top none s = tt
stands_of m limit h total top (held n) s = s.stands

sum_of : (m : Contents) (limit h total top : ℕ) (t : Held Node) → SoundOf m limit h total top t → counts (events_of t) ≡ total
sum_of m limit h total top none s = sym s.1
sum_of m limit h total top (held n) s = s.sum

-- in another memory where it stands
sound_in : (m m' : Contents) (limit h total top : ℕ) (t : Held Node) → SoundOf m limit h total top t → StandsOf t m' → SoundOf m' limit h total top t
sound_in m m' limit h total top none s i = s
sound_in m m' limit h total top (held n) s i = record
    { root_is = s.root_is; range = s.range; once = s.once; levels = s.levels; stands = i; filled = s.filled; ordered = s.ordered; sum = s.sum; room = s.room }

-- to a sound tree
sound_from : (m : Contents) (limit h total top : ℕ) (t : Held Node) (free : List ℕ) → Shaped t top h → StandsOf t m → counts (events_of t) ≡ total →
    ((p : ℕ) → times p (pages_of t) + times p free ≡ times p (usable limit)) → (1 ≤ length (pages_of t) → 6 ≤ length free) → SoundOf m limit h total top t
sound_from m limit h total top none free z s c d six = (z, sym c)
sound_from m limit h total top (held n) free z s c d six = record {
  root_is = refl;
  range = CopyShares.all_of_times (λ (p : ℕ). (2 ≤ p) × (p ≤ limit)) (pages n)
      (λ p i. let w = CopyShares.upward_within p 2 (limit - 1) (omega (arith, d p)) in (w.0, omega (arith, w.0, w.1)));
  once = CopyShares.times_apart (pages n) (λ p. omega (arith, disjoint_of limit (pages n) free d p));
  levels = z.1;
  stands = s;
  filled = z.2;
  ordered = z.0;
  sum = c;
  room = omega (arith, all_numbers limit (pages n) free d, six (pages_some n));
}

-- pushed leaf first, a path stands root first
push_more : (xs ys free : List ℕ) → push_each (xs ++ ys) free ≡ push_each ys (push_each xs free)
push_more [] ys free = refl
push_more (x ∷ xs) ys free = push_more xs ys (x ∷ free)

pub push_path : (ps free : List ℕ) → push_each (leaf_first ps) free ≡ ps ++ free
push_path [] free = refl
push_path (p ∷ ps) free = push_more (leaf_first ps) (p ∷ []) free ∙ ap (λ (z : List ℕ). p ∷ z) (push_path ps free)

-- a step from a kept state
copied : (m : Contents) (limit before total top : ℕ) (s : State) (a k : ℕ) (u : Step) → Kept m limit before top s → Moved top s a k u →
    counts (events_of u.next.tree) ≡ total → 6 ≤ length u.next.free → Copies m limit before total top s a k u
copied m limit before total top s a k u z w c six =
    let there = stands_of m limit s.height before top s.tree z.sound in
    let shared : (p : ℕ) → times p (pages_of u.next.tree) + times p u.next.free ≡ times p (usable limit) = λ p. w.pages_kept p ∙ z.shared p in
    record {
      kept = record {
        sound = sound_from (after u.writes m) limit u.next.height total top u.next.tree u.next.free w.shape (w.new m there) c shared (λ _. six);
        shared = shared;
      };
      old = λ done left b. record {
        sound = sound_in m (after done m) limit s.height before top s.tree z.sound (w.old m done left b there);
        shared = z.shared;
      };
      both = (w.old m u.writes [] (sym (append-nil u.writes)) there, w.new m there);
      wrote = w.wrote;
      took = w.took;
      freed = w.freed;
      pushed = w.freed ∙ sym (push_path (path_of s.tree a) (drop k s.free));
      pages_kept = w.pages_kept;
    }

pub number_law : NumberLaw
number_law m limit total top s z = (all_numbers limit (pages_of s.tree) s.free z.shared, six-free s.tree s.height s.free z.sound z.shared)
  where
    six-free : (t : Held Node) (h : ℕ) (free : List ℕ) → SoundOf m limit h total top t → ((p : ℕ) → times p (pages_of t) + times p free ≡ times p (usable limit)) →
        1 ≤ length (pages_of t) → 6 ≤ length free
    six-free none h free s d i = absurd (omega arith)
    six-free (held n) h free s d i = omega (arith, s.room, all_numbers limit (pages n) free d)

pub lodge_law : LodgeLaw
lodge_law m limit total top s a z in_top enough =
    let k = lodge_takes s.tree s.height a in
    let shape = shaped_of m limit s.height total top s.tree z.sound in
    let e = lodge_events top s.tree s.height s.free a shape in
    let w = lodge_moved top s.tree s.height s.free a shape (disjoint_of limit (pages_of s.tree) s.free z.shared) in_top (omega arith) in (
      e,
      copied m limit total (suc total) top s a k (lodge_step s a) z w
          (ap counts e ∙ CopySums.enter_sum a (events_of s.tree) ∙ ap suc (sum_of m limit s.height total top s.tree z.sound))
          (omega (arith, ap length w.freed, length-append (path_of s.tree a) (drop k s.free), length-drop k s.free)),
    )

-- the events rise, and so each has a count
rising_some : (lo hi : ℕ) (es : List Entry) → LeafKeys lo hi es → AllByRecursion (λ e. 1 ≤ e.value) es
rising_some lo hi [] r = tt
rising_some lo hi (e ∷ es) r = (r.2, rising_some (suc e.key) hi es r.3)

sorted_of : (t : Held Node) (top h : ℕ) → Shaped t top h → LeafKeys 0 top (events_of t)
sorted_of none top h z = tt
sorted_of (held n) top h z = tree_rising n 0 top z.0

pub sorted_law : SortedLaw
sorted_law m limit total top s z = sorted_of s.tree top s.height (shaped_of m limit s.height total top s.tree z.sound)

-- pages enough for a withdrawal
module _ (top h a : ℕ) (free : List ℕ) (low : h ≤ 6) where
  withdraw_room : (t : Held Node) → Shaped t top h → (1 ≤ length (pages_of t) → 6 ≤ length free) → 1 ≤ count_at (events_of t) a →
      (6 ≤ length free) × (withdraw_takes t h a ≤ 6) × (withdraw_takes t h a ≤ length (path_of t a))
  withdraw_room none z six has = absurd (omega arith)
  withdraw_room (held n) z six has = (six (pages_some n), omega arith, omega (arith, path_length n a h z.1))

pub withdraw_law : WithdrawLaw
withdraw_law m limit total top s a z low has =
    let k = withdraw_takes s.tree s.height a in
    let shape = shaped_of m limit s.height total top s.tree z.sound in
    let e = withdraw_events top s.tree s.height s.free a shape in
    let r = withdraw_room top s.height a s.free low s.tree shape (number_law m limit total top s z).1 has in
    let enough : k ≤ length s.free = omega (arith, r.0, r.1) in
    let w = withdraw_moved top s.tree s.height s.free a shape (disjoint_of limit (pages_of s.tree) s.free z.shared) enough in
    let c = CopySums.remove_sum a (events_of s.tree) (rising_some 0 top (events_of s.tree) (sorted_law m limit total top s z)) has in (
      enough,
      e,
      copied m limit total (total - 1) top s a k (withdraw_step s a) z w
          (omega (arith, ap counts e, c, sum_of m limit s.height total top s.tree z.sound))
          (omega (arith, r.0, r.2, ap length w.freed, length-append (path_of s.tree a) (drop k s.free), length-drop k s.free)),
    )

pub count_law : CountLaw
count_law m limit total top s a b z =
    let shape = shaped_of m limit s.height total top s.tree z.sound in (
      ap (λ (x : List Entry). count_at x b) (lodge_events top s.tree s.height s.free a shape) ∙ enter_count a b (events_of s.tree),
      ap (λ (x : List Entry). count_at x b) (withdraw_events top s.tree s.height s.free a shape)
          ∙ remove_count a b 0 top (events_of s.tree) (sorted_law m limit total top s z),
    )

pub sum_law : SumLaw
sum_law m limit total top s a z =
    let shape = shaped_of m limit s.height total top s.tree z.sound in (
      ap counts (lodge_events top s.tree s.height s.free a shape) ∙ CopySums.enter_sum a (events_of s.tree),
      λ has. ap (λ (x : List Entry). suc (counts x)) (withdraw_events top s.tree s.height s.free a shape)
          ∙ CopySums.remove_sum a (events_of s.tree) (rising_some 0 top (events_of s.tree) (sorted_law m limit total top s z)) has,
    )

pub greatest_law : GreatestLaw
greatest_law m limit total top s a greatest z w =
    let shape = shaped_of m limit s.height total top s.tree z.sound in (
      λ h. subst (Within greatest) (sym (lodge_events top s.tree s.height s.free a shape)) (CopySums.enter_within a greatest (events_of s.tree) w h),
      subst (Within greatest) (sym (withdraw_events top s.tree s.height s.free a shape)) (CopySums.remove_within a greatest (events_of s.tree) w),
    )

pub frame_law : FrameLaw
frame_law n m m' h s = CopyStanding.frame n m m' (λ p i. CopyShares.times_of_all (λ (q : ℕ). m' q ≡ m q) (pages n) p h i) s

stands_alike : (m m' : Contents) (limit h total top : ℕ) (t : Held Node) → ((p : ℕ) → 2 ≤ p → p ≤ limit → m' p ≡ m p) → SoundOf m limit h total top t → StandsOf t m'
stands_alike m m' limit h total top none e s = tt
stands_alike m m' limit h total top (held n) e s =
    CopyStanding.frame n m m' (λ p i. let r = CopyShares.times_of_all (λ (q : ℕ). (2 ≤ q) × (q ≤ limit)) (pages n) p s.range i in e p r.0 r.1) s.stands

pub agree_law : AgreeLaw
agree_law m m' limit total top s e z = record {
  sound = sound_in m m' limit s.height total top s.tree z.sound (stands_alike m m' limit s.height total top s.tree e z.sound);
  shared = z.shared;
}

pub empty_law : EmptyLaw
empty_law m limit top = record { sound = (refl, refl); shared = λ p. omega arith }

pub range_law : RangeLaw
range_law m limit total top s z =
    let usable-only : (ps : List ℕ) → ((p : ℕ) → times p ps ≤ times p (usable limit)) → AllByRecursion (λ p. (2 ≤ p) × (p ≤ limit)) ps = λ ps h.
    CopyShares.all_of_times (λ (p : ℕ). (2 ≤ p) × (p ≤ limit)) ps
    (λ p i. let w = CopyShares.upward_within p 2 (limit - 1) (omega (arith, h p)) in (w.0, omega (arith, w.0, w.1))) in (
      usable-only (pages_of s.tree) (λ p. omega (arith, z.shared p)),
      usable-only s.free (λ p. omega (arith, z.shared p)),
      CopyShares.times_apart s.free (λ p. omega (arith, disjoint_of limit (pages_of s.tree) s.free z.shared p)),
    )

pub opened_law : OpenedLaw
opened_law m limit height root total top n s = record {
  sound = record
      { root_is = refl; range = s.range; once = s.once; levels = s.levels; stands = s.stands; filled = s.filled; ordered = s.ordered; sum = s.sum; room = s.room };
  shared = CopyShares.unused_shares limit (pages n) s.range s.once;
}
