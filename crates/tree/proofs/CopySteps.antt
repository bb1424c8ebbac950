-- A whole step: a new root over a split one, the empty tree, and everything put together.
use Rattle.std.proofs.Common.{◌≡◌, ℕ, suc, ◌+◌, ◌-◌, ◌<◌, ◌≤◌, cond, eqb, List, [], ◌∷◌, ◌++◌, length, take, drop, sym, refl, ap, ◌∙◌, subst, arith}
use Rattle.std.proofs.lemmas.List.{take_at, drop_at}
use Rattle.layout.specs.declared.entry.Entry.{Entry}
use Rattle.layout.specs.Content.{LeafKeys}
use Rattle.tree.specs.Tree.{Contents, Filled, Forest, Held, Level, Node, Ordered, OrderedIn, Stands, count_at, events, events_in, pages}
use Rattle.tree.specs.Tree.Node.{inner, leaf}
use Rattle.tree.specs.Tree.Forest.{last, more}
use Rattle.tree.specs.Tree.Held.{held, none}
use Rattle.tree.specs.CopyDescent.{parts}
use Rattle.tree.specs.CopyLaws.{StandsOf, events_of, lodge_takes, page_splits, pages_of, path_drops, path_of, path_splits, withdraw_takes}
use Rattle.tree.specs.CopyMoves.{Split, State, Step, enter, height_left, lodge, lodge_from, lodged, new_root, path, raised, remove, withdraw, withdraw_from}
use Rattle.tree.specs.CopyMoves.Split.{one, two}
use Rattle.tree.specs.CopyWrites.{Write, after, mark, times, weigh, written}
use Rattle.tree.proofs.CopyBase.{by_eq, mark_same, weigh_append}
use Rattle.tree.proofs.CopyCounts
use Rattle.tree.proofs.CopyEntries
use Rattle.tree.proofs.CopyForests
use Rattle.tree.proofs.CopyLodging
use Rattle.tree.proofs.CopyNumbers
use Rattle.tree.proofs.CopyStanding
use Rattle.tree.proofs.CopyWithdrawing

-- a new root over a split one
new_root_events : (s : Split Node) (ws : List Write) (free : List ℕ) → events (new_root s ws free).part ≡ CopyForests.events_two s
new_root_events (one n) ws free = refl
new_root_events (two l k r) ws free = refl

new_root_ordered : (s : Split Node) (ws : List Write) (free : List ℕ) (lo hi : ℕ) → CopyForests.OrderedTwo s lo hi → Ordered (new_root s ws free).part lo hi
new_root_ordered (one n) ws free lo hi o = o
new_root_ordered (two l k r) ws free lo hi o = o

new_root_level : (s : Split Node) (ws : List Write) (free : List ℕ) (h : ℕ) → CopyForests.LevelTwo s h → Level (new_root s ws free).part (raised s h)
new_root_level (one n) ws free h l = l
new_root_level (two a k r) ws free h l = l

new_root_filled : (s : Split Node) (ws : List Write) (free : List ℕ) → CopyForests.FilledTwo s → Filled (new_root s ws free).part
new_root_filled (one n) ws free z = z
new_root_filled (two a k r) ws free z = (omega arith, z)

new_root_balance : (w : ℕ → ℕ) (s : Split Node) (ws : List Write) (free : List ℕ) →
    weigh w (pages (new_root s ws free).part) + weigh w (written ws) ≡ weigh w (CopyForests.pages_two s) + weigh w (written (new_root s ws free).writes)
new_root_balance w (one n) ws free = refl
new_root_balance w (two a k r) ws free = simp CopyNumbers.written_push (omega arith)

new_root_count : (s : Split Node) (ws : List Write) (free : List ℕ) → length (new_root s ws free).writes ≡ length ws + parts s
new_root_count (one n) ws free = omega arith
new_root_count (two a k r) ws free = simp CopyNumbers.push_length (omega arith)

new_root_thread : (s : Split Node) (ws : List Write) (free : List ℕ) → length (new_root s ws free).writes ≤ length ws + length free →
    written (new_root s ws free).writes ++ (new_root s ws free).rest ≡ written ws ++ free
new_root_thread (one n) ws free h = refl
new_root_thread (two a k r) ws [] h = absurd (omega (arith, simp CopyNumbers.push_length at h))
new_root_thread (two a k r) ws (q ∷ free) h = CopyNumbers.written_move ws _ free

new_root_stands : (s : Split Node) (ws : List Write) (free : List ℕ) (m : Contents) → length (new_root s ws free).writes ≤ length ws + length free →
    CopyStanding.Disjoint (CopyForests.pages_two s) free → CopyStanding.StandsTwo s (after ws m) → Stands (new_root s ws free).part (after (new_root s ws free).writes m)
new_root_stands (one n) ws free m h d s = s
new_root_stands (two a k r) ws [] m h d s = absurd (omega (arith, simp CopyNumbers.push_length at h))
new_root_stands (two a k r) ws (q ∷ free) m h d s =
    let f = more a k (last r) in
    subst (Stands (inner q f)) (sym (CopyStanding.after_push ws m (CopyStanding.page_of (inner q f) q))) (CopyStanding.made_inner q f (after ws m) (omega (arith, d q, mark_same q)) s)

-- the first part of a list, and the rest of it
front_is : (xs rest free : List ℕ) (k : ℕ) → xs ++ rest ≡ free → length xs ≡ k → xs ≡ take k free
front_is xs rest free k e l = sym (take_at xs rest k l) ∙ ap (take k) e

rest_is : (xs rest free : List ℕ) (k : ℕ) → xs ++ rest ≡ free → length xs ≡ k → rest ≡ drop k free
rest_is xs rest free k e l = sym (drop_at xs rest k l) ∙ ap (drop k) e

-- the old tree after a beginning of the writes
written_append : (ws vs : List Write) → written (ws ++ vs) ≡ written ws ++ written vs
written_append [] vs = refl
written_append (w ∷ ws) vs = ap (λ (z : List ℕ). w.page ∷ z) (written_append ws vs)

pub old_after_some : (n : Node) (ws done left : List Write) (rest free : List ℕ) (m : Contents) →
    ws ≡ done ++ left → written ws ++ rest ≡ free → CopyStanding.Disjoint (pages n) free → Stands n m → Stands n (after done m)
old_after_some n ws done left rest free m b e d s =
    CopyStanding.frame n m (after done m)
    (λ p t. CopyStanding.after_other done m p
    (omega (
      arith,
      d p,
      CopyStanding.thread_times p ws rest free e,
      ap (λ (z : List Write). times p (written z)) b,
      ap (times p) (written_append done left),
      weigh_append (mark p) (written done) (written left),
    )))
    s

-- a balance and a thread give that no page is lost
kept : (p : ℕ) (ws : List Write) (rest free new way old : List ℕ) → written ws ++ rest ≡ free → times p new + times p way ≡ times p old + times p (written ws) →
    times p new + times p (way ++ rest) ≡ times p old + times p free
kept p ws rest free new way old e b = omega (arith, b, weigh_append (mark p) way rest, CopyStanding.thread_times p ws rest free e)

-- the region rules, the one height, the filling; an empty tree has the height 0
abbrev pub Shaped : Held Node → ℕ → ℕ → Type 0
Shaped none top h = h ≡ 0
Shaped (held n) top h = Ordered n 0 top × Level n h × Filled n

-- what a step does, apart from the totals
pub record Moved (top : ℕ) (s : State) (a takes : ℕ) (u : Step) : Type 0 where
  pub shape : Shaped u.next.tree top u.next.height
  pub wrote : written u.writes ≡ take takes s.free
  pub took : length u.writes ≡ takes
  pub freed : u.next.free ≡ path_of s.tree a ++ drop takes s.free
  pub pages_kept : (p : ℕ) → times p (pages_of u.next.tree) + times p u.next.free ≡ times p (pages_of s.tree) + times p s.free
  pub old : (m : Contents) (done left : List Write) → u.writes ≡ done ++ left → StandsOf s.tree m → StandsOf s.tree (after done m)
  pub new : (m : Contents) → StandsOf s.tree m → StandsOf u.next.tree (after u.writes m)

-- lodge in a tree that is not empty
module _ (top : ℕ) (n : Node) (h : ℕ) (free : List ℕ) (a : ℕ) (shape : Ordered n 0 top × Level n h × Filled n) (d : CopyStanding.Disjoint (pages n) free) (in_top : a ≤ top) (enough : h + path_splits n a + page_splits n a ≤ length free) where
  lodged_count : length (lodged n a free).writes ≡ h + path_splits n a + page_splits n a
  lodged_count = omega (arith, new_root_count (lodge n a free).part (lodge n a free).writes (lodge n a free).rest, CopyCounts.lodge_parts n a free, CopyCounts.lodge_count n a h free shape.1)

  under : length (lodge n a free).writes ≤ length free
  under = omega (arith, CopyCounts.lodge_count n a h free shape.1)

  lodge_thread : written (lodge n a free).writes ++ (lodge n a free).rest ≡ free
  lodge_thread = CopyNumbers.lodge_thread n a free under

  room : length (lodged n a free).writes ≤ length (lodge n a free).writes + length (lodge n a free).rest
  room = omega (arith, lodged_count, CopyNumbers.thread_length (lodge n a free).writes (lodge n a free).rest free lodge_thread)

  lodged_thread : written (lodged n a free).writes ++ (lodged n a free).rest ≡ free
  lodged_thread = new_root_thread (lodge n a free).part (lodge n a free).writes (lodge n a free).rest room ∙ lodge_thread

  lodged_balance : (w : ℕ → ℕ) → weigh w (pages (lodged n a free).part) + weigh w (path n a) ≡ weigh w (pages n) + weigh w (written (lodged n a free).writes)
  lodged_balance w = omega (arith, new_root_balance w (lodge n a free).part (lodge n a free).writes (lodge n a free).rest, CopyNumbers.lodge_balance w n a free)

  lodged_kept : (p : ℕ) → times p (pages (lodged n a free).part) + times p (path n a ++ (lodged n a free).rest) ≡ times p (pages n) + times p free
  lodged_kept p = kept p (lodged n a free).writes (lodged n a free).rest free (pages (lodged n a free).part) (path n a) (pages n) lodged_thread (lodged_balance (mark p))

  lodged_stands : (m : Contents) → Stands n m → Stands (lodged n a free).part (after (lodged n a free).writes m)
  lodged_stands m s = new_root_stands (lodge n a free).part (lodge n a free).writes (lodge n a free).rest m room
      (λ p. omega (arith, d p, CopyNumbers.lodge_balance (mark p) n a free, CopyStanding.thread_times p (lodge n a free).writes (lodge n a free).rest free lodge_thread))
      (CopyStanding.lodge_stands n a free m under d s)

  lodged_moved : Moved top (record { tree = held n; height = h; free = free }) a (h + path_splits n a + page_splits n a) (lodge_from (held n) h a free)
  lodged_moved =
      let len : length (written (lodged n a free).writes) ≡ h + path_splits n a + page_splits n a = CopyNumbers.written_length (lodged n a free).writes ∙ lodged_count in
      record {
        shape = (
          new_root_ordered (lodge n a free).part _ _ 0 top (CopyLodging.lodge_ordered n a 0 top free (omega arith) in_top shape.0),
          new_root_level (lodge n a free).part _ _ h (CopyLodging.lodge_level n a h free shape.1),
          new_root_filled (lodge n a free).part _ _ (CopyLodging.lodge_filled n a free shape.2),
        );
        took = lodged_count;
        wrote = front_is (written (lodged n a free).writes) (lodged n a free).rest free (h + path_splits n a + page_splits n a) lodged_thread len;
        freed = ap (λ (z : List ℕ). path n a ++ z) (rest_is (written (lodged n a free).writes) (lodged n a free).rest free (h + path_splits n a + page_splits n a) lodged_thread len);
        pages_kept = lodged_kept;
        old = λ m done left b s. old_after_some n (lodged n a free).writes done left (lodged n a free).rest free m b lodged_thread d s;
        new = lodged_stands;
      }

-- lodge in the empty tree
first_leaf_moved : (top h : ℕ) (free : List ℕ) (a : ℕ) → CopyStanding.Disjoint [] free → a ≤ top → 1 ≤ length free →
    Moved top (record { tree = none; height = h; free = free }) a 1 (lodge_from none h a free)
first_leaf_moved top h [] a d in_top enough = absurd (omega arith)
first_leaf_moved top h (q ∷ free) a d in_top enough = record {
  shape = ((omega arith, in_top, omega arith, tt), refl, (omega arith, omega arith));
  wrote = refl;
  took = refl;
  freed = refl;
  pages_kept = λ p. omega arith;
  old = λ m done left b s. tt;
  new = λ m s. CopyStanding.made_leaf q (record { key = a; value = 1 } ∷ []) m;
}

pub lodge_events : (top : ℕ) (t : Held Node) (h : ℕ) (free : List ℕ) (a : ℕ) → Shaped t top h → events_of (lodge_from t h a free).next.tree ≡ enter a (events_of t)
lodge_events top none h free a z = refl
lodge_events top (held n) h free a z = new_root_events (lodge n a free).part _ _ ∙ CopyLodging.lodge_events n a 0 top free z.0

pub lodge_moved : (top : ℕ) (t : Held Node) (h : ℕ) (free : List ℕ) (a : ℕ) → Shaped t top h → CopyStanding.Disjoint (pages_of t) free → a ≤ top → lodge_takes t h a ≤ length free →
    Moved top (record { tree = t; height = h; free = free }) a (lodge_takes t h a) (lodge_from t h a free)
lodge_moved top none h free a z d in_top enough = first_leaf_moved top h free a d in_top enough
lodge_moved top (held n) h free a z d in_top enough = lodged_moved top n h free a z d in_top enough

-- withdraw
shape_left : (t : Held Node) (top h : ℕ) → CopyWithdrawing.OrderedHeld t 0 top → CopyWithdrawing.LevelHeld t h → CopyWithdrawing.FilledHeld t → Shaped t top (height_left t h)
shape_left none top h o l z = refl
shape_left (held n) top h o l z = (o, l, z)

module _ (top : ℕ) (n : Node) (h : ℕ) (free : List ℕ) (a : ℕ) (shape : Ordered n 0 top × Level n h × Filled n) (d : CopyStanding.Disjoint (pages n) free) (enough : h - path_drops n a ≤ length free) where
  withdraw_count : length (withdraw n a free).writes ≡ h - path_drops n a
  withdraw_count = omega (arith, CopyCounts.withdraw_count n a h free shape.1)

  withdraw_room : length (withdraw n a free).writes ≤ length free
  withdraw_room = omega (arith, withdraw_count)

  withdraw_thread : written (withdraw n a free).writes ++ (withdraw n a free).rest ≡ free
  withdraw_thread = CopyNumbers.withdraw_thread n a free withdraw_room

  withdraw_kept : (p : ℕ) → times p (pages_of (withdraw n a free).part) + times p (path n a ++ (withdraw n a free).rest) ≡ times p (pages n) + times p free
  withdraw_kept p = kept p (withdraw n a free).writes (withdraw n a free).rest free (pages_of (withdraw n a free).part) (path n a) (pages n) withdraw_thread (CopyNumbers.withdraw_balance (mark p) n a free)

  withdraw_held_moved : Moved top (record { tree = held n; height = h; free = free }) a (h - path_drops n a) (withdraw_from (held n) h a free)
  withdraw_held_moved =
      let len : length (written (withdraw n a free).writes) ≡ h - path_drops n a = CopyNumbers.written_length (withdraw n a free).writes ∙ withdraw_count in
      record {
        shape = shape_left (withdraw n a free).part top h (CopyWithdrawing.withdraw_ordered n a 0 top free shape.0) (CopyWithdrawing.withdraw_level n a h free shape.1) (CopyWithdrawing.withdraw_filled n a free shape.2);
        took = withdraw_count;
        wrote = front_is (written (withdraw n a free).writes) (withdraw n a free).rest free (h - path_drops n a) withdraw_thread len;
        freed = ap (λ (z : List ℕ). path n a ++ z) (rest_is (written (withdraw n a free).writes) (withdraw n a free).rest free (h - path_drops n a) withdraw_thread len);
        pages_kept = withdraw_kept;
        old = λ m done left b s. old_after_some n (withdraw n a free).writes done left (withdraw n a free).rest free m b withdraw_thread d s;
        new = λ m s. CopyStanding.withdraw_stands n a free m withdraw_room d s;
      }

pub withdraw_moved : (top : ℕ) (t : Held Node) (h : ℕ) (free : List ℕ) (a : ℕ) → Shaped t top h → CopyStanding.Disjoint (pages_of t) free → withdraw_takes t h a ≤ length free →
    Moved top (record { tree = t; height = h; free = free }) a (withdraw_takes t h a) (withdraw_from t h a free)
withdraw_moved top none h free a z d enough = record
    { shape = z; wrote = refl; took = refl; freed = refl; pages_kept = λ p. refl; old = λ m done left b s. tt; new = λ m s. tt }
withdraw_moved top (held n) h free a z d enough = withdraw_held_moved top n h free a z d enough

pub withdraw_events : (top : ℕ) (t : Held Node) (h : ℕ) (free : List ℕ) (a : ℕ) → Shaped t top h → events_of (withdraw_from t h a free).next.tree ≡ remove a (events_of t)
withdraw_events top none h free a z = refl
withdraw_events top (held n) h free a z = CopyWithdrawing.withdraw_events n a 0 top free z.0

-- the entries rise
rising_append : (lo k hi : ℕ) (xs ys : List Entry) → lo ≤ suc k → k < hi → LeafKeys lo k xs → LeafKeys (suc k) hi ys → LeafKeys lo hi (xs ++ ys)
rising_append lo k hi [] ys l h r q = CopyEntries.rising_wider (suc k) hi lo hi ys l (omega arith) q
rising_append lo k hi (x ∷ xs) ys l h r q = (r.0, omega (arith, r.1), r.2, rising_append (suc x.key) k hi xs ys (omega (arith, r.1)) h r.3 q)

mutual
  pub tree_rising : (n : Node) (lo hi : ℕ) → Ordered n lo hi → LeafKeys lo hi (events n)
  tree_rising (leaf p es) lo hi o = o
  tree_rising (inner p f) lo hi o = tree_rising_in f lo hi o

  pub tree_rising_in : (f : Forest) (lo hi : ℕ) → OrderedIn f lo hi → LeafKeys lo hi (events_in f)
  tree_rising_in (last n) lo hi o = tree_rising n lo hi o
  tree_rising_in (more n k f) lo hi o = rising_append lo k hi (events n) (events_in f) (omega (arith, o.0)) o.1 (tree_rising n lo k o.2) (tree_rising_in f (suc k) hi o.3)

-- the counts
pub enter_count : (a b : ℕ) (es : List Entry) → count_at (enter a es) b ≡ count_at es b + cond (eqb a b) 1 0
enter_count a b es = by_eq (λ (z : ℕ). count_at (enter a es) b ≡ count_at es b + z) a b 1 0
    (λ e. subst (λ (x : ℕ). count_at (enter a es) x ≡ count_at es x + 1) e (omega (arith, CopyEntries.enter_same a es)))
    (λ ne. omega (arith, CopyEntries.enter_other a b es ne))

pub remove_count : (a b lo hi : ℕ) (es : List Entry) → LeafKeys lo hi es → count_at (remove a es) b ≡ count_at es b - cond (eqb a b) 1 0
remove_count a b lo hi es r = by_eq (λ (z : ℕ). count_at (remove a es) b ≡ count_at es b - z) a b 1 0
    (λ e. subst (λ (x : ℕ). count_at (remove a es) x ≡ count_at es x - 1) e (CopyEntries.remove_same a lo hi es r))
    (λ ne. omega (arith, CopyEntries.remove_other a b es ne))
