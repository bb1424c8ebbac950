-- lodge: the entries, the order, the levels, the filling.
use Rattle.std.proofs.Common.{◌≡◌, ℕ, zero, suc, ◌≤◌, List, [], ◌++◌, sym, refl, ap, ◌∙◌, arith}
use Rattle.layout.specs.declared.entry.Entry.{Entry}
use Rattle.tree.specs.Tree.{Filled, FilledIn, Forest, Level, LevelIn, Node, Ordered, OrderedIn, events, events_in, size}
use Rattle.tree.specs.Tree.Node.{inner, leaf}
use Rattle.tree.specs.Tree.Forest.{last, more}
use Rattle.tree.specs.CopyMoves.{Made, Split, enter, fit, fit_in, lodge, lodge_in, place}
use Rattle.tree.specs.CopyMoves.Split.{one, two}
use Rattle.tree.specs.CopyWrites.{Write}
use Rattle.tree.proofs.CopyBase.{by_le}
use Rattle.tree.proofs.CopyEntries.{FullSplit, RisingSplit, all_of, enter_left, enter_length, enter_right, enter_rising, fit_all, fit_full, fit_rising}
use Rattle.tree.proofs.CopyForests

-- pages are made of what was split
place_leaf_events : (s : Split (List Entry)) (ws : List Write) (free : List ℕ) → CopyForests.events_two (place leaf s ws free).part ≡ all_of s
place_leaf_events (one x) ws free = refl
place_leaf_events (two x k y) ws free = refl

place_inner_events : (s : Split Forest) (ws : List Write) (free : List ℕ) → CopyForests.events_two (place inner s ws free).part ≡ CopyForests.events_rows s
place_inner_events (one x) ws free = refl
place_inner_events (two x k y) ws free = refl

-- the entries: one more of the address
mutual
  pub lodge_events : (n : Node) (a lo hi : ℕ) (free : List ℕ) → Ordered n lo hi → CopyForests.events_two (lodge n a free).part ≡ enter a (events n)
  lodge_events (leaf p es) a lo hi free o = place_leaf_events (fit (enter a es)) [] free ∙ fit_all (enter a es)
  lodge_events (inner p f) a lo hi free o =
      place_inner_events (fit_in (lodge_in f a free).part) _ _ ∙ CopyForests.fit_events (lodge_in f a free).part ∙ lodge_in_events f a lo hi free o

  pub lodge_in_events : (f : Forest) (a lo hi : ℕ) (free : List ℕ) → OrderedIn f lo hi → events_in (lodge_in f a free).part ≡ enter a (events_in f)
  lodge_in_events (last n) a lo hi free o = CopyForests.last_events (lodge n a free).part ∙ lodge_events n a lo hi free o
  lodge_in_events (more n k f) a lo hi free o =
      by_le (λ (r : Made Forest). events_in r.part ≡ enter a (events n ++ events_in f)) a k _ _
      (λ le. CopyForests.more_events k f (lodge n a free).part ∙ ap (λ (z : List Entry). z ++ events_in f) (lodge_events n a lo k free o.2)
      ∙ sym (enter_left a k (events n) (events_in f) le (CopyForests.tree_from_in f (suc k) hi o.3)))
      (λ gt. ap (λ (z : List Entry). events n ++ z) (lodge_in_events f a (suc k) hi free o.3)
      ∙ sym (enter_right a k (events n) (events_in f) gt (CopyForests.tree_upto n lo k o.2)))

-- the order
place_leaf_ordered : (s : Split (List Entry)) (ws : List Write) (free : List ℕ) (lo hi : ℕ) → RisingSplit s lo hi → CopyForests.OrderedTwo (place leaf s ws free).part lo hi
place_leaf_ordered (one x) ws free lo hi o = o
place_leaf_ordered (two x k y) ws free lo hi o = o

place_inner_ordered : (s : Split Forest) (ws : List Write) (free : List ℕ) (lo hi : ℕ) → CopyForests.OrderedRows s lo hi → CopyForests.OrderedTwo (place inner s ws free).part lo hi
place_inner_ordered (one x) ws free lo hi o = o
place_inner_ordered (two x k y) ws free lo hi o = o

mutual
  pub lodge_ordered : (n : Node) (a lo hi : ℕ) (free : List ℕ) → lo ≤ a → a ≤ hi → Ordered n lo hi → CopyForests.OrderedTwo (lodge n a free).part lo hi
  lodge_ordered (leaf p es) a lo hi free l h o =
      place_leaf_ordered (fit (enter a es)) [] free lo hi (fit_rising (enter a es) lo hi (enter_rising a lo hi es l h o))
  lodge_ordered (inner p f) a lo hi free l h o =
      place_inner_ordered (fit_in (lodge_in f a free).part) _ _ lo hi (CopyForests.fit_ordered (lodge_in f a free).part lo hi (lodge_in_ordered f a lo hi free l h o))

  pub lodge_in_ordered : (f : Forest) (a lo hi : ℕ) (free : List ℕ) → lo ≤ a → a ≤ hi → OrderedIn f lo hi → OrderedIn (lodge_in f a free).part lo hi
  lodge_in_ordered (last n) a lo hi free l h o = CopyForests.last_ordered (lodge n a free).part lo hi (lodge_ordered n a lo hi free l h o)
  lodge_in_ordered (more n k f) a lo hi free l h o =
      by_le (λ (r : Made Forest). OrderedIn r.part lo hi) a k _ _
      (λ le. CopyForests.more_ordered k f (lodge n a free).part lo hi o.0 o.1 (lodge_ordered n a lo k free l le o.2) o.3)
      (λ gt. (o.0, o.1, o.2, lodge_in_ordered f a (suc k) hi free gt h o.3))

-- the levels
place_leaf_level : (s : Split (List Entry)) (ws : List Write) (free : List ℕ) (h : ℕ) → h ≡ 1 → CopyForests.LevelTwo (place leaf s ws free).part h
place_leaf_level (one x) ws free h l = l
place_leaf_level (two x k y) ws free h l = (l, l)

place_inner_level : (s : Split Forest) (ws : List Write) (free : List ℕ) (h : ℕ) → CopyForests.LevelRows s h → CopyForests.LevelTwo (place inner s ws free).part (suc h)
place_inner_level (one x) ws free h l = l
place_inner_level (two x k y) ws free h l = l

mutual
  pub lodge_level : (n : Node) (a h : ℕ) (free : List ℕ) → Level n h → CopyForests.LevelTwo (lodge n a free).part h
  lodge_level (leaf p es) a h free l = place_leaf_level (fit (enter a es)) [] free h l
  lodge_level (inner p f) a zero free l = absurd l
  lodge_level (inner p f) a (suc h) free l =
      place_inner_level (fit_in (lodge_in f a free).part) _ _ h (CopyForests.fit_level (lodge_in f a free).part h (lodge_in_level f a h free l))

  pub lodge_in_level : (f : Forest) (a h : ℕ) (free : List ℕ) → LevelIn f h → LevelIn (lodge_in f a free).part h
  lodge_in_level (last n) a h free l = CopyForests.last_level (lodge n a free).part h (lodge_level n a h free l)
  lodge_in_level (more n k f) a h free l =
      by_le (λ (r : Made Forest). LevelIn r.part h) a k _ _
      (λ le. CopyForests.more_level k f (lodge n a free).part h (lodge_level n a h free l.0) l.1)
      (λ gt. (l.0, lodge_in_level f a h free l.1))

-- the filling
place_leaf_filled : (s : Split (List Entry)) (ws : List Write) (free : List ℕ) → FullSplit s → CopyForests.FilledTwo (place leaf s ws free).part
place_leaf_filled (one x) ws free z = z
place_leaf_filled (two x k y) ws free z = ((z.0, z.1), (z.2, z.3))

place_inner_filled : (s : Split Forest) (ws : List Write) (free : List ℕ) → CopyForests.FilledRows s → CopyForests.ShortRows s → CopyForests.FilledTwo (place inner s ws free).part
place_inner_filled (one x) ws free z q = (q, z)
place_inner_filled (two x k y) ws free z q = ((q.0, z.0), (q.1, z.1))

mutual
  pub lodge_filled : (n : Node) (a : ℕ) (free : List ℕ) → Filled n → CopyForests.FilledTwo (lodge n a free).part
  lodge_filled (leaf p es) a free z =
      let e = enter_length a es in
      place_leaf_filled (fit (enter a es)) [] free (fit_full (enter a es) e.0 (omega (arith, e.1, z.1)))
  lodge_filled (inner p f) a free z =
      let r = lodge_in_filled f a free z.1 in
      place_inner_filled (fit_in (lodge_in f a free).part) _ _ (CopyForests.fit_filled (lodge_in f a free).part r.0) (CopyForests.fit_short (lodge_in f a free).part (omega (arith, r.1, z.0)))

  pub lodge_in_filled : (f : Forest) (a : ℕ) (free : List ℕ) → FilledIn f → FilledIn (lodge_in f a free).part × (size (lodge_in f a free).part ≤ suc (size f))
  lodge_in_filled (last n) a free z = CopyForests.last_filled (lodge n a free).part (lodge_filled n a free z)
  lodge_in_filled (more n k f) a free z =
      by_le (λ (r : Made Forest). FilledIn r.part × (size r.part ≤ suc (suc (size f)))) a k _ _
      (λ le. CopyForests.more_filled k f (lodge n a free).part (lodge_filled n a free z.0) z.1)
      (λ gt. let r = lodge_in_filled f a free z.1 in ((z.0, r.0), omega (arith, r.1)))
