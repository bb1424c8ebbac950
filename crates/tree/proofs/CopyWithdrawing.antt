-- withdraw: the entries, the order, the levels, the filling.
use Rattle.std.proofs.Common.{◌≡◌, ℕ, zero, suc, ◌<◌, ◌≤◌, List, [], ◌∷◌, ◌++◌, length, sym, refl, ap, ◌∙◌, arith}
use Rattle.layout.specs.declared.entry.Entry.{Entry}
use Rattle.layout.specs.Content.{LeafKeys}
use Rattle.tree.specs.Tree.{Filled, FilledIn, Forest, Held, Level, LevelIn, Node, Ordered, OrderedIn, events, events_in, pages_in, size}
use Rattle.tree.specs.Tree.Node.{inner, leaf}
use Rattle.tree.specs.Tree.Forest.{last, more}
use Rattle.tree.specs.Tree.Held.{held, none}
use Rattle.tree.specs.CopyLaws.{events_of}
use Rattle.tree.specs.CopyMoves.{Made, held_before, held_last, held_more, keep, place_left, remove, withdraw, withdraw_in}
use Rattle.tree.specs.CopyWrites.{Write}
use Rattle.tree.proofs.CopyBase.{by_le}
use Rattle.tree.proofs.CopyEntries.{remove_left, remove_length, remove_right, remove_rising}
use Rattle.tree.proofs.CopyForests

-- What is said of what is left: of nothing everything holds, and it has no entry.
abbrev pub events_row : Held Forest → List Entry
events_row none = []
events_row (held f) = events_in f

abbrev pub pages_row : Held Forest → List ℕ
pages_row none = []
pages_row (held f) = pages_in f

abbrev pub OrderedHeld : Held Node → ℕ → ℕ → Type 0
OrderedHeld none lo hi = Unit {0}
OrderedHeld (held n) lo hi = Ordered n lo hi

abbrev pub OrderedRow : Held Forest → ℕ → ℕ → Type 0
OrderedRow none lo hi = Unit {0}
OrderedRow (held f) lo hi = OrderedIn f lo hi

abbrev pub LevelHeld : Held Node → ℕ → Type 0
LevelHeld none h = Unit {0}
LevelHeld (held n) h = Level n h

abbrev pub LevelRow : Held Forest → ℕ → Type 0
LevelRow none h = Unit {0}
LevelRow (held f) h = LevelIn f h

abbrev pub FilledHeld : Held Node → Type 0
FilledHeld none = Unit {0}
FilledHeld (held n) = Filled n

-- the children are filled, and there are at most n
abbrev pub FilledRow : Held Forest → ℕ → Type 0
FilledRow none m = Unit {0}
FilledRow (held f) m = FilledIn f × (size f ≤ m)

-- the entries
leaf_events : (es : List Entry) (ws : List Write) (free : List ℕ) → events_of (place_left leaf (keep es) ws free).part ≡ es
leaf_events [] ws free = refl
leaf_events (e ∷ es) ws free = refl

inner_events : (s : Held Forest) (ws : List Write) (free : List ℕ) → events_of (place_left inner s ws free).part ≡ events_row s
inner_events none ws free = refl
inner_events (held f) ws free = refl

last_events : (s : Held Node) → events_row (held_last s) ≡ events_of s
last_events none = refl
last_events (held n) = refl

more_events : (k : ℕ) (f : Forest) (s : Held Node) → events_row (held_more k f s) ≡ events_of s ++ events_in f
more_events k f none = refl
more_events k f (held n) = refl

nothing_behind : (es : List Entry) → es ++ [] ≡ es
nothing_behind [] = refl
nothing_behind (e ∷ es) = ap (λ (z : List Entry). e ∷ z) (nothing_behind es)

before_events : (n : Node) (k : ℕ) (s : Held Forest) → events_row (held_before n k s) ≡ events n ++ events_row s
before_events n k none = sym (nothing_behind (events n))
before_events n k (held f) = refl

mutual
  pub withdraw_events : (n : Node) (a lo hi : ℕ) (free : List ℕ) → Ordered n lo hi → events_of (withdraw n a free).part ≡ remove a (events n)
  withdraw_events (leaf p es) a lo hi free o = leaf_events (remove a es) [] free
  withdraw_events (inner p f) a lo hi free o = inner_events (withdraw_in f a free).part _ _ ∙ withdraw_in_events f a lo hi free o

  pub withdraw_in_events : (f : Forest) (a lo hi : ℕ) (free : List ℕ) → OrderedIn f lo hi → events_row (withdraw_in f a free).part ≡ remove a (events_in f)
  withdraw_in_events (last n) a lo hi free o = last_events (withdraw n a free).part ∙ withdraw_events n a lo hi free o
  withdraw_in_events (more n k f) a lo hi free o =
      by_le (λ (r : Made (Held Forest)). events_row r.part ≡ remove a (events n ++ events_in f)) a k _ _
      (λ le. more_events k f (withdraw n a free).part ∙ ap (λ (z : List Entry). z ++ events_in f) (withdraw_events n a lo k free o.2)
      ∙ sym (remove_left a k (events n) (events_in f) le (CopyForests.tree_from_in f (suc k) hi o.3)))
      (λ gt. before_events n k (withdraw_in f a free).part ∙ ap (λ (z : List Entry). events n ++ z) (withdraw_in_events f a (suc k) hi free o.3)
      ∙ sym (remove_right a k (events n) (events_in f) gt (CopyForests.tree_upto n lo k o.2)))

-- the order
leaf_ordered : (es : List Entry) (ws : List Write) (free : List ℕ) (lo hi : ℕ) → LeafKeys lo hi es → OrderedHeld (place_left leaf (keep es) ws free).part lo hi
leaf_ordered [] ws free lo hi o = tt
leaf_ordered (e ∷ es) ws free lo hi o = o

inner_ordered : (s : Held Forest) (ws : List Write) (free : List ℕ) (lo hi : ℕ) → OrderedRow s lo hi → OrderedHeld (place_left inner s ws free).part lo hi
inner_ordered none ws free lo hi o = tt
inner_ordered (held f) ws free lo hi o = o

last_ordered : (s : Held Node) (lo hi : ℕ) → OrderedHeld s lo hi → OrderedRow (held_last s) lo hi
last_ordered none lo hi o = tt
last_ordered (held n) lo hi o = o

more_ordered : (k : ℕ) (f : Forest) (s : Held Node) (lo hi : ℕ) → lo ≤ k → k < hi → OrderedHeld s lo k → OrderedIn f (suc k) hi → OrderedRow (held_more k f s) lo hi
more_ordered k f none lo hi l h o q = CopyForests.wider_in f (suc k) hi lo hi (omega arith) (omega arith) q
more_ordered k f (held n) lo hi l h o q = (l, h, o, q)

before_ordered : (n : Node) (k : ℕ) (s : Held Forest) (lo hi : ℕ) → lo ≤ k → k < hi → Ordered n lo k → OrderedRow s (suc k) hi → OrderedRow (held_before n k s) lo hi
before_ordered n k none lo hi l h o q = CopyForests.wider n lo k lo hi (omega arith) (omega arith) o
before_ordered n k (held f) lo hi l h o q = (l, h, o, q)

mutual
  pub withdraw_ordered : (n : Node) (a lo hi : ℕ) (free : List ℕ) → Ordered n lo hi → OrderedHeld (withdraw n a free).part lo hi
  withdraw_ordered (leaf p es) a lo hi free o = leaf_ordered (remove a es) [] free lo hi (remove_rising a lo hi es o)
  withdraw_ordered (inner p f) a lo hi free o = inner_ordered (withdraw_in f a free).part _ _ lo hi (withdraw_in_ordered f a lo hi free o)

  pub withdraw_in_ordered : (f : Forest) (a lo hi : ℕ) (free : List ℕ) → OrderedIn f lo hi → OrderedRow (withdraw_in f a free).part lo hi
  withdraw_in_ordered (last n) a lo hi free o = last_ordered (withdraw n a free).part lo hi (withdraw_ordered n a lo hi free o)
  withdraw_in_ordered (more n k f) a lo hi free o =
      by_le (λ (r : Made (Held Forest)). OrderedRow r.part lo hi) a k _ _
      (λ le. more_ordered k f (withdraw n a free).part lo hi o.0 o.1 (withdraw_ordered n a lo k free o.2) o.3)
      (λ gt. before_ordered n k (withdraw_in f a free).part lo hi o.0 o.1 o.2 (withdraw_in_ordered f a (suc k) hi free o.3))

-- the levels
leaf_level : (es : List Entry) (ws : List Write) (free : List ℕ) (h : ℕ) → h ≡ 1 → LevelHeld (place_left leaf (keep es) ws free).part h
leaf_level [] ws free h l = tt
leaf_level (e ∷ es) ws free h l = l

inner_level : (s : Held Forest) (ws : List Write) (free : List ℕ) (h : ℕ) → LevelRow s h → LevelHeld (place_left inner s ws free).part (suc h)
inner_level none ws free h l = tt
inner_level (held f) ws free h l = l

last_level : (s : Held Node) (h : ℕ) → LevelHeld s h → LevelRow (held_last s) h
last_level none h l = tt
last_level (held n) h l = l

more_level : (k : ℕ) (f : Forest) (s : Held Node) (h : ℕ) → LevelHeld s h → LevelIn f h → LevelRow (held_more k f s) h
more_level k f none h l q = q
more_level k f (held n) h l q = (l, q)

before_level : (n : Node) (k : ℕ) (s : Held Forest) (h : ℕ) → Level n h → LevelRow s h → LevelRow (held_before n k s) h
before_level n k none h l q = l
before_level n k (held f) h l q = (l, q)

mutual
  pub withdraw_level : (n : Node) (a h : ℕ) (free : List ℕ) → Level n h → LevelHeld (withdraw n a free).part h
  withdraw_level (leaf p es) a h free l = leaf_level (remove a es) [] free h l
  withdraw_level (inner p f) a zero free l = absurd l
  withdraw_level (inner p f) a (suc h) free l = inner_level (withdraw_in f a free).part _ _ h (withdraw_in_level f a h free l)

  pub withdraw_in_level : (f : Forest) (a h : ℕ) (free : List ℕ) → LevelIn f h → LevelRow (withdraw_in f a free).part h
  withdraw_in_level (last n) a h free l = last_level (withdraw n a free).part h (withdraw_level n a h free l)
  withdraw_in_level (more n k f) a h free l =
      by_le (λ (r : Made (Held Forest)). LevelRow r.part h) a k _ _
      (λ le. more_level k f (withdraw n a free).part h (withdraw_level n a h free l.0) l.1)
      (λ gt. before_level n k (withdraw_in f a free).part h l.0 (withdraw_in_level f a h free l.1))

-- the filling
leaf_filled : (es : List Entry) (ws : List Write) (free : List ℕ) → length es ≤ 10 → FilledHeld (place_left leaf (keep es) ws free).part
leaf_filled [] ws free z = tt
leaf_filled (e ∷ es) ws free z = (omega arith, z)

inner_filled : (s : Held Forest) (ws : List Write) (free : List ℕ) (m : ℕ) → m ≤ 10 → FilledRow s m → FilledHeld (place_left inner s ws free).part
inner_filled none ws free m h z = tt
inner_filled (held f) ws free m h z = (omega (arith, z.1), z.0)

last_filled : (s : Held Node) → FilledHeld s → FilledRow (held_last s) 1
last_filled none z = tt
last_filled (held n) z = (z, omega arith)

more_filled : (k : ℕ) (f : Forest) (s : Held Node) → FilledHeld s → FilledIn f → FilledRow (held_more k f s) (suc (size f))
more_filled k f none z q = (q, omega arith)
more_filled k f (held n) z q = ((z, q), omega arith)

before_filled : (n : Node) (k : ℕ) (s : Held Forest) (m : ℕ) → Filled n → FilledRow s m → FilledRow (held_before n k s) (suc m)
before_filled n k none m z q = (z, omega arith)
before_filled n k (held f) m z q = ((z, q.0), omega (arith, q.1))

mutual
  pub withdraw_filled : (n : Node) (a : ℕ) (free : List ℕ) → Filled n → FilledHeld (withdraw n a free).part
  withdraw_filled (leaf p es) a free z = leaf_filled (remove a es) [] free (omega (arith, remove_length a es, z.1))
  withdraw_filled (inner p f) a free z = inner_filled (withdraw_in f a free).part _ _ (size f) z.0 (withdraw_in_filled f a free z.1)

  pub withdraw_in_filled : (f : Forest) (a : ℕ) (free : List ℕ) → FilledIn f → FilledRow (withdraw_in f a free).part (size f)
  withdraw_in_filled (last n) a free z = last_filled (withdraw n a free).part (withdraw_filled n a free z)
  withdraw_in_filled (more n k f) a free z =
      by_le (λ (r : Made (Held Forest)). FilledRow r.part (suc (size f))) a k _ _
      (λ le. more_filled k f (withdraw n a free).part (withdraw_filled n a free z.0) z.1)
      (λ gt. before_filled n k (withdraw_in f a free).part (size f) z.0 (withdraw_in_filled f a free z.1))
