-- What holds of every tree, and of the moves on one row of children: cut, and one or two pages in a child's place.
use Rattle.std.proofs.Common.{◌≡◌, ℕ, zero, suc, ◌+◌, ◌<◌, ◌≤◌, List, ◌++◌, sym, refl, ap, ◌∙◌, append_assoc, arith}
use Rattle.layout.specs.declared.entry.Entry.{Entry}
use Rattle.tree.specs.Tree.{Filled, FilledIn, Forest, Level, LevelIn, Node, Ordered, OrderedIn, events, events_in, pages, pages_in, size}
use Rattle.tree.specs.Tree.Node.{inner, leaf}
use Rattle.tree.specs.Tree.Forest.{last, more}
use Rattle.tree.specs.CopyMoves.{Split, ahead_in, as_last, as_more, cut_in, fit_in}
use Rattle.tree.specs.CopyMoves.Split.{one, two}
use Rattle.tree.proofs.CopyBase.{by_le}
use Rattle.tree.proofs.CopyEntries.{From, Upto, from_append, from_lower, rising_from, rising_upto, rising_wider, upto_append, upto_higher}

-- the entries of a tree lie in its region
mutual
  pub tree_from : (n : Node) (lo hi : ℕ) → Ordered n lo hi → From lo (events n)
  tree_from (leaf p es) lo hi o = rising_from lo hi es o
  tree_from (inner p f) lo hi o = tree_from_in f lo hi o

  pub tree_from_in : (f : Forest) (lo hi : ℕ) → OrderedIn f lo hi → From lo (events_in f)
  tree_from_in (last n) lo hi o = tree_from n lo hi o
  tree_from_in (more n k f) lo hi o =
      from_append lo (events n) (events_in f) (tree_from n lo k o.2) (from_lower (suc k) lo (events_in f) (omega (arith, o.0)) (tree_from_in f (suc k) hi o.3))

mutual
  pub tree_upto : (n : Node) (lo hi : ℕ) → Ordered n lo hi → Upto hi (events n)
  tree_upto (leaf p es) lo hi o = rising_upto lo hi es o
  tree_upto (inner p f) lo hi o = tree_upto_in f lo hi o

  pub tree_upto_in : (f : Forest) (lo hi : ℕ) → OrderedIn f lo hi → Upto hi (events_in f)
  tree_upto_in (last n) lo hi o = tree_upto n lo hi o
  tree_upto_in (more n k f) lo hi o =
      upto_append hi (events n) (events_in f) (upto_higher k hi (events n) (omega (arith, o.1)) (tree_upto n lo k o.2)) (tree_upto_in f (suc k) hi o.3)

-- a region may grow
mutual
  pub wider : (n : Node) (lo hi lo' hi' : ℕ) → lo' ≤ lo → hi ≤ hi' → Ordered n lo hi → Ordered n lo' hi'
  wider (leaf p es) lo hi lo' hi' l h o = rising_wider lo hi lo' hi' es l h o
  wider (inner p f) lo hi lo' hi' l h o = wider_in f lo hi lo' hi' l h o

  pub wider_in : (f : Forest) (lo hi lo' hi' : ℕ) → lo' ≤ lo → hi ≤ hi' → OrderedIn f lo hi → OrderedIn f lo' hi'
  wider_in (last n) lo hi lo' hi' l h o = wider n lo hi lo' hi' l h o
  wider_in (more n k f) lo hi lo' hi' l h o =
      (omega (arith, o.0), omega (arith, o.1), wider n lo k lo' k l (omega arith) o.2, wider_in f (suc k) hi (suc k) hi' (omega arith) h o.3)

-- What is said of one page or two, and of one row of children or two.
abbrev pub events_two : Split Node → List Entry
events_two (one n) = events n
events_two (two l k r) = events l ++ events r

abbrev pub events_rows : Split Forest → List Entry
events_rows (one f) = events_in f
events_rows (two f k g) = events_in f ++ events_in g

abbrev pub pages_two : Split Node → List ℕ
pages_two (one n) = pages n
pages_two (two l k r) = pages l ++ pages r

abbrev pub pages_rows : Split Forest → List ℕ
pages_rows (one f) = pages_in f
pages_rows (two f k g) = pages_in f ++ pages_in g

abbrev pub OrderedTwo : Split Node → ℕ → ℕ → Type 0
OrderedTwo (one n) lo hi = Ordered n lo hi
OrderedTwo (two l k r) lo hi = (lo ≤ k) × (k < hi) × Ordered l lo k × Ordered r (suc k) hi

abbrev pub OrderedRows : Split Forest → ℕ → ℕ → Type 0
OrderedRows (one f) lo hi = OrderedIn f lo hi
OrderedRows (two f k g) lo hi = (lo ≤ k) × (k < hi) × OrderedIn f lo k × OrderedIn g (suc k) hi

abbrev pub LevelTwo : Split Node → ℕ → Type 0
LevelTwo (one n) h = Level n h
LevelTwo (two l k r) h = Level l h × Level r h

abbrev pub LevelRows : Split Forest → ℕ → Type 0
LevelRows (one f) h = LevelIn f h
LevelRows (two f k g) h = LevelIn f h × LevelIn g h

abbrev pub FilledTwo : Split Node → Type 0
FilledTwo (one n) = Filled n
FilledTwo (two l k r) = Filled l × Filled r

-- children filled, and the sizes of the rows
abbrev pub FilledRows : Split Forest → Type 0
FilledRows (one f) = FilledIn f
FilledRows (two f k g) = FilledIn f × FilledIn g

abbrev pub SizesRows : Split Forest → ℕ → ℕ → Type 0
SizesRows (one f) i n = ⊥
SizesRows (two f k g) i n = (size f ≡ suc i) × (size f + size g ≡ n)

abbrev pub ShortRows : Split Forest → Type 0
ShortRows (one f) = size f ≤ 10
ShortRows (two f k g) = (size f ≤ 10) × (size g ≤ 10)

-- the cut: for each of these one lemma on `ahead_in` and one on `cut_in`
ahead_events : (n : Node) (k : ℕ) (s : Split Forest) → events_rows (ahead_in n k s) ≡ events n ++ events_rows s
ahead_events n k (one f) = refl
ahead_events n k (two f j g) = append_assoc (events n) (events_in f) (events_in g)

pub cut_events : (i : ℕ) (f : Forest) → events_rows (cut_in i f) ≡ events_in f
cut_events zero (last n) = refl
cut_events zero (more n k f) = refl
cut_events (suc i) (last n) = refl
cut_events (suc i) (more n k f) = ahead_events n k (cut_in i f) ∙ ap (λ (z : List Entry). events n ++ z) (cut_events i f)

ahead_pages : (n : Node) (k : ℕ) (s : Split Forest) → pages_rows (ahead_in n k s) ≡ pages n ++ pages_rows s
ahead_pages n k (one f) = refl
ahead_pages n k (two f j g) = append_assoc (pages n) (pages_in f) (pages_in g)

pub cut_pages : (i : ℕ) (f : Forest) → pages_rows (cut_in i f) ≡ pages_in f
cut_pages zero (last n) = refl
cut_pages zero (more n k f) = refl
cut_pages (suc i) (last n) = refl
cut_pages (suc i) (more n k f) = ahead_pages n k (cut_in i f) ∙ ap (λ (z : List ℕ). pages n ++ z) (cut_pages i f)

ahead_ordered : (n : Node) (k : ℕ) (s : Split Forest) (lo hi : ℕ) → lo ≤ k → k < hi → Ordered n lo k → OrderedRows s (suc k) hi → OrderedRows (ahead_in n k s) lo hi
ahead_ordered n k (one f) lo hi l h o r = (l, h, o, r)
ahead_ordered n k (two f j g) lo hi l h o r = (omega (arith, r.0), r.1, (l, omega (arith, r.0), o, r.2), r.3)

pub cut_ordered : (i : ℕ) (f : Forest) (lo hi : ℕ) → OrderedIn f lo hi → OrderedRows (cut_in i f) lo hi
cut_ordered zero (last n) lo hi o = o
cut_ordered zero (more n k f) lo hi o = o
cut_ordered (suc i) (last n) lo hi o = o
cut_ordered (suc i) (more n k f) lo hi o = ahead_ordered n k (cut_in i f) lo hi o.0 o.1 o.2 (cut_ordered i f (suc k) hi o.3)

ahead_level : (n : Node) (k : ℕ) (s : Split Forest) (h : ℕ) → Level n h → LevelRows s h → LevelRows (ahead_in n k s) h
ahead_level n k (one f) h l r = (l, r)
ahead_level n k (two f j g) h l r = ((l, r.0), r.1)

pub cut_level : (i : ℕ) (f : Forest) (h : ℕ) → LevelIn f h → LevelRows (cut_in i f) h
cut_level zero (last n) h l = l
cut_level zero (more n k f) h l = l
cut_level (suc i) (last n) h l = l
cut_level (suc i) (more n k f) h l = ahead_level n k (cut_in i f) h l.0 (cut_level i f h l.1)

ahead_filled : (n : Node) (k : ℕ) (s : Split Forest) → Filled n → FilledRows s → FilledRows (ahead_in n k s)
ahead_filled n k (one f) l r = (l, r)
ahead_filled n k (two f j g) l r = ((l, r.0), r.1)

pub cut_filled : (i : ℕ) (f : Forest) → FilledIn f → FilledRows (cut_in i f)
cut_filled zero (last n) l = l
cut_filled zero (more n k f) l = l
cut_filled (suc i) (last n) l = l
cut_filled (suc i) (more n k f) l = ahead_filled n k (cut_in i f) l.0 (cut_filled i f l.1)

ahead_sizes : (n : Node) (k : ℕ) (s : Split Forest) (i m : ℕ) → SizesRows s i m → SizesRows (ahead_in n k s) (suc i) (suc m)
ahead_sizes n k (one f) i m z = z
ahead_sizes n k (two f j g) i m z = (omega (arith, z.0), omega (arith, z.1))

pub cut_sizes : (i : ℕ) (f : Forest) → suc i < size f → SizesRows (cut_in i f) i (size f)
cut_sizes zero (last n) h = absurd (omega arith)
cut_sizes zero (more n k f) h = (refl, omega arith)
cut_sizes (suc i) (last n) h = absurd (omega arith)
cut_sizes (suc i) (more n k f) h = ahead_sizes n k (cut_in i f) i (size f) (cut_sizes i f (omega arith))

-- the split of a row that has grown by one
pub fit_events : (f : Forest) → events_rows (fit_in f) ≡ events_in f
fit_events f = by_le (λ (s : Split Forest). events_rows s ≡ events_in f) (size f) 10 _ _ (λ _. refl) (λ _. cut_events 5 f)

pub fit_pages : (f : Forest) → pages_rows (fit_in f) ≡ pages_in f
fit_pages f = by_le (λ (s : Split Forest). pages_rows s ≡ pages_in f) (size f) 10 _ _ (λ _. refl) (λ _. cut_pages 5 f)

pub fit_ordered : (f : Forest) (lo hi : ℕ) → OrderedIn f lo hi → OrderedRows (fit_in f) lo hi
fit_ordered f lo hi o = by_le (λ (s : Split Forest). OrderedRows s lo hi) (size f) 10 _ _ (λ _. o) (λ _. cut_ordered 5 f lo hi o)

pub fit_level : (f : Forest) (h : ℕ) → LevelIn f h → LevelRows (fit_in f) h
fit_level f h l = by_le (λ (s : Split Forest). LevelRows s h) (size f) 10 _ _ (λ _. l) (λ _. cut_level 5 f h l)

pub fit_filled : (f : Forest) → FilledIn f → FilledRows (fit_in f)
fit_filled f l = by_le FilledRows (size f) 10 _ _ (λ _. l) (λ _. cut_filled 5 f l)

short_sizes : (s : Split Forest) → SizesRows s 5 11 → ShortRows s
short_sizes (one f) z = absurd z
short_sizes (two f k g) z = (omega (arith, z.0), omega (arith, z.0, z.1))

pub fit_short : (f : Forest) → size f ≤ 11 → ShortRows (fit_in f)
fit_short f h = by_le ShortRows (size f) 10 _ _ (λ le. le)
    (λ gt. let e : size f ≡ 11 = omega arith in short_sizes (cut_in 5 f) (rw e at (cut_sizes 5 f (omega arith))))

-- one page or two in a child's place
pub last_events : (s : Split Node) → events_in (as_last s) ≡ events_two s
last_events (one n) = refl
last_events (two l k r) = refl

pub more_events : (k : ℕ) (f : Forest) (s : Split Node) → events_in (as_more k f s) ≡ events_two s ++ events_in f
more_events k f (one n) = refl
more_events k f (two l j r) = sym (append_assoc (events l) (events r) (events_in f))

pub last_pages : (s : Split Node) → pages_in (as_last s) ≡ pages_two s
last_pages (one n) = refl
last_pages (two l k r) = refl

pub more_pages : (k : ℕ) (f : Forest) (s : Split Node) → pages_in (as_more k f s) ≡ pages_two s ++ pages_in f
more_pages k f (one n) = refl
more_pages k f (two l j r) = sym (append_assoc (pages l) (pages r) (pages_in f))

pub last_ordered : (s : Split Node) (lo hi : ℕ) → OrderedTwo s lo hi → OrderedIn (as_last s) lo hi
last_ordered (one n) lo hi o = o
last_ordered (two l k r) lo hi o = o

pub more_ordered : (k : ℕ) (f : Forest) (s : Split Node) (lo hi : ℕ) → lo ≤ k → k < hi → OrderedTwo s lo k → OrderedIn f (suc k) hi → OrderedIn (as_more k f s) lo hi
more_ordered k f (one n) lo hi l h o q = (l, h, o, q)
more_ordered k f (two a j r) lo hi l h o q = (o.0, omega (arith, o.1), o.2, (omega (arith, o.1), h, o.3, q))

pub last_level : (s : Split Node) (h : ℕ) → LevelTwo s h → LevelIn (as_last s) h
last_level (one n) h l = l
last_level (two a k r) h l = l

pub more_level : (k : ℕ) (f : Forest) (s : Split Node) (h : ℕ) → LevelTwo s h → LevelIn f h → LevelIn (as_more k f s) h
more_level k f (one n) h l q = (l, q)
more_level k f (two a j r) h l q = (l.0, (l.1, q))

-- the size grows by one at most
pub last_filled : (s : Split Node) → FilledTwo s → FilledIn (as_last s) × (size (as_last s) ≤ 2)
last_filled (one n) l = (l, omega arith)
last_filled (two a k r) l = (l, omega arith)

pub more_filled : (k : ℕ) (f : Forest) (s : Split Node) → FilledTwo s → FilledIn f → FilledIn (as_more k f s) × (size (as_more k f s) ≤ suc (suc (size f)))
more_filled k f (one n) l q = ((l, q), omega arith)
more_filled k f (two a j r) l q = ((l.0, (l.1, q)), omega arith)
