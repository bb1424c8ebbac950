-- How many pages are taken, and the shape of what comes back.
use Rattle.std.proofs.Common.{◌≡◌, ℕ, zero, suc, ◌+◌, List, [], ◌∷◌, length, refl, ap, ◌∙◌, arith}
use Rattle.layout.specs.declared.entry.Entry.{Entry}
use Rattle.tree.specs.Tree.{Forest, Held, Level, LevelIn, Node, size}
use Rattle.tree.specs.Tree.Node.{inner, leaf}
use Rattle.tree.specs.Tree.Forest.{last, more}
use Rattle.tree.specs.Tree.Held.{held, none}
use Rattle.tree.specs.CopyDescent.{parts}
use Rattle.tree.specs.CopyLaws.{empty, over_ten, page_drops, page_drops_in, page_splits, page_splits_in, path_drops, path_drops_in, path_splits, path_splits_in}
use Rattle.tree.specs.CopyMoves.{Made, Split, as_last, as_more, cut, cut_in, enter, fit, fit_in, held_before, held_last, held_more, keep, lodge, lodge_in, place, place_left, remove, withdraw, withdraw_in}
use Rattle.tree.specs.CopyMoves.Split.{one, two}
use Rattle.tree.specs.CopyWrites.{Write}
use Rattle.tree.proofs.CopyBase.{by_le, by_le₂}
use Rattle.tree.proofs.CopyEntries
use Rattle.tree.proofs.CopyForests
use Rattle.tree.proofs.CopyNumbers

place_count : {A : Type 0} (page : ℕ → A → Node) (s : Split A) (ws : List Write) (free : List ℕ) → length (place page s ws free).writes ≡ suc (length ws) + parts s
place_count page (one x) ws free = simp CopyNumbers.push_length (omega arith)
place_count page (two x k y) ws free = simp CopyNumbers.push_length (omega arith)

place_parts : {A : Type 0} (page : ℕ → A → Node) (s : Split A) (ws : List Write) (free : List ℕ) → parts (place page s ws free).part ≡ parts s
place_parts page (one x) ws free = refl
place_parts page (two x k y) ws free = refl

two_leaves : (s : Split (List Entry)) (i n : ℕ) → CopyEntries.Sizes s i n → parts s ≡ 1
two_leaves (one x) i n z = absurd z
two_leaves (two x k y) i n z = refl

two_rows : (s : Split Forest) (i n : ℕ) → CopyForests.SizesRows s i n → parts s ≡ 1
two_rows (one x) i n z = absurd z
two_rows (two x k y) i n z = refl

fit_parts : (es : List Entry) → parts (fit es) ≡ over_ten (length es)
fit_parts es = by_le₂ (λ (s : Split (List Entry)) (n : ℕ). parts s ≡ n) (length es) 10 _ _ _ _ (λ le. refl)
    (λ gt. two_leaves (cut 5 es) 5 (length es) (CopyEntries.cut_sizes 5 es (omega arith)))

fit_in_parts : (f : Forest) → parts (fit_in f) ≡ over_ten (size f)
fit_in_parts f = by_le₂ (λ (s : Split Forest) (n : ℕ). parts s ≡ n) (size f) 10 _ _ _ _ (λ le. refl)
    (λ gt. two_rows (cut_in 5 f) 5 (size f) (CopyForests.cut_sizes 5 f (omega arith)))

last_size : (s : Split Node) → size (as_last s) ≡ 1 + parts s
last_size (one n) = refl
last_size (two l k r) = refl

more_size : (k : ℕ) (f : Forest) (s : Split Node) → size (as_more k f s) ≡ suc (size f) + parts s
more_size k f (one n) = omega arith
more_size k f (two l j r) = omega arith

-- a page splits where `grows` says so
mutual
  pub lodge_parts : (n : Node) (a : ℕ) (free : List ℕ) → parts (lodge n a free).part ≡ page_splits n a
  lodge_parts (leaf p es) a free = place_parts leaf (fit (enter a es)) [] free ∙ fit_parts (enter a es)
  lodge_parts (inner p f) a free =
      place_parts inner (fit_in (lodge_in f a free).part) _ _ ∙ fit_in_parts (lodge_in f a free).part ∙ ap over_ten (lodge_in_size f a free)

  pub lodge_in_size : (f : Forest) (a : ℕ) (free : List ℕ) → size (lodge_in f a free).part ≡ size f + page_splits_in f a
  lodge_in_size (last n) a free = last_size (lodge n a free).part ∙ ap (λ (z : ℕ). 1 + z) (lodge_parts n a free)
  lodge_in_size (more n k f) a free =
      by_le₂ (λ (r : Made Forest) (g : ℕ). size r.part ≡ suc (size f) + g) a k _ _ _ _
      (λ le. more_size k f (lodge n a free).part ∙ ap (λ (z : ℕ). suc (size f) + z) (lodge_parts n a free))
      (λ gt. omega (arith, lodge_in_size f a free))

-- a page for each level, and one for each split
mutual
  pub lodge_count : (n : Node) (a h : ℕ) (free : List ℕ) → Level n h → length (lodge n a free).writes ≡ h + path_splits n a
  lodge_count (leaf p es) a h free l = omega (arith, place_count leaf (fit (enter a es)) [] free, fit_parts (enter a es))
  lodge_count (inner p f) a zero free l = absurd l
  lodge_count (inner p f) a (suc h) free l =
      let r = lodge_in f a free in
      omega (arith, place_count inner (fit_in r.part) r.writes r.rest, fit_in_parts r.part, ap over_ten (lodge_in_size f a free), lodge_in_count f a h free l)

  pub lodge_in_count : (f : Forest) (a h : ℕ) (free : List ℕ) → LevelIn f h → length (lodge_in f a free).writes ≡ h + path_splits_in f a
  lodge_in_count (last n) a h free l = lodge_count n a h free l
  lodge_in_count (more n k f) a h free l =
      by_le₂ (λ (r : Made Forest) (g : ℕ). length r.writes ≡ h + g) a k _ _ _ _
      (λ le. lodge_count n a h free l.0)
      (λ gt. lodge_in_count f a h free l.1)

-- 1 where nothing is left
abbrev pub lost : {A : Type 0} → Held A → ℕ
lost none = 1
lost (held x) = 0

place_left_count : {A : Type 0} (page : ℕ → A → Node) (s : Held A) (ws : List Write) (free : List ℕ) → length (place_left page s ws free).writes + lost s ≡ suc (length ws)
place_left_count page none ws free = omega arith
place_left_count page (held x) ws free = simp CopyNumbers.push_length (omega arith)

place_left_lost : {A : Type 0} (page : ℕ → A → Node) (s : Held A) (ws : List Write) (free : List ℕ) → lost (place_left page s ws free).part ≡ lost s
place_left_lost page none ws free = refl
place_left_lost page (held x) ws free = refl

keep_lost : (es : List Entry) → lost (keep es) ≡ empty es
keep_lost [] = refl
keep_lost (e ∷ es) = refl

last_lost : (s : Held Node) → lost (held_last s) ≡ lost s
last_lost none = refl
last_lost (held n) = refl

more_lost : (k : ℕ) (f : Forest) (s : Held Node) → lost (held_more k f s) ≡ 0
more_lost k f none = refl
more_lost k f (held n) = refl

before_lost : (n : Node) (k : ℕ) (s : Held Forest) → lost (held_before n k s) ≡ 0
before_lost n k none = refl
before_lost n k (held f) = refl

mutual
  pub withdraw_lost : (n : Node) (a : ℕ) (free : List ℕ) → lost (withdraw n a free).part ≡ page_drops n a
  withdraw_lost (leaf p es) a free = place_left_lost leaf (keep (remove a es)) [] free ∙ keep_lost (remove a es)
  withdraw_lost (inner p f) a free = place_left_lost inner (withdraw_in f a free).part _ _ ∙ withdraw_in_lost f a free

  pub withdraw_in_lost : (f : Forest) (a : ℕ) (free : List ℕ) → lost (withdraw_in f a free).part ≡ page_drops_in f a
  withdraw_in_lost (last n) a free = last_lost (withdraw n a free).part ∙ withdraw_lost n a free
  withdraw_in_lost (more n k f) a free =
      by_le (λ (r : Made (Held Forest)). lost r.part ≡ 0) a k _ _
      (λ le. more_lost k f (withdraw n a free).part)
      (λ gt. before_lost n k (withdraw_in f a free).part)

mutual
  pub withdraw_count : (n : Node) (a h : ℕ) (free : List ℕ) → Level n h → length (withdraw n a free).writes + path_drops n a ≡ h
  withdraw_count (leaf p es) a h free l = omega (arith, place_left_count leaf (keep (remove a es)) [] free, keep_lost (remove a es))
  withdraw_count (inner p f) a zero free l = absurd l
  withdraw_count (inner p f) a (suc h) free l =
      let r = withdraw_in f a free in
      omega (arith, place_left_count inner r.part r.writes r.rest, withdraw_in_lost f a free, withdraw_in_count f a h free l)

  pub withdraw_in_count : (f : Forest) (a h : ℕ) (free : List ℕ) → LevelIn f h → length (withdraw_in f a free).writes + path_drops_in f a ≡ h
  withdraw_in_count (last n) a h free l = withdraw_count n a h free l
  withdraw_in_count (more n k f) a h free l =
      by_le₂ (λ (r : Made (Held Forest)) (g : ℕ). length r.writes + g ≡ h) a k _ _ _ _
      (λ le. withdraw_count n a h free l.0)
      (λ gt. withdraw_in_count f a h free l.1)
