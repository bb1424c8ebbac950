-- From the tree to its pages: an operation on an inner page is the operation on ONE child and an edit of the page's entries.
use Rattle.std.proofs.Common.{◌≡◌, ℕ, zero, suc, ◌<◌, ◌≤◌, Bool, true, false, cond, leb, List, [], ◌∷◌, length, get_or, take, drop, sym, refl, ap, ◌∙◌, arith}
use Rattle.std.proofs.lemmas.Bool.{leb-true, leb-false}
use Rattle.layout.specs.declared.entry.Entry.{Entry}
use Rattle.tree.specs.Tree.{Contents, Filled, FilledIn, Forest, Held, Level, LevelIn, Node, Ordered, OrderedIn, Stands, StandsIn, child_entries, number, size}
use Rattle.tree.specs.Tree.Forest.{last, more}
use Rattle.tree.specs.Tree.Held.{held, none}
use Rattle.tree.specs.CopyMoves.{Split, ahead, ahead_in, as_last, as_more, cut, cut_in, entry, held_before, held_last, held_more, lodge, lodge_in, with_part, withdraw, withdraw_in}
use Rattle.tree.specs.CopyMoves.Split.{one, two}
use Rattle.tree.specs.CopyPages.{PageLaw, before, child_for, child_high, child_low, clear, clear_at, entries_left, entries_split, fill, halves, number_left, numbers, pick, replace, restore, swap}
use Rattle.tree.proofs.CopyBase.{by_le, by_le₂}

-- the operation is the one on the child
pub lodge_child : (f : Forest) (a : ℕ) (free : List ℕ) → lodge_in f a free ≡ with_part (replace f a) (lodge (child_for f a) a free)
lodge_child (last n) a free = refl
lodge_child (more n k f) a free = by-test (leb a k) (lodge_child f a free)
  where
    by-test : (b : Bool) → lodge_in f a free ≡ with_part (replace f a) (lodge (child_for f a) a free) →
        cond b (with_part (as_more k f) (lodge n a free)) (with_part (more n k) (lodge_in f a free))
        ≡ with_part (λ (s : Split Node). cond b (as_more k f s) (more n k (replace f a s))) (lodge (cond b n (child_for f a)) a free)
    by-test true e = refl
    by-test false e = ap (with_part (more n k)) e

pub withdraw_child : (f : Forest) (a : ℕ) (free : List ℕ) → withdraw_in f a free ≡ with_part (restore f a) (withdraw (child_for f a) a free)
withdraw_child (last n) a free = refl
withdraw_child (more n k f) a free = by-test (leb a k) (withdraw_child f a free)
  where
    by-test : (b : Bool) → withdraw_in f a free ≡ with_part (restore f a) (withdraw (child_for f a) a free) →
        cond b (with_part (held_more k f) (withdraw n a free)) (with_part (held_before n k) (withdraw_in f a free))
        ≡ with_part (λ (s : Held Node). cond b (held_more k f s) (held_before n k (restore f a s))) (withdraw (cond b n (child_for f a)) a free)
    by-test true e = refl
    by-test false e = ap (with_part (held_before n k)) e

-- what holds of the page holds of the child
pub child_stands : (f : Forest) (a : ℕ) (m : Contents) → StandsIn f m → Stands (child_for f a) m
child_stands (last n) a m s = s
child_stands (more n k f) a m s = by_le (λ (c : Node). Stands c m) a k _ _ (λ le. s.0) (λ gt. child_stands f a m s.1)

pub child_level : (f : Forest) (a h : ℕ) → LevelIn f h → Level (child_for f a) h
child_level (last n) a h l = l
child_level (more n k f) a h l = by_le (λ (c : Node). Level c h) a k _ _ (λ le. l.0) (λ gt. child_level f a h l.1)

pub child_filled : (f : Forest) (a : ℕ) → FilledIn f → Filled (child_for f a)
child_filled (last n) a z = z
child_filled (more n k f) a z = by_le Filled a k _ _ (λ le. z.0) (λ gt. child_filled f a z.1)

pub child_ordered : (f : Forest) (a lo hi : ℕ) → lo ≤ a → a ≤ hi → OrderedIn f lo hi →
    Ordered (child_for f a) (child_low f a lo) (child_high f a hi) × (child_low f a lo ≤ a) × (a ≤ child_high f a hi)
child_ordered (last n) a lo hi l h o = (o, l, h)
child_ordered (more n k f) a lo hi l h o = by-test (leb a k) (leb-true a k) (λ e. child_ordered f a (suc k) hi (leb-false a k e) h o.3)
  where
    by-test : (b : Bool) → (b ≡ true → a ≤ k) →
        (b ≡ false → Ordered (child_for f a) (child_low f a (suc k)) (child_high f a hi) × (child_low f a (suc k) ≤ a) × (a ≤ child_high f a hi)) →
        Ordered (cond b n (child_for f a)) (cond b lo (child_low f a (suc k))) (cond b k (child_high f a hi)) × (cond b lo (child_low f a (suc k)) ≤ a) × (a ≤ cond b k (child_high f a hi))
    by-test true t r = (o.2, l, t refl)
    by-test false t r = r refl

-- there is an entry behind, so that `pick` and `swap` compute
pub pick_more : (e : Entry) (f : Forest) (a : ℕ) → pick (e ∷ child_entries f) a ≡ cond (leb a e.key) e.value (pick (child_entries f) a)
pick_more e (last n) a = refl
pick_more e (more n k f) a = refl

pub swap_more : (e : Entry) (f : Forest) (a : ℕ) (s : Split ℕ) → swap (e ∷ child_entries f) a s ≡ cond (leb a e.key) (fill e.key (child_entries f) s) (e ∷ swap (child_entries f) a s)
swap_more e (last n) a s = refl
swap_more e (more n k f) a s = refl

-- the child's number is the one that the entries say
pub pick_child : (f : Forest) (a : ℕ) → pick (child_entries f) a ≡ number (child_for f a)
pick_child (last n) a = refl
pick_child (more n k f) a =
    pick_more (entry k (number n)) f a ∙ by_le₂ (λ (x : ℕ) (c : Node). x ≡ number c) a k _ _ _ _ (λ le. refl) (λ gt. pick_child f a)

fill_last : (s : Split Node) → child_entries (as_last s) ≡ fill 0 [] (numbers s)
fill_last (one n) = refl
fill_last (two l k r) = refl

fill_more : (k : ℕ) (f : Forest) (s : Split Node) → child_entries (as_more k f s) ≡ fill k (child_entries f) (numbers s)
fill_more k f (one n) = refl
fill_more k f (two l j r) = refl

-- the page's new entries are the old ones with the child's entry swapped
pub swap_child : (f : Forest) (a : ℕ) (s : Split Node) → child_entries (replace f a s) ≡ swap (child_entries f) a (numbers s)
swap_child (last n) a s = fill_last s
swap_child (more n k f) a s =
    by_le₂ (λ (g : Forest) (es : List Entry). child_entries g ≡ es) a k _ _ _ _
    (λ le. fill_more k f s)
    (λ gt. ap (λ (es : List Entry). entry k (number n) ∷ es) (swap_child f a s))
    ∙ sym (swap_more (entry k (number n)) f a (numbers s))

-- the cut of a leaf's entries, by take and drop
pub cut_is : (i : ℕ) (es : List Entry) (d : Entry) → suc i < length es → cut i es ≡ two (take (suc i) es) (get_or es i d).key (drop (suc i) es)
cut_is zero [] d h = absurd (omega arith)
cut_is zero (e ∷ []) d h = absurd (omega arith)
cut_is zero (e ∷ (c ∷ es)) d h = refl
cut_is (suc i) [] d h = absurd (omega arith)
cut_is (suc i) (e ∷ es) d h = ap (ahead e) (cut_is i es d (omega arith))

-- the cut of a row, on its entries
abbrev entries_ahead : Entry → Split (List Entry) → Split (List Entry)
entries_ahead e (one es) = one (e ∷ es)
entries_ahead e (two es k ds) = two (e ∷ es) k ds

ahead_entries : (n : Node) (k : ℕ) (s : Split Forest) → entries_split (ahead_in n k s) ≡ entries_ahead (entry k (number n)) (entries_split s)
ahead_entries n k (one f) = refl
ahead_entries n k (two f j g) = refl

pub cut_rows : (i : ℕ) (f : Forest) → suc i < size f → entries_split (cut_in i f) ≡ halves i (child_entries f)
cut_rows zero (last n) h = absurd (omega arith)
cut_rows zero (more n k f) h = refl
cut_rows (suc i) (last n) h = absurd (omega arith)
cut_rows (suc i) (more n k f) h = ahead_entries n k (cut_in i f) ∙ ap (entries_ahead (entry k (number n))) (cut_rows i f (omega arith))

-- withdraw: the child's entry renumbered, or gone
last_cleared : (s : Held Node) → entries_left (held_last s) ≡ clear_at 0 [] (number_left s)
last_cleared none = refl
last_cleared (held n) = refl

more_cleared : (k : ℕ) (f : Forest) (s : Held Node) → entries_left (held_more k f s) ≡ clear_at k (child_entries f) (number_left s)
more_cleared k f none = refl
more_cleared k f (held n) = refl

pub before_row : (n : Node) (k : ℕ) (f : Forest) → entry k (number n) ∷ child_entries f ≡ before (entry k (number n)) (child_entries f)
before_row n k (last c) = refl
before_row n k (more c j f) = refl

before_cleared : (n : Node) (k : ℕ) (s : Held Forest) → entries_left (held_before n k s) ≡ before (entry k (number n)) (entries_left s)
before_cleared n k none = refl
before_cleared n k (held f) = before_row n k f

pub clear_more : (e : Entry) (f : Forest) (a : ℕ) (s : Held ℕ) → clear (e ∷ child_entries f) a s ≡ cond (leb a e.key) (clear_at e.key (child_entries f) s) (before e (clear (child_entries f) a s))
clear_more e (last n) a s = refl
clear_more e (more n k f) a s = refl

pub clear_child : (f : Forest) (a : ℕ) (s : Held Node) → entries_left (restore f a s) ≡ clear (child_entries f) a (number_left s)
clear_child (last n) a s = last_cleared s
clear_child (more n k f) a s =
    by_le₂ (λ (g : Held Forest) (es : List Entry). entries_left g ≡ es) a k _ _ _ _
    (λ le. more_cleared k f s)
    (λ gt. before_cleared n k (restore f a s) ∙ ap (before (entry k (number n))) (clear_child f a s))
    ∙ sym (clear_more (entry k (number n)) f a (number_left s))

pub page_law : PageLaw
page_law f a = record {
  picks = pick_child f a;
  lodges = lodge_child f a;
  swaps = swap_child f a;
  cuts = λ i h. cut_rows i f h;
  withdraws = withdraw_child f a;
  clears = clear_child f a;
}
