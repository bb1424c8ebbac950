-- The operations on a memory are the tree's, where a tree stands: by induction on the level, through the one child.
use Rattle.std.proofs.Common.{◌≡◌, ℕ, zero, suc, ◌+◌, cond, leb, List, [], ◌∷◌, ◌++◌, length, sym, refl, ap, ◌∙◌, subst, append_assoc, append-nil, arith}
use Rattle.std.proofs.lemmas.Bool.{cond-false, lt-leb}
use Rattle.layout.specs.declared.entry.Entry.{Entry}
use Rattle.layout.specs.Content.{Content}
use Rattle.tree.specs.Tree.{Contents, Forest, Held, Level, LevelIn, Node, Stands, child_entries, content, level, level_in, number, size}
use Rattle.tree.specs.Tree.Node.{inner, leaf}
use Rattle.tree.specs.Tree.Forest.{last, more}
use Rattle.tree.specs.Tree.Held.{held, none}
use Rattle.tree.specs.CopyLaws.{empty, over_ten, page_drops, page_drops_in, page_splits, page_splits_in, path_drops, path_drops_in, path_splits, path_splits_in}
use Rattle.tree.specs.CopyLookup.{leaf_for, leaf_for_in}
use Rattle.tree.specs.CopyMemory.{MemoryLaw, leaf_at, lodge_at, page_at, page_drops_at, page_splits_at, path_at, path_drops_at, path_splits_at, place_at, place_left_at, withdraw_at}
use Rattle.tree.specs.CopyMoves.{Made, Split, behind, enter, entry, fit, fit_in, keep, lodge, lodge_in, path, path_in, place, place_left, remove, with_part, withdraw, withdraw_in}
use Rattle.tree.specs.CopyMoves.Split.{one, two}
use Rattle.tree.specs.CopyPages.{child_for, clear, entries_left, entries_split, fit_inner, fit_leaf, number_left, numbers, pick, replace, restore, swap}
use Rattle.tree.specs.CopyWrites.{Write}
use Rattle.tree.proofs.CopyBase.{by_le₂}
use Rattle.tree.proofs.CopyForests
use Rattle.tree.proofs.CopyInner
use Rattle.tree.proofs.CopyLodging
use Rattle.tree.proofs.CopyUnique
use Rattle.tree.proofs.CopyWithdrawing

-- the level that is written is the page's
mutual
  pub level_is : (n : Node) (h : ℕ) → Level n h → level n ≡ h
  level_is (leaf p es) h l = sym l
  level_is (inner p f) zero l = absurd l
  level_is (inner p f) (suc h) l = ap suc (level_in_is f h l)

  level_in_is : (f : Forest) (h : ℕ) → LevelIn f h → level_in f ≡ h
  level_in_is (last n) h l = level_is n h l
  level_in_is (more n k f) h l = level_is n h l.0

-- leaves
fit_leaf_is : (es : List Entry) → fit es ≡ fit_leaf es
fit_leaf_is es = by_le₂ (λ (s t : Split (List Entry)). s ≡ t) (length es) 10 _ _ _ _ (λ le. refl) (λ gt. CopyInner.cut_is 5 es (entry 0 0) (omega arith))

place_leaf_is : (s : Split (List Entry)) (ws : List Write) (free : List ℕ) → place_at 1 s ws free ≡ with_part numbers (place leaf s ws free)
place_leaf_is (one es) ws free = refl
place_leaf_is (two es k ds) ws free = refl

place_left_leaf_is : (es : List Entry) (ws : List Write) (free : List ℕ) → place_left_at 1 es ws free ≡ with_part number_left (place_left leaf (keep es) ws free)
place_left_leaf_is [] ws free = refl
place_left_leaf_is (e ∷ es) ws free = refl

-- inner pages
fit_row_is : (f : Forest) → entries_split (fit_in f) ≡ fit_inner (child_entries f)
fit_row_is f = rw (CopyUnique.entries_size f)
    (by_le₂ (λ (s : Split Forest) (t : Split (List Entry)). entries_split s ≡ t) (size f) 10 _ _ _ _ (λ le. refl) (λ gt. CopyInner.cut_rows 5 f (omega arith)))

place_inner_is : (s : Split Forest) (h : ℕ) (ws : List Write) (free : List ℕ) → CopyForests.LevelRows s h → place_at (suc h) (entries_split s) ws free ≡ with_part numbers (place inner s ws free)
place_inner_is (one f) h ws free l = rw (level_in_is f h l)
place_inner_is (two f k g) h ws free l = rw (level_in_is f h l.0, level_in_is g h l.1)

place_left_row : (f : Forest) (h : ℕ) (ws : List Write) (free : List ℕ) → LevelIn f h → place_left_at (suc h) (child_entries f) ws free ≡ with_part number_left (place_left inner (held f) ws free)
place_left_row (last n) h ws free l = rw (level_is n h l)
place_left_row (more n k f) h ws free l = rw (level_is n h l.0)

place_left_inner_is : (s : Held Forest) (h : ℕ) (ws : List Write) (free : List ℕ) → CopyWithdrawing.LevelRow s h → place_left_at (suc h) (entries_left s) ws free ≡ with_part number_left (place_left inner s ws free)
place_left_inner_is none h ws free l = refl
place_left_inner_is (held f) h ws free l = place_left_row f h ws free l

-- what is left of the operation on a page, given the one on its child
lodge_inner : (f : Forest) (h a : ℕ) (free : List ℕ) (es : List Entry) (r : Made (Split ℕ)) → es ≡ child_entries f → LevelIn f h → r ≡ with_part numbers (lodge (child_for f a) a free) →
    (p : ℕ) → place_at (suc h) (fit_inner (swap es a r.part)) r.writes r.rest ≡ with_part numbers (lodge (inner p f) a free)
lodge_inner f h a free es r e l i p =
    let c = lodge (child_for f a) a free in
    let g = replace f a c.part in
    let own : (lodge_in f a free).part ≡ g = ap (λ (x : Made Forest). x.part) (CopyInner.lodge_child f a free) in
    let step : fit_inner (swap es a r.part) ≡ entries_split (fit_in g) =
    ap (λ (x : List Entry). fit_inner (swap x a r.part)) e ∙ ap (λ (x : Made (Split ℕ)). fit_inner (swap (child_entries f) a x.part)) i
    ∙ ap fit_inner (sym (CopyInner.swap_child f a c.part)) ∙ sym (fit_row_is g) in
    let lev : CopyForests.LevelRows (fit_in g) h = CopyForests.fit_level g h (subst (λ (x : Forest). LevelIn x h) own (CopyLodging.lodge_in_level f a h free l)) in
    ap (λ (x : Split (List Entry)). place_at (suc h) x r.writes r.rest) step
    ∙ ap (λ (x : Made (Split ℕ)). place_at (suc h) (entries_split (fit_in g)) x.writes x.rest) i
    ∙ place_inner_is (fit_in g) h c.writes c.rest lev
    ∙ sym (ap (λ (x : Made Forest). with_part numbers (place inner (fit_in x.part) x.writes x.rest)) (CopyInner.lodge_child f a free))

withdraw_inner : (f : Forest) (h a : ℕ) (free : List ℕ) (es : List Entry) (r : Made (Held ℕ)) → es ≡ child_entries f → LevelIn f h → r ≡ with_part number_left (withdraw (child_for f a) a free) →
    (p : ℕ) → place_left_at (suc h) (clear es a r.part) r.writes r.rest ≡ with_part number_left (withdraw (inner p f) a free)
withdraw_inner f h a free es r e l i p =
    let c = withdraw (child_for f a) a free in
    let g = restore f a c.part in
    let own : (withdraw_in f a free).part ≡ g = ap (λ (x : Made (Held Forest)). x.part) (CopyInner.withdraw_child f a free) in
    let step : clear es a r.part ≡ entries_left g =
    ap (λ (x : List Entry). clear x a r.part) e ∙ ap (λ (x : Made (Held ℕ)). clear (child_entries f) a x.part) i ∙ sym (CopyInner.clear_child f a c.part) in
    let lev : CopyWithdrawing.LevelRow g h = subst (λ (x : Held Forest). CopyWithdrawing.LevelRow x h) own (CopyWithdrawing.withdraw_in_level f a h free l) in
    ap (λ (x : List Entry). place_left_at (suc h) x r.writes r.rest) step
    ∙ ap (λ (x : Made (Held ℕ)). place_left_at (suc h) (entries_left g) x.writes x.rest) i
    ∙ place_left_inner_is g h c.writes c.rest lev
    ∙ sym (ap (λ (x : Made (Held Forest)). with_part number_left (place_left inner x.part x.writes x.rest)) (CopyInner.withdraw_child f a free))

path_child : (f : Forest) (a : ℕ) → path_in f a ≡ path (child_for f a) a
path_child (last n) a = refl
path_child (more n k f) a = by_le₂ (λ (x : List ℕ) (c : Node). x ≡ path c a) a k _ _ _ _ (λ le. refl) (λ gt. path_child f a)

-- by induction on the level
pub lodge_at_is : (h : ℕ) (n : Node) (m : Contents) (a : ℕ) (free : List ℕ) → Level n h → Stands n m → lodge_at h m (number n) a free ≡ with_part numbers (lodge n a free)
unfolding lodge_at
lodge_at_is zero n m a free l s = absurd (CopyUnique.level_some n l)
lodge_at_is (suc zero) (leaf p es) m a free l s =
    ap (λ (x : Content). place_at 1 (fit_leaf (enter a x.entries)) [] free) s
    ∙ ap (λ (x : Split (List Entry)). place_at 1 x [] free) (sym (fit_leaf_is (enter a es)))
    ∙ place_leaf_is (fit (enter a es)) [] free
lodge_at_is (suc zero) (inner p f) m a free l s = absurd (CopyUnique.level_some_in f l)
lodge_at_is (suc (suc h)) (leaf p es) m a free l s = absurd (omega (arith, l))
lodge_at_is (suc (suc h)) (inner p f) m a free l s =
    let e : (m p).entries ≡ child_entries f = ap (λ (x : Content). x.entries) s.0 in
    let to : pick (m p).entries a ≡ number (child_for f a) = ap (λ (x : List Entry). pick x a) e ∙ CopyInner.pick_child f a in
    let i = lodge_at_is (suc h) (child_for f a) m a free (CopyInner.child_level f a (suc h) l) (CopyInner.child_stands f a m s.1) in
    lodge_inner f (suc h) a free (m p).entries (lodge_at (suc h) m (pick (m p).entries a) a free) e l (ap (λ (q : ℕ). lodge_at (suc h) m q a free) to ∙ i) p

pub withdraw_at_is : (h : ℕ) (n : Node) (m : Contents) (a : ℕ) (free : List ℕ) → Level n h → Stands n m → withdraw_at h m (number n) a free ≡ with_part number_left (withdraw n a free)
unfolding withdraw_at
withdraw_at_is zero n m a free l s = absurd (CopyUnique.level_some n l)
withdraw_at_is (suc zero) (leaf p es) m a free l s =
    ap (λ (x : Content). place_left_at 1 (remove a x.entries) [] free) s
    ∙ place_left_leaf_is (remove a es) [] free
withdraw_at_is (suc zero) (inner p f) m a free l s = absurd (CopyUnique.level_some_in f l)
withdraw_at_is (suc (suc h)) (leaf p es) m a free l s = absurd (omega (arith, l))
withdraw_at_is (suc (suc h)) (inner p f) m a free l s =
    let e : (m p).entries ≡ child_entries f = ap (λ (x : Content). x.entries) s.0 in
    let to : pick (m p).entries a ≡ number (child_for f a) = ap (λ (x : List Entry). pick x a) e ∙ CopyInner.pick_child f a in
    let i = withdraw_at_is (suc h) (child_for f a) m a free (CopyInner.child_level f a (suc h) l) (CopyInner.child_stands f a m s.1) in
    withdraw_inner f (suc h) a free (m p).entries (withdraw_at (suc h) m (pick (m p).entries a) a free) e l (ap (λ (q : ℕ). withdraw_at (suc h) m q a free) to ∙ i) p

pub path_at_is : (h : ℕ) (n : Node) (m : Contents) (a : ℕ) → Level n h → Stands n m → path_at h m (number n) a ≡ path n a
unfolding path_at
path_at_is zero n m a l s = absurd (CopyUnique.level_some n l)
path_at_is (suc zero) (leaf p es) m a l s = refl
path_at_is (suc zero) (inner p f) m a l s = absurd (CopyUnique.level_some_in f l)
path_at_is (suc (suc h)) (leaf p es) m a l s = absurd (omega (arith, l))
path_at_is (suc (suc h)) (inner p f) m a l s =
    let to : pick (m p).entries a ≡ number (child_for f a) = ap (λ (x : Content). pick x.entries a) s.0 ∙ CopyInner.pick_child f a in
    ap (λ (x : List ℕ). p ∷ x) (ap (λ (q : ℕ). path_at (suc h) m q a) to
    ∙ path_at_is (suc h) (child_for f a) m a (CopyInner.child_level f a (suc h) l) (CopyInner.child_stands f a m s.1) ∙ sym (path_child f a))

page_splits_child : (f : Forest) (a : ℕ) → page_splits_in f a ≡ page_splits (child_for f a) a
page_splits_child (last n) a = refl
page_splits_child (more n k f) a = by_le₂ (λ (x : ℕ) (c : Node). x ≡ page_splits c a) a k _ _ _ _ (λ le. refl) (λ gt. page_splits_child f a)

path_splits_child : (f : Forest) (a : ℕ) → path_splits_in f a ≡ path_splits (child_for f a) a
path_splits_child (last n) a = refl
path_splits_child (more n k f) a = by_le₂ (λ (x : ℕ) (c : Node). x ≡ path_splits c a) a k _ _ _ _ (λ le. refl) (λ gt. path_splits_child f a)

entered : (m : Contents) (p a : ℕ) (es : List Entry) → m p ≡ content (leaf p es) → length (enter a (m p).entries) ≡ length (enter a es)
entered m p a es s = ap (λ (x : Content). length (enter a x.entries)) s

pub page_splits_at_is : (h : ℕ) (n : Node) (m : Contents) (a : ℕ) → Level n h → Stands n m → page_splits_at h m (number n) a ≡ page_splits n a
unfolding page_splits_at
page_splits_at_is zero n m a l s = absurd (CopyUnique.level_some n l)
page_splits_at_is (suc zero) (leaf p es) m a l s = ap over_ten (entered m p a es s)
page_splits_at_is (suc zero) (inner p f) m a l s = absurd (CopyUnique.level_some_in f l)
page_splits_at_is (suc (suc h)) (leaf p es) m a l s = absurd (omega (arith, l))
page_splits_at_is (suc (suc h)) (inner p f) m a l s =
    let to : pick (m p).entries a ≡ number (child_for f a) = ap (λ (x : Content). pick x.entries a) s.0 ∙ CopyInner.pick_child f a in
    let i = ap (λ (q : ℕ). page_splits_at (suc h) m q a) to ∙ page_splits_at_is (suc h) (child_for f a) m a (CopyInner.child_level f a (suc h) l) (CopyInner.child_stands f a m s.1) ∙ sym (page_splits_child f a) in
    let e : length (m p).entries ≡ size f = ap (λ (x : Content). length x.entries) s.0 ∙ CopyUnique.entries_size f in
    ap over_ten (omega arith)

pub path_splits_at_is : (h : ℕ) (n : Node) (m : Contents) (a : ℕ) → Level n h → Stands n m → path_splits_at h m (number n) a ≡ path_splits n a
unfolding path_splits_at
path_splits_at_is zero n m a l s = absurd (CopyUnique.level_some n l)
path_splits_at_is (suc zero) (leaf p es) m a l s = ap over_ten (entered m p a es s)
path_splits_at_is (suc zero) (inner p f) m a l s = absurd (CopyUnique.level_some_in f l)
path_splits_at_is (suc (suc h)) (leaf p es) m a l s = absurd (omega (arith, l))
path_splits_at_is (suc (suc h)) (inner p f) m a l s =
    let to : pick (m p).entries a ≡ number (child_for f a) = ap (λ (x : Content). pick x.entries a) s.0 ∙ CopyInner.pick_child f a in
    let i = ap (λ (q : ℕ). path_splits_at (suc h) m q a) to ∙ path_splits_at_is (suc h) (child_for f a) m a (CopyInner.child_level f a (suc h) l) (CopyInner.child_stands f a m s.1) ∙ sym (path_splits_child f a) in
    let g = ap (λ (q : ℕ). page_splits_at (suc h) m q a) to ∙ page_splits_at_is (suc h) (child_for f a) m a (CopyInner.child_level f a (suc h) l) (CopyInner.child_stands f a m s.1) ∙ sym (page_splits_child f a) in
    let e : length (m p).entries ≡ size f = ap (λ (x : Content). length x.entries) s.0 ∙ CopyUnique.entries_size f in
    let o : length (m p).entries + page_splits_at (suc h) m (pick (m p).entries a) a ≡ size f + page_splits_in f a = omega arith in
    omega (arith, ap over_ten o)

page_drops_child : (f : Forest) (a : ℕ) → page_drops_in f a ≡ cond (leb (size f) 1) (page_drops (child_for f a) a) 0
page_drops_child (last n) a = refl
page_drops_child (more n k f) a = sym (cond-false (leb (suc (size f)) 1) _ _ (lt-leb (suc (size f)) 1 (omega (arith, CopyUnique.size_some f))))

path_drops_child : (f : Forest) (a : ℕ) → path_drops_in f a ≡ path_drops (child_for f a) a
path_drops_child (last n) a = refl
path_drops_child (more n k f) a = by_le₂ (λ (x : ℕ) (c : Node). x ≡ path_drops c a) a k _ _ _ _ (λ le. refl) (λ gt. path_drops_child f a)

emptied : (m : Contents) (p a : ℕ) (es : List Entry) → m p ≡ content (leaf p es) → empty (remove a (m p).entries) ≡ empty (remove a es)
emptied m p a es s = ap (λ (x : Content). empty (remove a x.entries)) s

-- at an inner page, given the child's
page_drops_inner : (f : Forest) (a k g : ℕ) → k ≡ size f → g ≡ page_drops (child_for f a) a → cond (leb k 1) g 0 ≡ page_drops_in f a
page_drops_inner f a k g e i = ap (λ (x : ℕ). cond (leb x 1) g 0) e ∙ ap (λ (x : ℕ). cond (leb (size f) 1) x 0) i ∙ sym (page_drops_child f a)

pub page_drops_at_is : (h : ℕ) (n : Node) (m : Contents) (a : ℕ) → Level n h → Stands n m → page_drops_at h m (number n) a ≡ page_drops n a
unfolding page_drops_at
page_drops_at_is zero n m a l s = absurd (CopyUnique.level_some n l)
page_drops_at_is (suc zero) (leaf p es) m a l s = emptied m p a es s
page_drops_at_is (suc zero) (inner p f) m a l s = absurd (CopyUnique.level_some_in f l)
page_drops_at_is (suc (suc h)) (leaf p es) m a l s = absurd (omega (arith, l))
page_drops_at_is (suc (suc h)) (inner p f) m a l s =
    let to : pick (m p).entries a ≡ number (child_for f a) = ap (λ (x : Content). pick x.entries a) s.0 ∙ CopyInner.pick_child f a in
    let i = ap (λ (q : ℕ). page_drops_at (suc h) m q a) to ∙ page_drops_at_is (suc h) (child_for f a) m a (CopyInner.child_level f a (suc h) l) (CopyInner.child_stands f a m s.1) in
    page_drops_inner f a (length (m p).entries) (page_drops_at (suc h) m (pick (m p).entries a) a) (ap (λ (x : Content). length x.entries) s.0 ∙ CopyUnique.entries_size f) i

pub path_drops_at_is : (h : ℕ) (n : Node) (m : Contents) (a : ℕ) → Level n h → Stands n m → path_drops_at h m (number n) a ≡ path_drops n a
unfolding path_drops_at
path_drops_at_is zero n m a l s = absurd (CopyUnique.level_some n l)
path_drops_at_is (suc zero) (leaf p es) m a l s = emptied m p a es s
path_drops_at_is (suc zero) (inner p f) m a l s = absurd (CopyUnique.level_some_in f l)
path_drops_at_is (suc (suc h)) (leaf p es) m a l s = absurd (omega (arith, l))
path_drops_at_is (suc (suc h)) (inner p f) m a l s =
    let to : pick (m p).entries a ≡ number (child_for f a) = ap (λ (x : Content). pick x.entries a) s.0 ∙ CopyInner.pick_child f a in
    let lc = CopyInner.child_level f a (suc h) l in
    let sc = CopyInner.child_stands f a m s.1 in
    let i = ap (λ (q : ℕ). page_drops_at (suc h) m q a) to ∙ page_drops_at_is (suc h) (child_for f a) m a lc sc in
    let g = page_drops_inner f a (length (m p).entries) (page_drops_at (suc h) m (pick (m p).entries a) a) (ap (λ (x : Content). length x.entries) s.0 ∙ CopyUnique.entries_size f) i in
    let d = ap (λ (q : ℕ). path_drops_at (suc h) m q a) to ∙ path_drops_at_is (suc h) (child_for f a) m a lc sc ∙ sym (path_drops_child f a) in
    omega arith

leaf_child : (f : Forest) (a : ℕ) → leaf_for_in f a ≡ leaf_for (child_for f a) a
leaf_child (last n) a = refl
leaf_child (more n k f) a = by_le₂ (λ (x : List Entry) (c : Node). x ≡ leaf_for c a) a k _ _ _ _ (λ le. refl) (λ gt. leaf_child f a)

pub leaf_at_is : (h : ℕ) (n : Node) (m : Contents) (a : ℕ) → Level n h → Stands n m → leaf_at h m (number n) a ≡ leaf_for n a
unfolding leaf_at
leaf_at_is zero n m a l s = absurd (CopyUnique.level_some n l)
leaf_at_is (suc zero) (leaf p es) m a l s = ap (λ (x : Content). x.entries) s
leaf_at_is (suc zero) (inner p f) m a l s = absurd (CopyUnique.level_some_in f l)
leaf_at_is (suc (suc h)) (leaf p es) m a l s = absurd (omega (arith, l))
leaf_at_is (suc (suc h)) (inner p f) m a l s =
    let to : pick (m p).entries a ≡ number (child_for f a) = ap (λ (x : Content). pick x.entries a) s.0 ∙ CopyInner.pick_child f a in
    ap (λ (q : ℕ). leaf_at (suc h) m q a) to
    ∙ leaf_at_is (suc h) (child_for f a) m a (CopyInner.child_level f a (suc h) l) (CopyInner.child_stands f a m s.1) ∙ sym (leaf_child f a)

-- what was written before stands before
pub place_writes : (l : ℕ) (s : Split (List Entry)) (ws : List Write) (free : List ℕ) → (place_at l s ws free).writes ≡ ws ++ (place_at l s [] free).writes
place_writes l (one es) ws free = refl
place_writes l (two es k ds) ws free = append_assoc ws (page_at l es free ∷ []) (page_at l ds (behind free) ∷ [])

pub place_part : (l : ℕ) (s : Split (List Entry)) (ws : List Write) (free : List ℕ) → (place_at l s ws free).part ≡ (place_at l s [] free).part
place_part l (one es) ws free = refl
place_part l (two es k ds) ws free = refl

pub place_rest : (l : ℕ) (s : Split (List Entry)) (ws : List Write) (free : List ℕ) → (place_at l s ws free).rest ≡ (place_at l s [] free).rest
place_rest l (one es) ws free = refl
place_rest l (two es k ds) ws free = refl

pub place_left_writes : (l : ℕ) (es : List Entry) (ws : List Write) (free : List ℕ) → (place_left_at l es ws free).writes ≡ ws ++ (place_left_at l es [] free).writes
place_left_writes l [] ws free = sym (append-nil ws)
place_left_writes l (e ∷ es) ws free = refl

pub place_left_part : (l : ℕ) (es : List Entry) (ws : List Write) (free : List ℕ) → (place_left_at l es ws free).part ≡ (place_left_at l es [] free).part
place_left_part l [] ws free = refl
place_left_part l (e ∷ es) ws free = refl

pub place_left_rest : (l : ℕ) (es : List Entry) (ws : List Write) (free : List ℕ) → (place_left_at l es ws free).rest ≡ (place_left_at l es [] free).rest
place_left_rest l [] ws free = refl
place_left_rest l (e ∷ es) ws free = refl

pub memory_law : MemoryLaw
memory_law n m h a l s = record {
  lodges = λ free. lodge_at_is h n m a free l s;
  withdraws = λ free. withdraw_at_is h n m a free l s;
  paths = path_at_is h n m a l s;
  leaves = leaf_at_is h n m a l s;
  page_splits_is = page_splits_at_is h n m a l s;
  path_splits_is = path_splits_at_is h n m a l s;
  page_drops_is = page_drops_at_is h n m a l s;
  path_drops_is = path_drops_at_is h n m a l s;
}
