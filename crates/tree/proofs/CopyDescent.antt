-- What is known on the way down: pages needed, pages written, and the pages of a path where a tree stands.
use Rattle.std.proofs.Common.{◌≡◌, ℕ, zero, suc, ◌+◌, ◌-◌, ◌<◌, ◌≤◌, Bool, true, false, cond, leb, List, [], ◌∷◌, ◌++◌, length, get_or, take, drop, sym, refl, ap, ◌∙◌, subst, arith, length-append}
use Rattle.std.proofs.lemmas.Bool.{cond-true, cond-false, le-leb, lt-leb}
use Rattle.layout.specs.declared.entry.Entry.{Entry}
use Rattle.layout.specs.Content.{Content, LeafKeys, Sized}
use Rattle.tree.specs.Tree.{Contents, Filled, Forest, Held, Level, Node, Ordered, OrderedIn, Stands, count_at, level, number, pages, pages_in}
use Rattle.tree.specs.Tree.Node.{inner, leaf}
use Rattle.tree.specs.Tree.Forest.{last, more}
use Rattle.tree.specs.Tree.Held.{held, none}
use Rattle.tree.specs.CopyDescent.{DescentLaw, Expected, PathLaw, TallyLaw, WritesLaw, deeper, if_splits, parts}
use Rattle.tree.specs.CopyLaws.{SoundOf, events_of, over_ten, root_of}
use Rattle.tree.specs.CopyLookup.{leaf_for, leaf_for_in}
use Rattle.tree.specs.CopyMemory.{leaf_at, lodge_at, page_splits_at, path_at, path_splits_at, place_at, place_left_at, withdraw_at}
use Rattle.tree.specs.CopyMoves.{Made, Split, enter, entry, remove}
use Rattle.tree.specs.CopyMoves.Split.{one, two}
use Rattle.tree.specs.CopyPages.{child_for, clear, fill, fit_inner, fit_leaf, pick, swap}
use Rattle.tree.specs.CopyWrites.{Write, mark, times}
use Rattle.tree.proofs.CopyBase.{by_le, mark_same, weigh_append}
use Rattle.tree.proofs.CopyEntries.{rising_wider}
use Rattle.tree.proofs.CopyFinding.{find}
use Rattle.tree.proofs.CopyInner.{child_filled, child_level, child_stands, pick_child}
use Rattle.tree.proofs.CopyMemory.{leaf_at_is, level_is}
use Rattle.tree.proofs.CopyShares.{times_of_all}
use Rattle.tree.proofs.CopyUnique.{entries_size, size_some}

parts_low : {A : Type 0} (s : Split A) → parts s ≤ 1
parts_low (one x) = omega arith
parts_low (two x k y) = omega arith

fit_parts : {A : Type 0} (b : Bool) (x l r : A) (k : ℕ) → parts (cond b (one x) (two l k r)) ≡ cond b 0 1
fit_parts true x l r k = refl
fit_parts false x l r k = refl

place_parts : (level : ℕ) (s : Split (List Entry)) (ws : List Write) (free : List ℕ) → parts (place_at level s ws free).part ≡ parts s
place_parts level (one es) ws free = refl
place_parts level (two es k ds) ws free = refl

place_length : (level : ℕ) (s : Split (List Entry)) (ws : List Write) (free : List ℕ) → length (place_at level s ws free).writes ≡ suc (length ws) + parts s
place_length level (one es) ws free = simp length-append (omega arith)
place_length level (two es k ds) ws free = simp length-append (omega arith)

fill_length : (k : ℕ) (es : List Entry) (s : Split ℕ) → length (fill k es s) ≡ suc (length es) + parts s
fill_length k es (one v) = omega arith
fill_length k es (two v j w) = omega arith

swap_length : (e : Entry) (es : List Entry) (a : ℕ) (s : Split ℕ) → length (swap (e ∷ es) a s) ≡ suc (length es) + parts s
swap_length e [] a s = fill_length 0 [] s
swap_length e (d ∷ es) a s =
    by_le (λ (x : List Entry). length x ≡ suc (length (d ∷ es)) + parts s) a e.key _ _
    (λ le. fill_length e.key (d ∷ es) s)
    (λ gt. omega (arith, swap_length d es a s))

none_over : (s : Split ℕ) → 0 ≡ over_ten (0 + parts s)
none_over (one v) = refl
none_over (two v j w) = refl

swap_over : (es : List Entry) (a : ℕ) (s : Split ℕ) → over_ten (length (swap es a s)) ≡ over_ten (length es + parts s)
swap_over [] a s = none_over s
swap_over (e ∷ es) a s = ap over_ten (swap_length e es a s)

inner_parts : (es : List Entry) (a : ℕ) (s : Split ℕ) (g : ℕ) → parts s ≡ g → parts (fit_inner (swap es a s)) ≡ over_ten (length es + g)
inner_parts es a s g e = fit_parts (leb (length (swap es a s)) 10) (swap es a s) _ _ _ ∙ swap_over es a s ∙ ap (λ (x : ℕ). over_ten (length es + x)) e

lodge_parts : (l : ℕ) (m : Contents) (p a : ℕ) (free : List ℕ) →
    (parts (lodge_at l m p a free).part ≡ page_splits_at l m p a) × (length (lodge_at l m p a free).writes ≡ l + path_splits_at l m p a)
unfolding lodge_at page_splits_at path_splits_at
lodge_parts zero m p a free = (refl, refl)
lodge_parts (suc zero) m p a free =
    let es : List Entry = enter a (m p).entries in
    let g : parts (fit_leaf es) ≡ over_ten (length es) = fit_parts (leb (length es) 10) es (take 6 es) (drop 6 es) (get_or es 5 (entry 0 0)).key in
    (place_parts 1 (fit_leaf es) [] free ∙ g, omega (arith, place_length 1 (fit_leaf es) [] free, g))
lodge_parts (suc (suc h)) m p a free =
    let es : List Entry = (m p).entries in
    let r : Made (Split ℕ) = lodge_at (suc h) m (pick es a) a free in
    let i = lodge_parts (suc h) m (pick es a) a free in
    let g = inner_parts es a r.part (page_splits_at (suc h) m (pick es a) a) i.0 in (
      place_parts (suc (suc h)) (fit_inner (swap es a r.part)) r.writes r.rest ∙ g,
      omega (arith, place_length (suc (suc h)) (fit_inner (swap es a r.part)) r.writes r.rest, g, i.1),
    )

place_left_length : (level : ℕ) (es : List Entry) (ws : List Write) (free : List ℕ) → length (place_left_at level es ws free).writes ≤ suc (length ws)
place_left_length level [] ws free = omega arith
place_left_length level (e ∷ es) ws free = simp length-append (omega arith)

withdraw_length : (l : ℕ) (m : Contents) (p a : ℕ) (free : List ℕ) → length (withdraw_at l m p a free).writes ≤ l
unfolding withdraw_at
withdraw_length zero m p a free = omega arith
withdraw_length (suc zero) m p a free = place_left_length 1 (remove a (m p).entries) [] free
withdraw_length (suc (suc h)) m p a free =
    let r = withdraw_at (suc h) m (pick (m p).entries a) a free in
    omega (arith, place_left_length (suc (suc h)) (clear (m p).entries a r.part) r.writes r.rest, withdraw_length (suc h) m (pick (m p).entries a) a free)

splits_low : (l : ℕ) (m : Contents) (p a : ℕ) → page_splits_at l m p a ≤ 1
splits_low l m p a = omega (arith, (lodge_parts l m p a []).0, parts_low (lodge_at l m p a []).part)

pub writes_law : WritesLaw
writes_law l m p a free = record {
  splits = (lodge_parts l m p a free).0;
  splits_once = splits_low l m p a;
  lodges = (lodge_parts l m p a free).1;
  withdraws = withdraw_length l m p a free;
}

-- a page of n entries under which g pages more come
over_step : (n g : ℕ) → n ≤ 10 → g ≤ 1 → over_ten (n + g) ≡ cond (leb n 9) 0 g
over_step n zero h l = cond-true (leb (n + 0) 10) 0 1 (le-leb (n + 0) 10 (omega arith)) ∙ by_le (λ (z : ℕ). 0 ≡ z) n 9 0 0 (λ _. refl) (λ _. refl)
over_step n (suc zero) h l =
    by_le (λ (z : ℕ). over_ten (n + 1) ≡ z) n 9 0 1
    (λ le. cond-true (leb (n + 1) 10) 0 1 (le-leb (n + 1) 10 (omega arith)))
    (λ gt. cond-false (leb (n + 1) 10) 0 1 (lt-leb (n + 1) 10 (omega arith)))
over_step n (suc (suc g)) h l = absurd (omega arith)

need_step : (n g s base extra : ℕ) → n ≤ 10 → g ≤ 1 → base + (over_ten (n + g) + s) + if_splits (over_ten (n + g)) extra ≡ base + s + if_splits g (deeper n extra)
need_step n zero s base extra h l =
    let e : over_ten (n + 0) ≡ 0 = cond-true (leb (n + 0) 10) 0 1 (le-leb (n + 0) 10 (omega arith)) in
    rw e (omega arith)
need_step n (suc zero) s base extra h l =
    by_le (λ (x : ℕ). base + (over_ten (n + 1) + s) + if_splits (over_ten (n + 1)) extra ≡ base + s + x) n 9 0 (extra + 1)
    (λ le. (let e : over_ten (n + 1) ≡ 0 = cond-true (leb (n + 1) 10) 0 1 (le-leb (n + 1) 10 (omega arith)) in rw e (omega arith)))
    (λ gt. (let e : over_ten (n + 1) ≡ 1 = cond-false (leb (n + 1) 10) 0 1 (lt-leb (n + 1) 10 (omega arith)) in rw e (omega arith)))
need_step n (suc (suc g)) s base extra h l = absurd (omega arith)

pub descent_law : DescentLaw
unfolding page_splits_at path_splits_at
descent_law h m p a l =
    let low = splits_low (suc h) m (pick (m p).entries a) a in
    record {
      needs = λ base extra. need_step (length (m p).entries) (page_splits_at (suc h) m (pick (m p).entries a) a) (path_splits_at (suc h) m (pick (m p).entries a) a) base extra l low;
      splits = over_step (length (m p).entries) (page_splits_at (suc h) m (pick (m p).entries a) a) l low;
    }

-- a page of a tree that stands
record Good (m : Contents) (ps : List ℕ) (q l : ℕ) : Type 0 where
  level_is : (m q).level ≡ l
  number_is : (m q).number ≡ q
  clean_is : (m q).clean ≡ true
  sized : Sized (m q).entries
  among : 1 ≤ times q ps

good_page : (n : Node) (m : Contents) (h : ℕ) → Level n h → Filled n → Stands n m → Good m (pages n) (number n) h
good_page (leaf p es) m h l f s = record {
  level_is = ap (λ (x : Content). x.level) s ∙ sym l;
  number_is = ap (λ (x : Content). x.number) s;
  clean_is = ap (λ (x : Content). x.clean) s;
  sized = subst (λ (x : Content). Sized x.entries) (sym s) f;
  among = omega (arith, mark_same p);
}
good_page (inner p c) m zero l f s = absurd l
good_page (inner p c) m (suc h) l f s =
    let e = ap (λ (x : Content). length x.entries) s.0 in
    record {
      level_is = ap (λ (x : Content). x.level) s.0 ∙ level_is (inner p c) (suc h) l;
      number_is = ap (λ (x : Content). x.number) s.0;
      clean_is = ap (λ (x : Content). x.clean) s.0;
      sized = (omega (arith, e, entries_size c, size_some c), omega (arith, e, entries_size c, f.0));
      among = omega (arith, mark_same p);
    }

good_first : (n : Node) (m : Contents) (h : ℕ) → Level n h → Filled n → Stands n m → Good m (pages n) (number n) (h - 0)
good_first n m h l f s = let e : h ≡ h - 0 = omega arith in subst (Good m (pages n) (number n)) e (good_page n m h l f s)

child_times : (f : Forest) (a q : ℕ) → times q (pages (child_for f a)) ≤ times q (pages_in f)
child_times (last n) a q = omega arith
child_times (more n k f) a q =
    by_le (λ (c : Node). times q (pages c) ≤ times q (pages n ++ pages_in f)) a k _ _
    (λ le. omega (arith, weigh_append (mark q) (pages n) (pages_in f)))
    (λ gt. omega (arith, weigh_append (mark q) (pages n) (pages_in f), child_times f a q))

good_under : (p : ℕ) (c : Forest) (a : ℕ) (m : Contents) (q l : ℕ) → Good m (pages (child_for c a)) q l → Good m (p ∷ pages_in c) q l
good_under p c a m q l g = record
    { level_is = g.level_is; number_is = g.number_is; clean_is = g.clean_is; sized = g.sized; among = omega (arith, g.among, child_times c a q) }

on_path : (l : ℕ) (n : Node) (m : Contents) (a d : ℕ) → Level n l → Filled n → Stands n m → d < l → Good m (pages n) (get_or (path_at l m (number n) a) d 0) (l - d)
unfolding path_at
on_path zero n m a d l f s h = absurd (omega arith)
on_path (suc zero) n m a zero l f s h = good_first n m 1 l f s
on_path (suc zero) n m a (suc d) l f s h = absurd (omega arith)
on_path (suc (suc k)) n m a zero l f s h = good_first n m (suc (suc k)) l f s
on_path (suc (suc k)) (leaf p es) m a (suc d) l f s h = absurd (omega (arith, l))
on_path (suc (suc k)) (inner p c) m a (suc d) l f s h =
    let to : pick (m p).entries a ≡ number (child_for c a) = ap (λ (x : Content). pick x.entries a) s.0 ∙ pick_child c a in
    let i = on_path (suc k) (child_for c a) m a d (child_level c a (suc k) l) (child_filled c a f.1) (child_stands c a m s.1) (omega arith) in
    let e : suc k - d ≡ suc (suc k) - suc d = omega arith in
    subst (Good m (p ∷ pages_in c) (get_or (path_at (suc k) m (pick (m p).entries a) a) d 0)) e
    (subst (λ (x : ℕ). Good m (p ∷ pages_in c) (get_or (path_at (suc k) m x a) d 0) (suc k - d)) (sym to)
    (good_under p c a m (get_or (path_at (suc k) m (number (child_for c a)) a) d 0) (suc k - d) i))

path_of_sound : (m : Contents) (limit h total top : ℕ) (t : Held Node) (a d : ℕ) → SoundOf m limit h total top t → d < h → Expected m limit (get_or (path_at h m (root_of t) a) d 0) (h - d)
path_of_sound m limit h total top none a d s i = absurd (omega (arith, s.0))
path_of_sound m limit h total top (held n) a d s i =
    let g = on_path h n m a d s.levels s.filled s.stands i in
    let r = times_of_all (λ (p : ℕ). (2 ≤ p) × (p ≤ limit)) (pages n) (get_or (path_at h m (number n) a) d 0) s.range g.among in
    record { level_is = g.level_is; number_is = g.number_is; clean_is = g.clean_is; sized = g.sized; low = r.0; high = r.1 }

pub path_law : PathLaw
path_law m limit total top s a d z h = path_of_sound m limit s.height total top s.tree a d z.sound h

-- the leaf's events rise inside its region, and so inside the tree's
mutual
  leaf_keys : (n : Node) (a lo hi : ℕ) → Ordered n lo hi → LeafKeys lo hi (leaf_for n a)
  leaf_keys (leaf p es) a lo hi o = o
  leaf_keys (inner p f) a lo hi o = leaf_keys_in f a lo hi o

  leaf_keys_in : (f : Forest) (a lo hi : ℕ) → OrderedIn f lo hi → LeafKeys lo hi (leaf_for_in f a)
  leaf_keys_in (last n) a lo hi o = leaf_keys n a lo hi o
  leaf_keys_in (more n k f) a lo hi o =
      by_le (LeafKeys lo hi) a k _ _
      (λ le. rising_wider lo k lo hi (leaf_for n a) (omega arith) (omega (arith, o.1)) (leaf_keys n a lo k o.2))
      (λ gt. rising_wider (suc k) hi lo hi (leaf_for_in f a) (omega (arith, o.0)) (omega arith) (leaf_keys_in f a (suc k) hi o.3))

tally_of : (m : Contents) (limit h total top : ℕ) (t : Held Node) (a : ℕ) → SoundOf m limit h total top t →
    (count_at (leaf_at h m (root_of t) a) a ≡ count_at (events_of t) a) × LeafKeys 0 top (leaf_at h m (root_of t) a)
unfolding leaf_at
tally_of m limit zero total top none a s = (refl, tt)
tally_of m limit (suc h) total top none a s = absurd (omega (arith, s.0))
tally_of m limit h total top (held n) a s =
    let e = leaf_at_is h n m a s.levels s.stands in
    (ap (λ (es : List Entry). count_at es a) e ∙ find n a 0 top s.ordered, subst (LeafKeys 0 top) (sym e) (leaf_keys n a 0 top s.ordered))

pub tally_law : TallyLaw
tally_law m limit total top s a z = tally_of m limit s.height total top s.tree a z.sound
