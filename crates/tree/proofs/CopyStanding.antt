-- Trees in a memory: the frame law, the old tree after the writes, the new tree after the writes.
use Rattle.std.proofs.Common.{◌≡◌, ℕ, zero, suc, ◌+◌, ◌≤◌, List, [], ◌∷◌, ◌++◌, length, sym, refl, ap, ◌∙◌, subst, arith}
use Rattle.layout.specs.declared.entry.Entry.{Entry}
use Rattle.layout.specs.Content.{Content}
use Rattle.tree.specs.Tree.{Contents, Forest, Held, Node, Stands, StandsIn, content, pages, pages_in, size}
use Rattle.tree.specs.Tree.Node.{inner, leaf}
use Rattle.tree.specs.Tree.Forest.{last, more}
use Rattle.tree.specs.Tree.Held.{held, none}
use Rattle.tree.specs.CopyLaws.{StandsOf}
use Rattle.tree.specs.CopyMoves.{Made, Split, ahead_in, as_last, as_more, cut_in, enter, fit, fit_in, held_before, held_last, held_more, keep, lodge, lodge_in, place, place_left, remove, withdraw, withdraw_in}
use Rattle.tree.specs.CopyMoves.Split.{one, two}
use Rattle.tree.specs.CopyWrites.{Write, after, mark, put, times, written}
use Rattle.tree.proofs.CopyBase.{by_eq, by_eq₂, by_le, mark_same, weigh_append}
use Rattle.tree.proofs.CopyForests
use Rattle.tree.proofs.CopyNumbers
use Rattle.tree.proofs.CopyWithdrawing

-- the frame law: a tree stands in each memory that has its pages alike
abbrev pub Alike : List ℕ → Contents → Contents → Type 0
Alike ps m m' = (p : ℕ) → 1 ≤ times p ps → m' p ≡ m p

mutual
  pub frame : (n : Node) (m m' : Contents) → Alike (pages n) m m' → Stands n m → Stands n m'
  frame (leaf p es) m m' h s = h p (omega (arith, mark_same p)) ∙ s
  frame (inner p f) m m' h s = (h p (omega (arith, mark_same p)) ∙ s.0, frame_in f m m' (λ q t. h q (omega arith)) s.1)

  pub frame_in : (f : Forest) (m m' : Contents) → Alike (pages_in f) m m' → StandsIn f m → StandsIn f m'
  frame_in (last n) m m' h s = frame n m m' h s
  frame_in (more n k f) m m' h s = (
    frame n m m' (λ q t. h q (omega (arith, weigh_append (mark q) (pages n) (pages_in f)))) s.0,
    frame_in f m m' (λ q t. h q (omega (arith, weigh_append (mark q) (pages n) (pages_in f)))) s.1,
  )

-- writes elsewhere
pub put_same : (m : Contents) (w : Write) → put m w w.page ≡ w.says
put_same m w = by_eq (λ (c : Content). c ≡ w.says) w.page w.page _ _ (λ e. refl) (λ ne. absurd (ne refl))

-- where p is not the page written
pub put_other : (m : Contents) (w : Write) (p : ℕ) → mark p w.page ≡ 0 → put m w p ≡ m p
put_other m w p z = by_eq (λ (c : Content). c ≡ m p) p w.page _ _
    (λ e. let o : mark p w.page ≡ 1 = subst (λ (x : ℕ). mark p x ≡ 1) e (mark_same p) in absurd (omega arith))
    (λ ne. refl)

pub after_other : (ws : List Write) (m : Contents) (p : ℕ) → times p (written ws) ≡ 0 → after ws m p ≡ m p
after_other [] m p z = refl
after_other (w ∷ ws) m p z = after_other ws (put m w) p (omega arith) ∙ put_other m w p (omega arith)

pub after_push : (ws : List Write) (m : Contents) (w : Write) → after (ws ++ (w ∷ [])) m ≡ put (after ws m) w
after_push [] m w = refl
after_push (v ∷ ws) m w = after_push ws (put m v) w

pub after_append : (ws vs : List Write) (m : Contents) → after (ws ++ vs) m ≡ after vs (after ws m)
after_append [] vs m = refl
after_append (w ∷ ws) vs m = after_append ws vs (put m w)

-- what a page says afterwards turns on what it said before, and on no other page
pub after_alike : (ws : List Write) (m m' : Contents) (p : ℕ) → m p ≡ m' p → after ws m p ≡ after ws m' p
after_alike [] m m' p e = e
after_alike (w ∷ ws) m m' p e =
    after_alike ws (put m w) (put m' w) p (by_eq₂ (λ (x y : Content). x ≡ y) p w.page _ _ _ _ (λ _. refl) (λ _. e))

-- no number is in both lists, and none twice in one
abbrev pub Disjoint : List ℕ → List ℕ → Type 0
Disjoint ps qs = (p : ℕ) → times p ps + times p qs ≤ 1

-- the old tree stands after writes to free pages
pub old_stands : (n : Node) (ws : List Write) (rest free : List ℕ) (m : Contents) → written ws ++ rest ≡ free → Disjoint (pages n) free → Stands n m → Stands n (after ws m)
old_stands n ws rest free m e a s =
    frame n m (after ws m) (λ p t. after_other ws m p (omega (arith, a p, ap (times p) e, weigh_append (mark p) (written ws) rest))) s

pub old_stands_in : (f : Forest) (ws : List Write) (rest free : List ℕ) (m : Contents) → written ws ++ rest ≡ free → Disjoint (pages_in f) free → StandsIn f m → StandsIn f (after ws m)
old_stands_in f ws rest free m e a s =
    frame_in f m (after ws m) (λ p t. after_other ws m p (omega (arith, a p, ap (times p) e, weigh_append (mark p) (written ws) rest))) s

-- one write to a page that is not of these
still_in : (f : Forest) (m : Contents) (w : Write) → times w.page (pages_in f) ≡ 0 → StandsIn f m → StandsIn f (put m w)
still_in f m w z s =
    frame_in f m (put m w) (λ p t. put_other m w p (by_eq (λ (n : ℕ). n ≡ 0) w.page p 1 0
    (λ e. let o : times p (pages_in f) ≡ 0 = subst (λ (x : ℕ). times x (pages_in f) ≡ 0) e z in absurd (omega arith))
    (λ ne. refl))) s

-- what is said of one page or two
abbrev pub StandsTwo : Split Node → Contents → Type 0
StandsTwo (one n) m = Stands n m
StandsTwo (two l k r) m = Stands l m × Stands r m

abbrev pub StandsRows : Split Forest → Contents → Type 0
StandsRows (one f) m = StandsIn f m
StandsRows (two f k g) m = StandsIn f m × StandsIn g m

ahead_stands : (n : Node) (k : ℕ) (s : Split Forest) (m : Contents) → Stands n m → StandsRows s m → StandsRows (ahead_in n k s) m
ahead_stands n k (one f) m l r = (l, r)
ahead_stands n k (two f j g) m l r = ((l, r.0), r.1)

cut_stands : (i : ℕ) (f : Forest) (m : Contents) → StandsIn f m → StandsRows (cut_in i f) m
cut_stands zero (last n) m l = l
cut_stands zero (more n k f) m l = l
cut_stands (suc i) (last n) m l = l
cut_stands (suc i) (more n k f) m l = ahead_stands n k (cut_in i f) m l.0 (cut_stands i f m l.1)

fit_stands : (f : Forest) (m : Contents) → StandsIn f m → StandsRows (fit_in f) m
fit_stands f m s = by_le (λ (r : Split Forest). StandsRows r m) (size f) 10 _ _ (λ _. s) (λ _. cut_stands 5 f m s)

last_stands : (s : Split Node) (m : Contents) → StandsTwo s m → StandsIn (as_last s) m
last_stands (one n) m l = l
last_stands (two a k r) m l = l

more_stands : (k : ℕ) (f : Forest) (s : Split Node) (m : Contents) → StandsTwo s m → StandsIn f m → StandsIn (as_more k f s) m
more_stands k f (one n) m l q = (l, q)
more_stands k f (two a j r) m l q = (l.0, (l.1, q))

-- a page that is made, over children that stand
pub made_leaf : (q : ℕ) (es : List Entry) (m : Contents) → Stands (leaf q es) (put m (record { page = q; says = content (leaf q es) }))
made_leaf q es m = put_same m (record { page = q; says = content (leaf q es) })

pub made_inner : (q : ℕ) (f : Forest) (m : Contents) → times q (pages_in f) ≡ 0 → StandsIn f m → Stands (inner q f) (put m (record { page = q; says = content (inner q f) }))
made_inner q f m z s =
    let w : Write = record { page = q; says = content (inner q f) } in
    (put_same m w, still_in f m w z s)

still : (n : Node) (m : Contents) (w : Write) → times w.page (pages n) ≡ 0 → Stands n m → Stands n (put m w)
still n m w z s =
    frame n m (put m w) (λ p t. put_other m w p (by_eq (λ (n : ℕ). n ≡ 0) w.page p 1 0
    (λ e. let o : times p (pages n) ≡ 0 = subst (λ (x : ℕ). times x (pages n) ≡ 0) e z in absurd (omega arith))
    (λ ne. refl))) s

-- the memory after one write more, and after two
after_two : (ws : List Write) (m : Contents) (v w : Write) → after ((ws ++ (v ∷ [])) ++ (w ∷ [])) m ≡ put (put (after ws m) v) w
after_two ws m v w = after_push (ws ++ (v ∷ [])) m w ∙ ap (λ (x : Contents). put x w) (after_push ws m v)

abbrev pub page_of : Node → ℕ → Write
page_of n q = record { page = q; says = content n }

place_leaf_stands : (s : Split (List Entry)) (ws : List Write) (free : List ℕ) (m : Contents) →
    length (place leaf s ws free).writes ≤ length ws + length free → ((p : ℕ) → times p free ≤ 1) → StandsTwo (place leaf s ws free).part (after (place leaf s ws free).writes m)
place_leaf_stands (one x) ws [] m h a = absurd (omega (arith, simp CopyNumbers.push_length at h))
place_leaf_stands (one x) ws (q ∷ free) m h a = subst (Stands (leaf q x)) (sym (after_push ws m (page_of (leaf q x) q))) (made_leaf q x (after ws m))
place_leaf_stands (two x k y) ws [] m h a = absurd (omega (arith, simp CopyNumbers.push_length at h))
place_leaf_stands (two x k y) ws (q ∷ []) m h a = absurd (omega (arith, simp CopyNumbers.push_length at h))
place_leaf_stands (two x k y) ws (q ∷ (r ∷ free)) m h a =
    let v = page_of (leaf q x) q in
    let w = page_of (leaf r y) r in
    let l = made_leaf q x (after ws m) in
    subst (StandsTwo (two (leaf q x) k (leaf r y))) (sym (after_two ws m v w))
    (still (leaf q x) (put (after ws m) v) w (omega (arith, a r, mark_same r)) l, made_leaf r y (put (after ws m) v))

place_inner_stands : (s : Split Forest) (ws : List Write) (free : List ℕ) (m : Contents) →
    length (place inner s ws free).writes ≤ length ws + length free → Disjoint (CopyForests.pages_rows s) free → StandsRows s (after ws m) → StandsTwo (place inner s ws free).part (after (place inner s ws free).writes m)
place_inner_stands (one x) ws [] m h a s = absurd (omega (arith, simp CopyNumbers.push_length at h))
place_inner_stands (one x) ws (q ∷ free) m h a s =
    subst (Stands (inner q x)) (sym (after_push ws m (page_of (inner q x) q))) (made_inner q x (after ws m) (omega (arith, a q, mark_same q)) s)
place_inner_stands (two x k y) ws [] m h a s = absurd (omega (arith, simp CopyNumbers.push_length at h))
place_inner_stands (two x k y) ws (q ∷ []) m h a s = absurd (omega (arith, simp CopyNumbers.push_length at h))
place_inner_stands (two x k y) ws (q ∷ (r ∷ free)) m h a s =
    let v = page_of (inner q x) q in
    let w = page_of (inner r y) r in
    let m₀ = after ws m in
    let eq = weigh_append (mark q) (pages_in x) (pages_in y) in
    let er = weigh_append (mark r) (pages_in x) (pages_in y) in
    let l = made_inner q x m₀ (omega (arith, a q, mark_same q)) s.0 in
    let g = still_in y m₀ v (omega (arith, a q, mark_same q)) s.1 in
    subst (StandsTwo (two (inner q x) k (inner r y))) (sym (after_two ws m v w))
    (still (inner q x) (put m₀ v) w (omega (arith, a r, mark_same r)) l, made_inner r y (put m₀ v) (omega (arith, a r, mark_same r)) g)

-- what is written and what is left of the free list make up the free list
pub thread_times : (p : ℕ) (ws : List Write) (rest free : List ℕ) → written ws ++ rest ≡ free → times p (written ws) + times p rest ≡ times p free
thread_times p ws rest free e = sym (weigh_append (mark p) (written ws) rest) ∙ ap (times p) e

-- the new tree stands after the writes
mutual
  pub lodge_stands : (n : Node) (a : ℕ) (free : List ℕ) (m : Contents) → length (lodge n a free).writes ≤ length free → Disjoint (pages n) free → Stands n m →
      StandsTwo (lodge n a free).part (after (lodge n a free).writes m)
  lodge_stands (leaf p es) a free m h d s = place_leaf_stands (fit (enter a es)) [] free m (omega arith) (λ q. omega (arith, d q))
  lodge_stands (inner p f) a free m h d s =
      let r = lodge_in f a free in
      let l = CopyNumbers.place_longer inner (fit_in r.part) r.writes r.rest in
      let le : length r.writes ≤ length free = omega arith in
      let t = CopyNumbers.lodge_in_thread f a free le in
      place_inner_stands (fit_in r.part) r.writes r.rest m
      (omega (arith, CopyNumbers.thread_length r.writes r.rest free t))
      (λ q. rw (CopyForests.fit_pages r.part) (omega (arith, CopyNumbers.lodge_in_balance (mark q) f a free, thread_times q r.writes r.rest free t, d q)))
      (fit_stands r.part (after r.writes m) (lodge_in_stands f a free m le (λ q. omega (arith, d q)) s.1))

  pub lodge_in_stands : (f : Forest) (a : ℕ) (free : List ℕ) (m : Contents) → length (lodge_in f a free).writes ≤ length free → Disjoint (pages_in f) free → StandsIn f m →
      StandsIn (lodge_in f a free).part (after (lodge_in f a free).writes m)
  lodge_in_stands (last n) a free m h d s = last_stands (lodge n a free).part _ (lodge_stands n a free m h d s)
  lodge_in_stands (more n k f) a free m h d s =
      by_le (λ (r : Made Forest). length r.writes ≤ length free → StandsIn r.part (after r.writes m)) a k _ _
      (λ le i. more_stands k f (lodge n a free).part _
      (lodge_stands n a free m i (λ q. omega (arith, d q, weigh_append (mark q) (pages n) (pages_in f))) s.0)
      (old_stands_in f (lodge n a free).writes (lodge n a free).rest free m (CopyNumbers.lodge_thread n a free i) (λ q. omega (arith, d q, weigh_append (mark q) (pages n) (pages_in f))) s.1))
      (λ gt i. (
        old_stands n (lodge_in f a free).writes (lodge_in f a free).rest free m (CopyNumbers.lodge_in_thread f a free i) (λ q. omega (arith, d q, weigh_append (mark q) (pages n) (pages_in f))) s.0,
        lodge_in_stands f a free m i (λ q. omega (arith, d q, weigh_append (mark q) (pages n) (pages_in f))) s.1,
      ))
      h

-- the same for withdraw
abbrev pub StandsRow : Held Forest → Contents → Type 0
StandsRow none m = Unit {0}
StandsRow (held f) m = StandsIn f m

place_left_leaf_stands : (es : List Entry) (ws : List Write) (free : List ℕ) (m : Contents) →
    length (place_left leaf (keep es) ws free).writes ≤ length ws + length free → StandsOf (place_left leaf (keep es) ws free).part (after (place_left leaf (keep es) ws free).writes m)
place_left_leaf_stands [] ws free m h = tt
place_left_leaf_stands (e ∷ es) ws [] m h = absurd (omega (arith, simp CopyNumbers.push_length at h))
place_left_leaf_stands (e ∷ es) ws (q ∷ free) m h = subst (Stands (leaf q (e ∷ es))) (sym (after_push ws m (page_of (leaf q (e ∷ es)) q))) (made_leaf q (e ∷ es) (after ws m))

place_left_inner_stands : (s : Held Forest) (ws : List Write) (free : List ℕ) (m : Contents) →
    length (place_left inner s ws free).writes ≤ length ws + length free → Disjoint (CopyWithdrawing.pages_row s) free → StandsRow s (after ws m) → StandsOf (place_left inner s ws free).part (after (place_left inner s ws free).writes m)
place_left_inner_stands none ws free m h a s = tt
place_left_inner_stands (held x) ws [] m h a s = absurd (omega (arith, simp CopyNumbers.push_length at h))
place_left_inner_stands (held x) ws (q ∷ free) m h a s =
    subst (Stands (inner q x)) (sym (after_push ws m (page_of (inner q x) q))) (made_inner q x (after ws m) (omega (arith, a q, mark_same q)) s)

held_last_stands : (s : Held Node) (m : Contents) → StandsOf s m → StandsRow (held_last s) m
held_last_stands none m l = tt
held_last_stands (held n) m l = l

held_more_stands : (k : ℕ) (f : Forest) (s : Held Node) (m : Contents) → StandsOf s m → StandsIn f m → StandsRow (held_more k f s) m
held_more_stands k f none m l q = q
held_more_stands k f (held n) m l q = (l, q)

held_before_stands : (n : Node) (k : ℕ) (s : Held Forest) (m : Contents) → Stands n m → StandsRow s m → StandsRow (held_before n k s) m
held_before_stands n k none m l q = l
held_before_stands n k (held f) m l q = (l, q)

mutual
  pub withdraw_stands : (n : Node) (a : ℕ) (free : List ℕ) (m : Contents) → length (withdraw n a free).writes ≤ length free → Disjoint (pages n) free → Stands n m →
      StandsOf (withdraw n a free).part (after (withdraw n a free).writes m)
  withdraw_stands (leaf p es) a free m h d s = place_left_leaf_stands (remove a es) [] free m (omega arith)
  withdraw_stands (inner p f) a free m h d s =
      let r = withdraw_in f a free in
      let l = CopyNumbers.place_left_longer inner r.part r.writes r.rest in
      let le : length r.writes ≤ length free = omega arith in
      let t = CopyNumbers.withdraw_in_thread f a free le in
      place_left_inner_stands r.part r.writes r.rest m
      (omega (arith, CopyNumbers.thread_length r.writes r.rest free t))
      (λ q. omega (arith, CopyNumbers.withdraw_in_balance (mark q) f a free, thread_times q r.writes r.rest free t, d q))
      (withdraw_in_stands f a free m le (λ q. omega (arith, d q)) s.1)

  pub withdraw_in_stands : (f : Forest) (a : ℕ) (free : List ℕ) (m : Contents) → length (withdraw_in f a free).writes ≤ length free → Disjoint (pages_in f) free → StandsIn f m →
      StandsRow (withdraw_in f a free).part (after (withdraw_in f a free).writes m)
  withdraw_in_stands (last n) a free m h d s = held_last_stands (withdraw n a free).part _ (withdraw_stands n a free m h d s)
  withdraw_in_stands (more n k f) a free m h d s =
      by_le (λ (r : Made (Held Forest)). length r.writes ≤ length free → StandsRow r.part (after r.writes m)) a k _ _
      (λ le i. held_more_stands k f (withdraw n a free).part _
      (withdraw_stands n a free m i (λ q. omega (arith, d q, weigh_append (mark q) (pages n) (pages_in f))) s.0)
      (old_stands_in f (withdraw n a free).writes (withdraw n a free).rest free m (CopyNumbers.withdraw_thread n a free i) (λ q. omega (arith, d q, weigh_append (mark q) (pages n) (pages_in f))) s.1))
      (λ gt i. held_before_stands n k (withdraw_in f a free).part _
      (old_stands n (withdraw_in f a free).writes (withdraw_in f a free).rest free m (CopyNumbers.withdraw_in_thread f a free i) (λ q. omega (arith, d q, weigh_append (mark q) (pages n) (pages_in f))) s.0)
      (withdraw_in_stands f a free m i (λ q. omega (arith, d q, weigh_append (mark q) (pages n) (pages_in f))) s.1))
      h
