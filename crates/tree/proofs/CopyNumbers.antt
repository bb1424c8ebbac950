-- Page numbers: no page is lost, none is taken twice, and how many are taken.
use Rattle.std.proofs.Common.{◌≡◌, ℕ, zero, suc, ◌+◌, ◌≤◌, List, [], ◌∷◌, ◌++◌, length, sym, refl, ap, ◌∙◌, arith, length-append}
use Rattle.layout.specs.declared.entry.Entry.{Entry}
use Rattle.tree.specs.Tree.{Forest, Held, Level, LevelIn, Node, pages, pages_in}
use Rattle.tree.specs.Tree.Node.{inner, leaf}
use Rattle.tree.specs.Tree.Forest.{last, more}
use Rattle.tree.specs.Tree.Held.{held, none}
use Rattle.tree.specs.CopyLaws.{pages_of}
use Rattle.tree.specs.CopyMoves.{Made, Split, enter, fit, fit_in, held_before, held_last, held_more, keep, lodge, lodge_in, path, path_in, place, place_left, remove, withdraw, withdraw_in}
use Rattle.tree.specs.CopyMoves.Split.{one, two}
use Rattle.tree.specs.CopyWrites.{Write, weigh, written}
use Rattle.tree.proofs.CopyBase.{by_le, by_le₂, weigh_append}
use Rattle.tree.proofs.CopyForests
use Rattle.tree.proofs.CopyWithdrawing

-- one write more
pub written_push : (w : ℕ → ℕ) (ws : List Write) (x : Write) → weigh w (written (ws ++ (x ∷ []))) ≡ weigh w (written ws) + w x.page
written_push w [] x = omega arith
written_push w (y ∷ ws) x = omega (arith, written_push w ws x)

pub written_move : (ws : List Write) (x : Write) (free : List ℕ) → written (ws ++ (x ∷ [])) ++ free ≡ written ws ++ (x.page ∷ free)
written_move [] x free = refl
written_move (y ∷ ws) x free = ap (λ (z : List ℕ). y.page ∷ z) (written_move ws x free)

pub push_length : (ws : List Write) (x : Write) → length (ws ++ (x ∷ [])) ≡ suc (length ws)
push_length [] x = refl
push_length (y ∷ ws) x = ap suc (push_length ws x)

pub written_length : (ws : List Write) → length (written ws) ≡ length ws
written_length [] = refl
written_length (w ∷ ws) = ap suc (written_length ws)

-- I. The balance: new pages and the path are the old pages and the written ones, for every weight.
place_leaf_balance : (w : ℕ → ℕ) (s : Split (List Entry)) (ws : List Write) (free : List ℕ) →
    weigh w (CopyForests.pages_two (place leaf s ws free).part) + weigh w (written ws) ≡ weigh w (written (place leaf s ws free).writes)
place_leaf_balance w (one x) ws free = simp written_push (omega arith)
place_leaf_balance w (two x k y) ws free = simp written_push (omega arith)

place_inner_balance : (w : ℕ → ℕ) (s : Split Forest) (ws : List Write) (free : List ℕ) →
    weigh w (CopyForests.pages_two (place inner s ws free).part) + weigh w (written ws) ≡ weigh w (CopyForests.pages_rows s) + weigh w (written (place inner s ws free).writes)
place_inner_balance w (one x) ws free = simp written_push (omega arith)
place_inner_balance w (two x k y) ws free = simp (written_push, weigh_append) (omega arith)

mutual
  pub lodge_balance : (w : ℕ → ℕ) (n : Node) (a : ℕ) (free : List ℕ) →
      weigh w (CopyForests.pages_two (lodge n a free).part) + weigh w (path n a) ≡ weigh w (pages n) + weigh w (written (lodge n a free).writes)
  lodge_balance w (leaf p es) a free = omega (arith, place_leaf_balance w (fit (enter a es)) [] free)
  lodge_balance w (inner p f) a free =
      let r = lodge_in f a free in
      let h = place_inner_balance w (fit_in r.part) r.writes r.rest in
      let e = ap (weigh w) (CopyForests.fit_pages r.part) in
      omega (arith, lodge_in_balance w f a free)

  pub lodge_in_balance : (w : ℕ → ℕ) (f : Forest) (a : ℕ) (free : List ℕ) →
      weigh w (pages_in (lodge_in f a free).part) + weigh w (path_in f a) ≡ weigh w (pages_in f) + weigh w (written (lodge_in f a free).writes)
  lodge_in_balance w (last n) a free = rw (CopyForests.last_pages (lodge n a free).part) (lodge_balance w n a free)
  lodge_in_balance w (more n k f) a free =
      by_le₂ (λ (r : Made Forest) (q : List ℕ). weigh w (pages_in r.part) + weigh w q ≡ weigh w (pages n ++ pages_in f) + weigh w (written r.writes)) a k _ _ _ _
      (λ le. rw (CopyForests.more_pages k f (lodge n a free).part) (simp weigh_append (omega (arith, lodge_balance w n a free))))
      (λ gt. simp weigh_append (omega (arith, lodge_in_balance w f a free)))

leaf_balance : (w : ℕ → ℕ) (es : List Entry) (ws : List Write) (free : List ℕ) →
    weigh w (pages_of (place_left leaf (keep es) ws free).part) + weigh w (written ws) ≡ weigh w (written (place_left leaf (keep es) ws free).writes)
leaf_balance w [] ws free = omega arith
leaf_balance w (e ∷ es) ws free = simp written_push (omega arith)

inner_balance : (w : ℕ → ℕ) (s : Held Forest) (ws : List Write) (free : List ℕ) →
    weigh w (pages_of (place_left inner s ws free).part) + weigh w (written ws) ≡ weigh w (CopyWithdrawing.pages_row s) + weigh w (written (place_left inner s ws free).writes)
inner_balance w none ws free = omega arith
inner_balance w (held f) ws free = simp written_push (omega arith)

last_weight : (w : ℕ → ℕ) (s : Held Node) → weigh w (CopyWithdrawing.pages_row (held_last s)) ≡ weigh w (pages_of s)
last_weight w none = refl
last_weight w (held n) = refl

more_weight : (w : ℕ → ℕ) (k : ℕ) (f : Forest) (s : Held Node) → weigh w (CopyWithdrawing.pages_row (held_more k f s)) ≡ weigh w (pages_of s) + weigh w (pages_in f)
more_weight w k f none = omega arith
more_weight w k f (held n) = weigh_append w (pages n) (pages_in f)

before_weight : (w : ℕ → ℕ) (n : Node) (k : ℕ) (s : Held Forest) → weigh w (CopyWithdrawing.pages_row (held_before n k s)) ≡ weigh w (pages n) + weigh w (CopyWithdrawing.pages_row s)
before_weight w n k none = omega arith
before_weight w n k (held f) = weigh_append w (pages n) (pages_in f)

mutual
  pub withdraw_balance : (w : ℕ → ℕ) (n : Node) (a : ℕ) (free : List ℕ) →
      weigh w (pages_of (withdraw n a free).part) + weigh w (path n a) ≡ weigh w (pages n) + weigh w (written (withdraw n a free).writes)
  withdraw_balance w (leaf p es) a free = omega (arith, leaf_balance w (remove a es) [] free)
  withdraw_balance w (inner p f) a free =
      let r = withdraw_in f a free in
      let h = inner_balance w r.part r.writes r.rest in
      omega (arith, withdraw_in_balance w f a free)

  pub withdraw_in_balance : (w : ℕ → ℕ) (f : Forest) (a : ℕ) (free : List ℕ) →
      weigh w (CopyWithdrawing.pages_row (withdraw_in f a free).part) + weigh w (path_in f a) ≡ weigh w (pages_in f) + weigh w (written (withdraw_in f a free).writes)
  withdraw_in_balance w (last n) a free = omega (arith, last_weight w (withdraw n a free).part, withdraw_balance w n a free)
  withdraw_in_balance w (more n k f) a free =
      by_le₂ (λ (r : Made (Held Forest)) (q : List ℕ). weigh w (CopyWithdrawing.pages_row r.part) + weigh w q ≡ weigh w (pages n ++ pages_in f) + weigh w (written r.writes)) a k _ _ _ _
      (λ le. omega (arith, more_weight w k f (withdraw n a free).part, weigh_append w (pages n) (pages_in f), withdraw_balance w n a free))
      (λ gt. omega (arith, before_weight w n k (withdraw_in f a free).part, weigh_append w (pages n) (pages_in f), withdraw_in_balance w f a free))

-- II. The numbers come from the front of the free list, in the order of the writes.
pub place_longer : {A : Type 0} (page : ℕ → A → Node) (s : Split A) (ws : List Write) (free : List ℕ) → length ws ≤ length (place page s ws free).writes
place_longer page (one x) ws free = simp push_length (omega arith)
place_longer page (two x k y) ws free = simp push_length (omega arith)

place_thread : {A : Type 0} (page : ℕ → A → Node) (s : Split A) (ws : List Write) (free : List ℕ) →
    length (place page s ws free).writes ≤ length ws + length free → written (place page s ws free).writes ++ (place page s ws free).rest ≡ written ws ++ free
place_thread page (one x) ws [] h = absurd (omega (arith, simp push_length at h))
place_thread page (one x) ws (q ∷ free) h = written_move ws _ free
place_thread page (two x k y) ws [] h = absurd (omega (arith, simp push_length at h))
place_thread page (two x k y) ws (q ∷ []) h = absurd (omega (arith, simp push_length at h))
place_thread page (two x k y) ws (q ∷ (r ∷ free)) h = written_move (ws ++ (_ ∷ [])) _ free ∙ written_move ws _ (r ∷ free)

pub thread_length : (ws : List Write) (rest free : List ℕ) → written ws ++ rest ≡ free → length ws + length rest ≡ length free
thread_length ws rest free e = omega (arith, ap length e, length-append (written ws) rest, written_length ws)

mutual
  pub lodge_thread : (n : Node) (a : ℕ) (free : List ℕ) → length (lodge n a free).writes ≤ length free → written (lodge n a free).writes ++ (lodge n a free).rest ≡ free
  lodge_thread (leaf p es) a free h = place_thread leaf (fit (enter a es)) [] free (omega arith)
  lodge_thread (inner p f) a free h =
      let r = lodge_in f a free in
      let l = place_longer inner (fit_in r.part) r.writes r.rest in
      let t : written r.writes ++ r.rest ≡ free = lodge_in_thread f a free (omega arith) in
      place_thread inner (fit_in r.part) r.writes r.rest (omega (arith, thread_length r.writes r.rest free t)) ∙ t

  pub lodge_in_thread : (f : Forest) (a : ℕ) (free : List ℕ) → length (lodge_in f a free).writes ≤ length free → written (lodge_in f a free).writes ++ (lodge_in f a free).rest ≡ free
  lodge_in_thread (last n) a free = lodge_thread n a free
  lodge_in_thread (more n k f) a free =
      by_le (λ (r : Made Forest). length r.writes ≤ length free → written r.writes ++ r.rest ≡ free) a k _ _
      (λ le. lodge_thread n a free)
      (λ gt. lodge_in_thread f a free)

pub place_left_longer : {A : Type 0} (page : ℕ → A → Node) (s : Held A) (ws : List Write) (free : List ℕ) → length ws ≤ length (place_left page s ws free).writes
place_left_longer page none ws free = omega arith
place_left_longer page (held x) ws free = simp push_length (omega arith)

place_left_thread : {A : Type 0} (page : ℕ → A → Node) (s : Held A) (ws : List Write) (free : List ℕ) →
    length (place_left page s ws free).writes ≤ length ws + length free → written (place_left page s ws free).writes ++ (place_left page s ws free).rest ≡ written ws ++ free
place_left_thread page none ws free h = refl
place_left_thread page (held x) ws [] h = absurd (omega (arith, simp push_length at h))
place_left_thread page (held x) ws (q ∷ free) h = written_move ws _ free

mutual
  pub withdraw_thread : (n : Node) (a : ℕ) (free : List ℕ) → length (withdraw n a free).writes ≤ length free → written (withdraw n a free).writes ++ (withdraw n a free).rest ≡ free
  withdraw_thread (leaf p es) a free h = place_left_thread leaf (keep (remove a es)) [] free (omega arith)
  withdraw_thread (inner p f) a free h =
      let r = withdraw_in f a free in
      let l = place_left_longer inner r.part r.writes r.rest in
      let t : written r.writes ++ r.rest ≡ free = withdraw_in_thread f a free (omega arith) in
      place_left_thread inner r.part r.writes r.rest (omega (arith, thread_length r.writes r.rest free t)) ∙ t

  pub withdraw_in_thread : (f : Forest) (a : ℕ) (free : List ℕ) → length (withdraw_in f a free).writes ≤ length free → written (withdraw_in f a free).writes ++ (withdraw_in f a free).rest ≡ free
  withdraw_in_thread (last n) a free = withdraw_thread n a free
  withdraw_in_thread (more n k f) a free =
      by_le (λ (r : Made (Held Forest)). length r.writes ≤ length free → written r.writes ++ r.rest ≡ free) a k _ _
      (λ le. withdraw_thread n a free)
      (λ gt. withdraw_in_thread f a free)

-- III. The path has a page for each level.
mutual
  pub path_length : (n : Node) (a h : ℕ) → Level n h → length (path n a) ≡ h
  path_length (leaf p es) a h l = sym l
  path_length (inner p f) a zero l = absurd l
  path_length (inner p f) a (suc h) l = ap suc (path_in_length f a h l)

  pub path_in_length : (f : Forest) (a h : ℕ) → LevelIn f h → length (path_in f a) ≡ h
  path_in_length (last n) a h l = path_length n a h l
  path_in_length (more n k f) a h l =
      by_le (λ (q : List ℕ). length q ≡ h) a k _ _ (λ le. path_length n a h l.0) (λ gt. path_in_length f a h l.1)
