-- Lodge and withdraw as edits of page contents: what code that works on pages does at each page of the path.
use Rattle.std.specs.Prelude.{◌≡◌, ℕ, suc, ◌<◌, cond, List, [], ◌∷◌, length, get_or, take, drop, nat_le, slice_index_or, slice_set}
use Rattle.layout.specs.declared.entry.Entry.{Entry}
use Rattle.tree.specs.Tree.{Node, Forest, Held, number, size, child_entries}
use Rattle.tree.specs.Tree.Forest.{last, more}
use Rattle.tree.specs.Tree.Held.{none, held}
use Rattle.tree.specs.CopyMoves.{Split, entry, with_part, as_last, as_more, held_last, held_more, held_before, cut_in, lodge, lodge_in, withdraw, withdraw_in}
use Rattle.tree.specs.CopyMoves.Split.{one, two}

-- the one child that an operation goes into, and its region
abbrev pub child_for : Forest → ℕ → Node
child_for (last n) a = n
child_for (more n k f) a = cond (nat_le a k) n (child_for f a)

abbrev pub child_low : Forest → ℕ → ℕ → ℕ
child_low (last n) a lo = lo
child_low (more n k f) a lo = cond (nat_le a k) lo (child_low f a (suc k))

abbrev pub child_high : Forest → ℕ → ℕ → ℕ
child_high (last n) a hi = hi
child_high (more n k f) a hi = cond (nat_le a k) k (child_high f a hi)

-- one page or two in its place
abbrev pub replace : Forest → ℕ → Split Node → Forest
replace (last n) a s = as_last s
replace (more n k f) a s = cond (nat_le a k) (as_more k f s) (more n k (replace f a s))

-- what is left of it in its place
abbrev pub restore : Forest → ℕ → Held Node → Held Forest
restore (last n) a s = held_last s
restore (more n k f) a s = cond (nat_le a k) (held_more k f s) (held_before n k (restore f a s))

-- On the entries of an inner page, of which the last has the key 0: the child's number.
abbrev pub pick : List Entry → ℕ → ℕ
pick [] a = 0
pick (e ∷ []) a = e.value
pick (e ∷ (d ∷ es)) a = cond (nat_le a e.key) e.value (pick (d ∷ es) a)

-- the new number or numbers in the child's entry
abbrev pub numbers : Split Node → Split ℕ
numbers (one n) = one (number n)
numbers (two l k r) = two (number l) k (number r)

abbrev pub fill : ℕ → List Entry → Split ℕ → List Entry
fill k es (one v) = entry k v ∷ es
fill k es (two v j w) = entry j v ∷ (entry k w ∷ es)

abbrev pub swap : List Entry → ℕ → Split ℕ → List Entry
swap [] a s = []
swap (e ∷ []) a s = fill 0 [] s
swap (e ∷ (d ∷ es)) a s = cond (nat_le a e.key) (fill e.key (d ∷ es) s) (e ∷ swap (d ∷ es) a s)

-- the last entry of an inner page has the key 0
abbrev pub ended : Entry → Entry
ended e = entry 0 e.value

-- an inner page cut behind the place i: the left one's last key goes up and becomes 0 there
abbrev pub halves : ℕ → List Entry → Split (List Entry)
halves i es = two (slice_set (take (suc i) es) i (ended (slice_index_or es i (entry 0 0)))) (get_or es i (entry 0 0)).key (drop (suc i) es)

-- the split of a page of eleven entries: six left, five right
abbrev pub fit_leaf : List Entry → Split (List Entry)
fit_leaf es = cond (nat_le (length es) 10) (one es) (two (take 6 es) (get_or es 5 (entry 0 0)).key (drop 6 es))

abbrev pub fit_inner : List Entry → Split (List Entry)
fit_inner es = cond (nat_le (length es) 10) (one es) (halves 5 es)

abbrev pub entries_split : Split Forest → Split (List Entry)
entries_split (one f) = one (child_entries f)
entries_split (two f k g) = two (child_entries f) k (child_entries g)

-- withdraw on the entries of an inner page: no entries is no page
abbrev pub entries_left : Held Forest → List Entry
entries_left none = []
entries_left (held f) = child_entries f

abbrev pub number_left : Held Node → Held ℕ
number_left none = none
number_left (held n) = held (number n)

abbrev pub clear_at : ℕ → List Entry → Held ℕ → List Entry
clear_at k es none = es
clear_at k es (held v) = entry k v ∷ es

abbrev pub before : Entry → List Entry → List Entry
before e [] = ended e ∷ []
before e (d ∷ es) = e ∷ (d ∷ es)

abbrev pub clear : List Entry → ℕ → Held ℕ → List Entry
clear [] a s = []
clear (e ∷ []) a s = clear_at 0 [] s
clear (e ∷ (d ∷ es)) a s = cond (nat_le a e.key) (clear_at e.key (d ∷ es) s) (before e (clear (d ∷ es) a s))

-- At an inner page an operation is the operation on its one child and an edit of its entries.
pub record Edits (f : Forest) (a : ℕ) : Type 0 where
  pub picks : pick (child_entries f) a ≡ number (child_for f a)
  pub lodges : (free : List ℕ) → lodge_in f a free ≡ with_part (replace f a) (lodge (child_for f a) a free)
  pub swaps : (s : Split Node) → child_entries (replace f a s) ≡ swap (child_entries f) a (numbers s)
  pub cuts : (i : ℕ) → suc i < size f → entries_split (cut_in i f) ≡ halves i (child_entries f)
  pub withdraws : (free : List ℕ) → withdraw_in f a free ≡ with_part (restore f a) (withdraw (child_for f a) a free)
  pub clears : (s : Held Node) → entries_left (restore f a s) ≡ clear (child_entries f) a (number_left s)

abbrev pub PageLaw : Type 0
PageLaw = (f : Forest) (a : ℕ) → Edits f a
