-- Edits of the entries of one page, as functions on lists of entries.
use Rattle.std.specs.Prelude.{ℕ, suc, ◌-◌, cond, List, [], ◌∷◌, length, take, drop, Some, None, Option, ◌==◌, nat_le, slice_index_or, slice_set}
use Rattle.layout.specs.declared.entry.Entry.{Entry}

abbrev pub entry : ℕ → ℕ → Entry
entry k v = record { key = k; value = v }

-- one thing, or two with the key between: the left one's region ends at the key
pub data Split (A : Type 0) : Type 0 where
  one : A → Split A
  two : A → ℕ → A → Split A

-- A leaf's entries rise by address. Its count at an address; none where the first key that is not below it is another.
abbrev pub found : ℕ → List Entry → Option ℕ
found a [] = None
found a (e ∷ es) = cond (nat_le a e.key) (cond (a == e.key) (Some e.value) None) (found a es)

abbrev pub or_zero : Option ℕ → ℕ
or_zero (Some n) = n
or_zero None = 0

-- one more at an address: its count goes up, or it is entered with the count 1
abbrev pub enter : ℕ → List Entry → List Entry
enter a [] = entry a 1 ∷ []
enter a (e ∷ es) = cond (nat_le a e.key) (cond (a == e.key) (entry a (suc e.value) ∷ es) (entry a 1 ∷ (e ∷ es))) (e ∷ enter a es)

-- one less at an address; an entry with the count 0 goes
abbrev pub remove : ℕ → List Entry → List Entry
remove a [] = []
remove a (e ∷ es) = cond (a == e.key) (cond (nat_le e.value 1) es (entry a (e.value - 1) ∷ es)) (e ∷ remove a es)

-- An inner page's entry: the key is the end of a child's region, the value its page; the last key is 0.
-- The child whose region holds an address: the first whose key is not below it, or the last
abbrev pub child_for : List Entry → ℕ → ℕ
child_for [] a = 0
child_for (e ∷ []) a = e.value
child_for (e ∷ (d ∷ es)) a = cond (nat_le a e.key) e.value (child_for (d ∷ es) a)

-- the region of that child, in a page whose region begins at `start` and ends at `end`
abbrev pub child_start : List Entry → ℕ → ℕ → ℕ
child_start [] a start = start
child_start (e ∷ []) a start = start
child_start (e ∷ (d ∷ es)) a start = cond (nat_le a e.key) start (child_start (d ∷ es) a (suc e.key))

abbrev pub child_end : List Entry → ℕ → ℕ → ℕ
child_end [] a end = end
child_end (e ∷ []) a end = end
child_end (e ∷ (d ∷ es)) a end = cond (nat_le a e.key) e.key (child_end (d ∷ es) a end)

-- another page in the child's place, or two with a key between
abbrev pub in_place : ℕ → List Entry → Split ℕ → List Entry
in_place k es (one v) = entry k v ∷ es
in_place k es (two v j w) = entry j v ∷ (entry k w ∷ es)

abbrev pub put_child : List Entry → ℕ → Split ℕ → List Entry
put_child [] a s = []
put_child (e ∷ []) a s = in_place 0 [] s
put_child (e ∷ (d ∷ es)) a s = cond (nat_le a e.key) (in_place e.key (d ∷ es) s) (e ∷ put_child (d ∷ es) a s)

-- the child drops out: the next one's region grows down, or the one before becomes the last, and its key 0
abbrev pub ended : Entry → Entry
ended e = entry 0 e.value

abbrev pub before : Entry → List Entry → List Entry
before e [] = ended e ∷ []
before e (d ∷ es) = e ∷ (d ∷ es)

abbrev pub drop_child_lem : List Entry → ℕ → List Entry
drop_child_lem [] a = []
drop_child_lem (e ∷ []) a = []
drop_child_lem (e ∷ (d ∷ es)) a = cond (nat_le a e.key) (d ∷ es) (before e (drop_child_lem (d ∷ es) a))

-- An eleventh entry splits a page, six left and five right. The key between is the left page's sixth key,
-- which becomes 0 in an inner page.
abbrev pub sixth : List Entry → Entry
sixth es = slice_index_or es 5 (entry 0 0)

abbrev pub fit_leaf : List Entry → Split (List Entry)
fit_leaf es = cond (nat_le (length es) 10) (one es) (two (take 6 es) (sixth es).key (drop 6 es))

abbrev pub fit_inner : List Entry → Split (List Entry)
fit_inner es = cond (nat_le (length es) 10) (one es) (two (slice_set (take 6 es) 5 (ended (sixth es))) (sixth es).key (drop 6 es))
