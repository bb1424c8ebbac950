-- Lodge (record one more event at an address) and withdraw (take one back), by copying the path from the root to the
-- leaf whose region holds the address. New pages take their numbers from the front of the free list, leaf first, left
-- before right, upward; `writes` lists them in that order. Old pages are never written.
use Rattle.std.specs.Prelude.{ℕ, zero, suc, ◌-◌, cond, List, [], ◌∷◌, ◌++◌, length, ◌==◌, nat_le}
use Rattle.layout.specs.declared.entry.Entry.{Entry}
use Rattle.tree.specs.Tree.{Node, Forest, Held, size, content}
use Rattle.tree.specs.Tree.Node.{leaf, inner}
use Rattle.tree.specs.Tree.Forest.{last, more}
use Rattle.tree.specs.Tree.Held.{none, held}
use Rattle.tree.specs.CopyWrites.{Write}

-- one thing, or two with the key between: the left one's region ends at the key
pub data Split (A : Type 0) : Type 0 where
  one : A → Split A
  two : A → ℕ → A → Split A

-- the free list's front, and what is behind it
abbrev pub front : List ℕ → ℕ
front [] = 0
front (x ∷ xs) = x

abbrev pub behind : List ℕ → List ℕ
behind [] = []
behind (x ∷ xs) = xs

-- what an operation on a part of the tree gives: the new part, the writes so far, what is left of the free list
pub record Made (A : Type 0) : Type 0 where
  pub part : A
  pub writes : List Write
  pub rest : List ℕ

abbrev pub with_part : {A B : Type 0} → (A → B) → Made A → Made B
with_part f r = record { part = f r.part; writes = r.writes; rest = r.rest }

-- a page is made: it takes the free list's front, and is written
abbrev pub writing : Node → ℕ → Write
writing n p = record { page = p; says = content n }

abbrev pub make : {A : Type 0} → (ℕ → A → Node) → Made A → Made Node
make page r = record {
  part = page (front r.rest) r.part;
  writes = r.writes ++ (writing (page (front r.rest) r.part) (front r.rest) ∷ []);
  rest = behind r.rest;
}

-- one page, or two with the left one first
abbrev pub place : {A : Type 0} → (ℕ → A → Node) → Split A → List Write → List ℕ → Made (Split Node)
place page (one x) ws free = with_part one (make page (record { part = x; writes = ws; rest = free }))
place page (two x k y) ws free =
    let l = make page (record { part = x; writes = ws; rest = free }) in
    let r = make page (record { part = y; writes = l.writes; rest = l.rest }) in
    record { part = two l.part k r.part; writes = r.writes; rest = r.rest }

abbrev pub entry : ℕ → ℕ → Entry
entry k v = record { key = k; value = v }

-- a leaf's events with one more at an address
abbrev pub enter : ℕ → List Entry → List Entry
enter a [] = entry a 1 ∷ []
enter a (e ∷ es) = cond (nat_le a e.key) (cond (a == e.key) (entry a (suc e.value) ∷ es) (entry a 1 ∷ (e ∷ es))) (e ∷ enter a es)

-- cut behind the place i (from 0), where something is left behind it; the key between is the one at i
abbrev pub ahead : Entry → Split (List Entry) → Split (List Entry)
ahead e (one xs) = one (e ∷ xs)
ahead e (two xs k ys) = two (e ∷ xs) k ys

abbrev pub cut : ℕ → List Entry → Split (List Entry)
cut zero [] = one []
cut zero (e ∷ []) = one (e ∷ [])
cut zero (e ∷ (d ∷ es)) = two (e ∷ []) e.key (d ∷ es)
cut (suc i) [] = one []
cut (suc i) (e ∷ es) = ahead e (cut i es)

abbrev pub ahead_in : Node → ℕ → Split Forest → Split Forest
ahead_in n k (one f) = one (more n k f)
ahead_in n k (two f j g) = two (more n k f) j g

abbrev pub cut_in : ℕ → Forest → Split Forest
cut_in zero (last n) = one (last n)
cut_in zero (more n k f) = two (last n) k f
cut_in (suc i) (last n) = one (last n)
cut_in (suc i) (more n k f) = ahead_in n k (cut_in i f)

-- an eleventh entry splits a page: six left, five right
abbrev pub fit : List Entry → Split (List Entry)
fit es = cond (nat_le (length es) 10) (one es) (cut 5 es)

abbrev pub fit_in : Forest → Split Forest
fit_in f = cond (nat_le (size f) 10) (one f) (cut_in 5 f)

-- one or two pages in a child's place
abbrev pub as_last : Split Node → Forest
as_last (one n) = last n
as_last (two l k r) = more l k (last r)

abbrev pub as_more : ℕ → Forest → Split Node → Forest
as_more k f (one n) = more n k f
as_more k f (two l j r) = more l j (more r k f)

-- lodge at a page: what stands in its place, one page or two
abbrev mutual
  pub lodge : Node → ℕ → List ℕ → Made (Split Node)
  lodge (leaf p es) a free = place leaf (fit (enter a es)) [] free
  lodge (inner p f) a free = place inner (fit_in (lodge_in f a free).part) (lodge_in f a free).writes (lodge_in f a free).rest

  pub lodge_in : Forest → ℕ → List ℕ → Made Forest
  lodge_in (last n) a free = with_part as_last (lodge n a free)
  lodge_in (more n k f) a free = cond (nat_le a k) (with_part (as_more k f) (lodge n a free)) (with_part (more n k) (lodge_in f a free))

-- a leaf's events with one less at an address; an entry with the count 0 goes
abbrev pub remove : ℕ → List Entry → List Entry
remove a [] = []
remove a (e ∷ es) = cond (a == e.key) (cond (nat_le e.value 1) es (entry a (e.value - 1) ∷ es)) (e ∷ remove a es)

-- a page that has something left is made anew
abbrev pub keep : List Entry → Held (List Entry)
keep [] = none
keep (e ∷ es) = held (e ∷ es)

abbrev pub place_left : {A : Type 0} → (ℕ → A → Node) → Held A → List Write → List ℕ → Made (Held Node)
place_left page none ws free = record { part = none; writes = ws; rest = free }
place_left page (held x) ws free = with_part held (make page (record { part = x; writes = ws; rest = free }))

-- a child that is gone drops out: the next one's region grows down, or the one before becomes the last and loses its key
abbrev pub held_last : Held Node → Held Forest
held_last none = none
held_last (held n) = held (last n)

abbrev pub held_more : ℕ → Forest → Held Node → Held Forest
held_more k f none = held f
held_more k f (held n) = held (more n k f)

abbrev pub held_before : Node → ℕ → Held Forest → Held Forest
held_before n k none = held (last n)
held_before n k (held f) = held (more n k f)

-- withdraw at a page: what is left of it
abbrev mutual
  pub withdraw : Node → ℕ → List ℕ → Made (Held Node)
  withdraw (leaf p es) a free = place_left leaf (keep (remove a es)) [] free
  withdraw (inner p f) a free = place_left inner (withdraw_in f a free).part (withdraw_in f a free).writes (withdraw_in f a free).rest

  pub withdraw_in : Forest → ℕ → List ℕ → Made (Held Forest)
  withdraw_in (last n) a free = with_part held_last (withdraw n a free)
  withdraw_in (more n k f) a free = cond (nat_le a k) (with_part (held_more k f) (withdraw n a free)) (with_part (held_before n k) (withdraw_in f a free))

-- the pages of the path to an address, the root first: put at the front of the free list one at a time, leaf first,
-- they stand in this order before the rest of it
abbrev mutual
  pub path : Node → ℕ → List ℕ
  path (leaf p es) a = p ∷ []
  path (inner p f) a = p ∷ path_in f a

  pub path_in : Forest → ℕ → List ℕ
  path_in (last n) a = path n a
  path_in (more n k f) a = cond (nat_le a k) (path n a) (path_in f a)

-- the whole tree, which may be empty, with its height and the free list, front first
pub record State : Type 0 where
  pub tree : Held Node
  pub height : ℕ
  pub free : List ℕ

-- an operation on it: the next state, and the pages written, in order
pub record Step : Type 0 where
  pub next : State
  pub writes : List Write

-- a split root gets a new root over both
abbrev pub new_root : Split Node → List Write → List ℕ → Made Node
new_root (one n) ws free = record { part = n; writes = ws; rest = free }
new_root (two l k r) ws free = make inner (record { part = more l k (last r); writes = ws; rest = free })

abbrev pub raised : Split Node → ℕ → ℕ
raised (one n) h = h
raised (two l k r) h = suc h

-- lodge in a tree that is not empty, with a new root where the old one was split
abbrev pub lodged : Node → ℕ → List ℕ → Made Node
lodged n a free = new_root (lodge n a free).part (lodge n a free).writes (lodge n a free).rest

-- lodge in the empty tree: a leaf of one entry
abbrev pub first_leaf : ℕ → List ℕ → Made Node
first_leaf a free = make leaf (record { part = entry a 1 ∷ []; writes = []; rest = free })

abbrev pub lodge_from : Held Node → ℕ → ℕ → List ℕ → Step
lodge_from none h a free = record {
  next = record { tree = held (first_leaf a free).part; height = 1; free = (first_leaf a free).rest };
  writes = (first_leaf a free).writes;
}
lodge_from (held n) h a free = record {
  next = record { tree = held (lodged n a free).part; height = raised (lodge n a free).part h; free = path n a ++ (lodged n a free).rest };
  writes = (lodged n a free).writes;
}

abbrev pub lodge_step : State → ℕ → Step
lodge_step s a = lodge_from s.tree s.height a s.free

-- the height falls only to 0
abbrev pub height_left : Held Node → ℕ → ℕ
height_left none h = 0
height_left (held n) h = h

abbrev pub withdraw_from : Held Node → ℕ → ℕ → List ℕ → Step
withdraw_from none h a free = record { next = record { tree = none; height = h; free = free }; writes = [] }
withdraw_from (held n) h a free = record {
  next = record { tree = (withdraw n a free).part; height = height_left (withdraw n a free).part h; free = path n a ++ (withdraw n a free).rest };
  writes = (withdraw n a free).writes;
}

abbrev pub withdraw_step : State → ℕ → Step
withdraw_step s a = withdraw_from s.tree s.height a s.free
