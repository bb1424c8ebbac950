-- What code knows on its way down a path, before the first write.
use Rattle.std.specs.Prelude.{◌≡◌, ℕ, zero, suc, ◌+◌, ◌-◌, ◌<◌, ◌≤◌, true, cond, List, length, nat_le, slice_index}
use Rattle.layout.specs.Content.{LeafKeys, Sized}
use Rattle.tree.specs.Tree.{Contents, count_at}
use Rattle.tree.specs.CopyMoves.{Split, State}
use Rattle.tree.specs.CopyMoves.Split.{one, two}
use Rattle.tree.specs.CopyLaws.{Kept, events_of, root_of}
use Rattle.tree.specs.CopyPages.{pick}
use Rattle.tree.specs.CopyMemory.{lodge_at, withdraw_at, path_at, leaf_at, page_splits_at, path_splits_at}

abbrev pub if_splits : ℕ → ℕ → ℕ
if_splits zero x = 0
if_splits (suc n) x = x

-- How many pages a lodge needs: `base` in any case, one for each split from here down, and `extra` more if this page splits.
-- At the root `base` is the height and `extra` is 1, the new root.
abbrev pub takes : ℕ → Contents → ℕ → ℕ → ℕ → ℕ → ℕ
takes l m p a base extra = base + path_splits_at l m p a + if_splits (page_splits_at l m p a) extra

-- the `extra` of a child of a page with n entries
abbrev pub deeper : ℕ → ℕ → ℕ
deeper n x = cond (nat_le n 9) 0 (x + 1)

-- One step down from a page with at most ten entries. So both numbers are known at the leaf, from what is handed down:
-- the number of pages needed is the same at every page of the path, and a page splits where its child does and it has ten entries.
pub record GoesDown (h : ℕ) (m : Contents) (p a : ℕ) : Type 0 where
  pub needs : (base extra : ℕ) → takes (suc (suc h)) m p a base extra ≡ takes (suc h) m (pick (m p).entries a) a base (deeper (length (m p).entries) extra)
  pub splits : page_splits_at (suc (suc h)) m p a ≡ cond (nat_le (length (m p).entries) 9) 0 (page_splits_at (suc h) m (pick (m p).entries a) a)

abbrev pub DescentLaw : Type 0
DescentLaw = (h : ℕ) (m : Contents) (p a : ℕ) → length (m p).entries ≤ 10 → GoesDown h m p a

-- 1 where there are two
abbrev pub parts : {A : Type 0} → Split A → ℕ
parts (one x) = 0
parts (two x k y) = 1

-- for every memory: a lodge writes a page for each level and one for each split; a withdrawal at most one for each level
pub record Writes (l : ℕ) (m : Contents) (p a : ℕ) (free : List ℕ) : Type 0 where
  pub splits : parts (lodge_at l m p a free).part ≡ page_splits_at l m p a
  pub splits_once : page_splits_at l m p a ≤ 1
  pub lodges : length (lodge_at l m p a free).writes ≡ l + path_splits_at l m p a
  pub withdraws : length (withdraw_at l m p a free).writes ≤ l

abbrev pub WritesLaw : Type 0
WritesLaw = (l : ℕ) (m : Contents) (p a : ℕ) (free : List ℕ) → Writes l m p a free

-- a page that is as a reader expects it
pub record Expected (m : Contents) (limit q level : ℕ) : Type 0 where
  pub level_is : (m q).level ≡ level
  pub number_is : (m q).number ≡ q
  pub clean_is : (m q).clean ≡ true
  pub sized : Sized (m q).entries
  pub low : 2 ≤ q
  pub high : q ≤ limit

-- where a state is kept, so is every page of a path
abbrev pub PathLaw : Type 0
PathLaw = (m : Contents) (limit total top : ℕ) (s : State) (a d : ℕ) → Kept m limit total top s → d < s.height →
    Expected m limit (slice_index (path_at s.height m (root_of s.tree) a) d) (s.height - d)

-- and the leaf at its end has the address's count, among events that rise
abbrev pub TallyLaw : Type 0
TallyLaw = (m : Contents) (limit total top : ℕ) (s : State) (a : ℕ) → Kept m limit total top s →
    (count_at (leaf_at s.height m (root_of s.tree) a) a ≡ count_at (events_of s.tree) a)
    × LeafKeys 0 top (leaf_at s.height m (root_of s.tree) a)
