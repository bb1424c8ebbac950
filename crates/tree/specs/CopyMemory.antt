-- The two operations on a memory of pages, with no tree in sight: by recursion on the level, total for every memory.
-- This is the form for contracts of code that works on pages; `MemoryLaw` says that where a tree stands it is the tree's operation.
use Rattle.std.specs.Prelude.{◌≡◌, ℕ, zero, suc, ◌+◌, cond, List, [], ◌∷◌, ◌++◌, length, nat_le}
use Rattle.layout.specs.declared.entry.Entry.{Entry}
use Rattle.layout.specs.Content.{page}
use Rattle.tree.specs.Tree.{Node, Held, Contents, Level, Stands, number}
use Rattle.tree.specs.Tree.Held.{none, held}
use Rattle.tree.specs.CopyWrites.{Write}
use Rattle.tree.specs.CopyMoves.{Split, Made, with_part, front, behind, enter, remove, lodge, withdraw, path}
use Rattle.tree.specs.CopyMoves.Split.{one, two}
use Rattle.tree.specs.CopyLaws.{over_ten, empty, page_splits, path_splits, page_drops, path_drops}
use Rattle.tree.specs.CopyLookup.{leaf_for}
use Rattle.tree.specs.CopyPages.{pick, swap, clear, fit_leaf, fit_inner, numbers, number_left}

-- a page written to the front of the free list
abbrev pub page_at : ℕ → List Entry → List ℕ → Write
page_at level es free = record { page = front free; says = page level (front free) es }

-- one page or two are written
abbrev pub place_at : ℕ → Split (List Entry) → List Write → List ℕ → Made (Split ℕ)
place_at level (one es) ws free = record { part = one (front free); writes = ws ++ (page_at level es free ∷ []); rest = behind free }
place_at level (two es k ds) ws free = record {
  part = two (front free) k (front (behind free));
  writes = (ws ++ (page_at level es free ∷ [])) ++ (page_at level ds (behind free) ∷ []);
  rest = behind (behind free);
}

-- lodge at a page of a level (level 0 does not occur)
unfoldable pub lodge_at : ℕ → Contents → ℕ → ℕ → List ℕ → Made (Split ℕ)
lodge_at zero m p a free = record { part = one p; writes = []; rest = free }
lodge_at (suc zero) m p a free = place_at 1 (fit_leaf (enter a (m p).entries)) [] free
lodge_at (suc (suc h)) m p a free =
    let r = lodge_at (suc h) m (pick (m p).entries a) a free in
    place_at (suc (suc h)) (fit_inner (swap (m p).entries a r.part)) r.writes r.rest

-- a page is written, or none where no entry is left
abbrev pub place_left_at : ℕ → List Entry → List Write → List ℕ → Made (Held ℕ)
place_left_at level [] ws free = record { part = none; writes = ws; rest = free }
place_left_at level (e ∷ es) ws free = record { part = held (front free); writes = ws ++ (page_at level (e ∷ es) free ∷ []); rest = behind free }

unfoldable pub withdraw_at : ℕ → Contents → ℕ → ℕ → List ℕ → Made (Held ℕ)
withdraw_at zero m p a free = record { part = none; writes = []; rest = free }
withdraw_at (suc zero) m p a free = place_left_at 1 (remove a (m p).entries) [] free
withdraw_at (suc (suc h)) m p a free =
    let r = withdraw_at (suc h) m (pick (m p).entries a) a free in
    place_left_at (suc (suc h)) (clear (m p).entries a r.part) r.writes r.rest

-- the path's pages, the root first
unfoldable pub path_at : ℕ → Contents → ℕ → ℕ → List ℕ
path_at zero m p a = []
path_at (suc zero) m p a = p ∷ []
path_at (suc (suc h)) m p a = p ∷ path_at (suc h) m (pick (m p).entries a) a

-- the entries of the leaf at its end
unfoldable pub leaf_at : ℕ → Contents → ℕ → ℕ → List Entry
leaf_at zero m p a = []
leaf_at (suc zero) m p a = (m p).entries
leaf_at (suc (suc h)) m p a = leaf_at (suc h) m (pick (m p).entries a) a

-- How many pages an operation will take, read off the path before anything is written.
unfoldable pub page_splits_at : ℕ → Contents → ℕ → ℕ → ℕ
page_splits_at zero m p a = 0
page_splits_at (suc zero) m p a = over_ten (length (enter a (m p).entries))
page_splits_at (suc (suc h)) m p a = over_ten (length (m p).entries + page_splits_at (suc h) m (pick (m p).entries a) a)

unfoldable pub path_splits_at : ℕ → Contents → ℕ → ℕ → ℕ
path_splits_at zero m p a = 0
path_splits_at (suc zero) m p a = over_ten (length (enter a (m p).entries))
path_splits_at (suc (suc h)) m p a =
    over_ten (length (m p).entries + page_splits_at (suc h) m (pick (m p).entries a) a) + path_splits_at (suc h) m (pick (m p).entries a) a

unfoldable pub page_drops_at : ℕ → Contents → ℕ → ℕ → ℕ
page_drops_at zero m p a = 0
page_drops_at (suc zero) m p a = empty (remove a (m p).entries)
page_drops_at (suc (suc h)) m p a = cond (nat_le (length (m p).entries) 1) (page_drops_at (suc h) m (pick (m p).entries a) a) 0

unfoldable pub path_drops_at : ℕ → Contents → ℕ → ℕ → ℕ
path_drops_at zero m p a = 0
path_drops_at (suc zero) m p a = empty (remove a (m p).entries)
path_drops_at (suc (suc h)) m p a =
    cond (nat_le (length (m p).entries) 1) (page_drops_at (suc h) m (pick (m p).entries a) a) 0 + path_drops_at (suc h) m (pick (m p).entries a) a

-- where a tree stands, they are the tree's
pub record Follows (n : Node) (m : Contents) (h a : ℕ) : Type 0 where
  pub lodges : (free : List ℕ) → lodge_at h m (number n) a free ≡ with_part numbers (lodge n a free)
  pub withdraws : (free : List ℕ) → withdraw_at h m (number n) a free ≡ with_part number_left (withdraw n a free)
  pub paths : path_at h m (number n) a ≡ path n a
  pub leaves : leaf_at h m (number n) a ≡ leaf_for n a
  pub page_splits_is : page_splits_at h m (number n) a ≡ page_splits n a
  pub path_splits_is : path_splits_at h m (number n) a ≡ path_splits n a
  pub page_drops_is : page_drops_at h m (number n) a ≡ page_drops n a
  pub path_drops_is : path_drops_at h m (number n) a ≡ path_drops n a

abbrev pub MemoryLaw : Type 0
MemoryLaw = (n : Node) (m : Contents) (h a : ℕ) → Level n h → Stands n m → Follows n m h a
