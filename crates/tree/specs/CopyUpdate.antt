-- A whole operation on a memory and what an index remembers of its tree (root, height, free list), with no tree in sight:
-- the form for a public call's contract.
use Rattle.std.specs.Prelude.{◌≡◌, ℕ, zero, suc, ◌+◌, List, [], ◌∷◌, ◌++◌}
use Rattle.tree.specs.Tree.{Held, Contents}
use Rattle.tree.specs.Tree.Held.{none, held}
use Rattle.tree.specs.CopyWrites.{Write}
use Rattle.tree.specs.CopyMoves.{Split, Made, entry, front, behind, State, Step, lodge_step, withdraw_step}
use Rattle.tree.specs.CopyMoves.Split.{one, two}
use Rattle.tree.specs.CopyLaws.{Kept, root_of, path_of, lodge_takes}
use Rattle.tree.specs.CopyMemory.{page_at, lodge_at, withdraw_at, path_at, page_splits_at, path_splits_at}

-- how a tree is reached: an empty one has the root 0 and the height 0
pub record Handle : Type 0 where
  pub root : ℕ
  pub height : ℕ
  pub free : List ℕ

pub record Update : Type 0 where
  pub next : Handle
  pub writes : List Write

-- a new root over two pages
abbrev pub new_root_at : ℕ → Split ℕ → List Write → List ℕ → Made ℕ
new_root_at h (one p) ws free = record { part = p; writes = ws; rest = free }
new_root_at h (two p k q) ws free = record { part = front free; writes = ws ++ (page_at (suc h) (entry k p ∷ (entry 0 q ∷ [])) free ∷ []); rest = behind free }

abbrev pub raised_at : Split ℕ → ℕ → ℕ
raised_at (one p) h = h
raised_at (two p k q) h = suc h

abbrev pub root_left : Held ℕ → ℕ
root_left none = 0
root_left (held p) = p

abbrev pub height_at : Held ℕ → ℕ → ℕ
height_at none h = 0
height_at (held p) h = h

-- what is left to do when the pages of the path are written; `old` is the old path, the root first
abbrev pub lodge_finish : ℕ → List ℕ → Made (Split ℕ) → Update
lodge_finish h old r =
    let c = new_root_at h r.part r.writes r.rest in
    record { next = record { root = c.part; height = raised_at r.part h; free = old ++ c.rest }; writes = c.writes }

abbrev pub withdraw_finish : ℕ → List ℕ → Made (Held ℕ) → Update
withdraw_finish h old r = record { next = record { root = root_left r.part; height = height_at r.part h; free = old ++ r.rest }; writes = r.writes }

abbrev pub lodge_by : ℕ → Contents → ℕ → ℕ → List ℕ → Update
lodge_by zero m p a free = record { next = record { root = front free; height = 1; free = behind free }; writes = page_at 1 (entry a 1 ∷ []) free ∷ [] }
lodge_by (suc h) m p a free = lodge_finish (suc h) (path_at (suc h) m p a) (lodge_at (suc h) m p a free)

abbrev pub withdraw_by : ℕ → Contents → ℕ → ℕ → List ℕ → Update
withdraw_by zero m p a free = record { next = record { root = p; height = 0; free = free }; writes = [] }
withdraw_by (suc h) m p a free = withdraw_finish (suc h) (path_at (suc h) m p a) (withdraw_at (suc h) m p a free)

abbrev pub lodge_update : Contents → Handle → ℕ → Update
lodge_update m x a = lodge_by x.height m x.root a x.free

abbrev pub withdraw_update : Contents → Handle → ℕ → Update
withdraw_update m x a = withdraw_by x.height m x.root a x.free

-- k, read off the path
abbrev pub needed : ℕ → Contents → ℕ → ℕ → ℕ
needed zero m p a = 1
needed (suc h) m p a = suc h + path_splits_at (suc h) m p a + page_splits_at (suc h) m p a

-- what of a state an index remembers
abbrev pub handle_of : State → Handle
handle_of s = record { root = root_of s.tree; height = s.height; free = s.free }

abbrev pub update_of : Step → Update
update_of t = record { next = handle_of t.next; writes = t.writes }

-- where a state is kept, the update is the state's step, and takes as many pages
abbrev pub UpdateLaw : Type 0
UpdateLaw = (m : Contents) (limit total top : ℕ) (s : State) (a : ℕ) → Kept m limit total top s →
    (lodge_update m (handle_of s) a ≡ update_of (lodge_step s a))
    × (withdraw_update m (handle_of s) a ≡ update_of (withdraw_step s a))
    × (needed s.height m (root_of s.tree) a ≡ lodge_takes s.tree s.height a)
    × (path_at s.height m (root_of s.tree) a ≡ path_of s.tree a)
