-- What a lodge leaves alone.
use Rattle.std.proofs.Common.{◌≡◌, ℕ, zero, suc, ◌+◌, ◌≤◌, List, [], ◌∷◌, ◌++◌, length, Ok, Err, Result, refl, ◌∙◌, inl, inr, arith}
use Rattle.pages.specs.Image.{Image}
use Rattle.layout.specs.declared.entry.Entry.{Entry}
use Rattle.tree.specs.Tree.{Contents}
use Rattle.tree.specs.CopyWrites.{Write}
use Rattle.tree.specs.CopyWrites as tree
use Rattle.tree.specs.CopyMoves.{Split, Made, entry, enter}
use Rattle.tree.specs.CopyMoves.Split.{one, two}
use Rattle.tree.specs.CopyPages.{pick, swap, fit_leaf, fit_inner}
use Rattle.tree.specs.CopyMemory.{page_at, place_at, lodge_at, page_splits_at, path_splits_at}
use Rattle.tree.specs.CopyDescent.{parts}
use Rattle.tree.specs.CopyUpdate.{new_root_at, lodge_by, needed}
use Rattle.tree.proofs.CopyDescent.{writes_law}
use Rattle.tree.proofs.CopyNumbers.{written_move, thread_length}
use Rattle.faults.specs.declared.fault.Fault.{Fault}
use Rattle.faults.specs.Accesses.{contents}
use Rattle.paths.specs.declared.copied.Copied.{Copied}
use Rattle.paths.specs.PathsCopies.{LeavesAlone}
use Rattle.paths.specs.LodgeRules.Unlodged.{denied, cut}
use Rattle.paths.specs.LodgeTree.{LodgedBy}
use Rattle.paths.proofs.PathsCopying.{wrote_alone, read_alone, misread_alone, append_none}

-- the pages written and the rest are the free list
place_thread : (level : ℕ) (s : Split (List Entry)) (ws : List Write) (rest free : List ℕ) → 1 + parts s ≤ length rest → tree.written ws ++ rest ≡ free
    → tree.written (place_at level s ws rest).writes ++ (place_at level s ws rest).rest ≡ free
place_thread level (one es) ws [] free h t = absurd (omega arith)
place_thread level (one es) ws (x ∷ rest) free h t = written_move ws (page_at level es (x ∷ rest)) rest ∙ t
place_thread level (two es k ds) ws [] free h t = absurd (omega arith)
place_thread level (two es k ds) ws (x ∷ []) free h t = absurd (omega arith)
place_thread level (two es k ds) ws (x ∷ (y ∷ rest)) free h t =
    written_move (ws ++ (page_at level es (x ∷ (y ∷ rest)) ∷ [])) (page_at level ds (y ∷ rest)) rest ∙ written_move ws (page_at level es (x ∷ (y ∷ rest))) (y ∷ rest) ∙ t

place_parts : (level : ℕ) (s : Split (List Entry)) (ws : List Write) (free : List ℕ) → parts (place_at level s ws free).part ≡ parts s
place_parts level (one es) ws free = refl
place_parts level (two es k ds) ws free = refl

thread : (l : ℕ) (m : Contents) (p a : ℕ) (free : List ℕ) → l + path_splits_at l m p a ≤ length free → tree.written (lodge_at l m p a free).writes ++ (lodge_at l m p a free).rest ≡ free
unfolding lodge_at path_splits_at page_splits_at
thread zero m p a free h = refl
thread (suc zero) m p a free h =
    let s : Split (List Entry) = fit_leaf (enter a (m p).entries) in
    place_thread 1 s [] free free (omega (arith, h, place_parts 1 s [] free, (writes_law 1 m p a free).splits)) refl
thread (suc (suc l)) m p a free h =
    let k : Made (Split ℕ) = lodge_at (suc l) m (pick (m p).entries a) a free in
    let s : Split (List Entry) = fit_inner (swap (m p).entries a k.part) in
    let t = thread (suc l) m (pick (m p).entries a) a free (omega arith) in
    place_thread (suc (suc l)) s k.writes k.rest free
    (omega (
      arith,
      h,
      thread_length k.writes k.rest free t,
      (writes_law (suc l) m (pick (m p).entries a) a free).lodges,
      place_parts (suc (suc l)) s k.writes k.rest,
      (writes_law (suc (suc l)) m p a free).splits,
    )) t

root_thread : (h : ℕ) (s : Split ℕ) (ws : List Write) (rest free : List ℕ) → parts s ≤ length rest → tree.written ws ++ rest ≡ free
    → tree.written (new_root_at h s ws rest).writes ++ (new_root_at h s ws rest).rest ≡ free
root_thread h (one p) ws rest free n t = t
root_thread h (two p k q) ws [] free n t = absurd (omega arith)
root_thread h (two p k q) ws (x ∷ rest) free n t = written_move ws (page_at (suc h) (entry k p ∷ (entry 0 q ∷ [])) (x ∷ rest)) rest ∙ t

tree_thread : (h : ℕ) (m : Contents) (p a : ℕ) (free : List ℕ) → needed h m p a ≤ length free → (left : List ℕ) × (tree.written (lodge_by h m p a free).writes ++ left ≡ free)
tree_thread zero m p a [] n = absurd (omega arith)
tree_thread zero m p a (x ∷ xs) n = (xs, refl)
tree_thread (suc h) m p a free n =
    let k : Made (Split ℕ) = lodge_at (suc h) m p a free in
    let t = thread (suc h) m p a free (omega arith) in (
      (new_root_at (suc h) k.part k.writes k.rest).rest,
      root_thread (suc h) k.part k.writes k.rest free
          (omega (arith, n, thread_length k.writes k.rest free t, (writes_law (suc h) m p a free).lodges, (writes_law (suc h) m p a free).splits)) t,
    )

pub lodge_alone : (m m' : Image) (h p a : ℕ) (free : List ℕ) (r : Result Copied Fault) → LodgedBy m h p a free r m' → LeavesAlone m free m'
lodge_alone m m' h p a free (Ok g) t =
    let ws : List Write = (lodge_by h (contents m) p a free).writes in
    let y = tree_thread h (contents m) p a free (omega (arith, t.allowed.room)) in
    wrote_alone ws ws [] m m' h free y.0 y.1 (append_none ws) t.wrote
lodge_alone m m' h p a free (Err f) (inl t) = misread_alone m m' h p a free f t
lodge_alone m m' h p a free (Err f) (inr (c, denied d i)) = read_alone m m' h free i
lodge_alone m m' h p a free (Err f) (inr (c, cut d u)) =
    let y = tree_thread h (contents m) p a free (omega (arith, d.room)) in
    wrote_alone (lodge_by h (contents m) p a free).writes u.cut.done (u.cut.next ∷ u.cut.rest) m m' h free y.0 y.1 u.cut.writes u.cut.began
