-- What a withdrawal leaves alone.
use Rattle.std.proofs.Common.{◌≡◌, ℕ, zero, suc, ◌≤◌, List, [], ◌∷◌, ◌++◌, length, Ok, Err, Result, sym, refl, ◌∙◌, subst, arith}
use Rattle.pages.specs.Image.{Image}
use Rattle.layout.specs.declared.entry.Entry.{Entry}
use Rattle.tree.specs.Tree.{Contents, Held}
use Rattle.tree.specs.CopyWrites.{Write}
use Rattle.tree.specs.CopyWrites as tree
use Rattle.tree.specs.CopyMoves.{Made, remove}
use Rattle.tree.specs.CopyPages.{pick, clear}
use Rattle.tree.specs.CopyMemory.{page_at, place_left_at, withdraw_at}
use Rattle.tree.specs.CopyUpdate.{withdraw_by}
use Rattle.tree.proofs.CopyDescent.{writes_law}
use Rattle.tree.proofs.CopyNumbers.{written_move, thread_length}
use Rattle.faults.specs.declared.fault.Fault.{Fault}
use Rattle.faults.specs.Accesses.{contents}
use Rattle.paths.specs.declared.copied.Copied.{Copied}
use Rattle.paths.specs.PathsWrites.{after_reads, Wrote}
use Rattle.paths.specs.Withdrawals.Refusal.{misread, no_event, unwrites}
use Rattle.paths.specs.WithdrawRules.{Withdrew}
use Rattle.paths.specs.WithdrawRules.NotWithdrawn.{no_room, refusal}
use Rattle.paths.specs.PathsCopies.{LeavesAlone}
use Rattle.paths.proofs.PathsWriting.{after_none}
use Rattle.paths.proofs.PathsCopying.{wrote_alone, read_alone, misread_alone, append_none}

pub by_writes : (h : ℕ) (m : Contents) (p a : ℕ) (free : List ℕ) → (withdraw_at h m p a free).writes ≡ (withdraw_by h m p a free).writes
unfolding withdraw_at
by_writes zero m p a free = refl
by_writes (suc h) m p a free = refl

-- the pages written and the rest are the free list
place_thread : (level : ℕ) (es : List Entry) (ws : List Write) (rest free : List ℕ) → 1 ≤ length rest → tree.written ws ++ rest ≡ free
    → tree.written (place_left_at level es ws rest).writes ++ (place_left_at level es ws rest).rest ≡ free
place_thread level [] ws rest free h t = t
place_thread level (e ∷ es) ws [] free h t = absurd (omega arith)
place_thread level (e ∷ es) ws (x ∷ rest) free h t = written_move ws (page_at level (e ∷ es) (x ∷ rest)) rest ∙ t

thread : (l : ℕ) (m : Contents) (p a : ℕ) (free : List ℕ) → l ≤ length free → tree.written (withdraw_at l m p a free).writes ++ (withdraw_at l m p a free).rest ≡ free
unfolding withdraw_at
thread zero m p a free h = refl
thread (suc zero) m p a free h = place_thread 1 (remove a (m p).entries) [] free free h refl
thread (suc (suc l)) m p a free h =
    let k : Made (Held ℕ) = withdraw_at (suc l) m (pick (m p).entries a) a free in
    let t = thread (suc l) m (pick (m p).entries a) a free (omega arith) in
    place_thread (suc (suc l)) (clear (m p).entries a k.part) k.writes k.rest free
    (omega (arith, thread_length k.writes k.rest free t, (writes_law (suc l) m (pick (m p).entries a) a free).withdraws)) t

pub alone : (m m' : Image) (h p a : ℕ) (free : List ℕ) (r : Result Copied Fault) → Withdrew m h p a free r m' → LeavesAlone m free m'
alone m m' h p a free (Ok g) t =
    let ws : List Write = (withdraw_at h (contents m) p a free).writes in
    wrote_alone ws ws [] m m' h free (withdraw_at h (contents m) p a free).rest (thread h (contents m) p a free t.room.1) (append_none ws)
    (subst (λ (x : List Write). Wrote x (after_reads m h) m') (sym (by_writes h (contents m) p a free)) t.wrote)
alone m m' h p a free (Err f) (no_room e n i) = read_alone m m' 0 free (i ∙ after_none m)
alone m m' h p a free (Err f) (refusal b (misread t)) = misread_alone m m' h p a free f t
alone m m' h p a free (Err f) (refusal b (no_event e c n i)) = read_alone m m' h free i
alone m m' h p a free (Err f) (refusal b (unwrites c n u)) =
    wrote_alone (withdraw_at h (contents m) p a free).writes u.cut.done (u.cut.next ∷ u.cut.rest) m m' h free (withdraw_at h (contents m) p a free).rest
    (thread h (contents m) p a free b.1) u.cut.writes u.cut.began
