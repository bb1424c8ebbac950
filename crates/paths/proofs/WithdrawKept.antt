-- Withdraw from the root, and where a state is kept.
use Rattle.std.proofs.Common.{◌≡◌, ℕ, zero, suc, ◌-◌, ◌≤◌, List, [], ◌∷◌, ◌++◌, length, take, drop, None, Ok, Err, Option, Result, sym, refl, ap, ◌∙◌, subst, arith}
use Rattle.std.specs.List.{AllByRecursion}
use Rattle.std.proofs.ByRecursion.{All-take, All-weaker}
use Rattle.pages.specs.Image.{Image, Has}
use Rattle.layout.specs.declared.entry.Entry.{Entry}
use Rattle.layout.specs.Content.{LeafKeys}
use Rattle.layout.specs.Edits.{found}
use Rattle.tree.specs.Tree.{Node, Held, Contents, count_at}
use Rattle.tree.specs.Tree.Node.{leaf, inner}
use Rattle.tree.specs.Tree.Held.{none, held}
use Rattle.tree.specs.CopyWrites.{Write}
use Rattle.tree.specs.CopyWrites as tree
use Rattle.tree.specs.CopyMoves.{State, withdraw_step}
use Rattle.tree.specs.CopyLaws.{Kept, Copies, SoundOf, pages_of, events_of, path_of, root_of, withdraw_takes}
use Rattle.tree.specs.CopyMemory.{withdraw_at, leaf_at}
use Rattle.tree.specs.CopyUpdate.{Update, withdraw_by, root_left, height_at, handle_of}
use Rattle.tree.proofs.CopyBase.{by_le, by_eq}
use Rattle.tree.proofs.CopyKept.{number_law, range_law, withdraw_law}
use Rattle.tree.proofs.CopyDescent.{tally_law}
use Rattle.tree.proofs.CopyUpdate.{update_law}
use Rattle.faults.specs.declared.fault.Fault.{Fault}
use Rattle.faults.specs.declared.fault.Fault.TheVariants.{Shut, Outside, Work, Absent, Unread, NoHeader, OtherOrder, Unsound, NoEvent, CountFull, HeightFull, Room, Unwritten}
use Rattle.faults.specs.Accesses.{contents}
use Rattle.paths.specs.OldPages.{old_pages}
use Rattle.paths.specs.declared.left.Left.{Left}
use Rattle.paths.specs.declared.copied.Copied.{Copied}
use Rattle.paths.specs.PathsWrites.{after_reads, Wrote, Unwrites}
use Rattle.paths.specs.PathsReading.{counted, IsPath}
use Rattle.paths.specs.Withdrawals.{Done, Refusal}
use Rattle.paths.specs.Withdrawals.Refusal.{misread, no_event, unwrites}
use Rattle.paths.specs.WithdrawRules.{copied_of, CopiesLeft, RoomFor, NotWithdrawn, Withdrew, Withdraws, WithdrawIs, WithdrawNextLaw, WithdrawFreeLaw, WithdrawRefusedLaw}
use Rattle.paths.specs.WithdrawRules.NotWithdrawn.{no_room, refusal}
use Rattle.paths.proofs.PathsWriting.{after_none, accepts_charge}
use Rattle.paths.proofs.PathsMemory.{kept_after, kept_read}
use Rattle.paths.proofs.PathsCopying.{only_short}
use Rattle.paths.proofs.WithdrawAlone.{alone, by_writes}
use Rattle.paths.proofs.PathsKept.{misread_kept, at_kept, leaf_count}

-- the exits of the whole call
empty_none : (m : Image) (p a : ℕ) (free : List ℕ) → Refusal m 0 p a free NoEvent m
unfolding leaf_at
empty_none m p a free = no_event refl (omega arith) refl (after_none m)

pub empty_refused : (m : Image) (h p a : ℕ) (free : List ℕ) → h ≡ 0 → Withdrew m h p a free (Err NoEvent) m
empty_refused m h p a free e = subst (λ (x : ℕ). Withdrew m x p a free (Err NoEvent) m) (sym e) (refusal (omega arith, omega arith) (empty_none m p a free))

pub root_copied : (m m' : Image) (h p a : ℕ) (free : List ℕ) (g : Left) (c : Copied) → RoomFor h free → 1 ≤ h → Done m h p a free g m' → IsPath m h p a (old_pages g.trade.path) → c ≡ copied_of g h → Withdrew m h p a free (Ok c) m'
root_copied m m' zero p a free g c b o t w e = absurd (omega arith)
root_copied m m' (suc h) p a free g c b o t w e =
    subst (λ (x : Copied). CopiesLeft m (suc h) p a free x m') (sym e) (record {
      room = b;
      charged = t.charged;
      event = t.event;
      root = ap root_left t.gives.part;
      height = ap (λ (x : Held ℕ). height_at x (suc h)) t.gives.part;
      used = omega (arith, t.gives.uses);
      path = w;
      wrote = t.wrote;
    })

-- room is always there
pages_some : (n : Node) → 1 ≤ length (pages_of (held n))
pages_some (leaf p es) = omega arith
pages_some (inner p f) = omega arith

room_of : (m : Contents) (limit h total top : ℕ) (t : Held Node) (free : List ℕ) → SoundOf m limit h total top t → (1 ≤ length (pages_of t) → 6 ≤ length free) → h ≤ 6 → h ≤ length free
room_of m limit h total top none free s f six = omega (arith, s.0)
room_of m limit h total top (held n) free s f six = omega (arith, f (pages_some n))

room_kept : (m : Contents) (limit total top : ℕ) (s : State) → Kept m limit total top s → s.height ≤ 6 → RoomFor s.height s.free
room_kept m limit total top s k six = (six, room_of m limit s.height total top s.tree s.free k.sound (number_law m limit total top s k).1 six)

-- a leaf with an entry at the address has an event there
found_some : (a lo hi : ℕ) (es : List Entry) → LeafKeys lo hi es → (found a es ≡ None → ⊥) → 1 ≤ counted (found a es)
found_some a lo hi [] k = λ n. absurd (n refl)
found_some a lo hi (e ∷ es) k =
    by_le (λ (o : Option ℕ). (o ≡ None → ⊥) → 1 ≤ counted o) a e.key _ _
    (λ le. by_eq (λ (o : Option ℕ). (o ≡ None → ⊥) → 1 ≤ counted o) a e.key _ _ (λ q n. k.2) (λ ne n. absurd (n refl)))
    (λ gt. found_some a (suc e.key) hi es k.3)

event_count : (m : Image) (limit total top : ℕ) (s : State) (a : ℕ) → Kept (contents m) limit total top s
    → (found a (leaf_at s.height (contents m) (root_of s.tree) a) ≡ None → ⊥) → 1 ≤ count_at (events_of s.tree) a
event_count m limit total top s a k n =
    omega (arith, leaf_count m limit total top s a k, found_some a 0 top (leaf_at s.height (contents m) (root_of s.tree) a) (tally_law (contents m) limit total top s a k).1 n)

-- the update of the handle is the state's step
updated : (m : Image) (limit total top : ℕ) (s : State) (a : ℕ) → Kept (contents m) limit total top s
    → withdraw_by s.height (contents m) (root_of s.tree) a s.free ≡ record { next = handle_of (withdraw_step s a).next; writes = (withdraw_step s a).writes }
updated m limit total top s a k = (update_law (contents m) limit total top s a k).1

copies_kept : (m m' : Image) (limit total top : ℕ) (s : State) (a : ℕ) (g : Copied) → Kept (contents m) limit total top s
    → CopiesLeft m s.height (root_of s.tree) a s.free g m' → Withdraws m s a (Ok g) m'
copies_kept m m' limit total top s a g k t =
    let u = updated m limit total top s a k in
    let w : Wrote (withdraw_step s a).writes (after_reads m s.height) m' = subst (λ (x : Update). Wrote x.writes (after_reads m s.height) m') u t.wrote in
    record {
      event = event_count m limit total top s a k t.event;
      carried = omega (arith, t.charged, accepts_charge (withdraw_step s a).writes (after_reads m s.height) w.accepts);
      root = t.root ∙ ap (λ (x : Update). x.next.root) u;
      height = t.height ∙ ap (λ (x : Update). x.next.height) u;
      used = t.used ∙ ap (λ (x : Update). length x.writes) u;
      path = t.path ∙ (update_law (contents m) limit total top s a k).3;
      wrote = w;
    }

all_there : (m : Image) (limit total top : ℕ) (s : State) (a : ℕ) → Kept (contents m) limit total top s → limit ≤ length m.pages
    → Copies (contents m) limit total (total - 1) top s a (withdraw_takes s.tree s.height a) (withdraw_step s a)
    → AllByRecursion (Has (after_reads m s.height)) (tree.written (withdraw_step s a).writes)
all_there m limit total top s a k l c =
    let In : ℕ → Type 0 = λ p. (2 ≤ p) × (p ≤ limit) in
    subst (λ (x : List ℕ). AllByRecursion (Has (after_reads m s.height)) x) (sym c.wrote)
    (All-weaker In (Has (after_reads m s.height)) (λ p h. (omega (arith, h.0), omega (arith, h.1)))
    (take (withdraw_takes s.tree s.height a) s.free)
    (All-take In (withdraw_takes s.tree s.height a) s.free (range_law (contents m) limit total top s k).1))

refused_kept : (m m' : Image) (limit total top : ℕ) (s : State) (a : ℕ) (f : Fault) → Kept (contents m) limit total top s → limit ≤ length m.pages → s.height ≤ 6
    → NotWithdrawn m s.height (root_of s.tree) a s.free f m' → Withdraws m s a (Err f) m'
refused_kept m m' limit total top s a f k l six (no_room e n i) = absurd (n (room_kept (contents m) limit total top s k six))
refused_kept m m' limit total top s a f k l six (refusal b (misread t)) =
    let o = misread_kept m m' (root_of s.tree) s.height limit total top s a f (record { kept = k; there = l; root_is = refl; height_is = refl }) t in
    subst (λ (x : Fault). Withdraws m s a (Err x) m') (sym o.told) o.runs
refused_kept m m' limit total top s a f k l six (refusal b (no_event e c n i)) =
    subst (λ (x : Fault). Withdraws m s a (Err x) m') (sym e) (c, sym (leaf_count m limit total top s a k) ∙ ap counted n, i)
refused_kept m m' limit total top s a f k l six (refusal b (unwrites c n u)) =
    let v = event_count m limit total top s a k n in
    let w : (withdraw_at s.height (contents m) (root_of s.tree) a s.free).writes ≡ (withdraw_step s a).writes =
    by_writes s.height (contents m) (root_of s.tree) a s.free ∙ ap (λ (x : Update). x.writes) (updated m limit total top s a k) in
    let o = only_short (withdraw_step s a).writes (after_reads m s.height) m' f
    (all_there m limit total top s a k l (withdraw_law (contents m) limit total top s a k six v).2)
    (subst (λ (x : List Write). Unwrites x (after_reads m s.height) f m') w u) in
    subst (λ (x : Fault). Withdraws m s a (Err x) m') (sym o.told) (c, v, o.runs)

withdraws_kept : (m m' : Image) (limit total top : ℕ) (s : State) (a : ℕ) (r : Result Copied Fault) → Kept (contents m) limit total top s → limit ≤ length m.pages → s.height ≤ 6
    → Withdrew m s.height (root_of s.tree) a s.free r m' → Withdraws m s a r m'
withdraws_kept m m' limit total top s a (Ok g) k l six t = copies_kept m m' limit total top s a g k t
withdraws_kept m m' limit total top s a (Err f) k l six t = refused_kept m m' limit total top s a f k l six t

pub withdraw_keeps : WithdrawNextLaw
withdraw_keeps m m' limit total top s a g k six t =
    kept_after (withdraw_step s a).writes m m' s.height limit (total - 1) top (withdraw_step s a).next t.wrote (withdraw_law (contents m) limit total top s a k six t.event).2.kept

pub withdraw_keeps_old : WithdrawRefusedLaw
withdraw_keeps_old m m' limit total top s a (Unread x) k six t = kept_read m m' m.charge limit total top s t.spent k
withdraw_keeps_old m m' limit total top s a NoEvent k six t = kept_read m m' s.height limit total top s t.2 k
withdraw_keeps_old m m' limit total top s a (Unwritten x) k six t =
    let c = t.2 in
    kept_after c.done m m' s.height limit total top s c.began ((withdraw_law (contents m) limit total top s a k six t.1).2.old c.done (c.next ∷ c.rest) c.writes)
withdraw_keeps_old m m' limit total top s a Shut k six t = absurd t
withdraw_keeps_old m m' limit total top s a Outside k six t = absurd t
withdraw_keeps_old m m' limit total top s a Work k six t = absurd t
withdraw_keeps_old m m' limit total top s a (Absent x) k six t = absurd t
withdraw_keeps_old m m' limit total top s a NoHeader k six t = absurd t
withdraw_keeps_old m m' limit total top s a OtherOrder k six t = absurd t
withdraw_keeps_old m m' limit total top s a (Unsound p r) k six t = absurd t
withdraw_keeps_old m m' limit total top s a CountFull k six t = absurd t
withdraw_keeps_old m m' limit total top s a HeightFull k six t = absurd t
withdraw_keeps_old m m' limit total top s a Room k six t = absurd t

pub withdraw_frees : WithdrawFreeLaw
withdraw_frees m m' limit total top s a g k six t =
    let y = (withdraw_law (contents m) limit total top s a k six t.event).2 in
    y.freed ∙ ap (λ (n : ℕ). path_of s.tree a ++ drop n s.free) (sym (t.used ∙ y.took))
    ∙ ap (λ (ps : List ℕ). ps ++ drop g.trade.used s.free) (sym t.path)

pub withdraw_is : (m m' : Image) (root height a : ℕ) (free : List ℕ) (r : Result Copied Fault) → Withdrew m height root a free r m' → WithdrawIs m root height a free r m'
withdraw_is m m' root height a free r t = record {
  always = t;
  alone = alone m m' height root a free r t;
  kept = λ limit total top s k e six.
      (let u = at_kept (λ h p. Withdrew m h p a free r m') m root height limit total top s k t in
      withdraws_kept m m' limit total top s a r k.kept k.there (omega (arith, k.height_is, six)) (subst (λ (x : List ℕ). Withdrew m s.height (root_of s.tree) a x r m') e u));
}
