-- Lodge where a state is kept.
use Rattle.std.proofs.Common.{◌≡◌, ℕ, suc, ◌≤◌, List, ◌∷◌, ◌++◌, length, drop, Ok, Err, Result, sym, refl, ap, ◌∙◌, subst, inl, inr, arith}
use Rattle.std.specs.List.{AllByRecursion}
use Rattle.std.proofs.ByRecursion.{All-take, All-weaker}
use Rattle.pages.specs.Image.{Image, Has}
use Rattle.tree.specs.CopyWrites as tree
use Rattle.tree.specs.CopyMoves.{State, lodge_step}
use Rattle.tree.specs.CopyLaws.{Kept, Copies, root_of, path_of}
use Rattle.tree.specs.CopyUpdate.{Update, lodge_by, needed}
use Rattle.tree.proofs.CopyKept.{lodge_law, range_law}
use Rattle.tree.proofs.CopyUpdate.{update_law}
use Rattle.faults.specs.declared.fault.Fault.{Fault}
use Rattle.faults.specs.declared.fault.Fault.TheVariants.{Shut, Outside, Work, Absent, Unread, NoHeader, OtherOrder, Unsound, NoEvent, CountFull, HeightFull, Room, Unwritten}
use Rattle.faults.specs.Accesses.{contents}
use Rattle.paths.specs.declared.copied.Copied.{Copied}
use Rattle.paths.specs.PathsWrites.{after_reads, Wrote, Unwrites}
use Rattle.paths.specs.PathsReading.{KeptAt}
use Rattle.paths.specs.LodgeRules.{Allowed, Denied, Unlodged, count_under}
use Rattle.paths.specs.LodgeRules.Denied.{full, high, few}
use Rattle.paths.specs.LodgeRules.Unlodged.{denied, cut}
use Rattle.paths.specs.LodgeTree.{LodgedBy}
use Rattle.paths.specs.LodgeKept.{LodgeAllowed, Lodges, LodgeIs, lodge_needs, events_at, LodgeNextLaw, LodgeRefusedLaw, LodgeFreeLaw}
use Rattle.paths.proofs.PathsWriting.{accepts_charge}
use Rattle.paths.proofs.PathsMemory.{kept_after, kept_read}
use Rattle.paths.proofs.PathsKept.{misread_kept, at_kept, leaf_count}
use Rattle.paths.proofs.PathsCopying.{only_short}
use Rattle.paths.proofs.LodgeAlone.{lodge_alone}
use Rattle.paths.proofs.LodgeClimbing.{allowed_same, denied_same}

lodge_copies : (m : Image) (limit total top : ℕ) (s : State) (a : ℕ) → Kept (contents m) limit total top s → a ≤ top → LodgeAllowed s a
    → Copies (contents m) limit total (suc total) top s a (lodge_needs s a) (lodge_step s a)
lodge_copies m limit total top s a k l d = (lodge_law (contents m) limit total top s a k l d.room).1

-- the questions at the state's own numbers
allowed : (m : Image) (limit total top : ℕ) (s : State) (a n : ℕ) → Kept (contents m) limit total top s
    → Allowed (count_under s.height (contents m) (root_of s.tree) a) (lodge_by s.height (contents m) (root_of s.tree) a s.free).next.height (needed s.height (contents m) (root_of s.tree) a) n
    → Allowed (events_at s a) (lodge_step s a).next.height (lodge_needs s a) n
allowed m limit total top s a n k d =
    let u = update_law (contents m) limit total top s a k in
    allowed_same _ _ _ _ _ _ n (leaf_count m limit total top s a k) (ap (λ (y : Update). y.next.height) u.0) u.2 d

denies : (m : Image) (limit total top : ℕ) (s : State) (a n : ℕ) (f : Fault) → Kept (contents m) limit total top s
    → Denied (count_under s.height (contents m) (root_of s.tree) a) (lodge_by s.height (contents m) (root_of s.tree) a s.free).next.height (needed s.height (contents m) (root_of s.tree) a) n f
    → Denied (events_at s a) (lodge_step s a).next.height (lodge_needs s a) n f
denies m limit total top s a n f k d =
    let u = update_law (contents m) limit total top s a k in
    denied_same _ _ _ _ _ _ n f (leaf_count m limit total top s a k) (ap (λ (y : Update). y.next.height) u.0) u.2 d

refuses : (m m' : Image) (s : State) (a : ℕ) (f : Fault) → s.height ≤ m.charge → m' ≡ after_reads m s.height
    → Denied (events_at s a) (lodge_step s a).next.height (lodge_needs s a) (length s.free) f → Lodges m s a (Err f) m'
refuses m m' s a f c i (full e p) = subst (λ (y : Fault). Lodges m s a (Err y) m') (sym e) (c, p, i)
refuses m m' s a f c i (high e p q) = subst (λ (y : Fault). Lodges m s a (Err y) m') (sym e) (c, p, q, i)
refuses m m' s a f c i (few e p q r) = subst (λ (y : Fault). Lodges m s a (Err y) m') (sym e) (c, p, q, r, i)

-- the pages that a lodge writes exist
exist : (m : Image) (limit total top : ℕ) (s : State) (a : ℕ) → Kept (contents m) limit total top s → limit ≤ length m.pages → a ≤ top → LodgeAllowed s a
    → AllByRecursion (Has (after_reads m s.height)) (tree.written (lodge_step s a).writes)
exist m limit total top s a k l t d =
    let In = λ (p : ℕ). (2 ≤ p) × (p ≤ limit) in
    subst (AllByRecursion (Has (after_reads m s.height))) (sym (lodge_copies m limit total top s a k t d).wrote)
    (All-weaker In (Has (after_reads m s.height)) (λ p h. (omega (arith, h.0), omega (arith, h.1))) _
    (All-take In (lodge_needs s a) s.free (range_law (contents m) limit total top s k).1))

breaks_off : (m m' : Image) (limit total top : ℕ) (s : State) (a : ℕ) (f : Fault) → Kept (contents m) limit total top s → limit ≤ length m.pages → a ≤ top → s.height ≤ m.charge → LodgeAllowed s a
    → Unwrites (lodge_step s a).writes (after_reads m s.height) f m' → Lodges m s a (Err f) m'
breaks_off m m' limit total top s a f k l t c d u =
    let o = only_short (lodge_step s a).writes (after_reads m s.height) m' f (exist m limit total top s a k l t d) u in
    subst (λ (z : Fault). Lodges m s a (Err z) m') (sym o.told) (c, d, o.runs)

unlodges : (m m' : Image) (limit total top : ℕ) (s : State) (a : ℕ) (f : Fault) → Kept (contents m) limit total top s → limit ≤ length m.pages → a ≤ top → s.height ≤ m.charge
    → Unlodged (after_reads m s.height) (count_under s.height (contents m) (root_of s.tree) a) (lodge_by s.height (contents m) (root_of s.tree) a s.free).next.height
    (needed s.height (contents m) (root_of s.tree) a) (length s.free) (lodge_by s.height (contents m) (root_of s.tree) a s.free).writes f m'
    → Lodges m s a (Err f) m'
unlodges m m' limit total top s a f k l t c (denied d i) = refuses m m' s a f c i (denies m limit total top s a (length s.free) f k d)
unlodges m m' limit total top s a f k l t c (cut d u) =
    breaks_off m m' limit total top s a f k l t c (allowed m limit total top s a (length s.free) k d)
    (subst (λ (y : Update). Unwrites y.writes (after_reads m s.height) f m') (update_law (contents m) limit total top s a k).0 u)

lodges_at : (m m' : Image) (limit total top : ℕ) (s : State) (a : ℕ) (r : Result Copied Fault) → KeptAt m (root_of s.tree) s.height limit total top s → a ≤ top
    → LodgedBy m s.height (root_of s.tree) a s.free r m' → Lodges m s a r m'
lodges_at m m' limit total top s a (Ok g) k t v =
    let u = update_law (contents m) limit total top s a k.kept in
    let d = allowed m limit total top s a (length s.free) k.kept v.allowed in
    let w = subst (λ (y : Update). Wrote y.writes (after_reads m s.height) m') u.0 v.wrote in
    let n = accepts_charge (lodge_step s a).writes (after_reads m s.height) w.accepts in
    let c = v.copied in
    record {
      allowed = d;
      carried = omega (arith, v.charged, n, (lodge_copies m limit total top s a k.kept t d).took);
      root = c.root ∙ ap (λ (y : Update). y.next.root) u.0;
      height = c.height ∙ ap (λ (y : Update). y.next.height) u.0;
      used = c.used ∙ ap (λ (y : Update). length y.writes) u.0;
      path = c.path ∙ u.3;
      wrote = w;
    }
lodges_at m m' limit total top s a (Err f) k t (inl x) =
    let o = misread_kept m m' (root_of s.tree) s.height limit total top s a f k x in
    subst (λ (y : Fault). Lodges m s a (Err y) m') (sym o.told) o.runs
lodges_at m m' limit total top s a (Err f) k t (inr x) = unlodges m m' limit total top s a f k.kept k.there t x.0 x.1

lodges : (m m' : Image) (root height a : ℕ) (free : List ℕ) (limit total top : ℕ) (s : State) (r : Result Copied Fault) → LodgedBy m height root a free r m'
    → KeptAt m root height limit total top s → free ≡ s.free → a ≤ top → Lodges m s a r m'
lodges m m' root height a free limit total top s r v k e t =
    lodges_at m m' limit total top s a r (record { kept = k.kept; there = k.there; root_is = refl; height_is = refl }) t
    (subst (λ (y : List ℕ). LodgedBy m s.height (root_of s.tree) a y r m') e (at_kept (λ h p. LodgedBy m h p a free r m') m root height limit total top s k v))

pub lodge_is : (m m' : Image) (root height a : ℕ) (free : List ℕ) (r : Result Copied Fault) → height ≤ 6 → LodgedBy m height root a free r m' → LodgeIs m root height a free r m'
lodge_is m m' root height a free r h v = record {
  always = λ _. v;
  above = λ l. absurd (omega arith);
  alone = lodge_alone m m' height root a free r v;
  kept = λ limit total top s k e t _. lodges m m' root height a free limit total top s r v k e t;
}

pub lodge_keeps : LodgeNextLaw
lodge_keeps m m' limit total top s a g k t d =
    kept_after (lodge_step s a).writes m m' s.height limit (suc total) top (lodge_step s a).next d.wrote (lodge_copies m limit total top s a k t d.allowed).kept

pub lodge_keeps_old : LodgeRefusedLaw
lodge_keeps_old m m' limit total top s a (Unread x) k t d = kept_read m m' m.charge limit total top s d.spent k
lodge_keeps_old m m' limit total top s a CountFull k t d = kept_read m m' s.height limit total top s d.2 k
lodge_keeps_old m m' limit total top s a HeightFull k t d = kept_read m m' s.height limit total top s d.3 k
lodge_keeps_old m m' limit total top s a Room k t d = kept_read m m' s.height limit total top s d.4 k
lodge_keeps_old m m' limit total top s a (Unwritten x) k t d =
    let w = d.2 in
    kept_after w.done m m' s.height limit total top s w.began ((lodge_copies m limit total top s a k t d.1).old w.done (w.next ∷ w.rest) w.writes)
lodge_keeps_old m m' limit total top s a Shut k t d = absurd d
lodge_keeps_old m m' limit total top s a Outside k t d = absurd d
lodge_keeps_old m m' limit total top s a Work k t d = absurd d
lodge_keeps_old m m' limit total top s a (Absent x) k t d = absurd d
lodge_keeps_old m m' limit total top s a NoHeader k t d = absurd d
lodge_keeps_old m m' limit total top s a OtherOrder k t d = absurd d
lodge_keeps_old m m' limit total top s a (Unsound p r) k t d = absurd d
lodge_keeps_old m m' limit total top s a NoEvent k t d = absurd d

pub lodge_frees : LodgeFreeLaw
lodge_frees m m' limit total top s a g k t d =
    let y = lodge_copies m limit total top s a k t d.allowed in
    y.freed ∙ ap (λ (n : ℕ). path_of s.tree a ++ drop n s.free) (sym (d.used ∙ y.took)) ∙ ap (λ (ps : List ℕ). ps ++ drop g.trade.used s.free) (sym d.path)
