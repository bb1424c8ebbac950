-- Each exit of withdraw at a page.
use Rattle.std.proofs.Common.{◌≡◌, ℕ, zero, suc, ◌+◌, ◌<◌, ◌≤◌, List, [], ◌++◌, length, drop, None, Ok, Err, Result, sym, refl, ap, ◌∙◌, subst, arith, length-append}
use Rattle.pages.specs.Image.{Image, spent}
use Rattle.layout.specs.declared.entry.Entry.{Entry}
use Rattle.layout.specs.Edits.{found}
use Rattle.tree.specs.Tree.{Held}
use Rattle.tree.specs.CopyWrites.{Write}
use Rattle.tree.specs.CopyMoves.{Made, remove}
use Rattle.tree.specs.CopyPages.{pick, clear}
use Rattle.tree.specs.CopyMemory.{place_left_at, withdraw_at, leaf_at}
use Rattle.tree.proofs.CopyMemory.{place_left_writes, place_left_part, place_left_rest}
use Rattle.tree.proofs.CopyDescent.{writes_law}
use Rattle.faults.specs.declared.fault.Fault.{Fault}
use Rattle.faults.specs.declared.fault.Fault.TheVariants.{NoEvent}
use Rattle.faults.specs.Accesses.{contents}
use Rattle.paths.specs.declared.left.Left.{Left}
use Rattle.paths.specs.WithdrawEdits.{LessOne, left_of}
use Rattle.paths.specs.PathsWrites.{after_reads, Wrote, Unwrites}
use Rattle.paths.specs.PathsPages.{Read, UnreadPage}
use Rattle.paths.specs.PathsReading.{Misread}
use Rattle.paths.specs.Withdrawals.{Placed, PlacesLeft, Refusal, Done, Withdrawn}
use Rattle.paths.specs.Withdrawals.Refusal.{misread, no_event, unwrites}
use Rattle.paths.proofs.PathsWriting.{wrote_more, unwrites_more, unwrites_less, after_more}
use Rattle.paths.proofs.PathsReading.{Goes, at_child, misread_here, misread_below}

pub unread_here : (m m' : Image) (l p a : ℕ) (free : List ℕ) (f : Fault) → 1 ≤ l → UnreadPage m p l f m' → Refusal m l p a free f m'
unread_here m m' l p a free f h u = misread (misread_here m m' l p a f h u)

-- at a leaf
leaf_none_one : (m m' : Image) (p a : ℕ) (free : List ℕ) (es : List Entry) → Read m p 1 es m' → found a es ≡ None → Refusal m 1 p a free NoEvent m'
unfolding leaf_at
leaf_none_one m m' p a free es o n = no_event refl (omega (arith, o.charged)) (ap (found a) (sym o.holds) ∙ n) o.spends

pub leaf_none : (m m' : Image) (l p a : ℕ) (free : List ℕ) (es : List Entry) → l ≡ 1 → Read m p l es m' → found a es ≡ None → Refusal m l p a free NoEvent m'
leaf_none m m' l p a free es e o n =
    subst (λ (x : ℕ). Refusal m x p a free NoEvent m') (sym e)
    (leaf_none_one m m' p a free es (subst (λ (x : ℕ). Read m p x es m') e o) n)

leaf_left_one : (m m' : Image) (p a : ℕ) (free : List ℕ) (r : Result Left Fault) → 0 < m.charge → (found a (contents m p).entries ≡ None → ⊥)
    → Placed (place_left_at 1 (remove a (contents m p).entries) [] free) free 0 (after_reads m 1) r m' → Withdrawn m 1 p a free r m'
unfolding leaf_at withdraw_at
leaf_left_one m m' p a free (Ok g) c n t = record { charged = omega arith; event = n; gives = t.0; wrote = t.1 }
leaf_left_one m m' p a free (Err f) c n t = unwrites (omega arith) n t

pub leaf_left : (m m₂ m' : Image) (l p a : ℕ) (free : List ℕ) (es ds : List Entry) (r : Result Left Fault) → l ≡ 1 → Read m p l es m₂ → LessOne a es ds
    → PlacesLeft m₂ 1 ds free 0 r m' → Withdrawn m l p a free r m'
leaf_left m m₂ m' l p a free es ds r e o t u =
    let d : ds ≡ remove a (contents m p).entries = t.less ∙ ap (remove a) o.holds in
    let v : Placed (place_left_at 1 (remove a (contents m p).entries) [] free) free 0 (after_reads m 1) r m' =
    subst (λ (x : List Entry). Placed (place_left_at 1 x [] free) free 0 (after_reads m 1) r m') d
    (subst (λ (x : Image). Placed (place_left_at 1 ds [] free) free 0 x r m') o.spends u) in
    subst (λ (x : ℕ). Withdrawn m x p a free r m') (sym e)
    (leaf_left_one m m' p a free r o.charged (λ n. t.event (ap (found a) o.holds ∙ n)) v)

-- a page of the path, at the values that the memory has
goes_at : (m : Image) (h p a : ℕ) → 0 < m.charge → length (contents m p).entries ≤ 10 → Goes m (spent m) (suc (suc h)) (suc h) p a (pick (contents m p).entries a) (contents m p).entries
goes_at m h p a c few = record { inner = omega arith; lower = omega arith; charged = c; spends = refl; holds = refl; few = few; picks = refl }

misread_up : (m m' : Image) (h p a : ℕ) (f : Fault) → 0 < m.charge → length (contents m p).entries ≤ 10 → Misread (spent m) (suc h) (pick (contents m p).entries a) a f m' → Misread m (suc (suc h)) p a f m'
misread_up m m' h p a f c few t = misread_below (suc (suc h)) (suc h) m (spent m) m' p a (pick (contents m p).entries a) (contents m p).entries f (goes_at m h p a c few) t

fails : (m m' : Image) (h p a : ℕ) (free : List ℕ) (f : Fault) → 0 < m.charge → Refusal (spent m) (suc h) (pick (contents m p).entries a) a free f m'
    → (Misread (spent m) (suc h) (pick (contents m p).entries a) a f m' → Misread m (suc (suc h)) p a f m') → Refusal m (suc (suc h)) p a free f m'
unfolding withdraw_at leaf_at
fails m m' h p a free f c (misread t) u = misread (u t)
fails m m' h p a free f c (no_event e n x i) u = no_event e (omega (arith, n)) x (i ∙ after_more m (suc h))
fails m m' h p a free f c (unwrites n x b) u =
    let es : List Entry = (contents m p).entries in
    let k : Made (Held ℕ) = withdraw_at (suc h) (contents m) (pick es a) a free in
    let ds : List Entry = clear es a k.part in
    let W : List Write = (place_left_at (suc (suc h)) ds [] k.rest).writes in
    unwrites (omega (arith, n)) x
    (subst (λ (ws : List Write). Unwrites ws (after_reads m (suc (suc h))) f m') (sym (place_left_writes (suc (suc h)) ds k.writes k.rest))
    (unwrites_less k.writes W (after_reads m (suc (suc h))) m' f (subst (λ (y : Image). Unwrites k.writes y f m') (after_more m (suc h)) b)))

-- by cases on what the writing of this page gives
joins : (m m₁ m' : Image) (h p a : ℕ) (free : List ℕ) (used : ℕ) (r : Result Left Fault) → suc (suc h) ≤ m.charge
    → (found a (leaf_at (suc h) (contents m) (pick (contents m p).entries a) a) ≡ None → ⊥)
    → used ≡ 0 + length (withdraw_at (suc h) (contents m) (pick (contents m p).entries a) a free).writes
    → Wrote (withdraw_at (suc h) (contents m) (pick (contents m p).entries a) a free).writes (after_reads m (suc (suc h))) m₁
    → Placed (place_left_at (suc (suc h)) (clear (contents m p).entries a (withdraw_at (suc h) (contents m) (pick (contents m p).entries a) a free).part) []
    (withdraw_at (suc h) (contents m) (pick (contents m p).entries a) a free).rest) free used m₁ r m'
    → Withdrawn m (suc (suc h)) p a free r m'
unfolding withdraw_at leaf_at
joins m m₁ m' h p a free used (Ok x) c n q w v =
    let es : List Entry = (contents m p).entries in
    let k : Made (Held ℕ) = withdraw_at (suc h) (contents m) (pick es a) a free in
    let ds : List Entry = clear es a k.part in
    let W : List Write = (place_left_at (suc (suc h)) ds [] k.rest).writes in
    let e : (place_left_at (suc (suc h)) ds k.writes k.rest).writes ≡ k.writes ++ W = place_left_writes (suc (suc h)) ds k.writes k.rest in
    record {
      charged = c;
      event = n;
      gives = record {
        part = v.0.part ∙ sym (place_left_part (suc (suc h)) ds k.writes k.rest);
        rest = v.0.rest ∙ sym (place_left_rest (suc (suc h)) ds k.writes k.rest);
        uses = omega (arith, q, v.0.uses, ap length e, length-append k.writes W);
      };
      wrote = subst (λ (ws : List Write). Wrote ws (after_reads m (suc (suc h))) m') (sym e) (wrote_more k.writes W (after_reads m (suc (suc h))) m₁ m' w v.1);
    }
joins m m₁ m' h p a free used (Err f) c n q w v =
    let es : List Entry = (contents m p).entries in
    let k : Made (Held ℕ) = withdraw_at (suc h) (contents m) (pick es a) a free in
    let ds : List Entry = clear es a k.part in
    let W : List Write = (place_left_at (suc (suc h)) ds [] k.rest).writes in
    let e : (place_left_at (suc (suc h)) ds k.writes k.rest).writes ≡ k.writes ++ W = place_left_writes (suc (suc h)) ds k.writes k.rest in
    unwrites c n (subst (λ (ws : List Write). Unwrites ws (after_reads m (suc (suc h))) f m') (sym e) (unwrites_more k.writes W (after_reads m (suc (suc h))) m₁ m' f w v))

-- the child's pages are written, and then this one's
climbs : (m m₁ m' : Image) (h p a : ℕ) (free : List ℕ) (g : Left) (r : Result Left Fault) → 0 < m.charge
    → Done (spent m) (suc h) (pick (contents m p).entries a) a free g m₁
    → PlacesLeft m₁ (suc (suc h)) (clear (contents m p).entries a (left_of g.page)) free g.trade.used r m'
    → Withdrawn m (suc (suc h)) p a free r m'
climbs m m₁ m' h p a free g r c t u =
    let es : List Entry = (contents m p).entries in
    let k : Made (Held ℕ) = withdraw_at (suc h) (contents m) (pick es a) a free in
    let w : Wrote k.writes (after_reads m (suc (suc h))) m₁ = subst (λ (x : Image). Wrote k.writes x m₁) (after_more m (suc h)) t.wrote in
    let v : Placed (place_left_at (suc (suc h)) (clear es a k.part) [] k.rest) free g.trade.used m₁ r m' =
    subst (λ (x : List ℕ). Placed (place_left_at (suc (suc h)) (clear es a k.part) [] x) free g.trade.used m₁ r m') t.gives.rest
    (subst (λ (x : Held ℕ). Placed (place_left_at (suc (suc h)) (clear es a x) [] (drop g.trade.used free)) free g.trade.used m₁ r m') t.gives.part u) in
    joins m m₁ m' h p a free g.trade.used r (omega (arith, t.charged)) t.event t.gives.uses w v

pub inner_fails : (l k : ℕ) (m m₂ m' : Image) (p a child : ℕ) (free : List ℕ) (es : List Entry) (f : Fault) → Goes m m₂ l k p a child es
    → Refusal m₂ k child a free f m' → Refusal m l p a free f m'
inner_fails zero k m m₂ m' p a child free es f w t = absurd (omega (arith, w.inner))
inner_fails (suc zero) k m m₂ m' p a child free es f w t = absurd (omega (arith, w.inner))
inner_fails (suc (suc h)) k m m₂ m' p a child free es f w t =
    fails m m' h p a free f w.charged (at_child (λ x y z. Refusal x y z a free f m') m m₂ h k p a child es w t) (misread_up m m' h p a f w.charged (subst (λ (x : List Entry). length x ≤ 10) w.holds w.few))

pub inner_climbs : (l k : ℕ) (m m₂ m₁ m' : Image) (p a child : ℕ) (free : List ℕ) (es ds : List Entry) (g : Left) (r : Result Left Fault) → Goes m m₂ l k p a child es
    → Done m₂ k child a free g m₁ → ds ≡ clear es a (left_of g.page) → PlacesLeft m₁ l ds free g.trade.used r m' → Withdrawn m l p a free r m'
inner_climbs zero k m m₂ m₁ m' p a child free es ds g r w t e u = absurd (omega (arith, w.inner))
inner_climbs (suc zero) k m m₂ m₁ m' p a child free es ds g r w t e u = absurd (omega (arith, w.inner))
inner_climbs (suc (suc h)) k m m₂ m₁ m' p a child free es ds g r w t e u =
    climbs m m₁ m' h p a free g r w.charged (at_child (λ x y z. Done x y z a free g m₁) m m₂ h k p a child es w t)
    (subst (λ (x : List Entry). PlacesLeft m₁ (suc (suc h)) x free g.trade.used r m') (e ∙ ap (λ (x : List Entry). clear x a (left_of g.page)) w.holds) u)

-- the pages used below are at most one for each level
pub used_below : (m m₁ : Image) (k p a : ℕ) (free : List ℕ) (g : Left) → Done m k p a free g m₁ → g.trade.used ≤ k
used_below m m₁ k p a free g t = omega (arith, t.gives.uses, (writes_law k (contents m) p a free).withdraws)
