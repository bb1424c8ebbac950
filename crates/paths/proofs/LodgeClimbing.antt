-- Each exit of lodge at a page.
use Rattle.std.proofs.Common.{◌≡◌, ℕ, zero, suc, ◌+◌, ◌<◌, ◌≤◌, Bool, true, false, cond, leb, List, [], ◌++◌, length, drop, Ok, Err, Result, sym, refl, ap, ◌∙◌, subst, inl, inr, arith, length-append}
use Rattle.pages.specs.Image.{Image, spent}
use Rattle.layout.specs.declared.entry.Entry.{Entry}
use Rattle.tree.specs.CopyWrites.{Write}
use Rattle.tree.specs.CopyMoves.{Split, Made}
use Rattle.tree.specs.CopyPages.{pick, swap, fit_inner}
use Rattle.tree.specs.CopyMemory.{place_at, lodge_at, leaf_at, page_splits_at, path_splits_at}
use Rattle.tree.specs.CopyDescent.{if_splits}
use Rattle.tree.proofs.CopyMemory.{place_writes, place_part, place_rest}
use Rattle.tree.proofs.CopyDescent.{descent_law, writes_law}
use Rattle.tree.specs.Tree.{Contents}
use Rattle.faults.specs.declared.fault.Fault.{Fault}
use Rattle.faults.specs.Accesses.{contents}
use Rattle.paths.specs.declared.place.Placed.{Placed}
use Rattle.paths.specs.declared.plan.Plan.{Plan}
use Rattle.paths.specs.PathsWrites.{after_reads, Wrote, Unwrites}
use Rattle.paths.specs.PathsPages.{Read, UnreadPage}
use Rattle.paths.specs.LodgePlaces.{pages_in, PlacedBy, Places}
use Rattle.paths.specs.LodgeRules.{Allowed, Denied, Unlodged, plan_below, Leafed, Lodged, count_under, height_under, takes_under}
use Rattle.paths.specs.LodgeRules.Denied.{full, high, few}
use Rattle.paths.specs.LodgeRules.Unlodged.{denied, cut}
use Rattle.paths.proofs.PathsWriting.{after_more, wrote_more, unwrites_more, unwrites_less}
use Rattle.paths.proofs.PathsReading.{Goes, at_child, misread_here, misread_below}

-- the questions are about numbers only
pub allowed_same : (c c' h h' t t' n : ℕ) → c ≡ c' → h ≡ h' → t ≡ t' → Allowed c h t n → Allowed c' h' t' n
allowed_same c c' h h' t t' n x y z w = record { count_low = omega (arith, w.count_low); height_low = omega (arith, w.height_low); room = omega (arith, w.room) }

pub denied_same : (c c' h h' t t' n : ℕ) (f : Fault) → c ≡ c' → h ≡ h' → t ≡ t' → Denied c h t n f → Denied c' h' t' n f
denied_same c c' h h' t t' n f x y z (full e p) = full e (omega arith)
denied_same c c' h h' t t' n f x y z (high e p q) = high e (omega arith) (omega arith)
denied_same c c' h h' t t' n f x y z (few e p q r) = few e (omega arith) (omega arith) (omega arith)

pub lodge_unread : (m m' : Image) (l p a : ℕ) (free : List ℕ) (x : Plan) (f : Fault) → 1 ≤ l → UnreadPage m p l f m' → Lodged m l p a free x (Err f) m'
lodge_unread m m' l p a free x f h u = inl (misread_here m m' l p a f h u)

leaf_one : (m m' : Image) (p a : ℕ) (free : List ℕ) (x : Plan) (r : Result Placed Fault) → 0 < m.charge → Leafed (after_reads m 1) (contents m p).entries a free x r m' → Lodged m 1 p a free x r m'
unfolding lodge_at leaf_at page_splits_at path_splits_at
leaf_one m m' p a free x (Ok g) c t = record { charged = omega arith; allowed = t.allowed; gives = t.gives; wrote = t.wrote }
leaf_one m m' p a free x (Err f) c t = inr (omega arith, t)

pub lodge_leafed : (m m₂ m' : Image) (l p a : ℕ) (free : List ℕ) (x : Plan) (es : List Entry) (r : Result Placed Fault) → l ≡ 1 → Read m p l es m₂ → Leafed m₂ es a free x r m' → Lodged m l p a free x r m'
lodge_leafed m m₂ m' l p a free x es r o g t =
    subst (λ (y : ℕ). Lodged m y p a free x r m') (sym o)
    (leaf_one m m' p a free x r g.charged
    (subst (λ (y : List Entry). Leafed (after_reads m 1) y a free x r m') g.holds (subst (λ (y : Image). Leafed y es a free x r m') g.spends t)))

-- what is handed down makes the numbers the same at every page of the path
split_down : (b : Bool) (g top : ℕ) → if_splits (cond b 0 g) top ≡ if_splits g (cond b 0 top)
split_down true zero top = refl
split_down true (suc g) top = refl
split_down false g top = refl

height_down : (h : ℕ) (m : Contents) (p a : ℕ) (x : Plan) → length (m p).entries ≤ 10
    → height_under (suc h) m (pick (m p).entries a) a (plan_below (length (m p).entries) x) ≡ height_under (suc (suc h)) m p a x
height_down h m p a x n =
    sym (ap (λ (g : ℕ). if_splits g x.height) (descent_law h m p a n).splits ∙ split_down (leb (length (m p).entries) 9) (page_splits_at (suc h) m (pick (m p).entries a) a) x.height)

takes_down : (h : ℕ) (m : Contents) (p a : ℕ) (x : Plan) → length (m p).entries ≤ 10
    → takes_under (suc h) m (pick (m p).entries a) a (plan_below (length (m p).entries) x) ≡ takes_under (suc (suc h)) m p a x
takes_down h m p a x n = sym ((descent_law h m p a n).needs x.base x.extra)

count_down : (h : ℕ) (m : Contents) (p a : ℕ) → count_under (suc h) m (pick (m p).entries a) a ≡ count_under (suc (suc h)) m p a
unfolding leaf_at
count_down h m p a = refl

-- the child's outcome, at the values that the theory has
abbrev Below : Image → ℕ → ℕ → ℕ → List ℕ → Plan → Result Placed Fault → Image → Type 0
Below m h p a free x r m' = Lodged (spent m) (suc h) (pick (contents m p).entries a) a free (plan_below (length (contents m p).entries) x) r m'

denied_up : (m m' : Image) (h p a : ℕ) (free : List ℕ) (x : Plan) (f : Fault) → length (contents m p).entries ≤ 10
    → Unlodged (after_reads (spent m) (suc h)) (count_under (suc h) (contents m) (pick (contents m p).entries a) a)
    (height_under (suc h) (contents m) (pick (contents m p).entries a) a (plan_below (length (contents m p).entries) x))
    (takes_under (suc h) (contents m) (pick (contents m p).entries a) a (plan_below (length (contents m p).entries) x)) (length free)
    (lodge_at (suc h) (contents m) (pick (contents m p).entries a) a free).writes f m'
    → Unlodged (after_reads m (suc (suc h))) (count_under (suc (suc h)) (contents m) p a) (height_under (suc (suc h)) (contents m) p a x) (takes_under (suc (suc h)) (contents m) p a x) (length free)
    (lodge_at (suc (suc h)) (contents m) p a free).writes f m'
unfolding lodge_at
denied_up m m' h p a free x f n (denied d e) =
    denied (denied_same _ _ _ _ _ _ _ f (count_down h (contents m) p a) (height_down h (contents m) p a x n) (takes_down h (contents m) p a x n) d) (e ∙ after_more m (suc h))
denied_up m m' h p a free x f n (cut d u) =
    let es : List Entry = (contents m p).entries in
    let k : Made (Split ℕ) = lodge_at (suc h) (contents m) (pick es a) a free in
    let s : Split (List Entry) = fit_inner (swap es a k.part) in
    let W : List Write = (place_at (suc (suc h)) s [] k.rest).writes in
    cut (allowed_same _ _ _ _ _ _ _ (count_down h (contents m) p a) (height_down h (contents m) p a x n) (takes_down h (contents m) p a x n) d)
    (subst (λ (ws : List Write). Unwrites ws (after_reads m (suc (suc h))) f m') (sym (place_writes (suc (suc h)) s k.writes k.rest))
    (unwrites_less k.writes W (after_reads m (suc (suc h))) m' f (subst (λ (y : Image). Unwrites k.writes y f m') (after_more m (suc h)) u)))

fails : (m m₂ m' : Image) (h k p a child : ℕ) (es : List Entry) (free : List ℕ) (x : Plan) (f : Fault) → Goes m m₂ (suc (suc h)) k p a child es → length (contents m p).entries ≤ 10
    → Below m h p a free x (Err f) m' → Lodged m (suc (suc h)) p a free x (Err f) m'
fails m m₂ m' h k p a child es free x f w n (inl t) =
    inl (misread_below (suc (suc h)) (suc h) m (spent m) m' p a (pick (contents m p).entries a) (contents m p).entries f
    (record { inner = w.inner; lower = omega arith; charged = w.charged; spends = refl; holds = refl; few = n; picks = refl }) t)
fails m m₂ m' h k p a child es free x f w n (inr t) = inr (omega (arith, t.0, w.charged), denied_up m m' h p a free x f n t.1)

-- the child's pages are written, and then this one's
joins : (m m₁ m' : Image) (h p a : ℕ) (free : List ℕ) (x : Plan) (used : ℕ) (r : Result Placed Fault)
    → suc (suc h) ≤ m.charge
    → Allowed (count_under (suc (suc h)) (contents m) p a) (height_under (suc (suc h)) (contents m) p a x) (takes_under (suc (suc h)) (contents m) p a x) (length free)
    → used ≡ 0 + length (lodge_at (suc h) (contents m) (pick (contents m p).entries a) a free).writes
    → Wrote (lodge_at (suc h) (contents m) (pick (contents m p).entries a) a free).writes (after_reads m (suc (suc h))) m₁
    → PlacedBy (place_at (suc (suc h)) (fit_inner (swap (contents m p).entries a (lodge_at (suc h) (contents m) (pick (contents m p).entries a) a free).part)) []
    (lodge_at (suc h) (contents m) (pick (contents m p).entries a) a free).rest) free used m₁ r m'
    → Lodged m (suc (suc h)) p a free x r m'
unfolding lodge_at
joins m m₁ m' h p a free x used (Ok g) c d q w v =
    let es : List Entry = (contents m p).entries in
    let k : Made (Split ℕ) = lodge_at (suc h) (contents m) (pick es a) a free in
    let s : Split (List Entry) = fit_inner (swap es a k.part) in
    let W : List Write = (place_at (suc (suc h)) s [] k.rest).writes in
    let e : (place_at (suc (suc h)) s k.writes k.rest).writes ≡ k.writes ++ W = place_writes (suc (suc h)) s k.writes k.rest in
    record {
      charged = c;
      allowed = d;
      gives = record {
        pages = v.0.pages ∙ sym (place_part (suc (suc h)) s k.writes k.rest);
        rest = v.0.rest ∙ sym (place_rest (suc (suc h)) s k.writes k.rest);
        uses = omega (arith, q, v.0.uses, ap length e, length-append k.writes W);
      };
      wrote = subst (λ (ws : List Write). Wrote ws (after_reads m (suc (suc h))) m') (sym e) (wrote_more k.writes W (after_reads m (suc (suc h))) m₁ m' w v.1);
    }
joins m m₁ m' h p a free x used (Err f) c d q w v =
    let es : List Entry = (contents m p).entries in
    let k : Made (Split ℕ) = lodge_at (suc h) (contents m) (pick es a) a free in
    let s : Split (List Entry) = fit_inner (swap es a k.part) in
    let W : List Write = (place_at (suc (suc h)) s [] k.rest).writes in
    let e : (place_at (suc (suc h)) s k.writes k.rest).writes ≡ k.writes ++ W = place_writes (suc (suc h)) s k.writes k.rest in
    inr (c, cut d (subst (λ (ws : List Write). Unwrites ws (after_reads m (suc (suc h))) f m') (sym e) (unwrites_more k.writes W (after_reads m (suc (suc h))) m₁ m' f w v)))

climbs : (m m₁ m' : Image) (h p a : ℕ) (free : List ℕ) (x : Plan) (g : Placed) (r : Result Placed Fault) → 0 < m.charge → length (contents m p).entries ≤ 10
    → Below m h p a free x (Ok g) m₁
    → Places m₁ (suc (suc h)) (fit_inner (swap (contents m p).entries a (pages_in g.pages))) free g.trade.used r m'
    → Lodged m (suc (suc h)) p a free x r m'
climbs m m₁ m' h p a free x g r c n t u =
    let es : List Entry = (contents m p).entries in
    let k : Made (Split ℕ) = lodge_at (suc h) (contents m) (pick es a) a free in
    let w : Wrote k.writes (after_reads m (suc (suc h))) m₁ = subst (λ (y : Image). Wrote k.writes y m₁) (after_more m (suc h)) t.wrote in
    let v : PlacedBy (place_at (suc (suc h)) (fit_inner (swap es a k.part)) [] k.rest) free g.trade.used m₁ r m' =
    subst (λ (y : List ℕ). PlacedBy (place_at (suc (suc h)) (fit_inner (swap es a k.part)) [] y) free g.trade.used m₁ r m') t.gives.rest
    (subst (λ (y : Split ℕ). PlacedBy (place_at (suc (suc h)) (fit_inner (swap es a y)) [] (drop g.trade.used free)) free g.trade.used m₁ r m') t.gives.pages u) in
    joins m m₁ m' h p a free x g.trade.used r (omega (arith, c, t.charged))
    (allowed_same _ _ _ _ _ _ _ (count_down h (contents m) p a) (height_down h (contents m) p a x n) (takes_down h (contents m) p a x n) t.allowed) t.gives.uses w v

ten : {m m₂ : Image} {l k p a child : ℕ} {es : List Entry} → Goes m m₂ l k p a child es → length (contents m p).entries ≤ 10
ten w = omega (arith, w.few, ap length w.holds)

below : (m m₂ m' : Image) (h k p a child : ℕ) (es : List Entry) (free : List ℕ) (x y : Plan) (r : Result Placed Fault) → Goes m m₂ (suc (suc h)) k p a child es → y ≡ plan_below (length es) x
    → Lodged m₂ k child a free y r m' → Below m h p a free x r m'
below m m₂ m' h k p a child es free x y r w e t =
    subst (λ (z : Plan). Lodged (spent m) (suc h) (pick (contents m p).entries a) a free z r m') (e ∙ ap (λ (z : List Entry). plan_below (length z) x) w.holds)
    (at_child (λ u v z. Lodged u v z a free y r m') m m₂ h k p a child es w t)

-- the child's plan is that of the page's own length
pub plan_at : (n : ℕ) (es : List Entry) (x y : Plan) → y ≡ plan_below n x → n ≡ length es → y ≡ plan_below (length es) x
plan_at n es x y e q = e ∙ ap (λ (k : ℕ). plan_below k x) q

pub same_base : (n : ℕ) (x y : Plan) → y ≡ plan_below n x → y.base ≡ x.base
same_base n x y e = ap (λ (z : Plan). z.base) e

pub lodge_fails : (l k : ℕ) (m m₂ m' : Image) (p a child : ℕ) (es : List Entry) (free : List ℕ) (x y : Plan) (f : Fault) → Goes m m₂ l k p a child es → y ≡ plan_below (length es) x
    → Lodged m₂ k child a free y (Err f) m' → Lodged m l p a free x (Err f) m'
lodge_fails zero k m m₂ m' p a child es free x y f w e t = absurd (omega (arith, w.inner))
lodge_fails (suc zero) k m m₂ m' p a child es free x y f w e t = absurd (omega (arith, w.inner))
lodge_fails (suc (suc h)) k m m₂ m' p a child es free x y f w e t =
    fails m m₂ m' h k p a child es free x f w (ten w) (below m m₂ m' h k p a child es free x y (Err f) w e t)

pub lodge_climbs : (l k : ℕ) (m m₂ m₁ m' : Image) (p a child : ℕ) (es : List Entry) (free : List ℕ) (x y : Plan) (g : Placed) (s : Split (List Entry)) (r : Result Placed Fault)
    → Goes m m₂ l k p a child es → y ≡ plan_below (length es) x → Lodged m₂ k child a free y (Ok g) m₁
    → s ≡ fit_inner (swap es a (pages_in g.pages)) → Places m₁ l s free g.trade.used r m' → Lodged m l p a free x r m'
lodge_climbs zero k m m₂ m₁ m' p a child es free x y g s r w e t q u = absurd (omega (arith, w.inner))
lodge_climbs (suc zero) k m m₂ m₁ m' p a child es free x y g s r w e t q u = absurd (omega (arith, w.inner))
lodge_climbs (suc (suc h)) k m m₂ m₁ m' p a child es free x y g s r w e t q u =
    climbs m m₁ m' h p a free x g r w.charged (ten w) (below m m₂ m₁ h k p a child es free x y (Ok g) w e t)
    (subst (λ (z : Split (List Entry)). Places m₁ (suc (suc h)) z free g.trade.used r m') (q ∙ ap (λ (z : List Entry). fit_inner (swap z a (pages_in g.pages))) w.holds) u)

-- the free pages suffice for this page, after those below
pub lodge_room : (m₂ m₁ : Image) (k child a : ℕ) (free : List ℕ) (y : Plan) (g : Placed) → k ≤ y.base → Lodged m₂ k child a free y (Ok g) m₁ → g.trade.used + 2 ≤ length free
lodge_room m₂ m₁ k child a free y g h t = omega (arith, h, t.allowed.room, t.gives.uses, (writes_law k (contents m₂) child a free).lodges)
