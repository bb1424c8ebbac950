-- A new root, the first leaf, and the whole tree.
use Rattle.std.proofs.Common.{◌≡◌, ℕ, zero, suc, ◌+◌, ◌<◌, ◌≤◌, List, [], ◌∷◌, ◌++◌, reverse, length, get_or, drop, Ok, Err, Result, sym, refl, ap, ◌∙◌, subst, inl, inr, arith, length-append}
use Rattle.std.specs.Prelude.{IfOk}
use Rattle.std.proofs.lemmas.List.{drop_more}
use Rattle.paths.specs.declared.old_pages.OldPages.{OldPages}
use Rattle.paths.specs.OldPages.{old_pages}
use Rattle.pages.specs.Image.{Image}
use Rattle.layout.specs.declared.change.ChildPages.{ChildPages}
use Rattle.layout.specs.declared.change.ChildPages.TheVariants.{Two}
use Rattle.layout.specs.declared.page_ref.PageRef.{PageRef}
use Rattle.tree.specs.Tree.{Contents}
use Rattle.tree.specs.CopyWrites.{Write}
use Rattle.tree.specs.CopyMoves.{Split, Made, entry}
use Rattle.tree.specs.CopyMoves.Split.{one, two}
use Rattle.tree.specs.CopyMemory.{lodge_at, path_at, leaf_at, page_splits_at, path_splits_at}
use Rattle.tree.specs.CopyDescent.{if_splits, parts}
use Rattle.tree.specs.CopyUpdate.{new_root_at, raised_at, lodge_by, needed}
use Rattle.tree.proofs.CopyUpdate.{new_root_writes}
use Rattle.tree.proofs.CopyDescent.{writes_law}
use Rattle.faults.specs.declared.fault.Fault.{Fault}
use Rattle.faults.specs.declared.fault.Fault.TheVariants.{Room}
use Rattle.faults.specs.Accesses.{contents}
use Rattle.paths.specs.declared.copied.Copied.{Copied}
use Rattle.paths.specs.declared.place.Placed.{Placed}
use Rattle.paths.specs.declared.plan.Plan.{Plan}
use Rattle.paths.specs.PathsWrites.{after_reads, Wrote, Unwrites}
use Rattle.paths.specs.PathsPages.{write_of}
use Rattle.paths.specs.PathsReading.{IsPath, Misread}
use Rattle.paths.specs.PathsReading.Misread.{refused, broken}
use Rattle.paths.specs.LodgePlaces.{pages_in}
use Rattle.paths.specs.LodgeRules.{Allowed, Denied, Lodged, count_under, height_under, takes_under}
use Rattle.paths.specs.LodgeRules.Denied.{full, high, few}
use Rattle.paths.specs.LodgeRules.Unlodged.{denied, cut}
use Rattle.paths.specs.LodgeTree.{Rooted, Roots, LodgedBy}
use Rattle.paths.proofs.PathsBack.{same_path}
use Rattle.paths.proofs.PathsWriting.{after_none, wrote_more, unwrites_more, unwrites_less}

at_front : (h used p v k w : ℕ) (free : List ℕ) (pages : ChildPages) (m m' : Image) (r : Result Copied Fault) → used + 1 ≤ length free → p ≡ get_or free used 0 → pages ≡ Two v k w
    → Rooted (new_root_at h (two v k w) [] (p ∷ drop (used + 1) free)) (suc h) used m r m' → Roots m h (pages_in pages) free used r m'
at_front h used p v k w free pages m m' r n e q t =
    subst (λ (x : ChildPages). Roots m h (pages_in x) free used r m') (sym q)
    (subst (λ (z : List ℕ). Rooted (new_root_at h (two v k w) [] z) (suc h) used m r m')
    (sym (drop_more free used 0 (omega arith) ∙ ap (λ (x : ℕ). x ∷ drop (used + 1) free) (sym e))) t)

pub root_refused : (h used p v k w : ℕ) (free : List ℕ) (pages : ChildPages) (m m' : Image) (f : Fault) → used + 1 ≤ length free → p ≡ get_or free used 0 → pages ≡ Two v k w
    → Unwrites (write_of (h + 1) p (entry k v ∷ (entry 0 w ∷ [])) ∷ []) m f m' → Roots m h (pages_in pages) free used (Err f) m'
root_refused h used p v k w free pages m m' f n e q u =
    let s : h + 1 ≡ suc h = omega arith in
    at_front h used p v k w free pages m m' (Err f) n e q (subst (λ (x : ℕ). Unwrites (write_of x p (entry k v ∷ (entry 0 w ∷ [])) ∷ []) m f m') s u)

pub root_made : (h used p v k w : ℕ) (free : List ℕ) (pages : ChildPages) (m m' : Image) (g : Copied) → used + 1 ≤ length free → p ≡ get_or free used 0 → pages ≡ Two v k w
    → Wrote (write_of (h + 1) p (entry k v ∷ (entry 0 w ∷ [])) ∷ []) m m' → g.root ≡ record { page = p; level = h + 1 } → g.trade.used ≡ used + 1
    → Roots m h (pages_in pages) free used (Ok g) m'
root_made h used p v k w free pages m m' g n e q t r u =
    let s : h + 1 ≡ suc h = omega arith in
    at_front h used p v k w free pages m m' (Ok g) n e q
    (record {
      root = ap (λ (x : PageRef). x.page) r;
      height = ap (λ (x : PageRef). x.level) r ∙ s;
      uses = u;
      wrote = subst (λ (x : ℕ). Wrote (write_of x p (entry k v ∷ (entry 0 w ∷ [])) ∷ []) m m') s t;
    })

new_root_part : (h : ℕ) (s : Split ℕ) (ws : List Write) (free : List ℕ) → (new_root_at h s ws free).part ≡ (new_root_at h s [] free).part
new_root_part h (one p) ws free = refl
new_root_part h (two p k q) ws free = refl

-- the numbers at the root
raised : (s : Split ℕ) (h : ℕ) → raised_at s h ≡ h + parts s
raised (one p) h = omega arith
raised (two p k q) h = omega arith

abbrev root_plan : ℕ → Plan
root_plan h = record { base = h; extra = 1; height = h + 1 }

splits_once : (g : ℕ) → g ≤ 1 → if_splits g 1 ≡ g
splits_once zero h = refl
splits_once (suc zero) h = refl
splits_once (suc (suc g)) h = absurd (omega arith)

stays_low : (h g : ℕ) → g ≤ 1 → h ≤ 6 → if_splits g (h + 1) ≤ 6 → h + g ≤ 6
stays_low h zero l s t = omega arith
stays_low h (suc zero) l s t = omega arith
stays_low h (suc (suc g)) l s t = absurd (omega arith)

rises_high : (h g : ℕ) → g ≤ 1 → 6 < if_splits g (h + 1) → 6 < h + g
rises_high h zero l t = absurd (omega arith)
rises_high h (suc zero) l t = omega arith
rises_high h (suc (suc g)) l t = absurd (omega arith)

height_is : (h : ℕ) (m : Contents) (p a : ℕ) (free : List ℕ) → (lodge_by (suc h) m p a free).next.height ≡ suc h + page_splits_at (suc h) m p a
height_is h m p a free = raised (lodge_at (suc h) m p a free).part (suc h) ∙ ap (λ (n : ℕ). suc h + n) (writes_law (suc h) m p a free).splits

takes_is : (h : ℕ) (m : Contents) (p a : ℕ) → takes_under (suc h) m p a (root_plan (suc h)) ≡ needed (suc h) m p a
takes_is h m p a = ap (λ (n : ℕ). suc h + path_splits_at (suc h) m p a + n) (splits_once (page_splits_at (suc h) m p a) (writes_law (suc h) m p a []).splits_once)

root_allowed : (h n : ℕ) (m : Contents) (p a : ℕ) (free : List ℕ) → suc h ≤ 6 → Allowed (count_under (suc h) m p a) (height_under (suc h) m p a (root_plan (suc h))) (takes_under (suc h) m p a (root_plan (suc h))) n
    → Allowed (count_under (suc h) m p a) (lodge_by (suc h) m p a free).next.height (needed (suc h) m p a) n
root_allowed h n m p a free l d = record {
  count_low = d.count_low;
  height_low = omega (arith, height_is h m p a free, stays_low (suc h) (page_splits_at (suc h) m p a) (writes_law (suc h) m p a []).splits_once l d.height_low);
  room = omega (arith, d.room, takes_is h m p a);
}

root_denied : (h n : ℕ) (m : Contents) (p a : ℕ) (free : List ℕ) (f : Fault) → suc h ≤ 6 → Denied (count_under (suc h) m p a) (height_under (suc h) m p a (root_plan (suc h))) (takes_under (suc h) m p a (root_plan (suc h))) n f
    → Denied (count_under (suc h) m p a) (lodge_by (suc h) m p a free).next.height (needed (suc h) m p a) n f
root_denied h n m p a free f l (full e c) = full e c
root_denied h n m p a free f l (high e c t) = high e c (omega (arith, height_is h m p a free, rises_high (suc h) (page_splits_at (suc h) m p a) (writes_law (suc h) m p a []).splits_once t))
root_denied h n m p a free f l (few e c t r) =
    few e c (omega (arith, height_is h m p a free, stays_low (suc h) (page_splits_at (suc h) m p a) (writes_law (suc h) m p a []).splits_once l t)) (omega (arith, r, takes_is h m p a))

-- the path's pages are refused
root_fails : (h : ℕ) (m m' : Image) (p a : ℕ) (free : List ℕ) (f : Fault) → suc h ≤ 6 → Lodged m (suc h) p a free (root_plan (suc h)) (Err f) m' → LodgedBy m (suc h) p a free (Err f) m'
root_fails h m m' p a free f l (inl t) = inl t
root_fails h m m' p a free f l (inr (c, denied d e)) = inr (c, denied (root_denied h (length free) (contents m) p a free f l d) e)
root_fails h m m' p a free f l (inr (c, cut d u)) =
    let k : Made (Split ℕ) = lodge_at (suc h) (contents m) p a free in
    inr (
      c,
      cut (root_allowed h (length free) (contents m) p a free l d)
          (subst (λ (ws : List Write). Unwrites ws (after_reads m (suc h)) f m') (sym (new_root_writes (suc h) k.part k.writes k.rest))
          (unwrites_less k.writes (new_root_at (suc h) k.part [] k.rest).writes (after_reads m (suc h)) m' f u)),
    )

pub tree_fails : (h : ℕ) (m m' : Image) (p a : ℕ) (free : List ℕ) (f : Fault) → 1 ≤ h → h ≤ 6 → Lodged m h p a free (record { base = h; extra = 1; height = h + 1 }) (Err f) m' → LodgedBy m h p a free (Err f) m'
tree_fails zero m m' p a free f o l t = absurd (omega arith)
tree_fails (suc h) m m' p a free f o l t = root_fails h m m' p a free f l t

-- they are written, and then the new root
root_ends : (h : ℕ) (m m₁ m' : Image) (p a used : ℕ) (free : List ℕ) (r : Result Copied Fault)
    → suc h ≤ m.charge
    → Allowed (count_under (suc h) (contents m) p a) (lodge_by (suc h) (contents m) p a free).next.height (needed (suc h) (contents m) p a) (length free)
    → used ≡ 0 + length (lodge_at (suc h) (contents m) p a free).writes
    → Wrote (lodge_at (suc h) (contents m) p a free).writes (after_reads m (suc h)) m₁
    → IfOk r (λ g. IsPath m (suc h) p a (old_pages g.trade.path))
    → Rooted (new_root_at (suc h) (lodge_at (suc h) (contents m) p a free).part [] (lodge_at (suc h) (contents m) p a free).rest) (raised_at (lodge_at (suc h) (contents m) p a free).part (suc h)) used m₁ r m'
    → LodgedBy m (suc h) p a free r m'
root_ends h m m₁ m' p a used free (Ok g) c d q w b v =
    let k : Made (Split ℕ) = lodge_at (suc h) (contents m) p a free in
    let W : List Write = (new_root_at (suc h) k.part [] k.rest).writes in
    let e : (new_root_at (suc h) k.part k.writes k.rest).writes ≡ k.writes ++ W = new_root_writes (suc h) k.part k.writes k.rest in
    record {
      charged = c;
      allowed = d;
      copied = record {
        root = v.root ∙ sym (new_root_part (suc h) k.part k.writes k.rest);
        height = v.height;
        used = omega (arith, q, v.uses, ap length e, length-append k.writes W);
        path = b;
      };
      wrote = subst (λ (ws : List Write). Wrote ws (after_reads m (suc h)) m') (sym e) (wrote_more k.writes W (after_reads m (suc h)) m₁ m' w v.wrote);
    }
root_ends h m m₁ m' p a used free (Err f) c d q w b v =
    let k : Made (Split ℕ) = lodge_at (suc h) (contents m) p a free in
    let W : List Write = (new_root_at (suc h) k.part [] k.rest).writes in
    inr (
      c,
      cut d (subst (λ (ws : List Write). Unwrites ws (after_reads m (suc h)) f m') (sym (new_root_writes (suc h) k.part k.writes k.rest))
          (unwrites_more k.writes W (after_reads m (suc h)) m₁ m' f w v)),
    )

pub tree_roots : (h : ℕ) (m m₁ m' : Image) (p a : ℕ) (free : List ℕ) (g : Placed) (path : OldPages) (r : Result Copied Fault) → 1 ≤ h → h ≤ 6
    → Lodged m h p a free (record { base = h; extra = 1; height = h + 1 }) (Ok g) m₁ → IsPath m h p a (old_pages path) → IfOk r (λ c. c.trade.path ≡ path)
    → Roots m₁ h (pages_in g.pages) free g.trade.used r m' → LodgedBy m h p a free r m'
tree_roots zero m m₁ m' p a free g path r o l t b i u = absurd (omega arith)
tree_roots (suc h) m m₁ m' p a free g path r o l t b i u =
    let k : Made (Split ℕ) = lodge_at (suc h) (contents m) p a free in
    let v : Rooted (new_root_at (suc h) k.part [] k.rest) (raised_at k.part (suc h)) g.trade.used m₁ r m' =
    subst (λ (x : List ℕ). Rooted (new_root_at (suc h) k.part [] x) (raised_at k.part (suc h)) g.trade.used m₁ r m') t.gives.rest
    (subst (λ (x : Split ℕ). Rooted (new_root_at (suc h) x [] (drop g.trade.used free)) (raised_at x (suc h)) g.trade.used m₁ r m') t.gives.pages u) in
    root_ends h m m₁ m' p a g.trade.used free r t.charged (root_allowed h (length free) (contents m) p a free l t.allowed) t.gives.uses t.wrote (same_path (λ (c : Copied). c.trade.path) m (suc h) p a path r b i) v

-- the first page of all
first_allowed : (m : Image) (p a : ℕ) (free : List ℕ) → 7 ≤ length free → Allowed (count_under 0 (contents m) p a) 1 1 (length free)
unfolding leaf_at
first_allowed m p a free n = record { count_low = omega arith; height_low = omega arith; room = omega arith }

pub first_few : (m : Image) (p a n : ℕ) (free : List ℕ) → n ≡ length free → n < 7 → LodgedBy m 0 p a free (Err Room) m
unfolding leaf_at
first_few m p a n free e l = inr (omega arith, denied (few refl (omega arith) (omega arith) (omega arith)) (after_none m))

pub first_refused : (m m' : Image) (p a q n : ℕ) (free : List ℕ) (f : Fault) → n ≡ length free → 7 ≤ n → q ≡ get_or free 0 0
    → Unwrites (write_of 1 q (entry a 1 ∷ []) ∷ []) m f m' → LodgedBy m 0 p a free (Err f) m'
first_refused m m' p a q n [] f e l z u = absurd (omega (arith, e, l))
first_refused m m' p a q n (x ∷ xs) f e l z u =
    inr (
      omega arith,
      cut (first_allowed m p a (x ∷ xs) (omega (arith, e, l)))
          (subst (λ (y : ℕ). Unwrites (write_of 1 y (entry a 1 ∷ []) ∷ []) (after_reads m 0) f m') z (subst (λ (y : Image). Unwrites (write_of 1 q (entry a 1 ∷ []) ∷ []) y f m') (after_none m) u)),
    )

pub first_made : (m m' : Image) (p a q n next : ℕ) (free : List ℕ) (path : OldPages) → next ≡ 1 → old_pages path ≡ [] → n ≡ length free → 7 ≤ n → q ≡ get_or free 0 0
    → Wrote (write_of 1 q (entry a 1 ∷ []) ∷ []) m m' → LodgedBy m 0 p a free (Ok (record { root = record { page = q; level = 1 }; trade = record { used = next; path = path } })) m'
unfolding path_at
first_made m m' p a q n next [] path i b e l z w = absurd (omega (arith, e, l))
first_made m m' p a q n next (x ∷ xs) path i b e l z w = record {
  charged = omega arith;
  allowed = first_allowed m p a (x ∷ xs) (omega (arith, e, l));
  copied = record { root = z; height = refl; used = i; path = ap reverse b };
  wrote = subst (λ (y : ℕ). Wrote (write_of 1 y (entry a 1 ∷ []) ∷ []) (after_reads m 0) m') z (subst (λ (y : Image). Wrote (write_of 1 q (entry a 1 ∷ []) ∷ []) y m') (after_none m) w);
}

never_misread : (m m' : Image) (p a : ℕ) (f : Fault) → Misread m 0 p a f m' → ⊥
never_misread m m' p a f (refused d x e s k r i) = omega (arith, s.within)
never_misread m m' p a f (broken d q v r e s k b i) = omega (arith, s.within)

-- an empty tree has no root to read
any_root : (m m' : Image) (p a : ℕ) (free : List ℕ) (r : Result Copied Fault) → LodgedBy m 0 0 a free r m' → LodgedBy m 0 p a free r m'
unfolding leaf_at path_at
any_root m m' p a free (Ok g) t = record { charged = t.charged; allowed = t.allowed; copied = t.copied; wrote = t.wrote }
any_root m m' p a free (Err f) (inl t) = absurd (never_misread m m' 0 a f t)
any_root m m' p a free (Err f) (inr t) = inr t

pub tree_empty : (m m' : Image) (h p a : ℕ) (free : List ℕ) (r : Result Copied Fault) → h ≡ 0 → LodgedBy m 0 0 a free r m' → LodgedBy m h p a free r m'
tree_empty m m' h p a free r e t = subst (λ (x : ℕ). LodgedBy m x p a free r m') (sym e) (any_root m m' p a free r t)
