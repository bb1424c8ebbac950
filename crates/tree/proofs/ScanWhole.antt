-- An opening is accepted just where a sound tree stands, or the empty one.
use Rattle.std.proofs.Common.{◌≡◌, ℕ, zero, suc, ◌+◌, ◌-◌, ◌≤◌, Bool, true, false, cond, ◌&&◌, eqb, ◌⊎◌, List, [], ◌∷◌, length, Decides, sym, refl, ap, ◌∙◌, subst, inl, inr, append-nil, arith}
use Rattle.std.proofs.lemmas.Bool.Decides.{Decides-eqb, Decides-and, not_from_Decides}
use Rattle.std.proofs.lemmas.Bool.{cond-true, cond-false}
use Rattle.tree.specs.Tree.{Node, leaf, inner, Held, none, held, pages, events, counts, Contents, Level}
use Rattle.tree.specs.Scan.{Rule, F, Outcome, accepted, refused, uncharged, unfinished, scan, start, room, concluded, opened}
use Rattle.tree.specs.ScanRules.{StandAll, pages_all, counts_all, AdmittedAll, marked, pages_held, events_held, SoundHeld}
use Rattle.tree.specs.ScanLaws.{AcceptedIsSound, SoundIsAccepted, OneSoundTree}
use Rattle.tree.proofs.ScanTests.{decides_leb}
use Rattle.tree.proofs.CopyUnique.{level_some, same_tree}
use Rattle.tree.proofs.ScanStacks.{found, accepts}
use Rattle.tree.proofs.ScanMarks.{few_marks, admitted_range, admitted_once, admitted_from, length_marked}

-- 1. rule F

-- its property, at pages and a sum
abbrev pub Sums : ℕ → ℕ → List ℕ → ℕ → Type 0
Sums limit total seen sum = (sum ≡ total) × (1 ≤ length seen → length seen + 7 ≤ limit)

room_decides : (limit : ℕ) (ps : List ℕ) → Decides (room limit ps) (1 ≤ length ps → length ps + 7 ≤ limit)
room_decides limit [] = (λ e h. absurd (omega arith), λ h. refl)
room_decides limit (p ∷ ps) = let d = decides_leb (length (p ∷ ps) + 7) limit in (λ e h. d.0 e, λ h. d.1 (h (omega arith)))

sums_decides : (limit total : ℕ) (seen : List ℕ) (sum : ℕ) → Decides (eqb sum total && room limit seen) (Sums limit total seen sum)
sums_decides limit total seen sum = Decides-and (eqb sum total) (room limit seen) (Decides-eqb sum total) (room_decides limit seen)

module _ (limit total : ℕ) where
  concluded_accepted : (o : Outcome) (seen : List ℕ) (sum left : ℕ) → concluded limit total o ≡ accepted seen sum left → (o ≡ accepted seen sum left) × Sums limit total seen sum
  unfolding concluded
  concluded_accepted (accepted seen₁ sum₁ left₁) seen sum left e = go (eqb sum₁ total && room limit seen₁) refl e
    where
      go : (b : Bool) → (eqb sum₁ total && room limit seen₁) ≡ b → cond b (accepted seen₁ sum₁ left₁) (refused 1 F left₁) ≡ accepted seen sum left →
          (accepted seen₁ sum₁ left₁ ≡ accepted seen sum left) × Sums limit total seen sum
      go true t q =
          let a : seen₁ ≡ seen = cc in
          let b : sum₁ ≡ sum = cc in
          (q, subst (λ n. Sums limit total seen n) b (subst (λ xs. Sums limit total xs sum₁) a ((sums_decides limit total seen₁ sum₁).0 t)))
      go false t q = let z : ◌≡◌ {A = ℕ} 0 1 = cc in absurd (omega arith)
  concluded_accepted (refused p r l) seen sum left e = let z : ◌≡◌ {A = ℕ} 0 1 = cc in absurd (omega arith)
  concluded_accepted (uncharged p l) seen sum left e = let z : ◌≡◌ {A = ℕ} 0 1 = cc in absurd (omega arith)
  concluded_accepted unfinished seen sum left e = let z : ◌≡◌ {A = ℕ} 0 1 = cc in absurd (omega arith)

  accepted_concluded : (seen : List ℕ) (sum left : ℕ) → Sums limit total seen sum → concluded limit total (accepted seen sum left) ≡ accepted seen sum left
  unfolding concluded
  accepted_concluded seen sum left h = cond-true (eqb sum total && room limit seen) (accepted seen sum left) (refused 1 F left) ((sums_decides limit total seen sum).1 h)

  pub wrong_sums : (seen : List ℕ) (sum left : ℕ) → (Sums limit total seen sum → ⊥) → concluded limit total (accepted seen sum left) ≡ refused 1 F left
  unfolding concluded
  wrong_sums seen sum left n = go (eqb sum total && room limit seen) refl
    where
      go : (b : Bool) → (eqb sum total && room limit seen) ≡ b → cond (eqb sum total && room limit seen) (accepted seen sum left) (refused 1 F left) ≡ refused 1 F left
      go true t = absurd (n ((sums_decides limit total seen sum).0 t))
      go false t = cond-false (eqb sum total && room limit seen) (accepted seen sum left) (refused 1 F left) t

  -- a refusal is the scan's own, or by F
  abbrev pub ByF : Outcome → ℕ → Rule → ℕ → Type 0
  ByF o p r left = (r ≡ F) × (p ≡ 1) × (seen : List ℕ) × (sum : ℕ) × (o ≡ accepted seen sum left) × (Sums limit total seen sum → ⊥)

  pub concluded_refused : (o : Outcome) (p : ℕ) (r : Rule) (left : ℕ) → concluded limit total o ≡ refused p r left → (o ≡ refused p r left) ⊎ ByF o p r left
  unfolding concluded
  concluded_refused (accepted seen sum l) p r left e = go (eqb sum total && room limit seen) refl e
    where
      go : (b : Bool) → (eqb sum total && room limit seen) ≡ b → cond b (accepted seen sum l) (refused 1 F l) ≡ refused p r left →
          (accepted seen sum l ≡ refused p r left) ⊎ ByF (accepted seen sum l) p r left
      go true t q = inl q
      go false t q = let a : l ≡ left = cc in inr (cc, cc, seen, sum, ap (accepted seen sum) a, not_from_Decides (eqb sum total && room limit seen) (sums_decides limit total seen sum) t)
  concluded_refused (refused q x l) p r left e = inl e
  concluded_refused (uncharged q l) p r left e = inl e
  concluded_refused unfinished p r left e = inl e

  pub refused_concluded : (p : ℕ) (r : Rule) (left : ℕ) → concluded limit total (refused p r left) ≡ refused p r left
  unfolding concluded
  refused_concluded p r left = refl

  pub concluded_uncharged : (o : Outcome) (p level : ℕ) → concluded limit total o ≡ uncharged p level → o ≡ uncharged p level
  unfolding concluded
  concluded_uncharged (accepted seen sum l) p level e = go (eqb sum total && room limit seen) e
    where
      go : (b : Bool) → cond b (accepted seen sum l) (refused 1 F l) ≡ uncharged p level → accepted seen sum l ≡ uncharged p level
      go true q = q
      go false q = let z : ◌≡◌ {A = ℕ} 0 1 = cc in absurd (omega arith)
  concluded_uncharged (refused q x l) p level e = e
  concluded_uncharged (uncharged q l) p level e = e
  concluded_uncharged unfinished p level e = e

  pub uncharged_concluded : (p level : ℕ) → concluded limit total (uncharged p level) ≡ uncharged p level
  unfolding concluded
  uncharged_concluded p level = refl

  pub concluded_unfinished : (o : Outcome) → concluded limit total o ≡ unfinished → o ≡ unfinished
  unfolding concluded
  concluded_unfinished (accepted seen sum l) e = go (eqb sum total && room limit seen) e
    where
      go : (b : Bool) → cond b (accepted seen sum l) (refused 1 F l) ≡ unfinished → accepted seen sum l ≡ unfinished
      go true q = q
      go false q = let z : ◌≡◌ {A = ℕ} 0 1 = cc in absurd (omega arith)
  concluded_unfinished (refused q x l) e = e
  concluded_unfinished (uncharged q l) e = e
  concluded_unfinished unfinished e = e

-- 2. accepted just where a sound tree stands

-- the trees at the first stack, none or one, against the tree that the header names
module _ (m : Contents) (limit height root total top : ℕ) where
  pub record Whole (t : Held Node) (ts : List Node) : Type 0 where
    pub stand : StandAll m (start height root top) ts
    pub admitted : AdmittedAll limit [] (pages_all ts)
    pub pages_are : pages_all ts ≡ pages_held t
    pub total_is : counts_all ts ≡ counts (events_held t)
    pub sums : Sums limit total (pages_all ts) (counts_all ts)

whole_sound : (m : Contents) (limit height root total top : ℕ) (ts : List Node) → StandAll m (start height root top) ts → AdmittedAll limit [] (pages_all ts) →
    Sums limit total (pages_all ts) (counts_all ts) → (t : Held Node) × SoundHeld m limit height root total top t × Whole m limit height root total top t ts
whole_sound m limit zero root total top [] a ad f =
    (none, (refl, sym f.0), record { stand = a; admitted = ad; pages_are = refl; total_is = refl; sums = f })
whole_sound m limit zero root total top (t ∷ ts) a ad f = absurd a
whole_sound m limit (suc h) root total top [] a ad f = absurd a
whole_sound m limit (suc h) root total top (t ∷ []) a ad f =
    let pg : pages_all (t ∷ []) ≡ pages t = append-nil (pages t) in
    let su : counts_all (t ∷ []) ≡ counts (events t) = omega arith in
    let w = subst (λ ps. AdmittedAll limit [] ps) pg ad in
    let q = f.0 in
    let len = ap length pg in
    let s = a.1 in (
      held t,
      record {
        root_is = a.0;
        range = admitted_range limit (pages t) [] w;
        once = admitted_once limit (pages t) [] w;
        levels = s.0;
        stands = s.1;
        filled = s.2;
        ordered = s.3;
        sum = omega arith;
        room = omega (arith, f.1 (omega (arith, some-page t)));
      },
      record { stand = a; admitted = ad; pages_are = pg; total_is = su; sums = f },
    )
  where
    some-page : (u : Node) → 1 ≤ length (pages u)
    some-page (leaf p es) = omega arith
    some-page (inner p g) = omega arith
whole_sound m limit (suc h) root total top (t ∷ (u ∷ ts)) a ad f = absurd a.2

pub sound_whole : (m : Contents) (limit height root total top : ℕ) (t : Held Node) → SoundHeld m limit height root total top t → (ts : List Node) × Whole m limit height root total top t ts
sound_whole m limit zero root total top none s = ([], record { stand = tt; admitted = tt; pages_are = refl; total_is = refl; sums = (sym s.1, λ h. absurd (omega arith)) })
sound_whole m limit (suc h) root total top none s = absurd (let e = s.0 in omega arith)
sound_whole m limit zero root total top (held t) s = absurd (level_some t s.levels)
sound_whole m limit (suc h) root total top (held t) s =
    let pg : pages_all (t ∷ []) ≡ pages t = append-nil (pages t) in
    let len = ap length pg in (
      t ∷ [],
      record {
        stand = (s.root_is, (s.levels, s.stands, s.filled, s.ordered), tt);
        admitted = subst (λ ps. AdmittedAll limit [] ps) (sym pg) (admitted_from limit (pages t) s.range s.once);
        pages_are = pg;
        total_is = omega arith;
        sums = (omega (arith, s.sum), λ h. omega (arith, s.room));
      },
    )

pub length_seen : (ps : List ℕ) → length (marked [] ps) ≡ length ps
length_seen ps = omega (arith, length_marked [] ps)

-- rule F at the marks is rule F at the pages
pub sums_seen : (limit total : ℕ) (seen ps : List ℕ) (sum n : ℕ) → length seen ≡ length ps → sum ≡ n → Sums limit total seen sum → Sums limit total ps n
sums_seen limit total seen ps sum n e q f = (let a = f.0 in omega arith, λ h. omega (arith, f.1 (omega arith)))

-- pages that are admitted are no more than limit
pub few_pages : (limit : ℕ) (ps : List ℕ) → AdmittedAll limit [] ps → length ps ≤ limit
few_pages limit ps a = few_marks limit ps (admitted_once limit ps [] a) (admitted_range limit ps [] a)

pub accepted_is_sound : AcceptedIsSound
unfolding opened
accepted_is_sound m limit charge height root total top seen sum left e =
    let c = concluded_accepted limit total (scan (suc limit) m limit charge [] (start height root top) 0) seen sum left e in
    let r = found m limit (suc limit) charge [] (start height root top) 0 seen sum left c.0 in
    let ps = pages_all r.trees in
    let f = sums_seen limit total seen ps sum (counts_all r.trees) (ap length r.seen_is ∙ length_seen ps) (omega (arith, r.total_is)) c.1 in
    let w = whole_sound m limit height root total top r.trees r.stand r.admitted f in
    let pg = w.2.pages_are in
    (w.0, w.1, r.seen_is ∙ ap (marked []) pg, omega (arith, r.total_is, w.2.total_is), omega (arith, r.spent, ap length pg))

pub sound_is_accepted : SoundIsAccepted
unfolding opened
sound_is_accepted m limit charge height root total top t s h =
    let w = sound_whole m limit height root total top t s in
    let ts = w.0 in
    let pg = w.1.pages_are in
    let len = ap length pg in
    let few = few_pages limit (pages_all ts) w.1.admitted in
    let a = accepts m limit (suc limit) charge [] (start height root top) 0 ts w.1.stand w.1.admitted (omega arith) (omega arith) in
    let n : 0 + counts_all ts ≡ counts (events_held t) = omega (arith, w.1.total_is) in
    let b : accepted (marked [] (pages_all ts)) (0 + counts_all ts) (charge - length (pages_all ts)) ≡ accepted (marked [] (pages_held t)) (counts (events_held t)) (charge - length (pages_held t)) =
    (λ i. accepted (marked [] (pg i)) (n i) (charge - len i)) in
    let f = sums_seen limit total (pages_all ts) (marked [] (pages_held t)) (counts_all ts) (counts (events_held t)) (len ∙ sym (length_seen (pages_held t))) w.1.total_is w.1.sums in
    ap (concluded limit total) (a ∙ b) ∙ accepted_concluded limit total (marked [] (pages_held t)) (counts (events_held t)) (charge - length (pages_held t)) f

-- 3. and there is at most one

pub one_sound_tree : OneSoundTree
one_sound_tree m limit height root total top none none s r = refl
one_sound_tree m limit height root total top none (held u) s r = absurd (level_some u (subst (Level u) s.0 r.levels))
one_sound_tree m limit height root total top (held t) none s r = absurd (level_some t (subst (Level t) r.0 s.levels))
one_sound_tree m limit height root total top (held t) (held u) s r =
    ap held (same_tree t u m height s.levels r.levels (s.root_is ∙ sym r.root_is) s.stands r.stands)
