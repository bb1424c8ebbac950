-- What a turn of the scan's loop does: the outcome of what is left to do stays the same.
use Rattle.std.proofs.Common.{◌≡◌, ℕ, zero, suc, ◌+◌, ◌-◌, ◌*◌, ◌<◌, ◌≤◌, Bool, true, false, not, eqb, ◌≢◌, List, [], ◌∷◌, ◌++◌, reverse, length, get_or, take, set, replicate, Some, None, Ok, Err, Decides, Result, sym, refl, ap, ◌∙◌, subst, inl, inr, arith}
use Rattle.std.specs.List.{AllByRecursion}
use Rattle.std.proofs.lemmas.List.{get_or-set_same, get_or-set_other, length-set, length-replicate, length-reverse, length-take-le}
use Rattle.std.proofs.lemmas.Bool.{cases_eq, eq-eqb, ne_eqb, cond-true, cond-false, both_ways, not-false}
use Rattle.records.specs.Tray.{Lays, Lifts}
use Rattle.records.specs.declared.tray.Tray.{Tray}
use Rattle.pages.specs.Image.{Image, spent, granted}
use Rattle.layout.specs.declared.visit.Visit.{Visit}
use Rattle.layout.specs.declared.visit.Rule.{Rule}
use Rattle.layout.specs.declared.visit.Rule.TheVariants.{A, B, C, D, E, F}
use Rattle.tree.specs.Tree.{Contents, Absent as NotIn, Apart}
use Rattle.tree.specs.Scan.{visit, Outcome, accepted, refused, uncharged, Turn, breaks, onward, absent, admits, charged, judged, turn, left_at, follow, scan, start}
use Rattle.tree.proofs.ScanTests.{absent_decides, admits_decides}
use Rattle.tree.proofs.ScanTurns.{turn_forth}
use Rattle.tree.proofs.ScanMarks.{InRange, few_marks}
use Rattle.tree.proofs.ScanDepth.{StackFits, fits_pass}
use Rattle.faults.specs.Accesses.{contents}
use Rattle.faults.specs.declared.fault.Fault.{Fault}
use Rattle.faults.specs.declared.fault.Fault.TheVariants.{Absent, Unread, Unsound}
use Rattle.walks.specs.Pending.{to_come, SameSize}
use Rattle.walks.specs.Visits.{OfPage, Visits}
use Rattle.walks.specs.Scans.{Marked, Refuses, ScansPages}
use Rattle.walks.specs.declared.scanning.Seen.{Seen}
use Rattle.walks.proofs.ChildVisits.{put_next}
use Rattle.faults.proofs.Same.{same_contents}
use Rattle.tree.proofs.SearchTests.{decided_false}

-- 1. the tray

-- how many visits are to come
pub length_to_come : (t : Tray Visit) → t.used ≤ length t.memory.now → length (to_come t) ≡ t.used
length_to_come t h = length-reverse (take t.used t.memory.now) ∙ length-take-le t.used t.memory.now h

pub popped : (t t' : Tray Visit) (v : Visit) → Lifts t.memory.now t.used (Some v) t'.memory.now t'.used → to_come t ≡ v ∷ to_come t'
popped t t' v l = put_next (take t'.used t'.memory.now) (take t.used t.memory.now) v l.2

pub popped_none : (t t' : Tray Visit) → Lifts t.memory.now t.used None t'.memory.now t'.used → to_come t ≡ []
popped_none t t' l = ap (λ n. reverse (take n t.memory.now)) l.0

-- the root's visit
pub first_put : (t t' : Tray Visit) (height root top : ℕ) (r : Result (Unit {0}) Visit) → t.used ≡ 0 → 64 ≤ length t.memory.now → 0 < height →
    Lays t.memory.now t.used (visit root height 0 top) r t'.memory.now t'.used → (to_come t' ≡ start height root top) × SameSize t t'
first_put t t' zero root top r e h p l = absurd (omega arith)
first_put t t' (suc n) root top (Ok u) e h p l = (
  put_next (take t.used t.memory.now) (take t'.used t'.memory.now) (visit root (suc n) 0 top) l.3 ∙ ap (λ k. visit root (suc n) 0 top ∷ reverse (take k t.memory.now)) e,
  ap length l.2 ∙ length-set t.memory.now t.used (visit root (suc n) 0 top),
)
first_put t t' (suc n) root top (Err y) e h p l = absurd (omega (arith, l.0))

pub none_put : (t : Tray Visit) (height root top : ℕ) → t.used ≡ 0 → height ≡ 0 → to_come t ≡ start height root top
none_put t height root top e z = ap (λ n. reverse (take n t.memory.now)) e ∙ ap (λ h. start h root top) (sym z)

-- 2. the state between two turns

-- the loop's state is that of a scan that comes to o; ms are the pages marked, the newest first
pub record Scanning (m : Contents) (limit : ℕ) (o : Outcome) (charge : ℕ) (marks : List Bool) (stack : List Visit) (passed : Seen) (ms : List ℕ) : Type 0 where
  pub same : scan (suc limit - length ms) m limit charge ms stack passed.sum ≡ o
  pub once : Apart ms
  pub range : AllByRecursion (InRange limit) ms
  pub marked : Marked marks ms
  pub long : length marks ≡ 1026
  pub fits : StackFits 55 stack
  pub count : passed.pages ≡ length ms
  pub small : passed.sum ≤ 655350 * passed.pages

unmarked : (n p : ℕ) → get_or (replicate n false) p false ≡ false
unmarked zero p = refl
unmarked (suc n) zero = refl
unmarked (suc n) (suc p) = unmarked n p

fits_first : (height root top : ℕ) → height ≤ 6 → StackFits 55 (start height root top)
fits_first zero root top h = tt
fits_first (suc n) root top h = (omega arith, omega arith, tt)

pub begins : (m : Contents) (limit charge height root top : ℕ) (stack : List Visit) (seen : Seen) → height ≤ 6 → stack ≡ start height root top → seen.pages ≡ 0 → seen.sum ≡ 0 →
    Scanning m limit (scan (suc limit) m limit charge [] (start height root top) 0) charge (replicate 1026 false) stack seen []
begins m limit charge height root top stack seen h e none nil =
    let f : suc limit - 0 ≡ suc limit = omega arith in
    record {
      same = λ i. scan (f i) m limit charge [] (e i) (nil i);
      once = tt;
      range = tt;
      marked = λ p. unmarked 1026 p;
      long = length-replicate 1026 false;
      fits = subst (λ st. StackFits 55 st) (sym e) (fits_first height root top h);
      count = none;
      small = omega arith;
    }

module _ {m : Contents} {limit : ℕ} {o : Outcome} {charge : ℕ} {marks : List Bool} {stack : List Visit} {seen : Seen} {ms : List ℕ}
    (w : Scanning m limit o charge marks stack seen ms) where
  -- what is seen after one more page
  abbrev pub added : ℕ → Seen
  added n = record { pages = seen.pages + 1; sum = seen.sum + n }

  few : length ms ≤ limit
  few = few_marks limit ms w.once w.range

  pub few_pages : seen.pages ≤ limit
  few_pages = omega (arith, few, w.count)

  -- nothing is left to visit
  pub finished : stack ≡ [] → o ≡ accepted ms seen.sum charge
  unfolding scan
  finished e =
      let f : suc limit - length ms ≡ suc (limit - length ms) = omega (arith, few) in
      sym w.same ∙ (λ i. scan (f i) m limit charge ms (e i) seen.sum)

  -- a visit is next
  module _ {v : Visit} {st : List Visit} (e : stack ≡ v ∷ st) where
    next_fits : StackFits 55 (v ∷ st)
    next_fits = subst (λ xs. StackFits 55 xs) e w.fits

    pub next_level : 1 ≤ v.at.level
    next_level = next_fits.0

    pub others_few : length st ≤ 45
    others_few = omega (arith, next_fits.0, next_fits.1)

    -- what is left to do after it
    abbrev after : ℕ → List Visit → Outcome
    after n vs = scan (limit - length ms) m limit (charge - 1) (v.at.page ∷ ms) (vs ++ st) (seen.sum + n)

    next : follow charge v (turn m limit charge ms v) after ≡ o
    unfolding scan
    next =
        let f : suc (limit - length ms) ≡ suc limit - length ms = omega (arith, few) in
        (λ i. scan (f i) m limit charge ms (sym e i) seen.sum) ∙ w.same

    -- A is broken
    pub not_admitted : (b : Bool) → Decides b ((2 ≤ v.at.page) × (v.at.page ≤ limit) × (get_or marks v.at.page false ≡ false)) → b ≡ false → o ≡ refused v.at.page A charge
    unfolding turn
    not_admitted b d f =
        let none : (((2 ≤ v.at.page) × (v.at.page ≤ limit)) × NotIn v.at.page ms) → ⊥ =
        (λ a. both_ways b f (d.1 (a.0.0, a.0.1, w.marked v.at.page ∙ ap not ((absent_decides v.at.page ms).1 a.1)))) in
        sym next ∙ ap (λ t. follow charge v t after)
        (cond-false (admits limit ms v.at.page) (charged charge (judged (m v.at.page) v)) (breaks A) (decided_false (admits limit ms v.at.page) (admits_decides limit ms v.at.page) none))

    -- A is kept
    module _ (low : 2 ≤ v.at.page) (high : v.at.page ≤ limit) (new : get_or marks v.at.page false ≡ false) where
      admitted : turn m limit charge ms v ≡ charged charge (judged (m v.at.page) v)
      unfolding turn
      admitted =
          cond-true (admits limit ms v.at.page) (charged charge (judged (m v.at.page) v)) (breaks A)
          ((admits_decides limit ms v.at.page).1 ((low, high), (absent_decides v.at.page ms).0 (not-false (absent v.at.page ms) (sym (w.marked v.at.page) ∙ new))))

      pub unread : charge ≡ 0 → o ≡ uncharged v.at.page v.at.level
      unread z = sym next ∙ ap (λ t. follow charge v t after) (admitted ∙ ap (λ c. charged c (judged (m v.at.page) v)) z)

      paid : (t : Turn) → 0 < charge → judged (m v.at.page) v ≡ t → turn m limit charge ms v ≡ t
      paid t p j = let s : charge ≡ suc (charge - 1) = omega arith in admitted ∙ ap (λ c. charged c (judged (m v.at.page) v)) s ∙ j

      after_read : (r : Rule) → OfPage r → left_at r charge ≡ charge - 1
      after_read A h = absurd h
      after_read B h = refl
      after_read C h = refl
      after_read D h = refl
      after_read E h = refl
      after_read F h = absurd h

      pub broken : (r : Rule) → OfPage r → 0 < charge → judged (m v.at.page) v ≡ breaks r → o ≡ refused v.at.page r (charge - 1)
      broken r h p j = sym next ∙ ap (λ t. follow charge v t after) (paid (breaks r) p j) ∙ ap (refused v.at.page r) (after_read r h)

      marks_more : (p : ℕ) → v.at.page < length marks → get_or (set marks v.at.page true) p false ≡ not (absent p (v.at.page ∷ ms))
      marks_more p l =
          elim (cases_eq v.at.page p) [
            | inl q ↦ (let t : eqb v.at.page p ≡ true = eq-eqb v.at.page p q in rw t (ap (λ x. get_or (set marks v.at.page true) x false) (sym q) ∙ get_or-set_same marks v.at.page true false l))
            | inr n ↦ (let t : eqb v.at.page p ≡ false = ne_eqb v.at.page p n in let ne : p ≢ v.at.page = (λ x. n (sym x)) in rw t (get_or-set_other marks v.at.page p true false ne ∙ w.marked p))
          ]

      -- the visit passes: the scan goes on
      pub onwards : (n : ℕ) (vs stack₁ : List Visit) (charge₁ : ℕ) (seen₁ : Seen) → seen₁ ≡ added n → limit ≤ 1024 → 0 < charge → judged (m v.at.page) v ≡ onward n vs → stack₁ ≡ vs ++ st → charge₁ ≡ charge - 1 → n ≤ 655350 →
          Scanning m limit o charge₁ (set marks v.at.page true) stack₁ seen₁ (v.at.page ∷ ms)
      onwards n vs stack₁ charge₁ seen₁ more lim p j hd ch s =
          let t : turn m limit charge ms v ≡ onward n vs = paid (onward n vs) p j in
          let ps = turn_forth m limit charge ms v n vs t in
          let f : suc limit - length (v.at.page ∷ ms) ≡ limit - length ms = omega arith in
          let sm = w.small in
          let ct = w.count in
          let lg = w.long in
          subst (λ x. Scanning m limit o charge₁ (set marks v.at.page true) stack₁ x (v.at.page ∷ ms)) (sym more) (record {
            same = (λ i. scan (f i) m limit (ch i) (v.at.page ∷ ms) (hd i) (seen.sum + n)) ∙ sym (ap (λ t. follow charge v t after) t) ∙ next;
            once = (ps.admitted.1, w.once);
            range = ((low, high), w.range);
            marked = λ q. marks_more q (omega arith);
            long = length-set marks v.at.page true ∙ lg;
            fits = subst (λ xs. StackFits 55 xs) (sym hd) (fits_pass m limit 55 charge ms v st n vs next_fits ps);
            count = omega arith;
            small = omega arith;
          })

-- 3. the memory: its pages stay

abbrev pub Same : Image → Image → Type 0
Same m₀ m = m.pages ≡ m₀.pages

as_granted : (m₀ m : Image) (c : ℕ) → Same m₀ m → m.charge ≡ c → m ≡ granted m₀ c
as_granted m₀ m c e q = λ i. record { pages = e i; charge = q i }

module _ (m₀ m : Image) {limit : ℕ} {o : Outcome} {marks : List Bool} {stack : List Visit} {seen : Seen} {ms : List ℕ}
    (w : Scanning (contents m₀) limit o m.charge marks stack seen ms) (e : Same m₀ m) where
  pub ends : stack ≡ [] → ScansPages o m₀ (Ok seen) m marks
  ends z = (ms, w.count, ((m.charge, finished w z, as_granted m₀ m m.charge e refl), w.marked))

  module _ {v : Visit} {st : List Visit} (n : stack ≡ v ∷ st) where
    pub refused_A : (b : Bool) → Decides b ((2 ≤ v.at.page) × (v.at.page ≤ limit) × (get_or marks v.at.page false ≡ false)) → b ≡ false → Refuses o m₀ (Unsound v.at.page A) m
    refused_A b d f = (m.charge, not_admitted w n b d f, as_granted m₀ m m.charge e refl)

    module _ (low : 2 ≤ v.at.page) (high : v.at.page ≤ limit) (new : get_or marks v.at.page false ≡ false) (size : limit ≤ length m₀.pages) where
      pub visit_refused : (f : Fault) (m' : Image) (stack' : List Visit) → Visits m v st (Err f) m' stack' → Refuses o m₀ f m'
      visit_refused (Unsound p r) m' stack' h = (
        m.charge - 1,
        broken w n low high new r h.3.1 h.0 (subst (λ (k : Contents). judged (k v.at.page) v ≡ breaks r) (same_contents m₀ m e) h.3.0) ∙ ap (λ q. refused q r (m.charge - 1)) (sym h.2),
        h.1 ∙ as_granted m₀ (spent m) (m.charge - 1) e refl,
      )
      visit_refused (Unread a) m' stack' h = (v.at.page, v.at.level, unread w n low high new h.0, h.2, h.1 ∙ as_granted m₀ m 0 e h.0)
      visit_refused (Absent a) m' stack' h = let l = ap length e in absurd (elim h.0 [ inl z ↦ omega arith | inr z ↦ omega arith ])
      visit_refused _ m' stack' h = absurd h

      pub visit_passed : (k : ℕ) (m' : Image) (stack' : List Visit) (seen' : Seen) → seen' ≡ added w k → limit ≤ 1024 → Visits m v st (Ok k) m' stack' →
          Scanning (contents m₀) limit o m'.charge (set marks v.at.page true) stack' seen' (v.at.page ∷ ms) × Same m₀ m'
      visit_passed k m' stack' seen' more lim h =
          let j = h.2.0 in (
            onwards w n low high new k j.0 stack' m'.charge seen' more lim h.0 (subst (λ (f : Contents). judged (f v.at.page) v ≡ onward k j.0) (same_contents m₀ m e) j.1) j.2 (ap (λ x. x.charge) h.1) h.2.1,
            ap (λ x. x.pages) h.1 ∙ e,
          )
