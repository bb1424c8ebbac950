-- How an opening ends otherwise: refused at the first unsound page, uncharged at the page that could not be read, and never unfinished.
use Rattle.std.proofs.Common.{◌≡◌, ℕ, zero, suc, ◌+◌, ◌-◌, ◌*◌, ◌≤◌, ◌⊎◌, List, [], ◌∷◌, length, get_or, sym, refl, ap, ◌∙◌, inl, inr, arith}
use Rattle.std.proofs.lemmas.Bool.{cases_lt}
use Rattle.tree.specs.Tree.{Contents}
use Rattle.tree.specs.Scan.{Visit, Rule, refused, uncharged, unfinished, Turn, breaks, unpaid, onward, left_at, turn, follow, scan, start, concluded, opened}
use Rattle.tree.specs.ScanRules.{Admitted, Keeps, scan_state, pages_all, counts_all, marked, pages_held}
use Rattle.tree.specs.ScanLaws.{RefusedAtFirstUnsound, FirstUnsoundIsRefused, WrongSumsAreRefused, RefusedIsUnsound, UnchargedAtPage, UnchargedIsShort, ShortIsUncharged, ChargeSuffices, StackSuffices, ScanEnds, begin}
use Rattle.tree.proofs.ScanTurns.{turn_forth, turn_unpaid}
use Rattle.tree.proofs.ScanStacks.{next, found, accepts, falls_short}
use Rattle.tree.proofs.ScanEnds.{ends, suffices}
use Rattle.tree.proofs.ScanDepth.{fits_start, fits_leads, fits_length}
use Rattle.tree.proofs.ScanWays.{refused_at, uncharged_at, passes_keeps, scan_leads}
use Rattle.tree.proofs.ScanWhole.{concluded_refused, refused_concluded, concluded_uncharged, uncharged_concluded, concluded_unfinished, wrong_sums, sound_whole, length_seen, sums_seen, few_pages, sound_is_accepted}

pub scan_ends : ScanEnds
unfolding opened
scan_ends m limit charge height root total top e =
    ends m limit (suc limit) charge [] (start height root top) 0 tt tt (omega arith)
    (concluded_unfinished limit total (scan (suc limit) m limit charge [] (start height root top) 0) e)

pub charge_suffices : ChargeSuffices
unfolding opened
charge_suffices m limit charge height root total top p level h e =
    suffices m limit (suc limit) charge [] (start height root top) 0 p level tt tt (omega arith)
    (concluded_uncharged limit total (scan (suc limit) m limit charge [] (start height root top) 0) p level e)

pub stack_suffices : StackSuffices
stack_suffices m limit charge height root top k s h =
    let f = fits_leads m limit (9 * height + 1) k (begin charge height root top) s (fits_start height root top) h in
    let l = fits_length height s.stack f in
    (l, λ g. omega arith)

pub refused_at_first_unsound : RefusedAtFirstUnsound
unfolding opened
refused_at_first_unsound m limit charge height root total top p r left e =
    let st = start height root top in
    elim (concluded_refused limit total (scan (suc limit) m limit charge [] st 0) p r left e) [
      | inl q ↦ inl (refused_at m limit (9 * height + 1) (suc limit) charge [] st 0 p r left (fits_start height root top) q)
      | inr q ↦
          (let g = found m limit (suc limit) charge [] st 0 q.2 q.3 left q.4 in
          let ps = pages_all g.trees in
          let n = ap length g.seen_is ∙ length_seen ps in
          inr (q.0, q.1, g.trees, g.stand, g.admitted, g.spent, λ h. q.5 (sums_seen limit total ps q.2 (counts_all g.trees) q.3 (sym n) (omega (arith, g.total_is)) h)))
    ]

-- one visit that breaks a rule, with a charge for its read: it is refused, unless the fuel is used up
broken_refused : (m : Contents) (limit fuel charge : ℕ) (marks : List ℕ) (v : Visit) (stack : List Visit) (sum : ℕ) (r : Rule) → (Keeps m limit marks v r → ⊥) →
    (Admitted limit marks v.at.page → 1 ≤ charge) →
    (scan fuel m limit charge marks (v ∷ stack) sum ≡ unfinished) ⊎ ((x : Rule) × (scan fuel m limit charge marks (v ∷ stack) sum ≡ refused v.at.page x (left_at x charge)))
unfolding scan
broken_refused m limit zero charge marks v stack sum r n c = inl refl
broken_refused m limit (suc f) charge marks v stack sum r n c = go (turn m limit charge marks v) refl
  where
    go : (t : Turn) → turn m limit charge marks v ≡ t →
        (follow charge v (turn m limit charge marks v) (next f m limit charge marks v stack sum) ≡ unfinished)
        ⊎ ((x : Rule) × (follow charge v (turn m limit charge marks v) (next f m limit charge marks v stack sum) ≡ refused v.at.page x (left_at x charge)))
    go (breaks x) q = inr (x, ap (λ t. follow charge v t (next f m limit charge marks v stack sum)) q)
    go unpaid q = let u = turn_unpaid m limit charge marks v q in let z = u.0 in absurd (omega (arith, c u.1))
    go (onward k vs) q = absurd (n (passes_keeps m limit charge marks v k vs r (turn_forth m limit charge marks v k vs q)))

pub first_unsound_is_refused : FirstUnsoundIsRefused
unfolding opened
first_unsound_is_refused m limit charge height root total top v charge' marks r h n c =
    let st = start height root top in
    let l = scan_leads m limit h.passed (suc limit) (begin charge height root top) (scan_state charge' marks (v ∷ h.others) h.sum) h.leads in
    elim (broken_refused m limit l.0 charge' marks v h.others h.sum r n c) [
      | inl u ↦ absurd (ends m limit (suc limit) charge [] st 0 tt tt (omega arith) (l.1 ∙ u))
      | inr u ↦ (u.0, ap (concluded limit total) (l.1 ∙ u.1) ∙ refused_concluded limit total v.at.page u.0 (left_at u.0 charge'))
    ]

pub wrong_sums_are_refused : WrongSumsAreRefused
unfolding opened
wrong_sums_are_refused m limit charge height root total top ts a ad h n =
    let ps = pages_all ts in
    let few = few_pages limit ps ad in
    let o = accepts m limit (suc limit) charge [] (start height root top) 0 ts a ad (omega arith) h in
    ap (concluded limit total) o
    ∙ wrong_sums limit total (marked [] ps) (0 + counts_all ts) (charge - length ps) (λ f. n (sums_seen limit total (marked [] ps) ps (0 + counts_all ts) (counts_all ts) (length_seen ps) (omega arith) f))

pub short_is_uncharged : ShortIsUncharged
unfolding opened
short_is_uncharged m limit charge height root total top t s h =
    let w = sound_whole m limit height root total top t s in
    let ts = w.0 in
    let pg = w.1.pages_are in
    let len = ap length pg in
    let few = few_pages limit (pages_all ts) w.1.admitted in
    let u = falls_short m limit (suc limit) charge [] (start height root top) 0 ts w.1.stand w.1.admitted (omega arith) (omega arith) in
    (u.0, ap (concluded limit total) (u.1 ∙ ap (λ ps. uncharged (get_or ps charge 0) u.0) pg) ∙ uncharged_concluded limit total (get_or (pages_held t) charge 0) u.0)

pub uncharged_at_page : UnchargedAtPage
unfolding opened
uncharged_at_page m limit charge height root total top p level e =
    uncharged_at m limit 0 (suc limit) charge [] (start height root top) 0 p level
    (concluded_uncharged limit total (scan (suc limit) m limit charge [] (start height root top) 0) p level e)

pub refused_is_unsound : RefusedIsUnsound
refused_is_unsound m limit charge height root total top p r left e t s =
    elim (cases_lt charge (length (pages_held t))) [
      | inl h ↦ (let q = (short_is_uncharged m limit charge height root total top t s h).1 in let z : ◌≡◌ {A = ℕ} 0 1 = cc in omega arith)
      | inr h ↦ (let q = sound_is_accepted m limit charge height root total top t s h in let z : ◌≡◌ {A = ℕ} 0 1 = cc in omega arith)
    ]

pub uncharged_is_short : UnchargedIsShort
uncharged_is_short m limit charge height root total top p level e t s =
    elim (cases_lt charge (length (pages_held t))) [
      | inl h ↦ h
      | inr h ↦ (let q = sound_is_accepted m limit charge height root total top t s h in let z : ◌≡◌ {A = ℕ} 0 1 = cc in absurd (omega arith))
    ]
