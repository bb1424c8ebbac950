-- The end of a scan: rule F, and the answer by the outcome of the opening.
use Rattle.std.proofs.Common.{◌≡◌, ℕ, suc, ◌+◌, ◌≤◌, Bool, true, false, cond, ◌&&◌, eqb, leb, List, [], ◌∷◌, length, Ok, Err, Decides, sym, refl, ap, ◌∙◌, subst, arith}
use Rattle.std.proofs.lemmas.Bool.{cond-true, cond-false}
use Rattle.std.proofs.lemmas.Bool.Decides.{Decides-eqb, Decides-and, Decides-like, not_from_Decides}
use Rattle.layout.specs.declared.header.Header.{Header}
use Rattle.pages.specs.Image.{Image}
use Rattle.layout.specs.declared.visit.Rule.TheVariants.{F}
use Rattle.tree.specs.Scan.{Outcome, accepted, refused, scan, start, room, concluded, opened}
use Rattle.tree.proofs.ScanTests.{decides_leb}
use Rattle.faults.specs.Accesses.{contents}
use Rattle.faults.specs.declared.fault.Fault.{Fault}
use Rattle.faults.specs.declared.fault.Fault.TheVariants.{Unread, Unsound}
use Rattle.walks.specs.declared.scanning.Seen.{Seen}
use Rattle.walks.specs.Scans.{last_page, Refuses, ScansPages, Scans}
use Rattle.tree.proofs.SearchTests.{decided_false}

room_decides : (limit : ℕ) (seen : List ℕ) → Decides (room limit seen) (1 ≤ length seen → length seen + 7 ≤ limit)
room_decides limit [] = (λ e h. absurd (omega arith), λ h. refl)
room_decides limit (p ∷ ps) =
    Decides-like {P = length (p ∷ ps) + 7 ≤ limit} {Q = 1 ≤ length (p ∷ ps) → length (p ∷ ps) + 7 ≤ limit} (leb (length (p ∷ ps) + 7) limit) (λ a h. a) (λ f. f (omega arith)) (decides_leb (length (p ∷ ps) + 7) limit)

sums_decide : (limit total sum : ℕ) (seen : List ℕ) → Decides (eqb sum total && room limit seen) ((sum ≡ total) × (1 ≤ length seen → length seen + 7 ≤ limit))
sums_decide limit total sum seen = Decides-and (eqb sum total) (room limit seen) (Decides-eqb sum total) (room_decides limit seen)

module _ (m : Image) (limit : ℕ) (header : Header) (top last work : ℕ) (e : last ≡ last_page limit (length m.pages)) (ready : 64 ≤ work) (low : header.height ≤ 6) where
  abbrev all_pages : Outcome
  all_pages = scan (suc last) (contents m) last m.charge [] (start header.height header.root top) 0

  abbrev whole : Outcome
  whole = opened (contents m) (last_page limit (length m.pages)) m.charge header.height header.root header.total top

  whole_is : whole ≡ concluded last header.total all_pages
  unfolding opened
  whole_is = sym (ap (λ l. opened (contents m) l m.charge header.height header.root header.total top) e)

  pub scans_refused : (f : Fault) (m' : Image) (marks : List Bool) → Refuses all_pages m f m' → Scans m limit header top work (Err f) m' marks
  unfolding concluded
  scans_refused (Unsound p r) m' marks h = (ready, low, (h.0, whole_is ∙ ap (concluded last header.total) h.1, h.2))
  scans_refused (Unread a) m' marks h = (ready, low, (h.0, h.1, whole_is ∙ ap (concluded last header.total) h.2, h.3, h.4))
  scans_refused _ m' marks h = absurd h

  module _ (s : Seen) (m' : Image) (marks : List Bool) (h : ScansPages all_pages m (Ok s) m' marks) where
    abbrev sums : Bool
    sums = eqb s.sum header.total && room last h.0

    summed : whole ≡ cond sums (accepted h.0 s.sum h.2.0.0) (refused 1 F h.2.0.0)
    unfolding concluded
    summed = whole_is ∙ ap (concluded last header.total) h.2.0.1

    pub scans_unsummed : (b : Bool) → Decides b ((s.sum ≡ header.total) × (1 ≤ s.pages → s.pages + 7 ≤ last)) → b ≡ false → Scans m limit header top work (Err (Unsound 1 F)) m' marks
    scans_unsummed b d f =
        let wrong : ((s.sum ≡ header.total) × (1 ≤ length h.0 → length h.0 + 7 ≤ last)) → ⊥ =
        (λ k. not_from_Decides b d f (k.0, subst (λ n. 1 ≤ n → n + 7 ≤ last) (sym h.1) k.1)) in (
          ready,
          low,
          (
            h.2.0.0,
            summed ∙ cond-false sums (accepted h.0 s.sum h.2.0.0) (refused 1 F h.2.0.0) (decided_false sums (sums_decide last header.total s.sum h.0) wrong),
            h.2.0.2,
          ),
        )

    pub scans_summed : (u : Unit {0}) (b : Bool) → Decides b ((s.sum ≡ header.total) × (1 ≤ s.pages → s.pages + 7 ≤ last)) → b ≡ true → Scans m limit header top work (Ok u) m' marks
    scans_summed u b d t =
        let k = d.0 t in
        let right : sums ≡ true = (sums_decide last header.total s.sum h.0).1 (k.0, subst (λ n. 1 ≤ n → n + 7 ≤ last) h.1 k.1) in (
          ready,
          low,
          (
            h.0,
            (
              (h.2.0.0, summed ∙ cond-true sums (accepted h.0 s.sum h.2.0.0) (refused 1 F h.2.0.0) right ∙ ap (λ n. accepted h.0 n h.2.0.0) k.0, h.2.0.2),
              h.2.1,
            ),
          ),
        )
