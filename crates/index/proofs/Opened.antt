-- What the code of an opening comes to.
use Rattle.std.proofs.Common.{◌≡◌, ℕ, zero, suc, ◌+◌, ◌-◌, ◌≤◌, Bool, true, false, cond, not, eqb, List, [], ◌∷◌, length, get_or, Ok, Err, Result, sym, refl, ap, ◌∙◌, subst, inl, inr, zero-add, add-one, arith}
use mathlib.Core.Bool.{not-not}
use Rattle.std.proofs.lemmas.Bool.{ne_eqb}
use Rattle.records.specs.Chain.{unmarked}
use Rattle.pages.specs.Image.{Image, at, Reads, spent}
use Rattle.pages.specs.declared.fault.StoreFault.{StoreFault}
use Rattle.pages.specs.declared.fault.StoreFault.TheVariants.{Absent as is_absent, Uncharged as is_uncharged}
use Rattle.layout.specs.declared.header.Header.{Header}
use Rattle.orders.specs.Orders.{Order}
use Rattle.tree.specs.CopyLaws.{usable, upward, unused}
use Rattle.tree.specs.CopyWrites.{times}
use Rattle.tree.specs.Tree.{limit_of}
use Rattle.tree.specs.Scan.{absent as is_new}
use Rattle.faults.specs.declared.fault.Fault.{Fault}
use Rattle.faults.specs.declared.fault.Fault.TheVariants.{Shut, Outside, Work, Absent, Unread, NoHeader, OtherOrder, Unsound, NoEvent, CountFull, HeightFull, Room, Unwritten}
use Rattle.faults.specs.Refusals.{unread as unread_at}
use Rattle.walks.specs.Scans.{Scans, Marked, last_page}
use Rattle.index.specs.Model.{Known, state, limit, refusal}
use Rattle.index.specs.Model.Answer.{accepted}
use Rattle.index.specs.Model.Known.{shut, knows}
use Rattle.index.specs.Head.{Head, NoHead}
use Rattle.index.specs.Head.NoHead.{refused, none, other}
use Rattle.index.specs.Keeping.{top}
use Rattle.index.specs.Opening.{Opening, ReadsOurs}
use Rattle.index.specs.Opening.Opening.{absent, uncharged, no_header, other_order, unread, breaks, opens_on}

module _ (o : Order) (m : Image) (k : Known) (work : ℕ) where
  at_page_one : (f : StoreFault) (m' : Image) → 64 ≤ work → Reads m 1 [] (Err f) m' [] → Opening o (state m k) work (refusal (unread_at (record { at = record { page = 1; level = 0 }; fault = f }))) (state m' shut)
  at_page_one is_absent m' records r =
      let gone : length m.pages ≡ 0 = elim r.0 [ inl e ↦ absurd (omega arith) | inr lt ↦ omega arith ] in
      absent records gone refl (λ i. state (r.2 i) shut)
  at_page_one is_uncharged m' records r = uncharged records r.0.1 r.1 refl (λ i. state (r.3 i) shut)

  -- 8 to 11
  pub no_head : (f : Fault) (m' : Image) → 64 ≤ work → NoHead o m f m' → Opening o (state m k) work (refusal f) (state m' shut)
  no_head f m' records (refused x told page level r) =
      let e : f ≡ unread_at (record { at = record { page = 1; level = 0 }; fault = x.fault }) = told ∙ (λ i. unread_at (record { at = record { page = page i; level = level i }; fault = x.fault })) in
      subst (λ (y : Fault). Opening o (state m k) work (refusal y) (state m' shut)) (sym e) (at_page_one x.fault m' records r)
  no_head f m' records (none told got never) = no_header records got.there got.charged never (ap refusal told) (λ i. state (got.spends i) shut)
  no_head f m' records (other h told got says foreign) =
      other_order h records got.there got.charged says.proper says.bytes foreign (ap refusal told) (λ i. state (got.spends i) shut)

  same_last : last_page (limit m) (length m.pages) ≡ limit m
  same_last = omega arith

  -- 9 and 12 in the tree
  pub scan_refused : (h : Header) (f : Fault) (m' : Image) (marks : List Bool) → ReadsOurs o m work h → Scans (spent m) (limit m) h (top o) work (Err f) m' marks →
      Opening o (state m k) work (refusal f) (state m' shut)
  scan_refused h Work m' marks got s = absurd (omega (arith, s.0, got.records))
  scan_refused h NoHeader m' marks got s = absurd (omega (arith, s.1, got.proper.height_high))
  scan_refused h (Unsound p r) m' marks got (records, low, (left, e, em)) =
      breaks h p r left got (rw same_last at e) refl (λ i. state (em i) shut)
  scan_refused h (Unread a) m' marks got (records, low, (p, level, e, at, em)) =
      unread h p level got (rw same_last at e) (λ i. refusal (Unread (record { at = record { page = at.0 i; level = at.1 i }; fault = at.2 i }))) (λ i. state (em i) shut)
  scan_refused h _ m' marks got s = absurd s.2

-- a page is new just where it is not among those seen
one_more : (b q : Bool) (n : ℕ) → q ≡ eqb n 0 → cond b false q ≡ eqb (cond b 1 0 + n) 0
one_more true q n e = sym (ne_eqb (1 + n) 0 (λ z. omega arith))
one_more false q n e = e ∙ ap (λ (x : ℕ). eqb x 0) (sym (zero-add n))

new_times : (k : ℕ) (seen : List ℕ) → is_new k seen ≡ eqb (times k seen) 0
new_times k [] = refl
new_times k (x ∷ xs) = one_more (eqb x k) (is_new k xs) (times k xs) (new_times k xs)

-- the pages that are not marked are those not seen
free_marked : (marks : List Bool) (seen : List ℕ) (a n : ℕ) → Marked marks seen → unmarked marks a n ≡ unused seen (upward a n)
free_marked marks seen a zero marked = refl
free_marked marks seen a (suc n) marked =
    let test : not (get_or marks a false) ≡ eqb (times a seen) 0 = ap not (marked a) ∙ not-not (is_new a seen) ∙ new_times a seen in
    let rest : unmarked marks (a + 1) n ≡ unused seen (upward (suc a) n) = free_marked marks seen (a + 1) n marked ∙ ap (λ (k : ℕ). unused seen (upward k n)) (add-one a) in
    λ i. cond (test i) (a ∷ rest i) (rest i)

pub scan_accepted : (o : Order) (m : Image) (k : Known) (work : ℕ) (h : Header) (m' : Image) (marks : List Bool) (free : List ℕ) → ReadsOurs o m work h →
    Scans (spent m) (limit m) h (top o) work (Ok tt) m' marks → free ≡ unmarked marks 2 (limit m - 1) →
    Opening o (state m k) work accepted (state m' (knows h.height h.root h.total free))
scan_accepted o m k work h m' marks free got (records, low, (seen, ((left, e, em), marked))) ef =
    let free-is : free ≡ unused seen (usable (limit m)) = ef ∙ free_marked marks seen 2 (limit m - 1) marked in
    opens_on h seen h.total left got (rw (same_last o m k work) at e) refl (λ i. state (em i) (knows h.height h.root h.total (free-is i)))

-- page 1 was read: the header is of this order, and the scan goes up to the last usable page
module _ {o : Order} {m m₁ : Image} {h : Header} (read : Head o m h m₁) where
  pub reads_ours : {work : ℕ} → 64 ≤ work → ReadsOurs o m work h
  reads_ours records =
      record { records = records; there = read.got.there; charged = read.got.charged; proper = read.says.proper; says = read.says.bytes; ours = read.ours }

  pub last_limit : {pages last : ℕ} → pages ≡ length m₁.pages → last ≡ limit_of pages → last ≡ limit m
  last_limit ep el = el ∙ ap limit_of (ep ∙ ap (λ (i : Image). length i.pages) read.got.spends)

  -- as the code calls it
  pub scans_at : {pages last end : ℕ} (work : ℕ) (r : Result (Unit {0}) Fault) (m' : Image) (marks : List Bool) → pages ≡ length m₁.pages → last ≡ limit_of pages → end ≡ top o →
      Scans m₁ last h end work r m' marks → Scans (spent m) (limit m) h (top o) work r m' marks
  scans_at {last = last} {end} work r m' marks ep el et s =
      subst (λ (y : ℕ). Scans (spent m) (limit m) h y work r m' marks) et
      (subst (λ (y : ℕ). Scans (spent m) y h end work r m' marks) (last_limit ep el)
      (subst (λ (y : Image). Scans y last h end work r m' marks) read.got.spends s))
