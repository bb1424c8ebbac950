-- From 64 work records on, and from room for 10,240 finds on, every number of them gives the same.
use Rattle.std.proofs.Common.{◌≡◌, ℕ, ◌≤◌, min, List, length, inl, inr, subst, arith}
use Rattle.std.proofs.lemmas.Bool.{cases_lt}
use Rattle.orders.specs.Orders.{Order}
use Rattle.pages.specs.Image.{Image}
use Rattle.layout.specs.declared.header.Header.{Header}
use Rattle.faults.specs.Accesses.{contents}
use Rattle.index.specs.Model.{Answer, State}
use Rattle.index.specs.Model.Call.{opens, searches}
use Rattle.index.specs.Keeping.{Content, Kept}
use Rattle.index.specs.Opening.{Opening, ReadsOurs}
use Rattle.index.specs.Opening.Opening.{few_records, absent, uncharged, no_header, other_order, unread, breaks, opens_on}
use Rattle.index.specs.Steps.{Names, Does, Step}
use Rattle.index.specs.Steps.Names.{from_low, to_high}
use Rattle.index.specs.Steps.Does.{open_few, open_absent, open_uncharged, open_no_header, open_other, open_short, open_tree, not_open, outside, searched}
use Rattle.answers.proofs.Events.{same_search}

-- ---- openings

opens_alike : (o : Order) (c v : Content) (s u : State) (a : Answer) (w : ℕ) → 64 ≤ w → Does o c s a u v (opens 64) → Does o c s a u v (opens w)
opens_alike o c v s u a w h (open_few few ea eu ev) = absurd (omega arith)
opens_alike o c v s u a w h (open_absent r wanting ea eu ev) = open_absent h wanting ea eu ev
opens_alike o c v s u a w h (open_uncharged r there wanting ea eu ev) = open_uncharged h there wanting ea eu ev
opens_alike o c v s u a w h (open_no_header r there paid wanting ea eu ev) = open_no_header h there paid wanting ea eu ev
opens_alike o c v s u a w h (open_other k r there paid proper says wanting ea eu ev) = open_other k h there paid proper says wanting ea eu ev
opens_alike o c v s u a w h (open_short f level ec r paid less scan ea eu ev) = open_short f level ec h paid less scan ea eu ev
opens_alike o c v s u a w h (open_tree f ec r paid enough ea eu ev) = open_tree f ec h paid enough ea eu ev
opens_alike o c v s u a w h (not_open x names is ea eu ev) = elim names [ ]
opens_alike o c v s u a w h (outside x height root total free names is out ea eu ev) = elim names [ ]

steps_alike : (o : Order) (s u : State) (a : Answer) (w : ℕ) → 64 ≤ w → Step o s a u (opens 64) → Step o s a u (opens w)
steps_alike o s u a w h step = record {
  size = step.size;
  exact = λ c kept. let goes = step.exact c kept in record { next = goes.next; kept = goes.kept; does = opens_alike o c goes.next s u a w h goes.does };
}

ours_alike : (o : Order) (m : Image) (w : ℕ) (k : Header) → 64 ≤ w → ReadsOurs o m 64 k → ReadsOurs o m w k
ours_alike o m w k h r = record { records = h; there = r.there; charged = r.charged; proper = r.proper; says = r.says; ours = r.ours }

opening_alike : (o : Order) (s u : State) (a : Answer) (w : ℕ) → 64 ≤ w → Opening o s 64 a u → Opening o s w a u
opening_alike o s u a w h (few_records few ea eu) = absurd (omega arith)
opening_alike o s u a w h (absent r wanting ea eu) = absent h wanting ea eu
opening_alike o s u a w h (uncharged r there wanting ea eu) = uncharged h there wanting ea eu
opening_alike o s u a w h (no_header r there paid wanting ea eu) = no_header h there paid wanting ea eu
opening_alike o s u a w h (other_order k r there paid proper says wanting ea eu) = other_order k h there paid proper says wanting ea eu
opening_alike o s u a w h (unread k p level r scan ea eu) = unread k p level (ours_alike o s.image w k h r) scan ea eu
opening_alike o s u a w h (breaks k p rule left r scan ea eu) = breaks k p rule left (ours_alike o s.image w k h r) scan ea eu
opening_alike o s u a w h (opens_on k seen sum left r scan ea eu) = opens_on k seen sum left (ours_alike o s.image w k h r) scan ea eu

-- so 64 of them are enough to lend
pub step_opens : (o : Order) (s u : State) (a : Answer) (w k : ℕ) → k ≡ min w 64 → Step o s a u (opens k) → Step o s a u (opens w)
step_opens o s u a w k e step = elim (cases_lt 64 w) [
  | inr few ↦ let same : k ≡ w = omega arith in subst (λ (n : ℕ). Step o s a u (opens n)) same step
  | inl many ↦ let same : k ≡ 64 = omega arith in steps_alike o s u a w (omega arith) (subst (λ (n : ℕ). Step o s a u (opens n)) same step)
]

pub opening : (o : Order) (s u : State) (a : Answer) (w k : ℕ) → k ≡ min w 64 → Opening o s k a u → Opening o s w a u
opening o s u a w k e step = elim (cases_lt 64 w) [
  | inr few ↦ let same : k ≡ w = omega arith in subst (λ (n : ℕ). Opening o s n a u) same step
  | inl many ↦ let same : k ≡ 64 = omega arith in opening_alike o s u a w (omega arith) (subst (λ (n : ℕ). Opening o s n a u) same step)
]

-- ---- searches

named : (x lo hi : List ℕ) (start room : ℕ) → Names x (searches lo hi start 10240) → Names x (searches lo hi start room)
named x lo hi start room from_low = from_low
named x lo hi start room to_high = to_high

searches_alike : (o : Order) (c v : Content) (s u : State) (a : Answer) (lo hi : List ℕ) (start room : ℕ) → Kept o s c → 10240 ≤ room
    → Does o c s a u v (searches lo hi start 10240) → Does o c s a u v (searches lo hi start room)
searches_alike o c v s u a lo hi start room kept h (not_open x names is ea eu ev) = not_open x (named x lo hi start room names) is ea eu ev
searches_alike o c v s u a lo hi start room kept h (outside x height root total free names is out ea eu ev) =
    outside x height root total free (named x lo hi start room names) is out ea eu ev
searches_alike o c v s u a lo hi start room kept h (searched f free ec ek il ih ea eu ev) =
    let holds = subst (Kept o s) ec kept in
    let same = same_search o lo hi start (contents s.image) (length s.image.pages) f.height f.total f.tree holds.sound s.image.charge room h in
    searched f free ec ek il ih (rw same ea) (rw same eu) ev

searching_alike : (o : Order) (s u : State) (a : Answer) (lo hi : List ℕ) (start room : ℕ) → 10240 ≤ room
    → Step o s a u (searches lo hi start 10240) → Step o s a u (searches lo hi start room)
searching_alike o s u a lo hi start room h step = record {
  size = step.size;
  exact = λ c kept. let goes = step.exact c kept in
      record { next = goes.next; kept = goes.kept; does = searches_alike o c goes.next s u a lo hi start room kept h goes.does };
}

-- so room for 10,240 is enough to lend
pub step_searches : (o : Order) (s u : State) (a : Answer) (lo hi : List ℕ) (start room k : ℕ) → k ≡ min room 10240
    → Step o s a u (searches lo hi start k) → Step o s a u (searches lo hi start room)
step_searches o s u a lo hi start room k e step = elim (cases_lt 10240 room) [
  | inr few ↦ let same : k ≡ room = omega arith in subst (λ (n : ℕ). Step o s a u (searches lo hi start n)) same step
  | inl many ↦ let same : k ≡ 10240 = omega arith in
      searching_alike o s u a lo hi start room (omega arith) (subst (λ (n : ℕ). Step o s a u (searches lo hi start n)) same step)
]
