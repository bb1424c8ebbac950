-- What an opening answers and leaves, in every state: its questions are about the bytes of page 1 and of the pages under it,
-- whoever wrote them. It first shuts the index, and every refusal leaves it shut.
use Rattle.std.specs.Prelude.{◌≡◌, ℕ, ◌-◌, ◌<◌, ◌≤◌, List, [], ◌∷◌, length, ◌≢◌}
use Rattle.pages.specs.Image.{Image, at, spent, granted}
use Rattle.layout.specs.declared.header.Header.{Header}
use Rattle.layout.specs.Heads.{header_bytes, Proper}
use Rattle.orders.specs.Orders.{Order}
use Rattle.tree.specs.CopyLaws.{usable, unused}
use Rattle.tree.specs.Scan.{Outcome, opened}
use Rattle.layout.specs.declared.visit.Rule.{Rule}
use Rattle.tree.specs.Scan.{accepted as sound, refused as unsound, uncharged as short}
use Rattle.faults.specs.Accesses.{contents}
use Rattle.faults.specs.Refusals.{letter}
use Rattle.index.specs.Model.{Answer, State, state, limit}
use Rattle.index.specs.Model.Answer.{accepted, refused}
use Rattle.index.specs.Model.Known.{shut, knows}
use Rattle.index.specs.Keeping.{Ours, top}

-- the scan of the tree that the header h names: page 1 has been read, so one access is spent
abbrev pub scan_of : Order → Image → Header → Outcome
scan_of o m h = opened (contents m) (limit m) (m.charge - 1) h.height h.root h.total (top o)

-- page 1 was read and says the header h, of this order
pub record ReadsOurs (o : Order) (m : Image) (work : ℕ) (h : Header) : Type 0 where
  pub records : 64 ≤ work
  pub there : 1 ≤ length m.pages
  pub charged : 0 < m.charge
  pub proper : Proper h
  pub says : at m 1 ≡ header_bytes h
  pub ours : Ours o h

pub data Opening (o : Order) (s : State) (work : ℕ) (a : Answer) (u : State) : Type 0 where
  -- 7: fewer than 64 work records
  few_records : work < 64 → a ≡ refused 7 [] → u ≡ state s.image shut → Opening o s work a u
  -- 8 and 9: page 1 is absent, or the charge does not carry its read
  absent : 64 ≤ work → length s.image.pages ≡ 0 → a ≡ refused 8 (1 ∷ 0 ∷ 1 ∷ []) → u ≡ state s.image shut → Opening o s work a u
  uncharged : 64 ≤ work → 1 ≤ length s.image.pages → s.image.charge ≡ 0 → a ≡ refused 9 (1 ∷ 0 ∷ 2 ∷ []) → u ≡ state s.image shut → Opening o s work a u
  -- 10: page 1 is no header as laid out
  no_header : 64 ≤ work → 1 ≤ length s.image.pages → 0 < s.image.charge → ((h : Header) → Proper h → at s.image 1 ≢ header_bytes h)
      → a ≡ refused 10 [] → u ≡ state (spent s.image) shut → Opening o s work a u
  -- 11: it is the header of another order
  other_order : (h : Header) → 64 ≤ work → 1 ≤ length s.image.pages → 0 < s.image.charge → Proper h → at s.image 1 ≡ header_bytes h → (Ours o h → ⊥)
      → a ≡ refused 11 [] → u ≡ state (spent s.image) shut → Opening o s work a u
  -- 9: a tree page whose read the charge does not carry; the charge is spent
  unread : (h : Header) (p level : ℕ) → ReadsOurs o s.image work h → scan_of o s.image h ≡ short p level
      → a ≡ refused 9 (p ∷ level ∷ 2 ∷ []) → u ≡ state (granted s.image 0) shut → Opening o s work a u
  -- 12: the first page in visiting order that breaks a rule, and a rule that it breaks
  breaks : (h : Header) (p : ℕ) (r : Rule) (left : ℕ) → ReadsOurs o s.image work h → scan_of o s.image h ≡ unsound p r left
      → a ≡ refused 12 (p ∷ letter r ∷ []) → u ≡ state (granted s.image left) shut → Opening o s work a u
  -- the tree is sound: the index is open on it, and the usable pages that are not in it are free, rising
  opens_on : (h : Header) (seen : List ℕ) (sum left : ℕ) → ReadsOurs o s.image work h → scan_of o s.image h ≡ sound seen sum left
      → a ≡ accepted → u ≡ state (granted s.image left) (knows h.height h.root h.total (unused seen (usable (limit s.image)))) → Opening o s work a u
