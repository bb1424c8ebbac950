-- What reading the header answers, the questions 8 to 11 of an opening, by the bytes of page 1; and what writing it does.
use Rattle.std.specs.Prelude.{◌≡◌, ℕ, ◌<◌, ◌≤◌, [], length, Ok, Err, Result, ◌≢◌}
use Rattle.pages.specs.Image.{Image, at, spent}
use Rattle.layout.specs.declared.header.Header.{Header}
use Rattle.layout.specs.Heads.{header_bytes, Proper}
use Rattle.orders.specs.Orders.{Order}
use Rattle.faults.specs.declared.fault.Access.{Access}
use Rattle.faults.specs.declared.fault.Fault.{Fault}
use Rattle.faults.specs.declared.fault.Fault.TheVariants.{NoHeader, OtherOrder}
use Rattle.faults.specs.Accesses.{Stores}
use Rattle.faults.specs.Refusals.{unread}
use Rattle.pages.specs.Image.{Reads}
use Rattle.index.specs.Keeping.{Ours}

-- page 1 was read
pub record Got (m m' : Image) : Type 0 where
  pub there : 1 ≤ length m.pages
  pub charged : 0 < m.charge
  pub spends : m' ≡ spent m

-- it says a proper header
pub record Says (m : Image) (h : Header) : Type 0 where
  pub proper : Proper h
  pub bytes : at m 1 ≡ header_bytes h

-- no header of this order was read: the store refuses, or page 1 is no header, or it is of another order
pub data NoHead (o : Order) (m : Image) (f : Fault) (m' : Image) : Type 0 where
  refused : (x : Access) → f ≡ unread x → x.at.page ≡ 1 → x.at.level ≡ 0 → Reads m 1 [] (Err x.fault) m' [] → NoHead o m f m'
  none : f ≡ NoHeader → Got m m' → ((h : Header) → Proper h → at m 1 ≢ header_bytes h) → NoHead o m f m'
  other : (h : Header) → f ≡ OtherOrder → Got m m' → Says m h → (Ours o h → ⊥) → NoHead o m f m'

-- a header of this order was read
pub record Head (o : Order) (m : Image) (h : Header) (m' : Image) : Type 0 where
  pub got : Got m m'
  pub says : Says m h
  pub ours : Ours o h

abbrev pub ReadsHead : Order → Image → Result Header Fault → Image → Type 0
ReadsHead o m (Ok h) m' = Head o m h m'
ReadsHead o m (Err f) m' = NoHead o m f m'

-- a header of this order
abbrev pub header_with : Order → ℕ → ℕ → ℕ → Header
header_with o height root total = record { kind = o.kind; n = o.n; p = o.p; height = height; root = root; total = total }

-- page 1 is written with it, or the refusal says so
abbrev pub WritesHead : Order → Image → ℕ → ℕ → ℕ → Result (Unit {0}) Fault → Image → Type 0
WritesHead o m height root total r m' = Stores m 1 0 (header_bytes (header_with o height root total)) r m'
