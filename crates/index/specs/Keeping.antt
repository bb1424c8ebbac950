-- What ties an index to its memory. Every call keeps it, whether it is accepted or refused.
use Rattle.std.specs.Prelude.{◌≡◌, ℕ, ◌+◌, ◌-◌, ◌≤◌, length, ◌≢◌}
use Rattle.pages.specs.Image.{at}
use Rattle.layout.specs.declared.header.Header.{Header}
use Rattle.layout.specs.Heads.{header_bytes, Proper}
use Rattle.orders.specs.Orders.{Order, size}
use Rattle.tree.specs.Tree.{Node, Held}
use Rattle.tree.specs.CopyLaws.{SoundOf, Within, root_of, events_of, pages_of, usable}
use Rattle.tree.specs.CopyWrites.{times}
use Rattle.faults.specs.Accesses.{contents}
use Rattle.index.specs.Model.{State, Known, limit}
use Rattle.index.specs.Model.Known.{shut, knows}

-- the greatest address
abbrev pub top : Order → ℕ
top o = size o - 1

-- a tree on file, which may be empty, with its height and its total of events
pub record Filed : Type 0 where
  pub tree : Held Node
  pub height : ℕ
  pub total : ℕ

-- What a memory holds: no header of this order on page 1, or a header and the tree that it names.
pub data Content : Type 0 where
  blank : Content
  filed : Filed → Content

-- the header of a tree
abbrev pub header_for : Order → Filed → Header
header_for o f = record { kind = o.kind; n = o.n; p = o.p; height = f.height; root = root_of f.tree; total = f.total }

-- a header of this order
abbrev pub Ours : Order → Header → Type 0
Ours o h = (h.kind ≡ o.kind) × (h.n ≡ o.n) × (h.p ≡ o.p)

-- what the index knows agrees with the tree: its height, root and total, and tree pages and free pages are together
-- the pages 2 to L, each once
abbrev pub Agrees : ℕ → Filed → Known → Type 0
Agrees l f shut = Unit {0}
Agrees l f (knows height root total free) =
    (height ≡ f.height) × (root ≡ root_of f.tree) × (total ≡ f.total) × ((p : ℕ) → times p (pages_of f.tree) + times p free ≡ times p (usable l))

-- page 1 is the header of the tree, which is sound, has at most six levels and counts of at most 65,535; and the index agrees
pub record Holds (o : Order) (s : State) (f : Filed) : Type 0 where
  pub there : 1 ≤ length s.image.pages
  pub header : at s.image 1 ≡ header_bytes (header_for o f)
  pub sound : SoundOf (contents s.image) (limit s.image) f.height f.total (top o) f.tree
  pub low : f.height ≤ 6
  pub counts : Within 65535 (events_of f.tree)
  pub agrees : Agrees (limit s.image) f s.known

abbrev pub Kept : Order → State → Content → Type 0
Kept o s blank = (s.known ≡ shut) × ((h : Header) → Proper h → Ours o h → at s.image 1 ≢ header_bytes h)
Kept o s (filed f) = Holds o s f
