-- What the index knows after the end of a change.
use Rattle.std.proofs.Common.{◌≡◌, ℕ, List, length, drop, Ok, Err, Result, ap, ◌∙◌, length-set}
use Rattle.pages.specs.Image.{Image, Writes}
use Rattle.pages.specs.declared.fault.StoreFault.{StoreFault}
use Rattle.pages.specs.declared.fault.StoreFault.TheVariants.{Absent, Uncharged}
use Rattle.layout.specs.Heads.{header_bytes}
use Rattle.orders.specs.Orders.{Order}
use Rattle.records.specs.Free.{numbers}
use Rattle.faults.specs.declared.fault.Fault.{Fault}
use Rattle.paths.specs.OldPages.{old_pages}
use Rattle.paths.specs.declared.copied.Copied.{Copied}
use Rattle.index.specs.declared.index.OpenTree.{OpenTree}
use Rattle.index.specs.Model.{Known}
use Rattle.index.specs.Model.Known.{knows}
use Rattle.index.specs.Freed.{GivenBack}
use Rattle.index.specs.Head.{WritesHead, header_with}
use Rattle.index.specs.Settled.{Renews}
use Rattle.index.specs.View.{known_tree}

-- `k` was known before, of a tree with these free pages
abbrev pub After : Result (Unit {0}) Fault → List ℕ → Known → Copied → ℕ → Known → Type 0
After (Ok u) free k g total k' = (free' : List ℕ) × (k' ≡ knows g.root.level g.root.page total free') × GivenBack (old_pages g.trade.path) (drop g.trade.used free) free'
After (Err f) free k g total k' = k' ≡ k

pub after_known : (t t' : OpenTree) (g : Copied) (total : ℕ) (res : Result (Unit {0}) Fault) → Renews t g total res t' →
    After res (numbers t.free) (known_tree t) g total (known_tree t')
after_known t t' g total (Ok u) r = (numbers t'.free, (λ i. knows (r.root i).level (r.root i).page (r.total i) (numbers t'.free)), r.free)
after_known t t' g total (Err f) r = ap known_tree r

-- the end of a change leaves the number of pages
write_size : (m m' : Image) (p : ℕ) (bytes : List ℕ) (f : StoreFault) → Writes m p bytes (Err f) m' → length m'.pages ≡ length m.pages
write_size m m' p bytes Absent w = ap (λ (i : Image). length i.pages) w.1
write_size m m' p bytes Uncharged w = ap (λ (i : Image). length i.pages) w.2

pub head_size : (o : Order) (m m' : Image) (height root total : ℕ) (res : Result (Unit {0}) Fault) → WritesHead o m height root total res m' → length m'.pages ≡ length m.pages
head_size o m m' height root total (Ok u) w =
    ap (λ (i : Image). length i.pages) w.2 ∙ length-set m.pages 0 (header_bytes (header_with o height root total))
head_size o m m' height root total (Err f) (e, told, w) = write_size m m' 1 (header_bytes (header_with o height root total)) e w
