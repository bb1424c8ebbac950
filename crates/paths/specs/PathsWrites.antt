-- Lists of page writes on a store, and where they break off.
use Rattle.std.specs.Prelude.{◌≡◌, ℕ, ◌-◌, ◌<◌, List, [], ◌∷◌, ◌++◌, length}
use Rattle.pages.specs.declared.fault.StoreFault.{StoreFault}
use Rattle.pages.specs.declared.fault.StoreFault.TheVariants.{Absent, Uncharged}
use Rattle.pages.specs.Image.{Image, Has, Lacks, written}
use Rattle.layout.specs.Content.{Content}
use Rattle.layout.specs.Bytes.{page_bytes, content_of}
use Rattle.tree.specs.CopyWrites.{Write}
use Rattle.faults.specs.declared.fault.Access.{Access}
use Rattle.faults.specs.declared.fault.Fault.{Fault}
use Rattle.faults.specs.Refusals.{unwritten}

-- the bytes of a page that says this
abbrev pub encoded : Content → List ℕ
encoded c = page_bytes c.level c.number c.entries

-- the store after these writes, the first one first
abbrev pub stored : List Write → Image → Image
stored [] m = m
stored (w ∷ ws) m = stored ws (written m w.page (encoded w.says))

-- each of them finds its page and a charge, and the page then says what was to be said
abbrev pub Accepts : List Write → Image → Type 0
Accepts [] m = Unit {0}
Accepts (w ∷ ws) m = Has m w.page × (0 < m.charge) × (content_of (encoded w.says) ≡ w.says) × Accepts ws (written m w.page (encoded w.says))

-- the store refuses an access to this page
abbrev pub Refuses : Image → ℕ → StoreFault → Type 0
Refuses m p Absent = Lacks m p
Refuses m p Uncharged = Has m p × (m.charge ≡ 0)

-- after this many reads
abbrev pub after_reads : Image → ℕ → Image
after_reads m k = record { pages = m.pages; charge = m.charge - k }

-- all the writes are done
pub record Wrote (ws : List Write) (m m' : Image) : Type 0 where
  pub accepts : Accepts ws m
  pub image : m' ≡ stored ws m

-- the writes break off: a beginning of them was done, and the next one is refused
pub record Cut (ws : List Write) (m : Image) (x : Access) (m' : Image) : Type 0 where
  pub done : List Write
  pub next : Write
  pub rest : List Write
  pub writes : ws ≡ done ++ (next ∷ rest)
  pub page : x.at.page ≡ next.page
  pub level : x.at.level ≡ next.says.level
  pub began : Wrote done m m'
  pub refused : Refuses m' x.at.page x.fault

-- and the refusal says where: 8 where the page does not exist, 17 where the charge does not carry the write
pub record Unwrites (ws : List Write) (m : Image) (f : Fault) (m' : Image) : Type 0 where
  pub access : Access
  pub told : f ≡ unwritten access
  pub cut : Cut ws m access m'

-- Where every page of the writes exists, only the charge can break them off: at the write that it no longer carries.
pub record WritesRunOut (ws : List Write) (m : Image) (x : Access) (m' : Image) : Type 0 where
  pub done : List Write
  pub next : Write
  pub rest : List Write
  pub writes : ws ≡ done ++ (next ∷ rest)
  pub many : length done ≡ m.charge
  pub page : x.at.page ≡ next.page
  pub level : x.at.level ≡ next.says.level
  pub fault : x.fault ≡ Uncharged
  pub began : Wrote done m m'
