-- What a page access with its context does: the store's own answer, and where it was asked.
use Rattle.std.specs.Prelude.{◌≡◌, ℕ, ◌-◌, List, [], Ok, Err, Result, slice_index_or}
use Rattle.pages.specs.Image.{Image, Reads, Writes}
use Rattle.layout.specs.Bytes.{content_of}
use Rattle.tree.specs.Tree.{Contents}
use Rattle.pages.specs.declared.fault.StoreFault.{StoreFault}
use Rattle.faults.specs.declared.fault.Access.{Access}
use Rattle.faults.specs.declared.fault.Fault.{Fault}
use Rattle.faults.specs.Refusals.{unread, unwritten}

-- what each page of a memory says as a tree page
abbrev pub contents : Image → Contents
contents m = λ p. content_of (slice_index_or m.pages (p - 1) [])

-- a refusal is told as a fault, with the page and its level
abbrev pub access : ℕ → ℕ → StoreFault → Access
access p level fault = record { at = record { page = p; level = level }; fault = fault }

abbrev pub Fetches : Image → ℕ → ℕ → List ℕ → Result (Unit {0}) Fault → Image → List ℕ → Type 0
Fetches m p level old (Ok u) m' new = Reads m p old (Ok u) m' new
Fetches m p level old (Err f) m' new = (fault : StoreFault) × (f ≡ unread (access p level fault)) × Reads m p old (Err fault) m' new

abbrev pub Stores : Image → ℕ → ℕ → List ℕ → Result (Unit {0}) Fault → Image → Type 0
Stores m p level from (Ok u) m' = Writes m p from (Ok u) m'
Stores m p level from (Err f) m' = (fault : StoreFault) × (f ≡ unwritten (access p level fault)) × Writes m p from (Err fault) m'
