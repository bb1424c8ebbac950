-- What is printed of a refusal.
use Rattle.std.specs.Prelude.{ℕ, List, codes}
use Rattle.pages.specs.declared.fault.StoreFault.{StoreFault}
use Rattle.pages.specs.declared.fault.StoreFault.TheVariants.{Absent, Uncharged}
use Rattle.pages.specs.declared.making.MakingFault.{MakingFault}
use Rattle.pages.specs.declared.making.MakingFault.TheVariants.{Slots, BadPages}

abbrev pub fault_text : StoreFault → List ℕ
fault_text Absent = codes "absent"
fault_text Uncharged = codes "uncharged"

abbrev pub making_text : MakingFault → List ℕ
making_text Slots = codes "a slot store has 1 to 1024 pages and more slots than pages, each page in one slot at most"
making_text BadPages = codes "a skip list has 1 to 64 pages of the store below, strictly rising"
