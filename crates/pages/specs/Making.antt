-- The numbers of the refusals that a making can meet.
use Rattle.std.specs.Prelude.{ℕ}
use Rattle.pages.specs.declared.making.MakingFault.{MakingFault}
use Rattle.pages.specs.declared.making.MakingFault.TheVariants.{Slots, BadPages}

abbrev pub refusal : MakingFault → ℕ
refusal Slots = 2
refusal BadPages = 3
