-- The numbers of refusals, and what is printed of them.
use Rattle.std.specs.Prelude.{ℕ, List, codes}
use Rattle.orders.specs.declared.refusal.Refusal.{Refusal}
use Rattle.orders.specs.declared.refusal.Refusal.TheVariants.{SpaceRange, BoxEnds}

abbrev pub number_of : Refusal → ℕ
number_of SpaceRange = 1
number_of BoxEnds = 4

abbrev pub words : Refusal → List ℕ
words SpaceRange = codes "a space has 1 to 4 coordinates of 1 to 15 bits"
words BoxEnds = codes "a low end lies above its high end"
