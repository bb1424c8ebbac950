-- What is printed of a line that is not understood.
use Rattle.std.specs.Prelude.{ℕ, List, codes}
use Rattle.script.specs.declared.reason.Reason.{Reason}
use Rattle.script.specs.declared.reason.Reason.TheVariants.{Command, Words, Number, Order, Layers}

abbrev pub reason_text : Reason → List ℕ
reason_text Command = codes "no such command"
reason_text Words = codes "wrong number of words"
reason_text Number = codes "a number is missing or does not fit"
reason_text Order = codes "a set-up line out of its order"
reason_text Layers = codes "at most two layers"
