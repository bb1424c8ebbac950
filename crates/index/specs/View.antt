-- What an index stands for.
use Rattle.std.specs.Prelude.{Some, None, Option}
use Rattle.pages.specs.Image.{Image}
use Rattle.records.specs.Free.{numbers}
use Rattle.index.specs.declared.index.Index.{Index}
use Rattle.index.specs.declared.index.OpenTree.{OpenTree}
use Rattle.index.specs.Model.{State, Known, state}
use Rattle.index.specs.Model.Known.{shut, knows}

abbrev pub known_tree : OpenTree → Known
known_tree t = knows t.root.level t.root.page t.total (numbers t.free)

abbrev pub known_in : Option OpenTree → Known
known_in None = shut
known_in (Some t) = known_tree t

abbrev pub view : {S O : Type 0} → (S → Image) → Index S O → State
view meaning x = state (meaning x.store) (known_in x.tree)
