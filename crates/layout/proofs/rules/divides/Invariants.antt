use Rattle.std.proofs.Common.{◌↔◌, [], ◌∷◌, ◌++◌, drop}
use Rattle.layout.specs.Content.{InnerKeys}
use Rattle.layout.proofs.rules.divides.Given as goal

-- what is left decides
abbrev pub invariant-loop-e : goal.invariant-loop-e
invariant-loop-e l = InnerKeys l.low l.end (drop l.e-index l.others ++ l.last ∷ []) ↔ InnerKeys l.start l.end l.entries
