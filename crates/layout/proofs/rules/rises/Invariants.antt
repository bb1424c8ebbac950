use Rattle.std.proofs.Common.{◌↔◌}
use Rattle.layout.specs.Content.{LeafKeys}
use Rattle.layout.specs.Bytes.{entries_of}
use Rattle.layout.specs.Reading.{to_come}
use Rattle.layout.specs.Rules.{least}
use Rattle.layout.proofs.rules.rises.Given as goal

-- what is to come decides
abbrev pub invariant-loop-e : goal.invariant-loop-e
invariant-loop-e l = LeafKeys (least l.low) l.end (to_come l.e-iterator) ↔ LeafKeys l.start l.end (entries_of l.page)
