use Rattle.tree.proofs.SearchChild.{child_law}
use Rattle.tree.proofs.SearchLooping.{loop_begin_law, loop_turn_law, loop_end_law, loop_early_law}
use Rattle.tree.proofs.search_laws.child_loop_stands.Goals as goal

pub returns : goal.returns
returns c = record { child = child_law; begin = loop_begin_law; turn = loop_turn_law; end = loop_end_law; early = loop_early_law }
