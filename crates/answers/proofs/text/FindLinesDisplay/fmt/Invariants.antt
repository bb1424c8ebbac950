use Rattle.std.proofs.Common.{take}
use Rattle.std.specs.Fmt.{HasWritten, IsPlainFormatter}
use Rattle.std.specs.List.{flat_map}
use Rattle.answers.specs.Texts.{find_text}
use Rattle.answers.proofs.text.FindLinesDisplay.fmt.Given as goal

abbrev pub invariant-loop-find : goal.invariant-loop-find
invariant-loop-find g l = IsPlainFormatter l.initial.f →
    HasWritten g.W.Write.write_str_gives l.initial.f (flat_map (find_text l.fn.self.n) (take l.find-index l.find-items)) l.f
