use Rattle.std.proofs.Common.{◌++◌, ◌∙◌, rules, append-nil}
use Rattle.std.proofs.Output.{has_written_append, has_written_of_eq}
use Rattle.std.proofs.lemmas.List.{nil_from_length}
use Rattle.answers.proofs.Hexes.{part_more, encode_with-nil}
use Rattle.answers.proofs.text.HexDisplay.fmt.Goals as goal

pub loop-part-preserved : goal.loop-part-preserved
loop-part-preserved g c =
    let steps = c.in-Some.ensures.steps in
    let inv = c.loop-part.invariant in (
      search rules,
      tt,
      steps.0 ∙ inv.2,
      λ plain.
          let so_far = inv.3 plain in (
            so_far.0 ++ c.in_ok-digits.field-0.now,
            has_written_append _ _ _ _ _ _ so_far.1 (search rules),
            part_more so_far.0 _ _ _ _ _ steps.1.0 c.in_ok-digits.ensures so_far.2,
          ),
    )

pub returns-clause-writes : goal.returns-clause-writes
returns-clause-writes g c = λ plain _.
    let so_far = c.loop-part.invariant.3 plain in
    let none = nil_from_length _ c.in-None.ensures.steps.1.0 in
    has_written_of_eq _ _ _ _ _ (rw (none, encode_with-nil, append-nil) at so_far.2) so_far.1
