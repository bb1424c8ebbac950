use Rattle.std.proofs.Common.{length, sym, ap, ◌∙◌}
use Rattle.layout.specs.Bytes.{level_of, number_of}
use Rattle.std.proofs.lemmas.Slice.Eq.{slice_eq-Decides}
use Rattle.std.proofs.lemmas.Bool.Decides.{Decides-eqb}
use Rattle.layout.proofs.Judging.{filled_decides}
use Rattle.layout.proofs.rules.is_filled.Goals as goal

pub returns : goal.returns
returns c =
    filled_decides c.args.page.now _ _ _ _ _
    (c.level.ensures ∙ ap level_of c.new-reader.ensures.bytes) (c.number.ensures ∙ ap number_of c.new-reader.ensures.bytes) (c.as_slice.ensures ∙ c.of_page-list.ensures)
    (λ z. c.if-len-eq0.false (c.len.ensures.is ∙ ap length (sym c.as_slice.ensures) ∙ z))
    c.in_default.ensures.1.0 (slice_eq-Decides Decides-eqb _ _ _ c.eq.ensures)
