use Rattle.std.proofs.Common.{[], sym, ◌∙◌}
use Rattle.std.proofs.lemmas.Bool.{true≢false}
use Rattle.std.proofs.lemmas.Result.{err_from_is_err_and}
use Rattle.index.proofs.Heading.{head_refused, head_other}
use Rattle.index.proofs.head.read_head.Goals as goal

pub returns-in_err-fetch : goal.returns-in_err-fetch
returns-in_err-fetch g c =
    let p = err_from_is_err_and c.from_residual.result c.from_residual.ensures.1 in
    rw (p.1, p.2) (head_refused _ _ _ _ _ c.fetch.new.into c.in_err-fetch.ensures)

pub returns-then-not-is_ours : goal.returns-then-not-is_ours
returns-then-not-is_ours g c =
    let h = c.in_ok-header.ensures in
    head_other _ _ _ [] c.fetch.new.into c.in_ok-header.header c.in_ok-fetch.ensures h.0 h.1 (λ ours. true≢false (sym (c.is_ours.ensures.1 ours) ∙ c.if-not-is_ours.true))
