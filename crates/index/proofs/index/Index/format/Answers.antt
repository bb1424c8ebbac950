use Rattle.std.proofs.Common.{◌≡◌, false, replicate, ap, ◌∙◌, arith}
use Rattle.std.proofs.lemmas.Result.{err_from_is_err_and}
use Rattle.tree.specs.CopyLaws.{usable, upward}
use Rattle.records.specs.Free.{numbers}
use Rattle.index.specs.Model.{limit}
use Rattle.index.proofs.Resets.{formats_memory, format_refused, none_marked, none_set}
use Rattle.index.proofs.index.Index.format.Goals as goal

pub returns-in_err-write_head-clause-step : goal.returns-in_err-write_head-clause-step
returns-in_err-write_head-clause-step g c =
    let p = err_from_is_err_and c.from_residual.result c.from_residual.ensures.1 in
    rw (p.1, p.2) (format_refused _ _ _ _ _ c.in_err-write_head.ensures)

pub returns-clause-step : goal.returns-clause-step
returns-clause-step g c =
    let free : numbers c.rising.result ≡ usable (limit (g.S.PageStore.meaning c.args.self.now.store)) =
    c.rising.ensures ∙ none_marked (replicate 1026 false) 2 _ (none_set 1026) ∙ ap (upward 2) (omega (arith, c.last_usable-last.ensures, c.size.ensures)) in
    formats_memory _ _ _ _ _ c.in_ok-write_head.ensures free
