use Rattle.std.proofs.Common.{arith}
use Rattle.std.proofs.lemmas.Result.{err_from_is_err_and}
use Rattle.script.proofs.Asked.{first_written, first_unnumbered, first_no_box}
use Rattle.script.proofs.parse.parse_first.Goals as goal

pub returns-in_err-start : goal.returns-in_err-start
returns-in_err-start c =
    let p = err_from_is_err_and c.from_residual.result c.from_residual.ensures.1 in
    rw (p.1, p.2) (first_unnumbered c.args.words.now c.args.n (omega arith) c.in_err-start.ensures.1)

pub returns-in_err-b : goal.returns-in_err-b
returns-in_err-b c =
    let p = err_from_is_err_and c.from_residual-in_err-b.result c.from_residual-in_err-b.ensures.1 in
    rw (p.1, p.2) (first_no_box c.args.words.now c.args.n c.in_ok-start.start c.in_err-b.field-0.0 (omega arith) c.in-from.is-from c.in_ok-start.ensures c.in_err-b.ensures)

pub returns : goal.returns
returns c = first_written c.args.words.now c.args.n c.in_ok-b.b.low c.in_ok-b.b.high c.in_ok-start.start (omega arith) c.in-from.is-from c.in_ok-start.ensures c.in_ok-b.ensures
