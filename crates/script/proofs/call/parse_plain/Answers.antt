use Rattle.std.proofs.Common.{inl, inr}
use Rattle.std.proofs.lemmas.Result.{err_from_is_err_and}
use Rattle.script.specs.Words.{texts}
use Rattle.script.proofs.Called.{open_unwritten}
use Rattle.script.proofs.call.parse_plain.Goals as goal

pub returns-in_err-parse_records-in-open-default : goal.returns-in_err-parse_records-in-open-default
returns-in_err-parse_records-in-open-default c =
    let s = c.from_residual-in_err-parse_records-in-open-default in
    let p = err_from_is_err_and s.result s.ensures.1 in
    rw p.1 (inr (inr (inl c.in-open-default.is-open-0)), open_unwritten c.args.verb.now (texts c.args.words.now) c.in-open-default.is-open-0 c.in_err-parse_records-in-open-default.ensures)
