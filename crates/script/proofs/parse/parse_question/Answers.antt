use Rattle.std.proofs.lemmas.Result.{err_from_is_err_and}
use Rattle.script.specs.Words.{texts}
use Rattle.script.proofs.Asked.{address_words, first_words}
use Rattle.script.proofs.parse.parse_question.Goals as goal

pub returns-in_err-parse_point-in-address : goal.returns-in_err-parse_point-in-address
returns-in_err-parse_point-in-address c =
    let p = err_from_is_err_and c.from_residual.result c.from_residual.ensures.1 in
    rw (p.1, p.2) (address_words c.args.n c.args.verb.now (texts c.args.words.now) c.in_err-parse_point-in-address.field-0.0 c.in-address.is c.in_err-parse_point-in-address.ensures)

pub returns-in_err-question-in-first : goal.returns-in_err-question-in-first
returns-in_err-question-in-first c =
    let p = err_from_is_err_and c.from_residual-in_err-question-in-first.result c.from_residual-in_err-question-in-first.ensures.1 in
    rw (p.1, p.2) (first_words c.args.n c.args.verb.now (texts c.args.words.now) c.in_err-question-in-first.field-0.0 c.in-first.is c.in_err-question-in-first.ensures)
