use Rattle.std.proofs.lemmas.Result.{err_from_is_err_and}
use Rattle.script.specs.Words.{texts}
use Rattle.script.proofs.Searched.{searches, room_unwritten, start_unwritten, box_unwritten}
use Rattle.script.proofs.call.parse_search.Goals as goal

pub returns-in_err-words : goal.returns-in_err-words
returns-in_err-words c =
    let p = err_from_is_err_and c.from_residual.result c.from_residual.ensures.1 in
    rw (p.1, p.2) (room_unwritten c.args.n (texts c.args.words.now) c.in_err-words.ensures)

pub returns-in_err-ends : goal.returns-in_err-ends
returns-in_err-ends c =
    let s = c.from_residual-in_err-ends in
    let p = err_from_is_err_and s.result s.ensures.1 in
    rw (p.1, p.2) (start_unwritten c.args.n (texts c.args.words.now) (texts c.in_ok-words.words.now) c.in_ok-words.room c.in_ok-words.ensures c.in_err-ends.ensures)

pub returns-in_err-query : goal.returns-in_err-query
returns-in_err-query c =
    let s = c.from_residual-in_err-query in
    let p = err_from_is_err_and s.result s.ensures.1 in
    let words = texts c.in_ok-words.words.now in
    let ends = texts c.in_ok-ends.ends.now in
    rw (p.1, p.2) (box_unwritten c.args.n (texts c.args.words.now) words ends c.in_ok-words.room c.in_ok-ends.start c.in_ok-words.ensures c.in_ok-ends.ensures _ c.in_err-query.ensures)

pub returns : goal.returns
returns c =
    let words = texts c.in_ok-words.words.now in
    let ends = texts c.in_ok-ends.ends.now in
    let b = c.in_ok-query.query in
    searches c.args.n (texts c.args.words.now) words ends b.low b.high c.in_ok-ends.start c.in_ok-words.room c.in_ok-words.ensures c.in_ok-ends.ensures c.in_ok-query.ensures
