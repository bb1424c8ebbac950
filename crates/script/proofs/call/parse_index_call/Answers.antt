use Rattle.std.proofs.Common.{inl, inr}
use Rattle.std.proofs.lemmas.Result.{err_from_is_err_and}
use Rattle.script.specs.Words.{texts}
use Rattle.script.proofs.Called.{point_unwritten, search_unwritten}
use Rattle.script.proofs.call.parse_index_call.Goals as goal

pub returns-in_err-parse_point-in-lodge : goal.returns-in_err-parse_point-in-lodge
returns-in_err-parse_point-in-lodge c =
    let s = c.from_residual in
    let p = err_from_is_err_and s.result s.ensures.1 in
    rw (p.1, p.2) (point_unwritten c.args.n c.args.verb.now (texts c.args.words.now) _ (inl c.in-lodge.is) c.in_err-parse_point-in-lodge.ensures)

pub returns-in_err-parse_point-in-withdraw : goal.returns-in_err-parse_point-in-withdraw
returns-in_err-parse_point-in-withdraw c =
    let s = c.from_residual-in_err-parse_point-in-withdraw in
    let p = err_from_is_err_and s.result s.ensures.1 in
    rw (p.1, p.2) (point_unwritten c.args.n c.args.verb.now (texts c.args.words.now) _ (inr (inl c.in-withdraw.is)) c.in_err-parse_point-in-withdraw.ensures)

pub returns-in_err-parse_point-in-tally : goal.returns-in_err-parse_point-in-tally
returns-in_err-parse_point-in-tally c =
    let s = c.from_residual-in_err-parse_point-in-tally in
    let p = err_from_is_err_and s.result s.ensures.1 in
    rw (p.1, p.2) (point_unwritten c.args.n c.args.verb.now (texts c.args.words.now) _ (inr (inr (inl c.in-tally.is))) c.in_err-parse_point-in-tally.ensures)

pub returns-in_err-parse_search-in-search : goal.returns-in_err-parse_search-in-search
returns-in_err-parse_search-in-search c =
    let s = c.from_residual-in_err-parse_search-in-search in
    let p = err_from_is_err_and s.result s.ensures.1 in
    rw (p.1, p.2) (search_unwritten c.args.n c.args.verb.now (texts c.args.words.now) _ c.in-search.is c.in_err-parse_search-in-search.ensures)
