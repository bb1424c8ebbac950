use Rattle.std.proofs.lemmas.Result.{err_from_is_err_and}
use Rattle.paths.proofs.PathsAccesses.{page_refused, page_misplaced, page_empty, page_read}
use Rattle.paths.proofs.page.read_page.Goals as goal
use Rattle.std.proofs.Common.{refl}

pub returns-in_err-fetch : goal.returns-in_err-fetch
returns-in_err-fetch g c =
    let p = err_from_is_err_and c.from_residual.result c.from_residual.ensures.1 in
    rw (p.1, p.2) (page_refused _ _ _ _ _ _ c.in_err-fetch.field-0.0 c.in_err-fetch.ensures)

pub returns-then-not-is_own : goal.returns-then-not-is_own
returns-then-not-is_own g c = page_misplaced _ _ _ _ _ c.in_ok-fetch.ensures c.if-not-is_own.ensures.1

pub returns-then-len-eq0 : goal.returns-then-len-eq0
returns-then-len-eq0 g c = page_empty _ _ _ _ _ _ _ c.in_ok-fetch.ensures (c.if-not-is_own.ensures.0 refl) c.read.ensures c.len.ensures.is c.if-len-eq0.true

pub returns : goal.returns
returns g c = page_read _ _ _ _ _ _ _ c.in_ok-fetch.ensures (c.if-not-is_own.ensures.0 refl) c.read.ensures c.len.ensures.is c.if-len-eq0.false
