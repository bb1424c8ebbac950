use Rattle.std.proofs.lemmas.Result.{err_from_is_err_and}
use Rattle.script.proofs.Rows.{odd, ends, no_low, no_high}
use Rattle.script.proofs.parse.parse_box.Goals as goal

pub returns-then-words-ne0 : goal.returns-then-words-ne0
returns-then-words-ne0 c = odd c.args.words.now c.args.n c.if-words-ne0.true

pub returns-in_err-low : goal.returns-in_err-low
returns-in_err-low c =
    let p = err_from_is_err_and c.from_residual.result c.from_residual.ensures.1 in
    rw (p.1, p.2) (no_low c.args.words.now c.args.n c.in_err-low.field-0.0 (rw c.split_at.ensures.front at c.in_err-low.ensures))

pub returns-in_err-high : goal.returns-in_err-high
returns-in_err-high c =
    let p = err_from_is_err_and c.from_residual-in_err-high.result c.from_residual-in_err-high.ensures.1 in
    rw (p.1, p.2) (no_high c.args.words.now c.args.n c.in_err-high.field-0.0 (rw c.split_at.ensures.back at c.in_err-high.ensures))

pub returns-in_err-new : goal.returns-in_err-new
returns-in_err-new c =
    let ws = c.args.words.now in
    let n = c.args.n in
    let e = c.in_err-new.ensures in
    let low = c.in_ok-low.low in
    let high = c.in_ok-high.high in
    let p = err_from_is_err_and c.from_residual-in_err-new.result c.from_residual-in_err-new.ensures.1 in
    rw (p.1, p.2) (e.0, (low, high, ends ws n low high c.if-words-ne0.false (rw c.split_at.ensures.front at c.in_ok-low.ensures) (rw c.split_at.ensures.back at c.in_ok-high.ensures), e.1))

pub returns : goal.returns
returns c =
    let ws = c.args.words.now in
    let n = c.args.n in
    let e = c.in_ok-new.ensures in
    let w = ends ws n c.in_ok-low.low c.in_ok-high.high c.if-words-ne0.false (rw c.split_at.ensures.front at c.in_ok-low.ensures) (rw c.split_at.ensures.back at c.in_ok-high.ensures) in
    rw (e.0, e.1) w
