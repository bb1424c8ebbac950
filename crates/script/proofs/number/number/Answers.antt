use Rattle.std.proofs.Common.{arith}
use Rattle.script.proofs.Readings.{read_within, read_none}
use Rattle.script.proofs.number.number.Goals as goal

pub returns-in_err-v : goal.returns-in_err-v
returns-in_err-v c =
    rw c.from_residual.ensures
    (read_none c.args.word.now c.args.limit c.parse.result (omega arith) (c.is_digits.ensures.0 c.if-not-is_digits.false) c.parse.ensures.value.0 c.in_err-v.ensures.value)

pub returns : goal.returns
returns c =
    rw c.then_some.ensures
    (read_within c.args.word.now c.args.limit c.parse.result c.in_ok-v.v (c.is_digits.ensures.0 c.if-not-is_digits.false) c.parse.ensures.value.0 c.in_ok-v.ensures.value)
