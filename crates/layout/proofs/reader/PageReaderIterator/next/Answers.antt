use Rattle.std.proofs.Common.{length, refl, ap, arith}
use Rattle.layout.proofs.Entries.{given_none, given_next}
use Rattle.layout.proofs.reader.PageReaderIterator.next.Goals as goal

pub returns-then-self-held-clause-steps : goal.returns-then-self-held-clause-steps
returns-then-self-held-clause-steps c = (refl, given_none c.args.self.now.bytes.now c.args.self.now.at _ c.held.ensures c.if-self-held.true)

pub returns-clause-steps : goal.returns-clause-steps
returns-clause-steps c = (refl, given_next c.args.self.now.bytes.now c.args.self.now.at _ _ c.held.ensures c.if-self-held.false c.read_entry-e.ensures)

pub returns-clause-goes : goal.returns-clause-goes
returns-clause-goes c =
    let l = given_next c.args.self.now.bytes.now c.args.self.now.at _ _ c.held.ensures c.if-self-held.false c.read_entry-e.ensures in
    record { on = λ _. (tt, tt, omega (arith, ap length l)); keeps = tt; rests = λ _. tt }
