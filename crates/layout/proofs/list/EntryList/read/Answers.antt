use Rattle.std.proofs.Common.{◌<◌, length, ap, arith, length-append}
use Rattle.layout.specs.Reading.{to_come}
use Rattle.layout.proofs.Entries.{length_entries}
use Rattle.layout.proofs.list.EntryList.read.Goals as goal

pub push-requires : goal.push-requires
push-requires c =
    let h : length c.loop-e.self.items.items < 11 = omega (arith, ap length c.loop-e.invariant, length-append c.loop-e.self.items.items (to_come c.loop-e.e-iterator), ap length c.in-Some.ensures.steps.1, length_entries c.args.bytes.now) in
    (omega arith, h)
