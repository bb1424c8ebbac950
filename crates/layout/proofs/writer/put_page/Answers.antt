use Rattle.std.proofs.Common.{◌≡◌, length, take, refl, ap, ◌∙◌, arith}
use Rattle.std.specs.List.{AllByRecursion}
use Rattle.std.proofs.lemmas.List.{take_all}
use Rattle.std.proofs.ByRecursion.{All-more}
use Rattle.layout.specs.Bytes.{begun_bytes, page_bytes, Fit}
use Rattle.layout.proofs.Pages.{write_more}
use Rattle.layout.proofs.Trips.{holds}
use Rattle.layout.proofs.writer.put_page.Goals as goal

pub loop-i-preserved : goal.loop-i-preserved
loop-i-preserved c = (
  write_more _ _ _ c.args.entries.now _ _ c.loop-i.i _ _ _ c.loop-i-test.true refl (omega arith) c.loop-i.invariant.0 c.put_entry.ensures.bytes,
  All-more Fit c.args.entries.now c.loop-i.i (record { key = 0; value = 0 }) c.loop-i-test.true c.loop-i.invariant.1 c.put_entry.ensures.fits,
)

pub returns : goal.returns
returns c =
    let all : take c.loop-i.i c.args.entries.now ≡ c.args.entries.now = take_all c.loop-i.i c.args.entries.now c.loop-i-test.false in
    let p : c.loop-i.page ≡ page_bytes c.args.level c.args.number c.args.entries.now = c.loop-i.invariant.0 ∙ ap (begun_bytes c.args.level (length c.args.entries.now) c.args.number) all in
    let f : AllByRecursion Fit c.args.entries.now = rw all at c.loop-i.invariant.1 in
    holds c.args.level c.args.number c.args.entries.now _ c.ranges.number.fits c.requires f p
