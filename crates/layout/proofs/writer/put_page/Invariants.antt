use Rattle.std.proofs.Common.{◌≡◌, length, take}
use Rattle.std.specs.List.{AllByRecursion}
use Rattle.layout.specs.Bytes.{begun_bytes, Fit}
use Rattle.layout.proofs.writer.put_page.Given as goal

-- the page as it would be if only the first i entries were there
abbrev pub invariant-loop-i : goal.invariant-loop-i
invariant-loop-i l = (l.page ≡ begun_bytes l.level (length l.entries) l.number (take l.i l.entries)) × AllByRecursion Fit (take l.i l.entries)
