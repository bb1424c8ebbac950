-- What a reader of a page stands for: the page's bytes, and the entries still to come.
use Rattle.std.specs.Prelude.{◌≡◌, ℕ, List, drop, Option}
use Rattle.std.specs.Iterator.{YieldsFirst}
use Rattle.layout.specs.declared.entry.Entry.{Entry}
use Rattle.layout.specs.declared.reader.PageReader.{PageReader}
use Rattle.layout.specs.Bytes.{entries_of}

abbrev pub bytes_in : PageReader → List ℕ
bytes_in r = r.bytes.now

abbrev pub to_come : PageReader → List Entry
to_come r = drop r.at (entries_of r.bytes.now)

-- the first of the entries to come is given, and the others stay; none is given where none is left
abbrev pub Reads : PageReader → Option Entry → PageReader → Type 0
Reads r e s = (bytes_in s ≡ bytes_in r) × YieldsFirst to_come r e s
