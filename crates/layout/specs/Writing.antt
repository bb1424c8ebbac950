-- What writing a tree page does to the lent page.
use Rattle.std.specs.Prelude.{◌≡◌, ℕ, ◌<◌, ◌≤◌, List, length, Ok, Err, Result}
use Rattle.layout.specs.declared.entry.Entry.{Entry}
use Rattle.layout.specs.declared.writer.TooMany.{TooMany}
use Rattle.layout.specs.Content.{page}
use Rattle.layout.specs.Bytes.{page_bytes, content_of}

-- a page is the encoding of level, own number and entries, and says just these
abbrev pub Holds : ℕ → ℕ → List Entry → List ℕ → Type 0
Holds level number es bs = (bs ≡ page_bytes level number es) × (content_of bs ≡ page level number es)

-- the page is written; or there are too many entries, and it stays as it was
abbrev pub Writes : ℕ → ℕ → List Entry → List ℕ → Result (Unit {0}) TooMany → List ℕ → Type 0
Writes level number es before (Ok x) after = (length es ≤ 10) × Holds level number es after
Writes level number es before (Err e) after = (10 < length es) × (after ≡ before)
