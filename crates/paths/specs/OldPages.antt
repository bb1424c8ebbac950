-- The old pages of a path.
use Rattle.std.specs.Prelude.{ℕ, List, take}
use Rattle.paths.specs.declared.old_pages.OldPages.{OldPages}

-- those that it holds, the leaf's first
abbrev pub old_pages : OldPages → List ℕ
old_pages p = take p.len p.table
