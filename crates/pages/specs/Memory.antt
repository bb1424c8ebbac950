-- The meaning of a store over lent bytes.
use Rattle.pages.specs.declared.memory.MemoryStore.{MemoryStore}
use Rattle.pages.specs.Cut.{held}
use Rattle.pages.specs.Image.{Image}

abbrev pub meaning_of : MemoryStore → Image
meaning_of s = held s.bytes.now s.charge.left
