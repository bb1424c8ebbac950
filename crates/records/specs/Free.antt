-- The meaning of a free list: its numbers, front first, without repetition.
use Rattle.std.specs.Prelude.{ℕ, List}
use Rattle.records.specs.Chain.{walk}
use Rattle.records.specs.declared.free.FreeList.{FreeList}

unfoldable pub numbers : FreeList → List ℕ
numbers f = walk 1026 f.next f.front
