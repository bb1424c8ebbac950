use Rattle.std.proofs.Common.{◌≡◌, ℕ, ◌-◌, ◌^◌, ◌<◌, [], length, get_or, Some, vec_items}
use Rattle.script.specs.Numbers.{NumberIs}
use Rattle.script.specs.Words.{texts}
use Rattle.script.proofs.setup.parse_pages.Given as goal

abbrev pub invariant-loop-word : goal.invariant-loop-word
invariant-loop-word l =
    (length (vec_items l.pages) ≡ l.word-index)
    × ((i : ℕ) → i < l.word-index → NumberIs (get_or (texts l.words) i []) (2 ^ 16 - 1) (Some (get_or (vec_items l.pages) i 0)))
