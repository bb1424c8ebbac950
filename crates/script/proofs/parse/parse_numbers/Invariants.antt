use Rattle.std.proofs.Common.{◌≡◌, ℕ, ◌-◌, ◌^◌, ◌<◌, [], length, get_or, Some, vec_items}
use Rattle.script.specs.Numbers.{NumberIs}
use Rattle.script.specs.Words.{texts}
use Rattle.script.proofs.parse.parse_numbers.Given as goal

abbrev pub invariant-loop-word : goal.invariant-loop-word
invariant-loop-word l =
    (length (vec_items l.numbers) ≡ l.word-index)
    × ((i : ℕ) → i < l.word-index → NumberIs (get_or (texts l.words) i []) (2 ^ 64 - 1) (Some (get_or (vec_items l.numbers) i 0)))
