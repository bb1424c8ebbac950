use Rattle.std.proofs.Common.{◌-◌, ◌^◌, length, get_or, take, None, inr, refl, arith, rules}
use Rattle.std.proofs.lemmas.Result.{err_from_is_err_and}
use Rattle.script.specs.Numbers.{NumberIs}
use Rattle.script.specs.Words.{texts}
use Rattle.script.proofs.Rows.{past, last_two, ends_in}
use Rattle.script.proofs.call.parse_room.Goals as goal
use Rattle.script.proofs.call.parse_room.Goals.{in_default-via-then-words-lt2, in_default-via-else-words-lt2+in_default}

pub returns-in_default : goal.returns-in_default
returns-in_default c =
    inr (
      refl,
      refl,
      λ bs v is.
          let last = ends_in c.args.words.now bs _ v is in
          elim c.in_default.branch [ in_default-via-then-words-lt2 w ↦ grind arith | in_default-via-else-words-lt2+in_default w ↦ search rules ],
    )

pub returns-in_err-parse_as-in-room : goal.returns-in_err-parse_as-in-room
returns-in_err-parse_as-in-room c =
    let p = err_from_is_err_and c.from_residual.result c.from_residual.ensures.1 in
    let ws = c.args.words.now in
    let last = get_or ws (length ws - 1) past in
    let none : NumberIs last.now (2 ^ 32 - 1) None = search rules in
    rw p.1 (texts (take (length ws - 2) ws), last.now, last_two ws _ c.in-room.len_at_least c.in-room.is-room, none)
