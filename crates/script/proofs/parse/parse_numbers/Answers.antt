use Rattle.std.proofs.Common.{◌≡◌, ℕ, ◌+◌, [], ◌∷◌, ◌++◌, length, Some, None, vec_items, ap, ◌∙◌, arith, length-append}
use Rattle.std.proofs.lemmas.List.{length-map}
use Rattle.std.proofs.lemmas.Result.{err_from_is_err_and}
use Rattle.script.specs.Words.{texts}
use Rattle.script.proofs.Rows.{M, number_at, one_more}
use Rattle.script.proofs.parse.parse_numbers.Goals as goal

pub returns-in_err-value : goal.returns-in_err-value
returns-in_err-value c =
    let p = err_from_is_err_and c.from_residual.result c.from_residual.ensures.1 in
    let h = c.in_err-value.ensures in
    let ws = c.args.words.now in
    let k = c.loop-word.word-index in
    let len = length-map ws (λ w. w.now) in
    rw (p.1, p.2) (h.0, (k, omega arith, number_at M ws k None (omega arith) h.1))

pub loop-word-preserved : goal.loop-word-preserved
loop-word-preserved c =
    let old = vec_items c.loop-word.numbers in
    let more : vec_items c.push.new.self ≡ old ++ c.in_ok-value.value ∷ [] = c.in_ok-push.ensures.items in
    let ws = c.args.words.now in
    let k = c.loop-word.word-index in
    let v = c.in_ok-value.value in
    let here = number_at M ws k (Some v) (omega arith) c.in_ok-value.ensures in (
      ap length more ∙ length-append old (v ∷ []) ∙ ap (λ (n : ℕ). n + 1) c.loop-word.invariant.0,
      one_more M (texts ws) old (vec_items c.push.new.self) k v c.loop-word.invariant.0 more here c.loop-word.invariant.1,
    )
