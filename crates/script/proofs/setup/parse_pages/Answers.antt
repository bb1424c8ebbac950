use Rattle.std.proofs.Common.{◌≡◌, ℕ, ◌+◌, ◌-◌, ◌^◌, [], ◌∷◌, ◌++◌, length, get_or, Some, None, vec_items, ap, ◌∙◌, arith, rules, length-append}
use Rattle.std.proofs.lemmas.List.{length-map}
use Rattle.std.proofs.lemmas.Result.{err_from_is_err_and}
use Rattle.script.specs.Numbers.{NumberIs}
use Rattle.script.specs.Words.{texts}
use Rattle.script.proofs.Rows.{past, number_at, one_more}
use Rattle.script.proofs.setup.parse_pages.Goals as goal

pub returns-in_err-page : goal.returns-in_err-page
returns-in_err-page c =
    let p = err_from_is_err_and c.from_residual.result c.from_residual.ensures.1 in
    let ws = c.args.words.now in
    let k = c.loop-word.word-index in
    let len = length-map ws (λ w. w.now) in
    let none : NumberIs (get_or ws k past).now (2 ^ 16 - 1) None = search rules in
    rw (p.1, p.2) (c.in_err-page.ensures.0, (k, omega arith, number_at (2 ^ 16 - 1) ws k None (omega arith) none))

pub loop-word-preserved : goal.loop-word-preserved
loop-word-preserved c =
    let old = vec_items c.loop-word.pages in
    let more : vec_items c.push.new.self ≡ old ++ c.in_ok-page.page ∷ [] = c.in_ok-push.ensures.items in
    let ws = c.args.words.now in
    let k = c.loop-word.word-index in
    let v = c.in_ok-page.page in
    let read : NumberIs (get_or ws k past).now (2 ^ 16 - 1) (Some v) = search rules in
    let here = number_at (2 ^ 16 - 1) ws k (Some v) (omega arith) read in (
      ap length more ∙ length-append old (v ∷ []) ∙ ap (λ (n : ℕ). n + 1) c.loop-word.invariant.0,
      one_more (2 ^ 16 - 1) (texts ws) old (vec_items c.push.new.self) k v c.loop-word.invariant.0 more here c.loop-word.invariant.1,
    )
