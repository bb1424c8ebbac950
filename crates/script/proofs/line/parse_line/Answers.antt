use Rattle.std.proofs.Common.{ℕ, ◌-◌, List, length, get_or, take, drop, sym, subst}
use Rattle.std.proofs.lemmas.Result.{err_from_is_err_and}
use Rattle.script.specs.Words.{texts}
use Rattle.script.specs.Lines.{SaysNothing}
use Rattle.script.proofs.Rows.{past, first_word}
use Rattle.script.proofs.Said.{call_unsaid}
use Rattle.script.proofs.line.parse_line.Goals as goal

pub returns-in_err-call : goal.returns-in_err-call
returns-in_err-call c =
    let s = c.from_residual-in_err-call in
    let p = err_from_is_err_and s.result s.ensures.1 in
    let ws = c.args.words.now in
    let verb = (get_or ws 0 past).now in
    rw (p.1, p.2)
    (subst (λ (ts : List (List ℕ)). SaysNothing c.args.n ts c.in_err-call.field-0.0) (sym (first_word ws c.in-len1-up.len_at_least))
    (call_unsaid c.args.n verb (texts (take (length ws - 1) (drop 1 ws))) _ (rw c.in_default-2.is at c.in_ok-setup.ensures) c.in_err-call.ensures))
