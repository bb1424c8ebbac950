use Rattle.std.proofs.Common.{◌≡◌, suc, ◌+◌, ◌≤◌, inl, inr, ◌∙◌, sym, subst, arith}
use Rattle.std.proofs.lemmas.Bool.{cases_lt}
use Rattle.searches.specs.Sought.{sought, FirstFrom}
use Rattle.searches.proofs.PageWalk.{none_past}
use Rattle.searches.proofs.request.Request.first_past.Goals as goal

pub returns-in_err-checked_add : goal.returns-in_err-checked_add
returns-in_err-checked_add g c =
    let o = g.O.PointOrder in
    let m = c.args.self.now in
    let last : 18446744073709551616 ≤ c.args.end + 1 =
    elim (cases_lt (c.args.end + 1) 18446744073709551616) [ inl l ↦ absurd (c.in_err-checked_add.ensures l) | inr l ↦ l ] in
    subst (λ r. FirstFrom (sought o.meaning m) (suc c.args.end) r) (sym c.from_residual.ensures)
    (λ lo hi b past h. none_past (o.meaning m.order.now) (g.met.O.PointOrder.lawful m.order.now) b h.0 (omega (arith, past, last)))

pub returns : goal.returns
returns g c =
    let e : c.args.end + 1 ≡ suc c.args.end = omega arith in
    subst (λ n. FirstFrom (sought g.O.PointOrder.meaning c.args.self.now) n c.first.result) ((c.in_ok-checked_add.ensures).1 ∙ e) c.first.ensures
