use Rattle.std.proofs.Common.{ℕ, ◌-◌, ◌≤◌, sym, ap, subst}
use Rattle.index.proofs.Heading.{few_bits, shifted, some_address}
use Rattle.index.proofs.head.top_of.Goals as goal

pub overflow_shl-result : goal.overflow_shl-result
overflow_shl-result g c =
    let s = c.args.order.now in
    few_bits (g.O.PointOrder.meaning s) (g.met.O.PointOrder.lawful s) c.n.result c.p.result c.n.ensures c.p.ensures

pub overflow_sub-result : goal.overflow_sub-result
overflow_sub-result g c =
    let s = c.args.order.now in
    let o = g.O.PointOrder.meaning s in
    let law = g.met.O.PointOrder.lawful s in
    subst (λ (x : ℕ). 1 ≤ x) (sym (shifted o law c.n.result c.p.result c.n.ensures c.p.ensures)) (some_address o law)

pub returns : goal.returns
returns g c =
    let s = c.args.order.now in
    ap (λ (x : ℕ). x - 1) (shifted (g.O.PointOrder.meaning s) (g.met.O.PointOrder.lawful s) c.n.result c.p.result c.n.ensures c.p.ensures)
