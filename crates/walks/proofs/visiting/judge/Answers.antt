use Rattle.std.proofs.Common.{◌-◌, ◌++◌, ap, ◌∙◌, arith}
use Rattle.layout.specs.Bytes.{content_of}
use Rattle.tree.specs.Tree.{counts}
use Rattle.tree.specs.Scan.{child_visits}
use Rattle.walks.specs.Pending.{to_come}
use Rattle.std.proofs.lemmas.Result.{err_from_is_err_and}
use Rattle.walks.proofs.Judging.{judges_broken, judges_leaf, judges_inner}
use Rattle.walks.proofs.visiting.judge.Goals as goal

pub returns-in_err-check_page-clause-judges : goal.returns-in_err-check_page-clause-judges
returns-in_err-check_page-clause-judges c =
    let p = err_from_is_err_and c.from_residual.result c.from_residual.ensures.1 in
    rw (p.1, p.2) (judges_broken (content_of c.args.page.now) c.args.v _ _ c.requires.level c.in_err-check_page.ensures)

pub returns-then-v-eq1-clause-judges : goal.returns-then-v-eq1-clause-judges
returns-then-v-eq1-clause-judges c =
    judges_leaf (content_of c.args.page.now) c.args.v _ tt _ c.in_ok-check_page.ensures c.if-v-eq1.true
    (c.counted.ensures.sum ∙ ap counts (c.as_slice.ensures ∙ c.of_page-list.ensures)) c.counted.ensures.small

pub returns-clause-judges : goal.returns-clause-judges
returns-clause-judges c =
    judges_inner (content_of c.args.page.now) c.args.v _ tt _ c.in_ok-check_page.ensures (omega (arith, c.requires.level, c.if-v-eq1.false))
    (c.put_children.ensures.put
    ∙ ap (λ es. child_visits (c.args.v.at.level - 1) c.args.v.lo c.args.v.hi es ++ to_come c.args.pending.now) (c.as_slice-2.ensures ∙ c.of_page-list.ensures))
