use Rattle.std.proofs.Common.{rules, refl, ◌∙◌, arith}
use Rattle.std.proofs.lemmas.Grind.{get_or_default_zero}
use Rattle.session.proofs.Zeros.{zeros_more}
use Rattle.session.proofs.memory.is_zero.Goals as goal

pub loop-b-init : goal.loop-b-init
loop-b-init c = (λ e k l. absurd (omega (arith, l)), λ z. refl)

pub loop-b-preserved : goal.loop-b-preserved
loop-b-preserved c = zeros_more c.args.bytes.now c.loop-b.b-index c.loop-b.bits c.loop-b.invariant

pub returns : goal.returns
returns c =
    let h = c.loop-b.invariant in (
      λ t k d l. get_or_default_zero c.args.bytes.now k d l ∙ h.0 (search rules) k (omega (arith, l, c.loop-b-test.false)),
      λ z. rw (h.1 (λ k l. z k 0 (omega (arith, l, c.loop-b.auto.b-index-end)))) (search rules),
    )
