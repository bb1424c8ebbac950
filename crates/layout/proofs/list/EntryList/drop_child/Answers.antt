use Rattle.std.proofs.Common.{◌≡◌, suc, ◌<◌, ◌⊎◌, length, inl, inr, arith}
use Rattle.layout.specs.Listed.{entries}
use Rattle.layout.proofs.Inners.{drops_other, drops_last}
use Rattle.layout.proofs.list.EntryList.drop_child.Goals as goal
use Rattle.layout.proofs.list.EntryList.drop_child.Goals.{else-i-gt0-via-then-i-gt0+else-i-len, else-i-gt0-via-else-i-gt0}

pub returns-then-i-len : goal.returns-then-i-len
returns-then-i-len c =
    drops_last _ _ _ _ c.if-i-gt0.true (omega (arith, c.if-i-len.true, c.len.ensures.is, c.remove.ensures.len)) c.remove.ensures.items c.deref_mut.ensures.value c.args.address c.in-Some.ensures

pub returns-else-i-gt0 : goal.returns-else-i-gt0
returns-else-i-gt0 c =
    let w : (c.in-Some.i ≡ 0) ⊎ (suc c.in-Some.i < length (entries c.args.self.now)) =
    elim c.else-i-gt0.branch [
      | else-i-gt0-via-then-i-gt0+else-i-len w ↦ inr (omega (arith, w.if-i-len.false, w.len.ensures.is, c.remove.ensures.len, c.in-Some.ensures.within))
      | else-i-gt0-via-else-i-gt0 w ↦ inl (omega (arith, w.if-i-gt0.false))
    ]
    in
    drops_other _ _ _ w c.remove.ensures.items c.args.address c.in-Some.ensures
