use Rattle.std.proofs.Common.{List, get_or, sym, ap, ◌∙◌, arith}
use Rattle.layout.specs.declared.entry.Entry.{Entry}
use Rattle.layout.specs.Listed.{blank}
use Rattle.layout.proofs.Inners.{child_at}
use Rattle.layout.proofs.list.EntryList.child.Goals as goal

pub returns : goal.returns
returns c =
    let p = c.in_ok-i.ensures in
    let w = p.within in
    (omega arith, ap (λ (z : List Entry). (get_or z c.in_ok-i.i blank).value) c.deref.ensures.0 ∙ sym (child_at _ _ _ p))
