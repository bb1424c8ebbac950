-- The edits of one page are the tree's.
use Rattle.std.proofs.Common.{◌≡◌, ℕ, suc, ◌-◌, ◌≤◌, Bool, true, false, cond, eqb, leb, List, [], ◌∷◌, length, Some, None, Option, Ok, Err, Result, sym, refl, ap, ◌∙◌, arith}
use Rattle.layout.specs.declared.entry.Entry.{Entry}
use Rattle.layout.specs.declared.change.ChildPages.TheVariants.{One}
use Rattle.layout.specs.Edits as page
use Rattle.layout.specs.Edits.{found}
use Rattle.layout.specs.declared.change.Full.{Full}
use Rattle.layout.specs.Changes.{Removes, Puts}
use Rattle.tree.specs.Tree.{Held}
use Rattle.tree.specs.Tree.Held.{none, held}
use Rattle.tree.specs.CopyMoves.{entry, remove}
use Rattle.tree.specs.CopyPages.{clear, before}
use Rattle.tree.proofs.CopyBase.{by_le, by_eq}
use Rattle.paths.specs.WithdrawEdits.{left_of}

remove_same : (a : ℕ) (es : List Entry) → page.remove a es ≡ remove a es
remove_same a [] = refl
remove_same a (e ∷ es) = ap (λ (z : List Entry). cond (eqb a e.key) (cond (leb e.value 1) es (entry a (e.value - 1) ∷ es)) (e ∷ z)) (remove_same a es)

remove_length : (a : ℕ) (es : List Entry) → length (remove a es) ≤ length es
remove_length a [] = omega arith
remove_length a (e ∷ es) =
    by_eq (λ (x : List Entry). length x ≤ suc (length es)) a e.key _ _
    (λ _. by_le (λ (x : List Entry). length x ≤ suc (length es)) e.value 1 _ _ (λ _. omega arith) (λ _. omega arith))
    (λ _. omega (arith, remove_length a es))

before_length : (e : Entry) (es : List Entry) → length (before e es) ≡ suc (length es)
before_length e [] = refl
before_length e (d ∷ es) = refl

clear_length : (es : List Entry) (a : ℕ) (s : Held ℕ) → length (clear es a s) ≤ length es
clear_length [] a s = omega arith
clear_length (e ∷ []) a none = omega arith
clear_length (e ∷ []) a (held v) = omega arith
clear_length (e ∷ (d ∷ es)) a none =
    by_le (λ (x : List Entry). length x ≤ suc (suc (length es))) a e.key _ _ (λ _. omega arith)
    (λ _. omega (arith, before_length e (clear (d ∷ es) a none), clear_length (d ∷ es) a none))
clear_length (e ∷ (d ∷ es)) a (held v) =
    by_le (λ (x : List Entry). length x ≤ suc (suc (length es))) a e.key _ _ (λ _. omega arith)
    (λ _. omega (arith, before_length e (clear (d ∷ es) a (held v)), clear_length (d ∷ es) a (held v)))

before_same : (e : Entry) (es : List Entry) → page.before e es ≡ before e es
before_same e [] = refl
before_same e (d ∷ es) = refl

drop_same : (es : List Entry) (a : ℕ) → page.drop_child_lem es a ≡ clear es a none
drop_same [] a = refl
drop_same (e ∷ []) a = refl
drop_same (e ∷ (d ∷ es)) a =
    ap (λ (z : List Entry). cond (leb a e.key) (d ∷ es) z) (ap (page.before e) (drop_same (d ∷ es) a) ∙ before_same e (clear (d ∷ es) a none))

before_twice : (e d : Entry) (es : List Entry) → before e (before d es) ≡ e ∷ before d es
before_twice e d [] = refl
before_twice e d (c ∷ es) = refl

before_some : (e d : Entry) (es : List Entry) (a v : ℕ) → before e (clear (d ∷ es) a (held v)) ≡ e ∷ clear (d ∷ es) a (held v)
before_some e d [] a v = refl
before_some e d (c ∷ es) a v =
    by_le (λ (x : List Entry). before e x ≡ e ∷ x) a d.key _ _ (λ _. refl) (λ _. before_twice e d (clear (c ∷ es) a (held v)))

put_same : (es : List Entry) (a v : ℕ) → page.put_child es a (page.one v) ≡ clear es a (held v)
put_same [] a v = refl
put_same (e ∷ []) a v = refl
put_same (e ∷ (d ∷ es)) a v =
    ap (λ (z : List Entry). cond (leb a e.key) (entry e.key v ∷ (d ∷ es)) z) (ap (λ (z : List Entry). e ∷ z) (put_same (d ∷ es) a v) ∙ sym (before_some e d es a v))

few_left : (es after : List Entry) (a : ℕ) (left : Held ℕ) → length es ≤ 10 → after ≡ clear es a left → length after ≤ 10
few_left es after a left n e = omega (arith, n, ap length e, clear_length es a left)

-- and they leave at most ten
pub restores_some : (a v : ℕ) (es after : List Entry) (r : Result (Unit {0}) Full) (left : Option ℕ) → length es ≤ 10 → left ≡ Some v → Puts a (One v) es r after → after ≡ clear es a (left_of left)
restores_some a v es after (Ok u) left n q t = t ∙ put_same es a v ∙ ap (λ (x : Option ℕ). clear es a (left_of x)) (sym q)
restores_some a v es after (Err f) left n q t = absurd (omega (arith, n, t.0))

pub restores_none : (a : ℕ) (es after : List Entry) (left : Option ℕ) → left ≡ None → after ≡ page.drop_child_lem es a → after ≡ clear es a (left_of left)
restores_none a es after left q t = t ∙ drop_same es a ∙ ap (λ (x : Option ℕ). clear es a (left_of x)) (sym q)

pub few_some : (a v : ℕ) (es after : List Entry) (r : Result (Unit {0}) Full) → length es ≤ 10 → Puts a (One v) es r after → length after ≤ 10
few_some a v es after r n t = few_left es after a (held v) n (restores_some a v es after r (Some v) n refl t)

pub few_none : (a : ℕ) (es after : List Entry) → length es ≤ 10 → after ≡ page.drop_child_lem es a → length after ≤ 10
few_none a es after n t = few_left es after a none n (restores_none a es after None refl t)

pub few_taken : (a : ℕ) (es after : List Entry) (r : Bool) → length es ≤ 10 → Removes a es r after → length after ≤ 10
few_taken a es after true n t = omega (arith, n, ap length (t.1 ∙ remove_same a es), remove_length a es)
few_taken a es after false n t = omega (arith, n, ap length t.1)
