-- The children of an inner page, and the entries that name them.
use Rattle.std.proofs.Common.{◌≡◌, ℕ, zero, suc, ◌<◌, ◌≤◌, length, refl, ap, arith}
use Rattle.tree.specs.Tree.{Forest, pages, pages_in, child_entries}
use Rattle.tree.specs.Tree.Forest.{last, more}
use Rattle.tree.specs.SearchLoops.{children}
use Rattle.tree.specs.SearchCodeLaws.{ChildLaw}
use Rattle.tree.proofs.SearchTests.{all_split}

pub children_length : (f : Forest) (hi : ℕ) → length (children f hi) ≡ length (child_entries f)
children_length (last n) hi = refl
children_length (more n key f) hi = ap suc (children_length f hi)

some_entries : (f : Forest) → 0 < length (child_entries f)
some_entries (last n) = omega arith
some_entries (more n key f) = omega arith

pub child_law : ChildLaw
child_law (last n) hi zero d e h = (refl, refl, λ less. absurd (omega arith), λ same. refl, λ l level. level, λ m stands. stands, λ limit all. all)
child_law (last n) hi (suc j) d e h = absurd (omega arith)
child_law (more n key f) hi zero d e h = (
  children_length (more n key f) hi,
  refl,
  λ less. refl,
  λ same. absurd (omega (arith, some_entries f)),
  λ l level. level.0,
  λ m stands. stands.0,
  λ limit all. (all_split (λ p. (2 ≤ p) × (p ≤ limit)) (pages n) (pages_in f) all).0,
)
child_law (more n key f) hi (suc j) d e h =
    let r = child_law f hi j d e (omega arith) in (
      children_length (more n key f) hi,
      r.1,
      λ less. r.2 (omega arith),
      λ same. r.3 (omega arith),
      λ l level. r.4 l level.1,
      λ m stands. r.5 m stands.1,
      λ limit all. r.6 limit (all_split (λ p. (2 ≤ p) × (p ≤ limit)) (pages n) (pages_in f) all).1,
    )
