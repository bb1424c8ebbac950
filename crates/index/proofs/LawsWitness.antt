-- The index on one event is kept.
use Rattle.std.proofs.Common.{◌≡◌, ℕ, suc, ◌+◌, ◌-◌, ◌^◌, ◌<◌, ◌≤◌, List, [], ◌∷◌, length, refl, ap, ◌∙◌, arith, length-set, get_or-set_other, get_or-set_same}
use lib.Pow.{pow-lt}
use Rattle.pages.specs.Image.{Image, written}
use Rattle.layout.specs.Bytes.{page_bytes, content_of}
use Rattle.layout.specs.Content.{page}
use Rattle.layout.proofs.Trips.{round_trip}
use Rattle.orders.specs.Orders.{Order, Lawful, InSpaceOf, size}
use Rattle.tree.specs.Tree.Node.{leaf}
use Rattle.tree.specs.Tree.Held.{held}
use Rattle.tree.specs.CopyMoves.{State as TreeState}
use Rattle.tree.specs.CopyLaws.{Kept as TreeKept, upward, usable}
use Rattle.tree.specs.CopyWrites.{times}
use Rattle.tree.proofs.CopyBase.{mark_same}
use Rattle.faults.specs.Accesses.{contents}
use Rattle.index.specs.Model.{limit}
use Rattle.index.specs.Keeping.{top}
use Rattle.index.specs.LawsWitness.{one_event, WitnessLaw}
use Rattle.index.proofs.Changing.{now_holds}
use Rattle.index.proofs.Heading.{few_bits}

abbrev tree_of : Order → Image → List ℕ → TreeState
tree_of o m x = record { tree = held (leaf 2 (one_event o x)); height = 1; free = upward 3 (limit m - 2) }

-- page 2 and the pages from 3 on are the usable pages
all_usable : (l p : ℕ) → 2 ≤ l → times p (2 ∷ []) + times p (upward 3 (l - 2)) ≡ times p (usable l)
all_usable l p le =
    let e : suc (l - 2) ≡ l - 1 = omega arith in
    let joined : times p (2 ∷ []) + times p (upward 3 (l - 2)) ≡ times p (upward 2 (suc (l - 2))) = omega arith in
    joined ∙ ap (λ (n : ℕ). times p (upward 2 n)) e

module _ (o : Order) (law : Lawful o) (m : Image) (x : List ℕ) (inside : InSpaceOf o x) (enough : 8 ≤ length m.pages) where
  low : o.address x < 2 ^ 64
  low = let small : size o < 2 ^ 64 = pow-lt (few_bits o law o.n o.p refl refl) in omega (arith, (law.there x inside).0)

  says : contents (written m 2 (page_bytes 1 2 (one_event o x))) 2 ≡ page 1 2 (one_event o x)
  says = ap content_of (get_or-set_same m.pages 1 (page_bytes 1 2 (one_event o x)) [] (omega arith))
      ∙ round_trip 1 2 (one_event o x) (omega arith) (omega arith) ((low, omega arith), tt)

  wide : 8 ≤ limit m
  wide = omega arith

  stands : TreeKept (contents (written m 2 (page_bytes 1 2 (one_event o x)))) (limit m) 1 (top o) (tree_of o m x)
  stands = record {
    sound = record {
      root_is = refl;
      range = ((omega arith, omega (arith, wide)), tt);
      once = (tt, tt);
      levels = refl;
      stands = says;
      filled = (omega arith, omega arith);
      ordered = (omega arith, omega (arith, (law.there x inside).0), omega arith, tt);
      sum = refl;
      room = omega (arith, wide);
    };
    shared = λ p. all_usable (limit m) p (omega (arith, wide));
  }

pub witness_law : WitnessLaw
witness_law o law m x inside enough =
    let bytes : List ℕ = page_bytes 1 2 (one_event o x) in (
      now_holds o m (written m 2 bytes) (get_or-set_other m.pages 1 0 bytes [] (λ e. omega arith)) (length-set m.pages 1 bytes) (tree_of o m x) 1 (omega arith)
          (stands o law m x inside enough) (omega arith) (omega arith, tt),
      let one = mark_same (o.address x) in omega arith,
    )
