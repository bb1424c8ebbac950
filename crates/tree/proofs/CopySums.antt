-- Sums and bounds of counts.
use Rattle.std.proofs.Common.{◌≡◌, ℕ, suc, ◌+◌, ◌*◌, ◌<◌, ◌≤◌, List, [], ◌∷◌, ◌++◌, length, sym, refl, arith, length-append}
use Rattle.std.specs.List.{AllByRecursion}
use Rattle.layout.specs.declared.entry.Entry.{Entry}
use Rattle.tree.specs.Tree.{Filled, FilledIn, Forest, Node, count_at, counts, events, events_in, pages, pages_in}
use Rattle.tree.specs.Tree.Node.{inner, leaf}
use Rattle.tree.specs.Tree.Forest.{last, more}
use Rattle.tree.specs.CopyLaws.{TotalLaw, Within}
use Rattle.tree.specs.CopyMoves.{enter, remove}
use Rattle.tree.proofs.CopyBase.{by_eq, by_le}

-- one more event
pub enter_sum : (a : ℕ) (es : List Entry) → counts (enter a es) ≡ suc (counts es)
enter_sum a [] = refl
enter_sum a (e ∷ es) =
    let P : List Entry → Type 0 = λ z. counts z ≡ suc (e.value + counts es) in
    by_le P a e.key _ _
    (λ le. by_eq P a e.key _ _ (λ eq. omega arith) (λ ne. omega arith))
    (λ gt. omega (arith, enter_sum a es))

-- one less, where there is one
pub remove_sum : (a : ℕ) (es : List Entry) → AllByRecursion (λ e. 1 ≤ e.value) es → 1 ≤ count_at es a → suc (counts (remove a es)) ≡ counts es
remove_sum a [] p h = absurd (omega arith)
remove_sum a (e ∷ es) p h =
    let P : List Entry → Type 0 = λ z. suc (counts z) ≡ e.value + counts es in
    by_eq P a e.key _ _
    (λ eq. by_le P e.value 1 _ _ (λ le. omega (arith, p.0)) (λ gt. omega arith))
    (λ ne. omega (arith, remove_sum a es p.1 (rest a e es ne h)))
  where
    rest : (a : ℕ) (e : Entry) (es : List Entry) → (a ≡ e.key → ⊥) → 1 ≤ count_at (e ∷ es) a → 1 ≤ count_at es a
    rest a e es ne h = by_eq (λ (z : ℕ). 1 ≤ z + count_at es a → 1 ≤ count_at es a) e.key a e.value 0 (λ q _. absurd (ne (sym q))) (λ _ i. omega arith) h

-- the counts stay within the greatest
pub enter_within : (a greatest : ℕ) (es : List Entry) → Within greatest es → count_at es a < greatest → Within greatest (enter a es)
enter_within a greatest [] w h = (omega arith, tt)
enter_within a greatest (e ∷ es) w h =
    by_le (Within greatest) a e.key _ _
    (λ le. by_eq (Within greatest) a e.key _ _
    (λ eq. (omega (arith, here eq), w.1))
    (λ ne. (omega arith, w)))
    (λ gt. (w.0, enter_within a greatest es w.1 (omega arith)))
  where
    here : a ≡ e.key → e.value ≤ count_at (e ∷ es) a
    here q = by_eq (λ (z : ℕ). e.value ≤ z + count_at es a) e.key a e.value 0 (λ _. omega arith) (λ ne. absurd (ne (sym q)))

pub remove_within : (a greatest : ℕ) (es : List Entry) → Within greatest es → Within greatest (remove a es)
remove_within a greatest [] w = tt
remove_within a greatest (e ∷ es) w =
    by_eq (Within greatest) a e.key _ _
    (λ eq. by_le (Within greatest) e.value 1 _ _ (λ le. w.1) (λ gt. (omega (arith, w.0), w.1)))
    (λ ne. (w.0, remove_within a greatest es w.1))

-- the sum of a tree's counts, by its pages
append_sum : (xs ys : List Entry) → counts (xs ++ ys) ≡ counts xs + counts ys
append_sum [] ys = omega arith
append_sum (x ∷ xs) ys = omega (arith, append_sum xs ys)

within_left : (greatest : ℕ) (xs ys : List Entry) → Within greatest (xs ++ ys) → Within greatest xs
within_left greatest [] ys w = tt
within_left greatest (x ∷ xs) ys w = (w.0, within_left greatest xs ys w.1)

within_right : (greatest : ℕ) (xs ys : List Entry) → Within greatest (xs ++ ys) → Within greatest ys
within_right greatest [] ys w = w
within_right greatest (x ∷ xs) ys w = within_right greatest xs ys w.1

leaf_sum : (es : List Entry) → Within 65535 es → counts es ≤ 65535 * length es
leaf_sum [] w = omega arith
leaf_sum (e ∷ es) w = omega (arith, w.0, leaf_sum es w.1)

mutual
  pub tree_sum : (n : Node) → Filled n → Within 65535 (events n) → counts (events n) ≤ 655350 * length (pages n)
  tree_sum (leaf p es) z w = omega (arith, leaf_sum es w, z.1)
  tree_sum (inner p f) z w = omega (arith, tree_sum_in f z.1 w)

  pub tree_sum_in : (f : Forest) → FilledIn f → Within 65535 (events_in f) → counts (events_in f) ≤ 655350 * length (pages_in f)
  tree_sum_in (last n) z w = tree_sum n z w
  tree_sum_in (more n k f) z w =
      omega (
        arith,
        append_sum (events n) (events_in f),
        length-append (pages n) (pages_in f),
        tree_sum n z.0 (within_left 65535 (events n) (events_in f) w),
        tree_sum_in f z.1 (within_right 65535 (events n) (events_in f) w),
      )

pub total_law : TotalLaw
total_law m limit height root total top n s low w = omega (arith, s.sum, s.room, tree_sum n s.filled w)
