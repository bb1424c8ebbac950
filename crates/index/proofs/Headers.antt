-- The header of a tree on file is proper, and says which tree it is.
use Rattle.std.proofs.Common.{◌≡◌, ℕ, zero, suc, ◌^◌, ◌<◌, ◌≤◌, List, [], ◌∷◌, sym, refl, ap, ◌∙◌, inl, inr, arith}
use Rattle.std.specs.List.{AllByRecursion}
use Rattle.layout.specs.declared.entry.Entry.{Entry}
use Rattle.layout.specs.declared.header.Header.{Header}
use Rattle.layout.specs.Heads.{header_bytes, header_of, Proper, AllOrNone}
use Rattle.layout.specs.Content.{Sized, LeafKeys}
use Rattle.layout.proofs.Headings.{header_back}
use Rattle.orders.specs.Orders.{Order, Lawful}
use Rattle.tree.specs.Tree.{Node, Forest, Held, Contents, Level, Filled, FilledIn, Ordered, OrderedIn, number, pages, events, events_in, counts}
use Rattle.tree.specs.Tree.Node.{leaf, inner}
use Rattle.tree.specs.Tree.Forest.{last, more}
use Rattle.tree.specs.Tree.Held.{none, held}
use Rattle.tree.specs.CopyLaws.{SoundOf, Within, root_of, events_of}
use Rattle.tree.proofs.CopySums.{total_law}
use Rattle.tree.proofs.CopyUnique.{level_some}
use Rattle.tree.proofs.ScanTrees.{counts_append}
use Rattle.index.specs.Keeping.{Filed, header_for, top}

-- a tree with pages has an event
some_counts : (es : List Entry) (lo hi : ℕ) → Sized es → LeafKeys lo hi es → 1 ≤ counts es
some_counts [] lo hi sized keys = absurd (omega (arith, sized.0))
some_counts (e ∷ es) lo hi sized keys = omega (arith, keys.2)

mutual
  some_events : (n : Node) (lo hi : ℕ) → Filled n → Ordered n lo hi → 1 ≤ counts (events n)
  some_events (leaf p es) lo hi filled ordered = some_counts es lo hi filled ordered
  some_events (inner p f) lo hi filled ordered = some_events_in f lo hi filled.1 ordered

  some_events_in : (f : Forest) (lo hi : ℕ) → FilledIn f → OrderedIn f lo hi → 1 ≤ counts (events_in f)
  some_events_in (last n) lo hi filled ordered = some_events n lo hi filled ordered
  some_events_in (more n k f) lo hi filled ordered =
      omega (arith, counts_append (events n) (events_in f), some_events n lo k filled.0 ordered.2)

own_in_range : (n : Node) (l : ℕ) → AllByRecursion (λ p. (2 ≤ p) × (p ≤ l)) (pages n) → (2 ≤ number n) × (number n ≤ l)
own_in_range (leaf p es) l range = range.0
own_in_range (inner p f) l range = range.0

level_above : (n : Node) (h : ℕ) → Level n h → 1 ≤ h
level_above n zero at = absurd (level_some n at)
level_above n (suc h) at = omega arith

module _ (o : Order) (law : Lawful o) (m : Contents) (l : ℕ) (small : l ≤ 1024) where
  pub file_numbers : (h total : ℕ) (t : Held Node) → SoundOf m l h total (top o) t → Within 65535 (events_of t) →
      (root_of t < 2 ^ 16) × (total < 2 ^ 32) × AllOrNone h (root_of t) total
  file_numbers h total none sound within = (omega arith, omega (arith, sound.1), inl (sound.0, refl, sound.1))
  file_numbers h total (held n) sound within =
      let own = own_in_range n l sound.range in
      let some = some_events n 0 (top o) sound.filled sound.ordered in (
        omega arith,
        total_law m l h (number n) total (top o) n sound small within,
        inr (level_above n h sound.levels, omega arith, omega (arith, sound.sum)),
      )

  pub file_proper : (f : Filed) → SoundOf m l f.height f.total (top o) f.tree → f.height ≤ 6 → Within 65535 (events_of f.tree) → Proper (header_for o f)
  file_proper f sound low within =
      let numbers = file_numbers f.height f.total f.tree sound within in
      record {
        kind_low = law.kinds.0;
        kind_high = omega (arith, law.kinds.1);
        n_low = law.range.0;
        n_high = law.range.1;
        p_low = law.range.2;
        p_high = law.range.3;
        height_high = low;
        root_high = numbers.0;
        total_high = numbers.1;
        together = numbers.2;
      }

-- two proper headers with the same bytes are the same
pub same_header : (h g : Header) → Proper h → Proper g → header_bytes h ≡ header_bytes g → h ≡ g
same_header h g ph pg e = sym (header_back h ph) ∙ ap header_of e ∙ header_back g pg
