-- The tree after addresses 0 to 10 were lodged, in a space whose last address is 63, and searches of it for the addresses 4 to 7.
use Rattle.std.specs.Prelude.{◌≡◌, ℕ, Bool, ◌&&◌, List, [], ◌∷◌, map, nat_le}
use Rattle.layout.specs.declared.entry.Entry.{Entry}
use Rattle.tree.specs.Tree.{Node, Ordered, Level}
use Rattle.tree.specs.Tree.Node.{leaf, inner}
use Rattle.tree.specs.Tree.Forest.{last, more}
use Rattle.tree.specs.SearchSteps.{Step, search_steps}
use Rattle.tree.specs.SearchSteps.Step.{reads, finds}
use Rattle.tree.specs.SearchRuns.{Ending, run, outcome}

-- one event at an address
abbrev pub at : ℕ → Entry
at a = record { key = a; value = 1 }

-- The root, on page 5, has region 0 to 63, the left leaf, on page 2, 0 to 5 and the right leaf, on page 4, 6 to 63
-- (those are the numbers where the free pages were 2 to 16)
abbrev pub example_tree : Node
example_tree = inner 5 (more (leaf 2 (map at (0 ∷ 1 ∷ 2 ∷ 3 ∷ 4 ∷ 5 ∷ []))) 5 (last (leaf 4 (map at (6 ∷ 7 ∷ 8 ∷ 9 ∷ 10 ∷ [])))))

abbrev pub example_box : ℕ → Bool
example_box a = nat_le 4 a && nat_le a 7

abbrev pub example_steps : List Step
example_steps = search_steps example_box 0 example_tree 0 63

-- The tree is sound, and a search of it takes these steps. What comes of them with a charge and room for finds: done with 4 to 7; 4 and 5, cut at 6;
-- cut at 4; and 4, more at 5 after 2 reads. From 6 on it finds 6 and 7.
pub record SearchExample : Type 0 where
  pub ordered : Ordered example_tree 0 63
  pub level : Level example_tree 2
  pub steps : example_steps ≡ reads 5 4 ∷ reads 2 4 ∷ finds (at 4) ∷ finds (at 5) ∷ reads 4 6 ∷ finds (at 6) ∷ finds (at 7) ∷ []
  pub limited : map (λ (limit : ℕ × ℕ). run example_steps limit.0 limit.1) ((3, 4) ∷ (2, 4) ∷ (0, 4) ∷ (3, 1) ∷ [])
      ≡ outcome (map at (4 ∷ 5 ∷ 6 ∷ 7 ∷ [])) Ending.done 3
      ∷ outcome (map at (4 ∷ 5 ∷ [])) (Ending.cut 4 6) 2
      ∷ outcome [] (Ending.cut 5 4) 0
      ∷ outcome (map at (4 ∷ [])) (Ending.more 5) 2
      ∷ []
  pub later : run (search_steps example_box 6 example_tree 0 63) 3 4 ≡ outcome (map at (6 ∷ 7 ∷ [])) Ending.done 2
