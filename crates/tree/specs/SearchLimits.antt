-- The walk with a charge and room, as code does it: it goes down the tree with the next address, and stops where the charge or the room is used up.
use Rattle.std.specs.Prelude.{◌≡◌, ℕ, zero, suc, ◌+◌, ◌-◌, Bool, cond, List, [], length, take, Some, None, filter, Option, nat_le}
use Rattle.tree.specs.Tree.{Node, Forest}
use Rattle.tree.specs.Tree.Node.{leaf, inner}
use Rattle.tree.specs.Tree.Forest.{last, more}
use Rattle.tree.specs.SearchSteps.{Step, find_steps, pages_read}
use Rattle.tree.specs.SearchRuns.{Ending, Outcome, outcome, run, add_read, after}
use Rattle.tree.specs.SearchRuns.Ending.{done, cut}
use Rattle.tree.specs.SearchWalks.{Walked}

-- what came of it, the next address, and how often a first address was asked for
pub record Limited : Type 0 where
  pub out : Outcome
  pub next : Option ℕ
  pub asks : ℕ

abbrev pub ended : Ending → Option ℕ → Limited
ended ending next = record { out = outcome [] ending 0; next = next; asks = 0 }

-- a read is paid for, or the walk is cut here
abbrev pub charged : ℕ → ℕ → ℕ → (ℕ → Limited) → Limited
charged page a zero below = ended (cut page a) (Some a)
charged page a (suc charge) below = record { out = add_read (below charge).out; next = (below charge).next; asks = (below charge).asks }

-- a page whose region ends at hi is passed by, or is read
abbrev pub reach : ℕ → ℕ → Option ℕ → ℕ → (ℕ → Limited) → Limited
reach page hi None charge below = ended done None
reach page hi (Some a) charge below = cond (nat_le a hi) (charged page a charge below) (ended done (Some a))

-- behind a leaf's entries the next address is asked for, unless the room was used up
abbrev pub after_leaf : Ending → Outcome → Option ℕ → Option ℕ → Limited
after_leaf done o next asked = record { out = o; next = asked; asks = 1 }
after_leaf (Ending.more a) o next asked = record { out = o; next = next; asks = 0 }
after_leaf (cut page a) o next asked = record { out = o; next = next; asks = 0 }

-- the children behind are reached only where the child ended done
abbrev pub continue : Ending → Limited → Limited → Limited
continue done d p = record { out = after d.out p.out; next = p.next; asks = d.asks + p.asks }
continue (Ending.more a) d p = d
continue (cut page a) d p = d

abbrev pub then_limited : Limited → (Option ℕ → ℕ → ℕ → Limited) → ℕ → ℕ → Limited
then_limited d behind charge room = continue d.out.ending d (behind d.next (charge - d.out.reads) (room - length d.out.found))

abbrev mutual
  pub limited : (ℕ → Option ℕ) → (ℕ → Bool) → Node → ℕ → Option ℕ → ℕ → ℕ → Limited
  limited ask P (leaf page es) hi next charge room =
      reach page hi next charge (λ c. after_leaf (run (find_steps P es) c room).ending (run (find_steps P es) c room) next (ask (suc hi)))
  limited ask P (inner page ks) hi next charge room = reach page hi next charge (λ c. limited_in ask P ks hi next c room)

  pub limited_in : (ℕ → Option ℕ) → (ℕ → Bool) → Forest → ℕ → Option ℕ → ℕ → ℕ → Limited
  limited_in ask P (last n) hi next charge room = limited ask P n hi next charge room
  limited_in ask P (more n key ks) hi next charge room =
      then_limited (limited ask P n key next charge room) (λ nx c r. limited_in ask P ks hi nx c r) charge room

-- What came of a walk is the run of its steps, and where that is done, the next address is the walk's.
-- This is the contract of a function that does the walk, and the invariant of its loop over the children.
pub record Agrees (out : Outcome) (next : Option ℕ) (w : Walked) (charge room : ℕ) : Type 0 where
  pub outcome_is : out ≡ run w.steps charge room
  pub next_is : out.ending ≡ done → next ≡ w.next

-- how many of the first k pages that steps read pass a test
abbrev pub passing_reads : (ℕ → Bool) → ℕ → List Step → ℕ
passing_reads test k ss = length (filter test (take k (pages_read ss)))
