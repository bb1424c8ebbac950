-- Pages written one after another, and how often a page number stands in a list.
use Rattle.std.specs.Prelude.{ℕ, ◌+◌, cond, List, [], ◌∷◌, ◌==◌}
use Rattle.layout.specs.Content.{Content}
use Rattle.tree.specs.Tree.{Contents}

-- one page written: its number and what it says from then on
pub record Write : Type 0 where
  pub page : ℕ
  pub says : Content

abbrev pub put : Contents → Write → Contents
put m w = λ q. cond (q == w.page) w.says (m q)

-- the memory after these writes, the first one first
abbrev pub after : List Write → Contents → Contents
after [] m = m
after (w ∷ ws) m = after ws (put m w)

-- the pages written, in that order
abbrev pub written : List Write → List ℕ
written [] = []
written (w ∷ ws) = w.page ∷ written ws

-- The sum of w over a list. With `mark p` it is how often p stands in it, with `λ x. 1` its length:
-- what is proved for every w holds of both.
abbrev pub weigh : (ℕ → ℕ) → List ℕ → ℕ
weigh w [] = 0
weigh w (x ∷ xs) = w x + weigh w xs

abbrev pub mark : ℕ → ℕ → ℕ
mark p x = cond (x == p) 1 0

-- how often p stands in the list
abbrev pub times : ℕ → List ℕ → ℕ
times p xs = weigh (mark p) xs
