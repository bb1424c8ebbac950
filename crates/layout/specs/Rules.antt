-- What the check of one page answers.
use Rattle.std.specs.Prelude.{◌≡◌, ℕ, zero, suc, ◌^◌, ◌≤◌, List, Some, None, Option, Ok, Err, Result}
use Rattle.layout.specs.declared.entry.Entry.{Entry}
use Rattle.layout.specs.declared.visit.Visit.{Visit}
use Rattle.layout.specs.declared.visit.Rule.{Rule}
use Rattle.layout.specs.declared.visit.Rule.TheVariants.{A, B, C, D, E, F}
use Rattle.layout.specs.Content.{Content, Own, Filled, LeafKeys, InnerKeys}

-- a rule as a number: A is 1, F is 6; as a text it is its letter, whose code is 64 more
abbrev pub letter : Rule → ℕ
letter A = 1
letter B = 2
letter C = 3
letter D = 4
letter E = 5
letter F = 6

-- the rule on keys, by level: D for a leaf, at level 1, and E for an inner page, above it
abbrev pub Keys : ℕ → ℕ → ℕ → List Entry → Type 0
Keys zero start end es = ⊥
Keys (suc zero) start end es = LeafKeys start end es
Keys (suc (suc l)) start end es = InnerKeys start end es

-- Well formed: all rules hold. A letter: that rule is broken, and those before it hold. Levels begin at 1, so no page is right for level 0.
-- Of a page by itself A and F say nothing, so they are never answered.
abbrev pub Checks : Visit → Content → Result (Unit {0}) Rule → Type 0
Checks v c (Ok x) = Own v.at.page v.at.level c × Filled c × Keys v.at.level v.lo v.hi c.entries
Checks v c (Err A) = ⊥
Checks v c (Err B) = Own v.at.page v.at.level c → v.at.level ≡ 0
Checks v c (Err C) = Own v.at.page v.at.level c × (1 ≤ v.at.level) × (Filled c → ⊥)
Checks v c (Err D) = Own v.at.page v.at.level c × (v.at.level ≡ 1) × Filled c × (LeafKeys v.lo v.hi c.entries → ⊥)
Checks v c (Err E) = Own v.at.page v.at.level c × (2 ≤ v.at.level) × Filled c × (InnerKeys v.lo v.hi c.entries → ⊥)
Checks v c (Err F) = ⊥

-- the least key that may follow; none where no u64 may
abbrev pub least : Option ℕ → ℕ
least (Some low) = low
least None = 2 ^ 64
