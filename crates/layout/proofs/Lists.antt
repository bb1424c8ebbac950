-- Writes of entries through the slice of a list.
use Rattle.std.proofs.Common.{◌≡◌, ℕ, List, length, set, drop, ap, ◌∙◌, length-set}
use Rattle.std.specs.List.{refill}
use Rattle.std.proofs.lemmas.List.{take_at}

pub written : {X : Type 0} (xs ws : List X) (i : ℕ) (x : X) → ws ≡ xs → refill (length xs) xs (set ws i x) ≡ set xs i x
written {X} xs ws i x e = ap (λ (z : List X). refill (length xs) xs (set z i x)) e ∙ take_at (set xs i x) (drop (length (set xs i x)) xs) (length xs) (length-set xs i x)
