use Rattle.std.proofs.Common.{◌≡◌, ℕ, List, [], ◌∷◌, ◌++◌, refl, ap, Bor}
use Rattle.std.specs.List.{join_by, join_with_byte}
use Rattle.std.proofs.lemmas.List.{append-nil}
use Rattle.script.specs.Words.{texts}
use Rattle.script.proofs.words.joined.Goals as goal

-- `join` with a space between the words
spaced : (ws : List (Bor (List ℕ))) → join_by (λ (w : Bor (List ℕ)). w.now) (32 ∷ []) ws ≡ join_with_byte 32 (texts ws)
spaced [] = refl
spaced (w ∷ []) = append-nil w.now
spaced (w ∷ v ∷ ws) = ap (λ (rest : List ℕ). w.now ++ 32 ∷ rest) (spaced (v ∷ ws))

pub returns : goal.returns
returns c = rw (spaced c.args.words.now) at c.join.ensures.ok
