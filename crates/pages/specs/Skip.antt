-- The skip layer: the bad pages of the store below are left out; the layer's pages are the others, in their order.
use Rattle.std.specs.Prelude.{◌≡◌, ℕ, ◌<◌, ◌≤◌, Bool, true, false, cond, not, List, [], ◌∷◌, map, length, take, filter, ◌==◌, nat_le, refl}
use mathlib.Core.HLevel.{Σ_prop}
use native.Mathlib.Bridge.{le_prop}
use Rattle.std.specs.List.{range_with_len, AllByRecursion}
use Rattle.pages.specs.Image.{Image, at}

-- whether k is one of these numbers
abbrev pub among : ℕ → List ℕ → Bool
among k [] = false
among k (b ∷ bs) = cond (k == b) true (among k bs)

-- the numbers from 1 to n that are not bad, rising
unfoldable pub good : List ℕ → ℕ → List ℕ
good bad n = filter (λ k. not (among k bad)) (range_with_len 1 n)

-- where the layer's pages lie in a store of n pages: page p at element p - 1; at most 1,024
abbrev pub places : List ℕ → ℕ → List ℕ
places bad n = take 1024 (good bad n)

-- numbers that rise strictly, the first above low
abbrev pub Rises : ℕ → List ℕ → Type 0
Rises low [] = Unit {0}
Rises low (k ∷ ks) = (low < k) × Rises k ks

-- which is a fact with one proof at most
pub rises_prop : (low : ℕ) (ks : List ℕ) → IsProp (Rises low ks)
rises_prop low [] = λ a b. refl
rises_prop low (k ∷ ks) = Σ_prop le_prop (λ _. rises_prop k ks)

-- the question before the making: are there 1 to 64 bad numbers, strictly rising, all pages of a store of n?
pub record Allowed (bad : List ℕ) (n : ℕ) : Type 0 where
  pub some : 0 < length bad
  pub few : length bad ≤ 64
  pub rising : Rises 0 bad
  pub within : AllByRecursion (λ b. b ≤ n) bad

-- the pages at these places, and the charge, of a store of meaning m
abbrev pub placed : List ℕ → Image → Image
placed ks m = record { pages = map (at m) ks; charge = m.charge }

-- the same, where the store has `reach` pages; else no page
abbrev pub placed_within : ℕ → List ℕ → Image → Image
placed_within reach ks m = record { pages = cond (nat_le reach (length m.pages)) (map (at m) ks) []; charge = m.charge }

-- what the layer means that was made of this list over a store of meaning m: it has no page where the list was refused
pub record Skips (bad : List ℕ) (m layer : Image) : Type 0 where
  pub yes : Allowed bad (length m.pages) → layer ≡ placed (places bad (length m.pages)) m
  pub no : (Allowed bad (length m.pages) → ⊥) → layer ≡ placed [] m
