-- Runs of the index in the 8 x 8 space, over any store of 16 pages as it comes from the factory.
use Rattle.std.specs.Prelude.{◌≡◌, ℕ, zero, suc, List, [], ◌∷◌, ◌++◌, map, length, take}
use Rattle.layout.specs.declared.entry.Entry.{Entry}
use Rattle.pages.specs.Image.{Image, Blank}
use Rattle.orders.specs.Orders.{Order}
use Rattle.tree.specs.CopyLaws.{events_of}
use Rattle.index.specs.Model.{Call, Answer, State, state}
use Rattle.index.specs.Model.Call.{formats, lodges, grants}
use Rattle.index.specs.Model.Answer.{accepted, refused}
use Rattle.index.specs.Model.Known.{shut, knows}
use Rattle.index.specs.Keeping.{Filed, Kept}
use Rattle.index.specs.Keeping.Content.{filed}
use Rattle.index.specs.Steps.{Step}
use Rattle.cases.specs.EightByEight.{z, at}

-- calls carried out one after another, each on what the last one left, with their answers
abbrev pub Chain : Order → State → List Call → List Answer → State → Type 0
Chain o s [] [] u = s ≡ u
Chain o s [] (a ∷ rest) u = ⊥
Chain o s (c ∷ cs) [] u = ⊥
Chain o s (c ∷ cs) (a ∷ rest) u = (t : State) × Step o s a t c × Chain o t cs rest u

-- the points with the Z addresses 0 to 10
abbrev pub points : List (List ℕ)
points = at 0 0 ∷ at 1 0 ∷ at 0 1 ∷ at 1 1 ∷ at 2 0 ∷ at 3 0 ∷ at 2 1 ∷ at 3 1 ∷ at 0 2 ∷ at 1 2 ∷ at 0 3 ∷ []

-- grant, format, and an event lodged at each of them
abbrev pub day : ℕ → List Call
day charge = grants charge ∷ (formats ∷ map lodges points)

abbrev pub all_accepted : List Call → List Answer
all_accepted [] = []
all_accepted (c ∷ cs) = accepted ∷ all_accepted cs

-- With a charge of 35 all are accepted; then the tree has two levels and eleven events, and the charge is 0.
abbrev pub Enough : Type 0
Enough = (m : Image) (answers : List Answer) (u : State) → Blank m → length m.pages ≡ 16 → Chain z (state m shut) (day 35) answers u →
    (answers ≡ all_accepted (day 35))
    × (u.known ≡ knows 2 5 11 (3 ∷ 6 ∷ 7 ∷ 8 ∷ 9 ∷ 10 ∷ 11 ∷ 12 ∷ 13 ∷ 14 ∷ 15 ∷ 16 ∷ []))
    × (u.image.charge ≡ 0)

-- n events, one at each address from a on
abbrev pub singles : ℕ → ℕ → List Entry
singles a zero = []
singles a (suc n) = record { key = a; value = 1 } ∷ singles (suc a) n

abbrev pub twelve_accepted : List Answer
twelve_accepted = all_accepted (grants 34 ∷ (formats ∷ map lodges (take 10 points)))

-- With 34 the eleventh gets 17, for the header, and ten events remain.
abbrev pub Short : Type 0
Short = (m : Image) (answers : List Answer) (u : State) → Blank m → length m.pages ≡ 16 → Chain z (state m shut) (day 34) answers u →
    (answers ≡ twelve_accepted ++ (refused 17 (1 ∷ 0 ∷ 2 ∷ []) ∷ []))
    × (u.image.charge ≡ 0)
    × ((f : Filed) × Kept z u (filed f) × (events_of f.tree ≡ singles 0 10))
