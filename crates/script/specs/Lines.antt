-- What a line's words say, in a space of n coordinates: they set up, or they call.
use Rattle.std.specs.Prelude.{◌≡◌, ℕ, List, [], ◌∷◌}
use Rattle.orders.specs.declared.refusal.Refusal.TheVariants.{BoxEnds}
use Rattle.script.specs.Setting.{SetsUp}
use Rattle.script.specs.Calling.{Calls, CrossedIn}
use Rattle.script.specs.declared.line.Line.{Line}
use Rattle.script.specs.declared.line.Line.TheVariants.{Setup, Call}
use Rattle.script.specs.declared.trouble.Trouble.{Trouble}
use Rattle.script.specs.declared.trouble.Trouble.TheVariants.{Refused, Unclear, Memory}

abbrev pub Says : ℕ → List (List ℕ) → Line → Type 0
Says n [] line = ⊥
Says n (verb ∷ ws) (Setup s) = SetsUp verb ws s
Says n (verb ∷ ws) (Call c) = Calls n verb ws c

-- they would call, but name a box that cannot be: a low end lies above its high end
abbrev pub SaysCrossed : ℕ → List (List ℕ) → Type 0
SaysCrossed n [] = ⊥
SaysCrossed n (verb ∷ ws) = CrossedIn n verb ws

-- why they say nothing: they write no line, and none with a box that cannot be; or they write such a line; or memory was short
abbrev pub SaysNothing : ℕ → List (List ℕ) → Trouble → Type 0
SaysNothing n ws (Unclear r) = ((line : Line) → ¬ Says n ws line) × ¬ SaysCrossed n ws
SaysNothing n ws (Refused f) = (f ≡ BoxEnds) × SaysCrossed n ws
SaysNothing n ws Memory = Unit {0}
