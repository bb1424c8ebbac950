-- What is heard of a line.
use Rattle.std.specs.Prelude.{◌≡◌, ◌≢◌, ℕ, ◌⊎◌, List, [], ◌∷◌, Some, None, Option}
use Rattle.std.specs.Result.{MatchResult}
use Rattle.std.specs.List.{join_with_byte}
use Rattle.std.specs.String.{string_bytes}
use Rattle.script.specs.Words.{words_of}
use Rattle.script.specs.Lines.{Says, SaysNothing}
use Rattle.script.specs.declared.heard.Heard.{Heard}

-- a line that begins with #
abbrev pub Comment : List ℕ → Type 0
Comment line = (rest : List ℕ) × (line ≡ 35 ∷ rest)

-- A comment and a line without words are passed over; of every other line its words are heard, with single spaces, and what they say in a space of n coordinates.
abbrev pub HeardIs : ℕ → List ℕ → Option Heard → Type 0
HeardIs n line None = Comment line ⊎ (words_of line ≡ [])
HeardIs n line (Some h) =
    ¬ Comment line
    × (words_of line ≢ [])
    × (string_bytes h.echo ≡ join_with_byte 32 (words_of line))
    × MatchResult h.says (Says n (words_of line)) (SaysNothing n (words_of line))
