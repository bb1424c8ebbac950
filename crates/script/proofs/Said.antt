-- What a line's words say.
use Rattle.std.proofs.Common.{ℕ, List, ◌∷◌, inl, inr}
use Rattle.script.specs.Words.{IsOneOf}
use Rattle.script.specs.Setting.{setup_verbs, SetsUp}
use Rattle.script.specs.Calling.{NoCall}
use Rattle.script.specs.Lines.{Says, SaysNothing}
use Rattle.script.specs.declared.setup.Setup.{Setup}
use Rattle.script.specs.declared.setup.Setup.TheVariants.{Order, Memory, Image, Slot, SlotImage, Turned, Skip, Dump, Save}
use Rattle.script.specs.declared.line.Line.{Line}
use Rattle.script.specs.declared.line.Line.TheVariants.{Setup as ToSetUp, Call as ToCall}
use Rattle.script.specs.declared.trouble.Trouble.{Trouble}
use Rattle.script.specs.declared.trouble.Trouble.TheVariants.{Refused, Unclear, Memory as OutOfMemory}

setup_verb : (verb : List ℕ) (ts : List (List ℕ)) (s : Setup) → SetsUp verb ts s → IsOneOf setup_verbs verb
setup_verb verb ts (Order kind n p) h = inl h.0
setup_verb verb ts (Memory pages byte) h = inr (inl h.0)
setup_verb verb ts (Image file) h = inr (inl h.0)
setup_verb verb ts (Slot pages) h = inr (inl h.0)
setup_verb verb ts (SlotImage pages file) h = inr (inl h.0)
setup_verb verb ts Turned h = inr (inr (inl h.0))
setup_verb verb ts (Skip pages) h = inr (inr (inl h.0))
setup_verb verb ts Dump h = inr (inr (inr (inl h.0)))
setup_verb verb ts (Save file) h = inr (inr (inr (inr (inl h.0))))

-- words that set up nothing, and call nothing, say nothing
pub call_unsaid : (n : ℕ) (verb : List ℕ) (ts : List (List ℕ)) (e : Trouble) → (IsOneOf setup_verbs verb → ⊥) → NoCall n verb ts e → SaysNothing n (verb ∷ ts) e
call_unsaid n verb ts (Unclear r) other none = (never, none.2)
  where
    never : (line : Line) → Says n (verb ∷ ts) line → ⊥
    never (ToSetUp s) says = other (setup_verb verb ts s says)
    never (ToCall c) says = none.1 c says
call_unsaid n verb ts (Refused f) other none = none
call_unsaid n verb ts OutOfMemory other none = tt
