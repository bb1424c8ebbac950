-- Runs: calls carried out one after another, each on what the last one left; and the law over them.
use Rattle.std.specs.Prelude.{◌≡◌, ℕ, List, [], ◌∷◌, ◌++◌}
use Rattle.pages.specs.Image.{Image, Blank}
use Rattle.orders.specs.Orders.{Order}
use Rattle.searches.specs.declared.find.Find.{Find}
use Rattle.tree.specs.SearchRuns.{Ending}
use Rattle.index.specs.Model.{Call, Answer as IndexAnswer, State}
use Rattle.index.specs.Model.Call.{searches}
use Rattle.index.specs.Model.Answer.{found}
use Rattle.index.specs.Histories.{History, Led, event}
use Rattle.index.specs.Steps.{Step}
use Rattle.index.specs.Law.{Law}
use Rattle.script.specs.declared.call.IndexCall.{IndexCall}
use Rattle.answers.specs.declared.answer.Answer.{Answer}
use Rattle.answers.specs.Calls.{call_of, Tells, Carried}

-- From the state s to the state u the calls are carried out, with these answers.
pub data Chain (o : Order) (n : ℕ) (s : State) : List IndexCall → List Answer → State → Type 0 where
  none_yet : Chain o n s [] [] s
  one_more : (calls : List IndexCall) (answers : List Answer) (t u : State) (call : IndexCall) (answer : Answer) → Chain o n s calls answers t
      → Carried o n t answer u (call_of call) → Chain o n s (calls ++ call ∷ []) (answers ++ answer ∷ []) u

-- a call, and its answer, after the history h, from the state s to the state u: an accepted search from address 0 obeys the law
abbrev pub Obeys : Order → History → State → State → Call → IndexAnswer → Type 0
Obeys o h s u call a = (lo hi : List ℕ) (room : ℕ) (got : List Find) (reads : ℕ) (ending : Ending) → call ≡ searches lo hi 0 room → a ≡ found got reads ending →
    Law o h s u lo hi room got reads ending

-- The same run, after the history h: each call is its step, is told by its answer and goes on the history, and each accepted search from address 0 obeys the law.
pub data Run (o : Order) (n : ℕ) (h : History) (s : State) : List IndexCall → List Answer → History → State → Type 0 where
  begun : Run o n h s [] [] h s
  goes_on : (calls : List IndexCall) (answers : List Answer) (k : History) (t u : State) (call : IndexCall) (answer : Answer) (a : IndexAnswer) → Run o n h s calls answers k t
      → Step o t a u (call_of call) → Tells n answer a → Obeys o k t u (call_of call) a
      → Run o n h s (calls ++ call ∷ []) (answers ++ answer ∷ []) (event (call_of call) a ∷ k) u

-- for every history over factory-blank memory that led to the state before it
abbrev pub RunsLaw : Order → ℕ → State → List IndexCall → List Answer → State → Type 0
RunsLaw o n s calls answers u = (memory : Image) → Blank memory → (h : History) → Led o memory h s → (k : History) × Run o n h s calls answers k u × Led o memory k u
