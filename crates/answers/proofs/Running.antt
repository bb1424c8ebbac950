-- A chain of calls is a run that obeys the law.
use Rattle.std.proofs.Common.{◌≡◌, ℕ, suc, ◌+◌, ◌<◌, ◌≤◌, List, [], ◌∷◌, ◌++◌, length, take, get_or, refl, sym, subst, ap, ◌∙◌, arith}
use Rattle.std.proofs.Math.Seq.{take-suc}
use Rattle.std.proofs.lemmas.List.{take_all}
use Rattle.orders.specs.Orders.{Order, Lawful}
use Rattle.pages.specs.Image.{Image, Blank}
use Rattle.index.specs.Model.{Call, Answer as IndexAnswer, State}
use Rattle.index.specs.Steps.{Step}
use Rattle.index.specs.Histories.{History, Led, event}
use Rattle.index.specs.Histories.Led.{goes_on as leads_on}
use Rattle.index.proofs.LawWhole.{run_law}
use Rattle.script.specs.declared.call.IndexCall.{IndexCall}
use Rattle.answers.specs.declared.answer.Answer.{Answer}
use Rattle.answers.specs.Calls.{call_of, Carried}
use Rattle.answers.specs.Runs.{Chain, Obeys, RunsLaw}
use Rattle.answers.specs.Runs.Chain.{none_yet, one_more}
use Rattle.answers.specs.Runs.Run.{begun, goes_on}

obeys : (o : Order) → Lawful o → (memory : Image) → Blank memory → (h : History) (s u : State) (call : Call) (a : IndexAnswer) → Led o memory h s → Step o s a u call → Obeys o h s u call a
obeys o law memory b h s u call a led step lo hi room got reads ending is e =
    run_law o law s u a lo hi 0 room (subst (λ (c : Call). Step o s a u c) is step) memory b h led refl got reads ending e

pub runs_law : (o : Order) → Lawful o → (n : ℕ) (s u : State) (calls : List IndexCall) (answers : List Answer) → Chain o n s calls answers u → RunsLaw o n s calls answers u
runs_law o law n s u calls answers none_yet memory b h led = (h, begun, led)
runs_law o law n s u calls answers (one_more cs bs t v call answer chain carried) memory b h led =
    let r = runs_law o law n s t cs bs chain memory b h led in
    (event (call_of call) carried.0 ∷ r.0, goes_on cs bs r.0 t v call answer carried.0 r.1 carried.2.0 carried.1 (obeys o law memory b r.0 t v (call_of call) carried.0 r.2 carried.2.0), leads_on r.2 carried.2.0)

-- The chain of a loop over the calls.
pub chain_begun : (o : Order) (n : ℕ) (s : State) (calls : List IndexCall) (answers : List Answer) → answers ≡ [] → Chain o n s (take 0 calls) answers s
chain_begun o n s calls answers e = subst (λ (x : List Answer). Chain o n s [] x s) (sym e) none_yet

pub chain_further : (o : Order) (n : ℕ) (s t u : State) (calls : List IndexCall) (answers more : List Answer) (i : ℕ) (call d : IndexCall) (answer : Answer) → i < length calls
    → Chain o n s (take i calls) answers t → call ≡ get_or calls i d → Carried o n t answer u (call_of call) → more ≡ answers ++ answer ∷ [] → Chain o n s (take (i + 1) calls) more u
chain_further o n s t u calls answers more i call d answer less chain is carried e =
    let one : i + 1 ≡ suc i = omega arith in
    let next : take (i + 1) calls ≡ take i calls ++ call ∷ [] = ap (λ (j : ℕ). take j calls) one ∙ take-suc calls i d less ∙ ap (λ (x : IndexCall). take i calls ++ x ∷ []) (sym is) in
    rw (e, next) (one_more (take i calls) answers t u call answer chain carried)

pub chain_whole : (o : Order) (n : ℕ) (s u : State) (calls : List IndexCall) (answers : List Answer) (i : ℕ) → length calls ≤ i → Chain o n s (take i calls) answers u
    → Chain o n s calls answers u
chain_whole o n s u calls answers i e chain = subst (λ (x : List IndexCall). Chain o n s x answers u) (take_all i calls e) chain
