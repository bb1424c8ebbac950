-- What a call does, and how the answer tells it.
use Rattle.std.specs.Prelude.{◌≡◌, ℕ, [], length, replicate, Ok as Done, Err}
use Rattle.pages.specs.Image.{Image, Reads, Writes}
use Rattle.orders.specs.Orders.{Order}
use Rattle.searches.specs.Finds.{ending_of}
use Rattle.index.specs.Model.{Call, Answer as IndexAnswer, State, refusal}
use Rattle.index.specs.Model.Call.{formats, opens, shuts, lodges, withdraws, tallies, searches, grants}
use Rattle.index.specs.Model.Answer.{accepted, counted, found}
use Rattle.index.specs.Opening.{Opening}
use Rattle.index.specs.Steps.{Step}
use Rattle.script.specs.declared.call.Access.{Access}
use Rattle.script.specs.declared.call.Access.TheVariants.{Read, Write}
use Rattle.script.specs.declared.call.IndexCall.{IndexCall}
use Rattle.script.specs.declared.call.IndexCall.TheVariants.{Grant, Format, Open, Shut, Lodge, Withdraw, Tally, Search}
use Rattle.answers.specs.declared.answer.Answer.{Answer}
use Rattle.answers.specs.declared.answer.Answer.TheVariants.{Ok, Count, Found, Page, Denied, Refused}

-- the call of the index that a line asks for
abbrev pub call_of : IndexCall → Call
call_of (Grant charge) = grants charge
call_of Format = formats
call_of (Open records) = opens records
call_of Shut = shuts
call_of (Lodge x) = lodges x.coords
call_of (Withdraw x) = withdraws x.coords
call_of (Tally x) = tallies x.coords
call_of (Search asked) = searches asked.query.low.coords asked.query.high.coords asked.start asked.room

-- only these need memory, to lend it
abbrev pub Lending : IndexCall → Type 0
Lending (Open records) = Unit {0}
Lending (Search asked) = Unit {0}
Lending _ = ⊥

-- an opening is also told by the bytes of the memory, whoever wrote them
abbrev pub Opens : Order → State → IndexAnswer → State → Call → Type 0
Opens o s a u (opens records) = Opening o s records a u
Opens o s a u _ = Unit {0}

-- the call's step, and of an opening that as well
abbrev pub Steps : Order → State → IndexAnswer → State → Call → Type 0
Steps o s a u call = Step o s a u call × Opens o s a u call

-- what the index answered, as an answer tells it, in a space of n coordinates
abbrev pub Tells : ℕ → Answer → IndexAnswer → Type 0
Tells n Ok a = a ≡ accepted
Tells n (Count k) a = a ≡ counted k
Tells n (Found r finds m) a = (m ≡ n) × (r.count ≡ length finds.items) × (a ≡ found finds.items r.reads (ending_of r.ending))
Tells n (Refused f) a = a ≡ refusal f
Tells n _ a = ⊥

-- From the state s to the state u the call is carried out, and the answer tells what the index answered.
abbrev pub Carried : Order → ℕ → State → Answer → State → Call → Type 0
Carried o n s answer u call = (a : IndexAnswer) × Tells n answer a × Steps o s a u call

-- An access to the store, from the meaning m to the meaning m', and its answer. A write fills the page; the lent page of a read is of no matter.
abbrev pub Accessed : Image → Access → Answer → Image → Type 0
Accessed m (Read p) (Page bytes) m' = Reads m p [] (Done tt) m' bytes
Accessed m (Read p) (Denied f) m' = Reads m p [] (Err f) m' []
Accessed m (Write p byte) Ok m' = Writes m p (replicate 128 byte) (Done tt) m'
Accessed m (Write p byte) (Denied f) m' = Writes m p (replicate 128 byte) (Err f) m'
Accessed m access answer m' = ⊥
