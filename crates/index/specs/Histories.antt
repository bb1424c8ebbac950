-- Histories: any calls, one after another, each on what the last one left; and what a point holds after them.
use Rattle.std.specs.Prelude.{◌≡◌, ℕ, ◌+◌, ◌-◌, ◌≤◌, Bool, true, false, cond, List, [], ◌∷◌, ◌==◌}
use Rattle.pages.specs.Image.{Image, Blank}
use Rattle.orders.specs.Orders.{Order, Lawful, InSpaceOf}
use Rattle.tree.specs.Tree.{count_at}
use Rattle.tree.specs.CopyLaws.{events_of}
use Rattle.index.specs.Model.{Call, Answer, State, state}
use Rattle.index.specs.Model.Call.{formats, opens, shuts, lodges, withdraws, tallies, searches, grants}
use Rattle.index.specs.Model.Answer.{accepted, refused, counted, found}
use Rattle.index.specs.Model.Known.{shut}
use Rattle.index.specs.Keeping.{Content, Kept}
use Rattle.index.specs.Keeping.Content.{blank, filed}
use Rattle.index.specs.Steps.{Step}

-- one call that was carried out, and its answer
pub record Event : Type 0 where
  pub call : Call
  pub answer : Answer

-- the newest first
abbrev pub History : Type 0
History = List Event

abbrev pub event : Call → Answer → Event
event call a = record { call = call; answer = a }

-- A history led from the memory `start` to the state s:
pub data Led (o : Order) (start : Image) : History → State → Type 0 where
  -- the empty one to the index as it is made, shut
  begun : Led o start [] (state start shut)
  -- and each further call, with any arguments and any answer, by its step
  goes_on : {h : History} {s u : State} {a : Answer} {call : Call} → Led o start h s → Step o s a u call → Led o start (event call a ∷ h) u

-- two points are the same: coordinate by coordinate
abbrev pub same : List ℕ → List ℕ → Bool
same [] [] = true
same [] (y ∷ ys) = false
same (x ∷ xs) [] = false
same (x ∷ xs) (y ∷ ys) = cond (x == y) (same xs ys) false

-- 1 where they are, otherwise 0
abbrev pub one_if_same : List ℕ → List ℕ → ℕ
one_if_same y x = cond (same y x) 1 0

-- a number after an accepted call, and the number before, which any other answer leaves
abbrev pub if_accepted : Answer → ℕ → ℕ → ℕ
if_accepted accepted after before = after
if_accepted (refused k values) after before = before
if_accepted (counted k) after before = before
if_accepted (found xs n ending) after before = before

-- n accepted lodgings of the point x become so many by a further call: an accepted format begins anew, an accepted lodge of x counts
abbrev pub lodgings_with : Call → Answer → List ℕ → ℕ → ℕ
lodgings_with formats a x n = if_accepted a 0 n
lodgings_with (lodges y) a x n = if_accepted a (one_if_same y x + n) n
lodgings_with (withdraws y) a x n = n
lodgings_with (tallies y) a x n = n
lodgings_with (searches lo hi start room) a x n = n
lodgings_with (opens w) a x n = n
lodgings_with shuts a x n = n
lodgings_with (grants k) a x n = n

-- the same of accepted withdrawals
abbrev pub withdrawals_with : Call → Answer → List ℕ → ℕ → ℕ
withdrawals_with formats a x n = if_accepted a 0 n
withdrawals_with (lodges y) a x n = n
withdrawals_with (withdraws y) a x n = if_accepted a (one_if_same y x + n) n
withdrawals_with (tallies y) a x n = n
withdrawals_with (searches lo hi start room) a x n = n
withdrawals_with (opens w) a x n = n
withdrawals_with shuts a x n = n
withdrawals_with (grants k) a x n = n

-- the accepted lodgings of a point since the last accepted format, and its accepted withdrawals
abbrev pub lodgings : History → List ℕ → ℕ
lodgings [] x = 0
lodgings (e ∷ h) x = lodgings_with e.call e.answer x (lodgings h x)

abbrev pub withdrawals : History → List ℕ → ℕ
withdrawals [] x = 0
withdrawals (e ∷ h) x = withdrawals_with e.call e.answer x (withdrawals h x)

-- what a point holds after a history: its accepted lodgings less its accepted withdrawals since the last accepted format
abbrev pub held : History → List ℕ → ℕ
held h x = lodgings h x - withdrawals h x

-- how many events a point has in what a memory holds: none where no tree is on file, otherwise the count at its address
abbrev pub held_in : Order → Content → List ℕ → ℕ
held_in o blank x = 0
held_in o (filed f) x = count_at (events_of f.tree) (o.address x)

-- After a history the memory holds something that is kept, and each point of the space has there what the history says.
pub record Holding (o : Order) (h : History) (s : State) : Type 0 where
  pub content : Content
  pub kept : Kept o s content
  -- no more was withdrawn than lodged
  pub covered : (x : List ℕ) → InSpaceOf o x → withdrawals h x ≤ lodgings h x
  pub counts : (x : List ℕ) → InSpaceOf o x → held_in o content x ≡ held h x

-- for every history over factory-blank memory, whatever its charge
abbrev pub HistoryLaw : Type 0
HistoryLaw = (o : Order) → Lawful o → (start : Image) → Blank start → (h : History) (s : State) → Led o start h s → Holding o h s

-- so a tally at the end of a history answers what its point holds
abbrev pub TallyLaw : Type 0
TallyLaw = (o : Order) → Lawful o → (start : Image) → Blank start → (h : History) (s u : State) (x : List ℕ) (n : ℕ) → Led o start h s →
    Step o s (counted n) u (tallies x) → n ≡ held h x

-- and an accepted withdrawal had an event to take
abbrev pub WithdrawalLaw : Type 0
WithdrawalLaw = (o : Order) → Lawful o → (start : Image) → Blank start → (h : History) (s u : State) (x : List ℕ) → Led o start h s →
    Step o s accepted u (withdraws x) → 1 ≤ held h x
