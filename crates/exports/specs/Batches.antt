-- What a batch of calls does. An index is made, shut, over the lent memory; its charge is granted, it is opened, and the calls of the batch are carried out one
-- after the other, up to the first that is refused. All that is a history of the index.
use Rattle.std.specs.Prelude.{◌≡◌, ℕ, ◌+◌, ◌-◌, ◌^◌, ◌≤◌, ◌⊎◌, min, List, [], ◌∷◌, ◌++◌, map, length, take, Some, slice_index}
use Rattle.std.specs.List.{slice_get}
use Rattle.pages.specs.Image.{Image}
use Rattle.orders.specs.Orders.{Order}
use Rattle.orders.specs.Rules.{z_address, z_point}
use Rattle.index.specs.Model.{Call, State}
use Rattle.index.specs.Model.Call.{formats, opens, grants, lodges, tallies, searches}
use Rattle.index.specs.Model.Answer.{accepted, counted, found, refused}
use Rattle.index.specs.Histories.{Event, History, Led, event}
use Rattle.orders.specs.Spaces.{Ordered}
use Rattle.orders.specs.Refusals.{number_of}
use Rattle.orders.specs.declared.refusal.Refusal.TheVariants.{BoxEnds}
use Rattle.index.specs.Searched.{LentBack}
use Rattle.searches.specs.declared.find.Found.{Found}
use Rattle.searches.specs.Finds.{ending_of}
use Rattle.searches.specs.declared.find.Find.{Find}
use Rattle.exports.specs.declared.batch.Batch.{Batch}
use Rattle.exports.specs.declared.batch.Corners.{Corners}
use Rattle.exports.specs.declared.batch.Searched.{Searched}

-- the Z order of a space
abbrev pub z_order : ℕ → ℕ → Order
z_order n p = record { kind = 1; n = n; p = p; address = z_address n p; point = z_point n p }

-- the charge was granted
abbrev pub granted : ℕ → History
granted charge = event (grants charge) accepted ∷ []

-- and the index opened
abbrev pub opened : ℕ → History
opened charge = event (opens 64) accepted ∷ granted charge

-- a history that goes on by these events, the first of them first
abbrev pub onward : List Event → History → History
onward [] h = h
onward (e ∷ es) h = onward es (e ∷ h)

-- How a batch of these calls ends, of which these events came to pass: all calls were carried out, told as refusal 0; or the opening or the next call was refused
-- with that number.
pub data Ended (o : Order) (m : Image) (charge : ℕ) (calls : List Call) (events : List Event) (refusal : ℕ) : Type 0 where
  whole : {s : State} → refusal ≡ 0 → length events ≡ length calls → Led o m (onward events (opened charge)) s → Ended o m charge calls events refusal
  unopened : {s : State} {values : List ℕ} → events ≡ [] → Led o m (event (opens 64) (refused refusal values) ∷ granted charge) s → Ended o m charge calls events refusal
  broken : {s : State} {call : Call} {values : List ℕ} → slice_get calls (length events) ≡ Some call → Led o m (event call (refused refusal values) ∷ onward events (opened charge)) s
      → Ended o m charge calls events refusal

-- a format on its own, without an opening
pub data FormatBatch (o : Order) (m : Image) (charge : ℕ) (b : Batch) : Type 0 where
  formatted : {s : State} → b ≡ record { done = 1; refusal = 0 } → Led o m (event formats accepted ∷ granted charge) s → FormatBatch o m charge b
  unformatted : {s : State} {values : List ℕ} → b.done ≡ 0 → Led o m (event formats (refused b.refusal values) ∷ granted charge) s → FormatBatch o m charge b

-- an event lodged at each of the first points
abbrev pub lodging : List ℕ → Event
lodging x = event (lodges x) accepted

pub record LodgeBatch (o : Order) (m : Image) (charge : ℕ) (points : List (List ℕ)) (b : Batch) : Type 0 where
  pub few : b.done ≤ length points
  pub ended : Ended o m charge (map lodges points) (map lodging (take b.done points)) b.refusal

-- a count told of each of the first points, at its place
abbrev pub tallied : List (List ℕ) → List ℕ → List Event
tallied [] ns = []
tallied (x ∷ xs) [] = []
tallied (x ∷ xs) (n ∷ ns) = event (tallies x) (counted n) ∷ tallied xs ns

pub record TallyBatch (o : Order) (m : Image) (charge : ℕ) (points : List (List ℕ)) (before after : List ℕ) (b : Batch) : Type 0 where
  pub few : (b.done ≤ length points) × (b.done ≤ length after)
  pub ended : Ended o m charge (map tallies (take (length before) points)) (tallied (take b.done points) after) b.refusal
  -- the places past those counts keep what they held
  pub rest : (j : ℕ) → b.done ≤ j → slice_index after j ≡ slice_index before j

-- a number as far as it is told
abbrev pub capped : ℕ → ℕ
capped n = min n (2 ^ 64 - 1)

-- the search of a box, from its first address, with room for so many finds
abbrev pub seeking : ℕ → Corners → Call
seeking room c = searches c.low c.high 0 room

-- SearchBatch of these boxes came to these events, with so many finds and so many page reads in all; the lent memory, in which each search begins anew, now holds `memory`.
pub data Sought (lent : List Find) : List Corners → List Event → ℕ → ℕ → List Find → Type 0 where
  none : Sought lent [] [] 0 0 lent
  more : {boxes boxes' : List Corners} {events events' : List Event} {finds reads finds' reads' : ℕ} {memory : List Find} → Sought lent boxes events finds reads memory
      → (c : Corners) (r : Found) (memory' : List Find) → boxes' ≡ boxes ++ c ∷ []
      → events' ≡ events ++ event (seeking (length lent) c) (found (take r.count memory') r.reads (ending_of r.ending)) ∷ [] → length (take r.count memory') ≡ r.count
      → finds' ≡ capped (finds + r.count) → reads' ≡ capped (reads + r.reads) → LentBack r memory memory' → Sought lent boxes' events' finds' reads' memory'

-- the next box has a low end above its high end, so it is none
pub record NoBox (o : Order) (m : Image) (charge : ℕ) (boxes : List Corners) (events : List Event) (refusal : ℕ) : Type 0 where
  pub number : refusal ≡ number_of BoxEnds
  pub box : Corners
  pub next : slice_get boxes (length events) ≡ Some box
  pub unordered : Ordered box.low box.high → ⊥
  pub left : State
  pub led : Led o m (onward events (opened charge)) left

pub record SearchBatch (o : Order) (m : Image) (charge : ℕ) (boxes : List Corners) (lent memory : List Find) (b : Searched) : Type 0 where
  pub few : b.done ≤ length boxes
  pub events : List Event
  pub sought : Sought lent (take b.done boxes) events b.finds b.reads memory
  pub ended : Ended o m charge (map (seeking (length lent)) boxes) events b.refusal ⊎ NoBox o m charge boxes events b.refusal
