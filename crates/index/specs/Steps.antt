-- What each call does: one relation for all of them. The contract of a call is a step; histories are lists of steps.
use Rattle.std.specs.Prelude.{◌≡◌, ℕ, suc, ◌-◌, ◌<◌, ◌≤◌, List, [], ◌∷◌, length, Result, ◌≢◌, slice_index}
use Rattle.pages.specs.Image.{Image, at, written, granted, spent}
use Rattle.layout.specs.declared.header.Header.{Header}
use Rattle.layout.specs.Heads.{header_bytes, Proper}
use Rattle.orders.specs.Orders.{Order, InSpaceOf}
use Rattle.faults.specs.declared.fault.Fault.{Fault}
use Rattle.paths.specs.TallyRules.{Tallies}
use Rattle.paths.specs.WithdrawRules.{Withdraws}
use Rattle.paths.specs.LodgeKept.{Lodges}
use Rattle.tree.specs.CopyMoves.{lodge_step, withdraw_step}
use Rattle.tree.specs.Tree.Held.{none}
use Rattle.tree.specs.CopyLaws.{usable, unused, pages_of, root_of}
use Rattle.tree.specs.Scan.{uncharged}
use Rattle.index.specs.Model.{Call, Answer, State, state, limit, told_count}
use Rattle.index.specs.Model.Call.{formats, opens, shuts, lodges, withdraws, tallies, searches, grants}
use Rattle.index.specs.Model.Answer.{accepted, refused}
use Rattle.index.specs.Model.Known.{shut, knows}
use Rattle.index.specs.Keeping.{Content, Filed, Kept, Ours, header_for}
use Rattle.index.specs.Keeping.Content.{filed}
use Rattle.index.specs.Opening.{scan_of}
use Rattle.index.specs.Changes.{Changes, tree_state, known_of}
use Rattle.index.specs.Searched.{search_of, answer_of}

-- the empty tree
abbrev pub empty_file : Filed
empty_file = record { tree = none; height = 0; total = 0 }

-- the calls that name a point; a search names the two ends of its box
pub data Names (x : List ℕ) : Call → Type 0 where
  lodging : Names x (lodges x)
  withdrawing : Names x (withdraws x)
  tallying : Names x (tallies x)
  from_low : {y : List ℕ} {start room : ℕ} → Names x (searches x y start room)
  to_high : {y : List ℕ} {start room : ℕ} → Names x (searches y x start room)

-- From what the memory holds (c) and the state (s): the answer (a), the state after (u) and what the memory then holds (v).
pub data Does (o : Order) (c : Content) (s : State) (a : Answer) (u : State) (v : Content) : Call → Type 0 where
  -- format: an empty header is written, and all usable pages are free
  formatted : 1 ≤ length s.image.pages → 0 < s.image.charge → a ≡ accepted
      → u ≡ state (written s.image 1 (header_bytes (header_for o empty_file))) (knows 0 0 0 (usable (limit s.image))) → v ≡ filed empty_file
      → Does o c s a u v formats
  format_absent : length s.image.pages ≡ 0 → a ≡ refused 8 (1 ∷ 0 ∷ 1 ∷ []) → u ≡ s → v ≡ c → Does o c s a u v formats
  format_uncharged : 1 ≤ length s.image.pages → s.image.charge ≡ 0 → a ≡ refused 17 (1 ∷ 0 ∷ 2 ∷ []) → u ≡ s → v ≡ c → Does o c s a u v formats
  -- open: the questions before the tree, by the bytes of page 1
  open_few : {w : ℕ} → w < 64 → a ≡ refused 7 [] → u ≡ state s.image shut → v ≡ c → Does o c s a u v (opens w)
  open_absent : {w : ℕ} → 64 ≤ w → length s.image.pages ≡ 0 → a ≡ refused 8 (1 ∷ 0 ∷ 1 ∷ []) → u ≡ state s.image shut → v ≡ c → Does o c s a u v (opens w)
  open_uncharged : {w : ℕ} → 64 ≤ w → 1 ≤ length s.image.pages → s.image.charge ≡ 0 → a ≡ refused 9 (1 ∷ 0 ∷ 2 ∷ []) → u ≡ state s.image shut → v ≡ c
      → Does o c s a u v (opens w)
  open_no_header : {w : ℕ} → 64 ≤ w → 1 ≤ length s.image.pages → 0 < s.image.charge → ((h : Header) → Proper h → at s.image 1 ≢ header_bytes h)
      → a ≡ refused 10 [] → u ≡ state (spent s.image) shut → v ≡ c → Does o c s a u v (opens w)
  open_other : {w : ℕ} (h : Header) → 64 ≤ w → 1 ≤ length s.image.pages → 0 < s.image.charge → Proper h → at s.image 1 ≡ header_bytes h → (Ours o h → ⊥)
      → a ≡ refused 11 [] → u ≡ state (spent s.image) shut → v ≡ c → Does o c s a u v (opens w)
  -- a tree on file is sound, so it opens where the charge carries page 1 and each tree page; otherwise the first page not paid for is named
  open_short : {w : ℕ} (f : Filed) (level : ℕ) → c ≡ filed f → 64 ≤ w → 0 < s.image.charge → s.image.charge - 1 < length (pages_of f.tree)
      → scan_of o s.image (header_for o f) ≡ uncharged (slice_index (pages_of f.tree) (s.image.charge - 1)) level
      → a ≡ refused 9 (slice_index (pages_of f.tree) (s.image.charge - 1) ∷ level ∷ 2 ∷ []) → u ≡ state (granted s.image 0) shut → v ≡ c → Does o c s a u v (opens w)
  open_tree : {w : ℕ} (f : Filed) → c ≡ filed f → 64 ≤ w → 0 < s.image.charge → length (pages_of f.tree) ≤ s.image.charge - 1
      → a ≡ accepted
      → u ≡ state (granted s.image (s.image.charge - 1 - length (pages_of f.tree))) (knows f.height (root_of f.tree) f.total (unused (pages_of f.tree) (usable (limit s.image))))
      → v ≡ c → Does o c s a u v (opens w)
  -- 5: the index is shut; 6: the point is outside the space
  not_open : {call : Call} (x : List ℕ) → Names x call → s.known ≡ shut → a ≡ refused 5 [] → u ≡ s → v ≡ c → Does o c s a u v call
  outside : {call : Call} (x : List ℕ) (height root total : ℕ) (free : List ℕ) → Names x call → s.known ≡ knows height root total free → (InSpaceOf o x → ⊥)
      → a ≡ refused 6 [] → u ≡ s → v ≡ c → Does o c s a u v call
  -- tally: the count at the point's address; nothing changes but the charge
  tallied : {x : List ℕ} (f : Filed) (free : List ℕ) (r : Result ℕ Fault) (m : Image) → c ≡ filed f → s.known ≡ known_of (tree_state f free) f.total → InSpaceOf o x
      → Tallies s.image (tree_state f free) (o.address x) r m → a ≡ told_count r → u ≡ state m s.known → v ≡ c → Does o c s a u v (tallies x)
  -- search: what the search of the tree on file comes to; nothing changes but the charge, which falls by the reads
  searched : {lo hi : List ℕ} {start room : ℕ} (f : Filed) (free : List ℕ) → c ≡ filed f → s.known ≡ known_of (tree_state f free) f.total → InSpaceOf o lo → InSpaceOf o hi
      → a ≡ answer_of o (search_of o lo hi start f.tree s.image.charge room)
      → u ≡ state (granted s.image (s.image.charge - (search_of o lo hi start f.tree s.image.charge room).reads)) s.known → v ≡ c
      → Does o c s a u v (searches lo hi start room)
  -- lodge: one event more at the point's address
  lodged : {x : List ℕ} (f : Filed) (free : List ℕ) → c ≡ filed f → s.known ≡ known_of (tree_state f free) f.total → InSpaceOf o x
      → Changes o s f (Lodges s.image (tree_state f free) (o.address x)) (lodge_step (tree_state f free) (o.address x)).next (suc f.total) a u v
      → Does o c s a u v (lodges x)
  -- withdraw: one event less at the point's address
  withdrawn : {x : List ℕ} (f : Filed) (free : List ℕ) → c ≡ filed f → s.known ≡ known_of (tree_state f free) f.total → InSpaceOf o x
      → Changes o s f (Withdraws s.image (tree_state f free) (o.address x)) (withdraw_step (tree_state f free) (o.address x)).next (f.total - 1) a u v
      → Does o c s a u v (withdraws x)
  -- shut spends nothing
  shut_down : a ≡ accepted → u ≡ state s.image shut → v ≡ c → Does o c s a u v shuts
  -- grant sets the charge
  given : {n : ℕ} → a ≡ accepted → u ≡ state (granted s.image n) s.known → v ≡ c → Does o c s a u v (grants n)

-- there is what the memory holds afterwards, it is kept, and a rule was followed
pub record Goes (o : Order) (c : Content) (s : State) (a : Answer) (u : State) (call : Call) : Type 0 where
  pub next : Content
  pub kept : Kept o u next
  pub does : Does o c s a u next call

-- a step, in every state: the number of pages stays; and for everything that the memory may hold, what is done
pub record Step (o : Order) (s : State) (a : Answer) (u : State) (call : Call) : Type 0 where
  pub size : length u.image.pages ≡ length s.image.pages
  pub exact : (c : Content) → Kept o s c → Goes o c s a u call
