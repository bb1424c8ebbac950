-- What the code's edits of an entry list do, refusals included.
use Rattle.std.specs.Prelude.{◌≡◌, ℕ, suc, ◌<◌, ◌≤◌, Bool, true, false, List, [], length, Some, None, Ok, Err, Option, Result, ◌≢◌, slice_index_or}
use Rattle.layout.specs.declared.entry.Entry.{Entry}
use Rattle.layout.specs.declared.change.EnterFault.{EnterFault}
use Rattle.layout.specs.declared.change.EnterFault.TheVariants.{CountFull, NoRoom}
use Rattle.layout.specs.declared.change.Full.{Full}
use Rattle.layout.specs.declared.change.ChildPages.{ChildPages}
use Rattle.layout.specs.declared.change.ChildPages.TheVariants.{One, Two}
use Rattle.layout.specs.declared.change.RightHalf.{RightHalf}
use Rattle.layout.specs.declared.list.EntryList.{EntryList}
use Rattle.layout.specs.Listed.{entries, blank}
use Rattle.layout.specs.Edits.{Split, one, two, found, enter, remove, child_for, put_child}

-- one more at an address: the count was below 65535, or there was none and there was room
abbrev pub Enters : ℕ → List Entry → Result (Unit {0}) EnterFault → List Entry → Type 0
Enters a es (Ok x) after = (found a es ≢ Some 65535) × (found a es ≡ None → length es ≤ 10) × (after ≡ enter a es)
Enters a es (Err CountFull) after = (found a es ≡ Some 65535) × (after ≡ es)
Enters a es (Err NoRoom) after = (found a es ≡ None) × (length es ≡ 11) × (after ≡ es)

-- one less at an address that has an entry
abbrev pub Removes : ℕ → List Entry → Bool → List Entry → Type 0
Removes a es true after = (found a es ≢ None) × (after ≡ remove a es)
Removes a es false after = (found a es ≡ None) × (after ≡ es)

-- the child for an address; none where there is no entry
abbrev pub Picks : ℕ → List Entry → Option ℕ → Type 0
Picks a es (Some v) = (1 ≤ length es) × (v ≡ child_for es a)
Picks a es None = es ≡ []

abbrev pub split_of : ChildPages → Split ℕ
split_of (One v) = one v
split_of (Two v k w) = two v k w

abbrev pub AreTwo : ChildPages → Type 0
AreTwo (One v) = ⊥
AreTwo (Two v k w) = Unit {0}

-- other pages in a child's place, or a list of eleven has no room for two
abbrev pub Puts : ℕ → ChildPages → List Entry → Result (Unit {0}) Full → List Entry → Type 0
Puts a s es (Ok x) after = after ≡ put_child es a (split_of s)
Puts a s es (Err e) after = (length es ≡ 11) × (after ≡ es) × AreTwo s

-- the key that entry i has afterwards: 0 for the last one
pub record Ends (es : List Entry) (i key : ℕ) : Type 0 where
  pub last : suc i ≡ length es → key ≡ 0
  pub other : suc i < length es → key ≡ (slice_index_or es i blank).key

-- a page that fits, or its two halves: the left one is what is left in the list
abbrev pub after_split : List Entry → Option (RightHalf EntryList) → Split (List Entry)
after_split es None = one es
after_split es (Some r) = two es r.key (entries r.entries)

-- each part has at most ten
abbrev pub Few : Split (List Entry) → Type 0
Few (one es) = length es ≤ 10
Few (two es k ds) = (length es ≤ 10) × (length ds ≤ 10)
