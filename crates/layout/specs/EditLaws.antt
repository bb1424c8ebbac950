-- What the edits of one page do to its keys and to its children's regions.
use Rattle.std.specs.Prelude.{◌≡◌, ℕ, suc, ◌+◌, ◌<◌, ◌≤◌, cond, List, [], ◌∷◌, length, take, drop, Some, None, ◌==◌, ◌≢◌, nat_le, slice_index_or, slice_set}
use Rattle.std.specs.List.{AllByRecursion}
use Rattle.layout.specs.declared.entry.Entry.{Entry}
use Rattle.layout.specs.Content.{LeafKeys, InnerKeys}
use Rattle.layout.specs.Edits.{one, two, entry, ended, sixth, found, or_zero, enter, remove, child_for, child_start, child_end, put_child, drop_child_lem}

-- A leaf whose region runs from `start` to `end`.
pub record LeafEdits (start end : ℕ) (es : List Entry) : Type 0 where
  -- each entry is found by its key, and where nothing is found no entry has the key
  pub finds : (i : ℕ) → i < length es → found (slice_index_or es i (entry 0 0)).key es ≡ Some (slice_index_or es i (entry 0 0)).value
  pub lacks : (a : ℕ) → found a es ≡ None → AllByRecursion (λ e. e.key ≢ a) es
  -- so every sum of the counts that the entries have for an address is the count found
  pub counts : (f : List Entry → ℕ) (a : ℕ) → f [] ≡ 0 → ((e : Entry) (ds : List Entry) → f (e ∷ ds) ≡ cond (e.key == a) e.value 0 + f ds) → f es ≡ or_zero (found a es)
  -- an address of the region enters it, and one leaves it: D holds still; at most one entry comes or goes
  pub enters : (a : ℕ) → start ≤ a → a ≤ end → LeafKeys start end (enter a es)
  pub entered : (a : ℕ) → (1 ≤ length (enter a es)) × (length (enter a es) ≤ suc (length es))
  pub removes : (a : ℕ) → LeafKeys start end (remove a es)
  pub removed : (a : ℕ) → (length (remove a es) ≤ length es) × (length es ≤ suc (length (remove a es)))
  -- a split divides the region at the left half's sixth key
  pub splits : 6 < length es → (start ≤ (sixth es).key) × ((sixth es).key < end) × LeafKeys start (sixth es).key (take 6 es) × LeafKeys (suc (sixth es).key) end (drop 6 es)

-- An inner page whose region runs from `start` to `end`.
pub record InnerEdits (start end : ℕ) (es : List Entry) : Type 0 where
  -- the region of the child for an address holds it, and lies in the page's
  pub region : (a : ℕ) → start ≤ a → a ≤ end
      → (start ≤ child_start es a start) × (child_start es a start ≤ a) × (a ≤ child_end es a end) × (child_end es a end ≤ end)
  -- another page in the child's place, or two with a key that divides the child's region: E holds still
  pub puts_one : (a v : ℕ) → InnerKeys start end (put_child es a (one v))
  pub puts_two : (a v j w : ℕ) → child_start es a start ≤ j → j < child_end es a end → InnerKeys start end (put_child es a (two v j w))
  -- and the address goes to the new page, or to the one of the two on its side of the key
  pub picks_one : (a v : ℕ) → child_for (put_child es a (one v)) a ≡ v
  pub picks_two : (a v j w : ℕ) → child_for (put_child es a (two v j w)) a ≡ cond (nat_le a j) v w
  -- a child drops out that is not the only one
  pub drops : (a : ℕ) → 2 ≤ length es → InnerKeys start end (drop_child_lem es a)
  -- a split divides the region at the left half's sixth key, which becomes 0
  pub splits : 6 < length es
      → (start ≤ (sixth es).key) × ((sixth es).key < end) × InnerKeys start (sixth es).key (slice_set (take 6 es) 5 (ended (sixth es))) × InnerKeys (suc (sixth es).key) end (drop 6 es)

abbrev pub LeafLaw : Type 0
LeafLaw = (start end : ℕ) (es : List Entry) → LeafKeys start end es → LeafEdits start end es

abbrev pub InnerLaw : Type 0
InnerLaw = (start end : ℕ) (es : List Entry) → InnerKeys start end es → InnerEdits start end es
