-- The edits of entry lists by index, as a loop and an array have them. They hold of every list, sound or not.
use Rattle.std.specs.Prelude.{◌≡◌, ℕ, suc, ◌-◌, ◌<◌, ◌≤◌, cond, List, [], ◌∷◌, ◌++◌, length, take, drop, nat_le, slice_index_or, slice_set}
use Rattle.layout.specs.declared.entry.Entry.{Entry}
use Rattle.layout.specs.Content.{LeafKeys}
use Rattle.tree.specs.Tree.{count_at}
use Rattle.tree.specs.Tree.Held.{none, held}
use Rattle.tree.specs.CopyMoves.{entry, enter, remove}
use Rattle.tree.specs.CopyMoves.Split.{one, two}
use Rattle.tree.specs.CopyPages.{ended, pick, swap, clear}

-- the entry at an index
abbrev pub at : List Entry → ℕ → Entry
at es i = slice_index_or es i (entry 0 0)

-- in an inner page: the first entry whose key is not below the address, or the last
pub record ChildPlace (es : List Entry) (a i : ℕ) : Type 0 where
  pub within : i < length es
  pub below : (k : ℕ) → k < i → (at es k).key < a
  pub here : suc i < length es → a ≤ (at es i).key

-- in a leaf: the first entry whose key is not below the address, or the end
pub record LeafPlace (es : List Entry) (a i : ℕ) : Type 0 where
  pub within : i ≤ length es
  pub below : (k : ℕ) → k < i → (at es k).key < a
  pub here : i < length es → a ≤ (at es i).key

-- the key that an inner page's entry keeps: its own, and 0 for the last one
abbrev pub end_key : List Entry → ℕ → ℕ
end_key es i = cond (nat_le (length es) (suc i)) 0 (at es i).key

pub record InnerEdits (es : List Entry) (a i : ℕ) : Type 0 where
  pub picks : pick es a ≡ (at es i).value
  pub swaps_one : (v : ℕ) → swap es a (one v) ≡ slice_set es i (entry (end_key es i) v)
  pub swaps_two : (v j w : ℕ) → swap es a (two v j w) ≡ take i es ++ (entry j v ∷ (entry (end_key es i) w ∷ drop (suc i) es))
  pub keeps : (v : ℕ) → clear es a (held v) ≡ slice_set es i (entry (end_key es i) v)
  -- a child drops out: not the last one; the last of several, so that the one before ends with 0; the only one
  pub drops : suc i < length es → clear es a none ≡ take i es ++ drop (suc i) es
  pub drops_last : (j : ℕ) → i ≡ suc j → suc i ≡ length es → clear es a none ≡ slice_set (take i es) j (ended (at es j))
  pub drops_only : length es ≡ 1 → clear es a none ≡ []

abbrev pub InnerEditLaw : Type 0
InnerEditLaw = (es : List Entry) (a i : ℕ) → ChildPlace es a i → InnerEdits es a i

-- the address stands at the index
abbrev pub Has : List Entry → ℕ → ℕ → Type 0
Has es a i = (i < length es) × ((at es i).key ≡ a)

-- leaves: the address is there, or it is not
pub record LeafEdits (es : List Entry) (a i : ℕ) : Type 0 where
  pub counts_up : Has es a i → enter a es ≡ slice_set es i (entry a (suc (at es i).value))
  pub enters : (Has es a i → ⊥) → enter a es ≡ take i es ++ (entry a 1 ∷ drop i es)
  pub counts_down : Has es a i → 1 < (at es i).value → remove a es ≡ slice_set es i (entry a ((at es i).value - 1))
  pub drops : Has es a i → (at es i).value ≤ 1 → remove a es ≡ take i es ++ drop (suc i) es

abbrev pub LeafEditLaw : Type 0
LeafEditLaw = (es : List Entry) (a i : ℕ) → LeafPlace es a i → LeafEdits es a i

-- where the keys rise, the count is at that place or there is none
abbrev pub LeafCountLaw : Type 0
LeafCountLaw = (es : List Entry) (lo hi a i : ℕ) → LeafKeys lo hi es → LeafPlace es a i →
    (Has es a i → count_at es a ≡ (at es i).value) × ((Has es a i → ⊥) → count_at es a ≡ 0)
