-- What an entry list holds, and where a key belongs in it.
use Rattle.std.specs.Prelude.{◌≡◌, ℕ, suc, ◌<◌, ◌≤◌, List, [], length, Some, None, Ok, Err, Option, Result, ◌≢◌, slice_index_or}
use Rattle.layout.specs.declared.entry.Entry.{Entry}
use Rattle.layout.specs.declared.list.EntryList.{EntryList}

abbrev pub entries : EntryList → List Entry
entries l = l.items.items

-- what stands past the end
abbrev pub blank : Entry
blank = record { key = 0; value = 0 }

-- in a leaf: past all keys below the address, and before the first that is not
pub record LeafPlace (es : List Entry) (a i : ℕ) : Type 0 where
  pub within : i ≤ length es
  pub below : (k : ℕ) → k < i → (slice_index_or es k blank).key < a
  pub here : i < length es → a ≤ (slice_index_or es i blank).key

-- in an inner page: the first entry whose key is not below the address, or the last
pub record ChildPlace (es : List Entry) (a i : ℕ) : Type 0 where
  pub within : i < length es
  pub below : (k : ℕ) → k < i → (slice_index_or es k blank).key < a
  pub here : suc i < length es → a ≤ (slice_index_or es i blank).key

-- where an address stands in a leaf, or where its entry would be put in
abbrev pub FindsLeafPlace : List Entry → ℕ → Result ℕ ℕ → Type 0
FindsLeafPlace es a (Ok i) = LeafPlace es a i × (i < length es) × ((slice_index_or es i blank).key ≡ a)
FindsLeafPlace es a (Err i) = LeafPlace es a i × (i < length es → (slice_index_or es i blank).key ≢ a)

abbrev pub FindsChildPlace : List Entry → ℕ → Option ℕ → Type 0
FindsChildPlace es a (Some i) = ChildPlace es a i
FindsChildPlace es a None = es ≡ []
