-- The entries of a page, from a place on.
use Rattle.std.proofs.Common.{◌≡◌, ℕ, ◌+◌, ◌<◌, ◌≤◌, min, List, [], ◌∷◌, length, drop, sym, ap, ◌∙◌, arith}
use Rattle.std.proofs.lemmas.List.{drop_more, drop_all}
use Rattle.std.proofs.lemmas.List.FromFn.{length-map-range_with_len, get_or-map-range_with_len}
use Rattle.layout.specs.declared.entry.Entry.{Entry}
use Rattle.layout.specs.Bytes.{count_of, entries_of, entry_at}

pub length_entries : (bs : List ℕ) → length (entries_of bs) ≡ min (count_of bs) 10
length_entries bs = length-map-range_with_len (entry_at bs) 0 (min (count_of bs) 10)

pub given_none : (bs : List ℕ) (i n : ℕ) → n ≡ min (count_of bs) 10 → n ≤ i → (drop i (entries_of bs) ≡ []) × (drop i (entries_of bs) ≡ [])
given_none bs i n e h = let d = drop_all i (entries_of bs) (omega (arith, length_entries bs)) in (d, d)

pub given_next : (bs : List ℕ) (i n : ℕ) (e : Entry) → n ≡ min (count_of bs) 10 → i < n → e ≡ entry_at bs i → drop i (entries_of bs) ≡ e ∷ drop (i + 1) (entries_of bs)
given_next bs i n e q h p =
    drop_more (entries_of bs) i e (omega (arith, length_entries bs))
    ∙ ap (λ x. x ∷ drop (i + 1) (entries_of bs)) (get_or-map-range_with_len (entry_at bs) 0 (min (count_of bs) 10) i i e (omega arith) (omega arith) ∙ sym p)
