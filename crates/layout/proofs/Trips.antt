-- What was written is read back.
use Rattle.std.proofs.Common.{◌≡◌, ℕ, zero, suc, ◌+◌, ◌-◌, ◌*◌, ◌^◌, ◌<◌, ◌≤◌, min, true, List, [], ◌∷◌, ◌++◌, map, length, get_or, drop, replicate, Decides, sym, refl, ap, ◌∙◌, arith}
use Rattle.std.specs.List.{flat_map, range_with_len, AllByRecursion}
use Rattle.std.proofs.lemmas.List.{same_lists, drop-drop}
use Rattle.std.proofs.ByRecursion.{All-get_or}
use Rattle.std.proofs.lemmas.Slice.Eq.{bytes_eq-Decides}
use Rattle.std.proofs.lemmas.List.FromFn.{length-map-range_with_len, get_or-map-range_with_len}
use Rattle.layout.specs.declared.entry.Entry.{Entry}
use Rattle.layout.specs.Content.{Content, page}
use Rattle.layout.specs.Bytes.{little, number_at, entry_bytes, page_bytes, entry_at, level_of, number_of, entries_of, clean_of, content_of, Fit, RoundTrip}
use Rattle.layout.specs.Writing.{Holds}
use Rattle.layout.proofs.Numbers.{number_there}

-- past i entries the next one stands
pub drop_entries : (es : List Entry) (i : ℕ) (z : List ℕ) (d : Entry) → i < length es → drop (12 * i) (flat_map entry_bytes es ++ z) ≡ entry_bytes (get_or es i d) ++ (flat_map entry_bytes (drop (suc i) es) ++ z)
drop_entries [] i z d h = absurd (omega arith)
drop_entries (e ∷ es) zero z d h = refl
drop_entries (e ∷ es) (suc i) z d h =
    let m : 12 * suc i ≡ 12 + 12 * i = omega arith in
    let l : i < length es = omega arith in
    rw (m, ← drop-drop (12 * i) 12 (flat_map entry_bytes (e ∷ es) ++ z)) (drop_entries es i z d l)

entry_of_bytes : (bs : List ℕ) (e : Entry) (i : ℕ) (r : List ℕ) → Fit e → drop (8 + 12 * i) bs ≡ entry_bytes e ++ r → entry_at bs i ≡ e
entry_of_bytes bs e i r f p =
    let k : number_at 8 bs (8 + 12 * i) ≡ e.key = number_there 7 e.key (8 + 12 * i) bs (little 2 e.value ++ (0 ∷ 0 ∷ r)) p f.0 in
    let v : number_at 2 bs (8 + 12 * i + 8) ≡ e.value =
    number_there 1 e.value (8 + 12 * i + 8) bs (0 ∷ 0 ∷ r) (sym (drop-drop 8 (8 + 12 * i) bs) ∙ ap (drop 8) p) f.1 in
    rw (k, v)

module _ (level number : ℕ) (es : List Entry) (l : length es ≤ 10) (f : AllByRecursion Fit es) where
  abbrev bs : List ℕ
  bs = page_bytes level number es

  entry_back : (i : ℕ) (d : Entry) → i < length es → entry_at bs i ≡ get_or es i d
  entry_back i d h =
      let z : List ℕ = replicate (120 - 12 * length es) 0 in
      entry_of_bytes bs (get_or es i d) i (flat_map entry_bytes (drop (suc i) es) ++ z) (All-get_or Fit es i d h f)
      (sym (drop-drop (12 * i) 8 bs) ∙ drop_entries es i z d h)

  entries_back : entries_of bs ≡ es
  entries_back =
      let n : min (length es) 10 ≡ length es = omega arith in
      let e : map (entry_at bs) (range_with_len 0 (length es)) ≡ es =
      same_lists (map (entry_at bs) (range_with_len 0 (length es))) es (length-map-range_with_len (entry_at bs) 0 (length es))
      (λ k d h. let m : k < length es = omega (arith, length-map-range_with_len (entry_at bs) 0 (length es)) in get_or-map-range_with_len (entry_at bs) 0 (length es) k k d m (omega arith) ∙ entry_back k d m) in
      ap (λ m. map (entry_at bs) (range_with_len 0 m)) n ∙ e

-- the test by which a page is clean
pub clean_decides : (bs : List ℕ) → Decides (clean_of bs) (bs ≡ page_bytes (level_of bs) (number_of bs) (entries_of bs))
unfolding clean_of
clean_decides bs = bytes_eq-Decides bs (page_bytes (level_of bs) (number_of bs) (entries_of bs))

content_is : (level number : ℕ) (es : List Entry) (c : Content) → c.level ≡ level → c.number ≡ number → c.clean ≡ true → c.entries ≡ es → c ≡ page level number es
content_is level number es c a b d e = λ i. record { level = a i; number = b i; clean = d i; entries = e i }

pub round_trip : RoundTrip
round_trip level number es k l f =
    let bs : List ℕ = page_bytes level number es in
    let n : number_of bs ≡ number = number_there 1 number 2 bs (0 ∷ 0 ∷ 0 ∷ 0 ∷ (flat_map entry_bytes es ++ replicate (120 - 12 * length es) 0)) refl k in
    let e : entries_of bs ≡ es = entries_back level number es l f in
    let p : page_bytes (level_of bs) (number_of bs) (entries_of bs) ≡ bs = λ i. page_bytes level (n i) (e i) in
    content_is level number es (content_of bs) refl n ((clean_decides bs).1 (sym p)) e

pub holds : (level number : ℕ) (es : List Entry) (b : List ℕ) → number < 2 ^ 16 → length es ≤ 10 → AllByRecursion Fit es → b ≡ page_bytes level number es → Holds level number es b
holds level number es b k l f e = (e, ap content_of e ∙ round_trip level number es k l f)
