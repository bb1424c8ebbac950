-- A page is the encoding of what it says just when its named zeros and unused bytes are zero.
use Rattle.std.proofs.Common.{◌≡◌, ℕ, zero, suc, ◌+◌, ◌-◌, ◌*◌, ◌<◌, ◌≤◌, min, List, ◌∷◌, ◌++◌, map, length, get_or, drop, replicate, sym, refl, ap, ◌∙◌, append_assoc, add-zero, arith}
use Rattle.std.specs.List.{flat_map, range_with_len}
use Rattle.std.proofs.lemmas.List.{ext_get_or, drop-drop, drop_more, length-drop, length-replicate, get_or-drop, get_or-replicate, take-append-drop, get_or_append_left, get_or-append_right}
use Rattle.std.proofs.ByRecursion.{All-get_or}
use Rattle.layout.specs.declared.entry.Entry.{Entry}
use Rattle.layout.specs.Bytes.{little, number_at, entry_bytes, front_bytes, page_bytes, entry_at, level_of, count_of, number_of, entries_of, Bytes, Zeros, CleanLaw, FilledLaw}
use Rattle.layout.proofs.Numbers.{little_there}
use Rattle.layout.proofs.Entries.{length_entries}
use Rattle.layout.proofs.Trips.{clean_decides, drop_entries}
use Rattle.layout.proofs.Pages.{length_joined}

module _ (bs : List ℕ) (long : length bs ≡ 128) (fits : Bytes bs) where
  byte_fits : (p n : ℕ) → p + n ≤ 128 → (j : ℕ) → j < n → get_or bs (p + j) 0 < 256
  byte_fits p n h j l = All-get_or (λ b. b < 256) bs (p + j) 0 (omega arith) fits

  -- a number's bytes, taken from the front of what is left
  number_first : (p n : ℕ) → p + suc n ≤ 128 → drop p bs ≡ little (suc n) (number_at (suc n) bs p) ++ drop (p + suc n) bs
  number_first p n h =
      sym (take-append-drop (suc n) (drop p bs))
      ∙ (λ i. sym (little_there bs p n (omega arith) (byte_fits p (suc n) h)) i ++ drop-drop (suc n) p bs i)

  -- one byte that is known
  byte_first : (p v : ℕ) → p < 128 → get_or bs p 0 ≡ v → drop p bs ≡ v ∷ drop (p + 1) bs
  byte_first p v h e = drop_more bs p 0 (omega arith) ∙ ap (λ x. x ∷ drop (p + 1) bs) e

  -- bytes that are all zero, to the end
  zeros_first : (p n : ℕ) → p + n ≡ 128 → ((k : ℕ) → p ≤ k → k < 128 → get_or bs k 0 ≡ 0) → drop p bs ≡ replicate n 0
  zeros_first p n e z =
      let d = length-drop p bs in
      ext_get_or 0 (drop p bs) (replicate n 0) (omega (arith, length-replicate {A = ℕ} n 0))
      (λ k h. get_or-drop p bs k 0 ∙ z (p + k) (omega arith) (omega arith) ∙ sym (get_or-replicate n k 0 0 (omega arith)))

  -- an entry, from its place on
  entry_first : (i : ℕ) → i < 10 → (get_or bs (8 + 12 * i + 10) 0 ≡ 0) × (get_or bs (8 + 12 * i + 11) 0 ≡ 0) → drop (8 + 12 * i) bs ≡ entry_bytes (entry_at bs i) ++ drop (8 + 12 * (i + 1)) bs
  entry_first i h z =
      let p : ℕ = 8 + 12 * i in
      let b : p + 10 + 1 ≡ p + 11 = omega arith in
      let d : p + 11 + 1 ≡ 8 + 12 * (i + 1) = omega arith in
      let w : p + 8 + 2 ≡ p + 10 = omega arith in
      number_first p 7 (omega arith)
      ∙ ap (λ r. little 8 (number_at 8 bs p) ++ r)
      (number_first (p + 8) 1 (omega arith)
      ∙ ap (λ r. little 2 (number_at 2 bs (p + 8)) ++ r)
      (ap (λ q. drop q bs) w ∙ byte_first (p + 10) 0 (omega arith) z.0
      ∙ ap (λ r. 0 ∷ r) (ap (λ q. drop q bs) b ∙ byte_first (p + 11) 0 (omega arith) z.1 ∙ ap (λ q. 0 ∷ drop q bs) d)))

  -- the entries from i on, and what stands behind them
  entries_first : (m i : ℕ) → i + m ≤ 10 → ((j : ℕ) → j < i + m → (get_or bs (8 + 12 * j + 10) 0 ≡ 0) × (get_or bs (8 + 12 * j + 11) 0 ≡ 0))
      → drop (8 + 12 * i) bs ≡ flat_map entry_bytes (map (entry_at bs) (range_with_len i m)) ++ drop (8 + 12 * (i + m)) bs
  entries_first zero i h z = ap (λ q. drop (8 + 12 * q) bs) (sym (add-zero i))
  entries_first (suc m) i h z =
      let n : i + 1 + m ≡ i + suc m = omega arith in
      entry_first i (omega arith) (z i (omega arith))
      ∙ ap (λ r. entry_bytes (entry_at bs i) ++ r) (entries_first m (i + 1) (omega arith) (λ j l. z j (omega arith)) ∙ ap (λ q. flat_map entry_bytes (map (entry_at bs) (range_with_len (i + 1) m)) ++ drop (8 + 12 * q) bs) n)
      ∙ sym (append_assoc (entry_bytes (entry_at bs i)) (flat_map entry_bytes (map (entry_at bs) (range_with_len (i + 1) m))) (drop (8 + 12 * (i + suc m)) bs))

  -- the eight bytes before the entries
  front_first : Zeros bs → bs ≡ front_bytes (level_of bs) (count_of bs) (number_of bs) ++ drop 8 bs
  front_first z =
      let at = λ (k : ℕ) (a : 4 ≤ k) (b : k < 8). z.front k a b in
      byte_first 0 (level_of bs) (omega arith) refl
      ∙ ap (λ r. level_of bs ∷ r) (byte_first 1 (count_of bs) (omega arith) refl
      ∙ ap (λ r. count_of bs ∷ r) (number_first 2 1 (omega arith)
      ∙ ap (λ r. little 2 (number_of bs) ++ r) (byte_first 4 0 (omega arith) (at 4 (omega arith) (omega arith))
      ∙ ap (λ r. 0 ∷ r) (byte_first 5 0 (omega arith) (at 5 (omega arith) (omega arith))
      ∙ ap (λ r. 0 ∷ r) (byte_first 6 0 (omega arith) (at 6 (omega arith) (omega arith))
      ∙ ap (λ r. 0 ∷ r) (byte_first 7 0 (omega arith) (at 7 (omega arith) (omega arith))))))))

  encoded : count_of bs ≤ 10 → Zeros bs → bs ≡ page_bytes (level_of bs) (number_of bs) (entries_of bs)
  encoded h z =
      let n : ℕ = min (count_of bs) 10 in
      let c : count_of bs ≡ length (entries_of bs) = omega (arith, length_entries bs) in
      let l : length (entries_of bs) ≡ n = length_entries bs in
      let k : n ≡ count_of bs = omega arith in
      let e = entries_first n 0 (omega arith) (λ j m. z.entry j (omega arith)) in
      let r = zeros_first (8 + 12 * (0 + n)) (120 - 12 * length (entries_of bs)) (omega (arith, l)) (λ j a b. z.unused j (omega arith) b) in
      front_first z
      ∙ (λ i. front_bytes (level_of bs) (c i) (number_of bs) ++ (e ∙ ap (λ x. flat_map entry_bytes (entries_of bs) ++ x) r) i)

-- a byte of the encoding of entries, as it is written
module _ (level number : ℕ) (es : List Entry) where
  abbrev coded : List ℕ
  coded = page_bytes level number es

  coded_front : (k : ℕ) → 4 ≤ k → k < 8 → get_or coded k 0 ≡ 0
  coded_front k a b =
      let r : List ℕ = flat_map entry_bytes es ++ replicate (120 - 12 * length es) 0 in
      let q : 4 + (k - 4) ≡ k = omega arith in
      ap (λ m. get_or coded m 0) (sym q) ∙ sym (get_or-drop 4 coded (k - 4) 0) ∙ get_or_append_left (replicate 4 0) r 0 (k - 4) (omega arith) ∙ get_or-replicate 4 (k - 4) 0 0 (omega arith)

  coded_entry : (i : ℕ) → i < length es → (get_or coded (8 + 12 * i + 10) 0 ≡ 0) × (get_or coded (8 + 12 * i + 11) 0 ≡ 0)
  coded_entry i h =
      let z : List ℕ = replicate (120 - 12 * length es) 0 in
      let d : drop (8 + 12 * i) coded ≡ entry_bytes (get_or es i (record { key = 0; value = 0 })) ++ (flat_map entry_bytes (drop (suc i) es) ++ z) =
      sym (drop-drop (12 * i) 8 coded) ∙ drop_entries es i z (record { key = 0; value = 0 }) h in
      (sym (get_or-drop (8 + 12 * i) coded 10 0) ∙ ap (λ xs. get_or xs 10 0) d, sym (get_or-drop (8 + 12 * i) coded 11 0) ∙ ap (λ xs. get_or xs 11 0) d)

  coded_rest : length es ≤ 10 → (k : ℕ) → 8 + 12 * length es ≤ k → k < 128 → get_or coded k 0 ≡ 0
  coded_rest few k a b =
      let front : List ℕ = front_bytes level (length es) number ++ flat_map entry_bytes es in
      let n : length front ≡ 8 + 12 * length es = omega (arith, length_joined es) in
      let m : ℕ = 120 - 12 * length es in
      ap (λ xs. get_or xs k 0) (sym (append_assoc (front_bytes level (length es) number) (flat_map entry_bytes es) (replicate m 0)))
      ∙ get_or-append_right front (replicate m 0) (8 + 12 * length es) k 0 n a
      ∙ get_or-replicate m (k - (8 + 12 * length es)) 0 0 (omega arith)

zeroed : (bs : List ℕ) → bs ≡ page_bytes (level_of bs) (number_of bs) (entries_of bs) → (count_of bs ≤ 10) × Zeros bs
zeroed bs e =
    let es : List Entry = entries_of bs in
    let l = length_entries bs in
    let c : count_of bs ≡ length es = ap (λ xs. get_or xs 1 0) e in
    let to = λ (k : ℕ) (q : get_or (page_bytes (level_of bs) (number_of bs) es) k 0 ≡ 0). ap (λ xs. get_or xs k 0) e ∙ q in (
      omega arith,
      record {
        front = λ k a b. to k (coded_front (level_of bs) (number_of bs) es k a b);
        entry = λ i h. (let f = coded_entry (level_of bs) (number_of bs) es i (omega arith) in (to (8 + 12 * i + 10) f.0, to (8 + 12 * i + 11) f.1));
        unused = λ k a b. to k (coded_rest (level_of bs) (number_of bs) es (omega arith) k (omega arith) b);
      },
    )

pub clean_law : CleanLaw
clean_law bs long fits =
    let d = clean_decides bs in
    (d, (λ t. zeroed bs (d.0 t), λ z. d.1 (encoded bs long fits z.0 z.1)))

pub filled_law : FilledLaw
filled_law bs long fits =
    let d = (clean_law bs long fits).1 in
    let l = length_entries bs in (
      λ f. (let z = d.0 f.1 in let few = z.0 in let some = f.0.0 in (omega arith, few, z.1)),
      λ z. (let some = z.0 in let few = z.1 in ((omega arith, omega arith), d.1 (few, z.2))),
    )
