-- The proofs that the ghost member `sized` of the stores hands over: at most 65,535 pages of 128 bytes each, and a charge of 32 bits.
use Rattle.std.specs.Prelude.{◌≡◌, ℕ, zero, suc, ◌+◌, ◌-◌, ◌*◌, ◌/◌, ◌^◌, ◌<◌, ◌≤◌, Bool, true, false, cond, List, [], ◌∷◌, map, length, take, drop, nat_le, slice_index, slice_index_or, refl}
use Rattle.std.proofs.Common.{ap, sym, ◌∙◌, div-mul-le_self, arith}
use Rattle.std.proofs.Math.ListN.{get_or-map as get_or-map_at}
use Rattle.std.proofs.lemmas.List.{drop-drop, length-take-le, length-drop, length-map, get_or-map}
use Rattle.std.proofs.lemmas.Bool.{leb-true}
use Rattle.std.proofs.ByRecursion.{All-get_or}
use Rattle.pages.specs.Image.{Image, Sized, at}
use Rattle.pages.specs.Cut.{cut, number, held}
use Rattle.pages.specs.Turn.{turn, turned}
use Rattle.pages.specs.Skip.{Rises}
use Rattle.pages.specs.Table.{places_in, seen}
use Rattle.pages.specs.declared.table.SkipTable.{SkipTable}

pub cut_length : (n : ℕ) (xs : List ℕ) → length (cut n xs) ≡ n
unfolding cut
cut_length zero xs = refl
cut_length (suc n) xs = ap suc (cut_length n (drop 128 xs))

-- the page i, from 0
pub cut_at : (n i : ℕ) (xs : List ℕ) → i < n → slice_index_or (cut n xs) i [] ≡ take 128 (drop (i * 128) xs)
unfolding cut
cut_at zero i xs h = absurd (omega arith)
cut_at (suc n) zero xs h = refl
cut_at (suc n) (suc i) xs h =
    let e : suc i * 128 ≡ 128 + i * 128 = omega arith in
    let p : i < n = omega arith in
    cut_at n i (drop 128 xs) p ∙ ap (take 128) (drop-drop (i * 128) 128 xs) ∙ ap (λ (k : ℕ). take 128 (drop k xs)) (sym e)

-- the whole pages of a row lie within it
pub number_within : (len : ℕ) → number len * 128 ≤ len
number_within len = let d : len / 128 * 128 ≤ len = div-mul-le_self len 128 in omega arith

pub page_within : (p len : ℕ) → 0 < p → p ≤ number len → (p - 1) * 128 + 128 ≤ len
page_within p len z h = let w = number_within len in omega arith

-- a store over a row of bytes is sized
pub held_sized : (bytes : List ℕ) (charge : ℕ) → charge < 2 ^ 32 → Sized (held bytes charge)
held_sized bytes charge c = record {
  few = rw (cut_length (number (length bytes)) bytes) (omega arith);
  long = λ p h.
      let q : p ≤ number (length bytes) = rw (cut_length (number (length bytes)) bytes) at h.1 in
      let z : 0 < p = h.0 in
      let w = page_within p (length bytes) z q in
      let l : p - 1 < number (length bytes) = omega arith in
      let d : 128 ≤ length (drop ((p - 1) * 128) bytes) = rw (length-drop ((p - 1) * 128) bytes) (omega arith) in
      ap length (cut_at (number (length bytes)) (p - 1) bytes l) ∙ length-take-le 128 (drop ((p - 1) * 128) bytes) d;
  carried = c;
}

-- a turned store is sized as the store below is
pub turned_sized : (m : Image) → Sized m → Sized (turned m)
turned_sized m s = record {
  few = rw (length-map m.pages (map turn)) s.few;
  long = λ p h.
      ap length (get_or-map_at (map turn) m.pages (p - 1) []) ∙ length-map (at m p) turn
      ∙ s.long p (h.0, rw (length-map m.pages (map turn)) at h.1);
  carried = s.carried;
}

-- each of the numbers that rise from low on lies above it
pub rises_by : (low : ℕ) (ks : List ℕ) → Rises low ks → (i : ℕ) → i < length ks → low < slice_index ks i
rises_by low [] r i h = absurd (omega arith)
rises_by low (k ∷ ks) r zero h = r.0
rises_by low (k ∷ ks) r (suc i) h = let g = rises_by k ks r.1 i (omega arith) in omega arith

-- a layer that skips pages is sized where its table fits the store below, and has no page elsewhere
seen_pages : (t : SkipTable) (m : Image) (b : Bool) → Sized m → nat_le t.reach (length m.pages) ≡ b
    → Sized (record { pages = cond b (map (at m) (places_in t)) []; charge = m.charge })
seen_pages t m false s e = record { few = omega arith; long = λ p h. absurd (omega arith); carried = s.carried }
seen_pages t m true s e =
    let n : length (map (at m) (places_in t)) ≡ length (places_in t) = length-map (places_in t) (at m) in
    record {
      few = rw n (omega (arith, t.few));
      long = λ p h.
          let i : p - 1 < length (places_in t) = omega (arith, n, h) in
          let z = rises_by 0 (places_in t) t.rising (p - 1) i in
          let w : slice_index (places_in t) (p - 1) ≤ t.reach = All-get_or (λ k. k ≤ t.reach) (places_in t) (p - 1) 0 i t.within in
          let r = leb-true t.reach (length m.pages) e in
          ap length (get_or-map (at m) (places_in t) (p - 1) 0 [] i) ∙ s.long (slice_index (places_in t) (p - 1)) (z, omega arith);
      carried = s.carried;
    }

pub seen_sized : (t : SkipTable) (m : Image) → Sized m → Sized (seen t m)
seen_sized t m s = seen_pages t m (nat_le t.reach (length m.pages)) s refl
