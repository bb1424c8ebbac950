-- Points tallied one after the other.
use Rattle.std.proofs.Common.{map, min, Some, ◌∙◌, ◌≡◌, ℕ, zero, suc, ◌+◌, ◌<◌, ◌≤◌, List, [], ◌∷◌, ◌++◌, length, take, refl, ap, arith}
use Rattle.std.specs.Prelude.{slice_index_or, slice_set, option_map}
use Rattle.std.specs.List.{slice_get}
use Rattle.std.proofs.lemmas.List.{length-map, length-take, get_or-take}
use Rattle.std.proofs.lemmas.Option.{slice_get-map, slice_get-get_or}
use Rattle.index.specs.Model.Call.{tallies}
use Rattle.index.specs.Model.Answer.{counted}
use Rattle.index.specs.Histories.{Event, event}
use Rattle.exports.specs.Batches.{tallied}

tallied_suc : (xs : List (List ℕ)) (ns : List ℕ) (i n : ℕ) → i < length xs → i < length ns
    → tallied (take (suc i) xs) (slice_set ns i n) ≡ tallied (take i xs) ns ++ event (tallies (slice_index_or xs i [])) (counted n) ∷ []
tallied_suc [] ns i n lx ln = absurd (omega arith)
tallied_suc (x ∷ xs) [] i n lx ln = absurd (omega arith)
tallied_suc (x ∷ xs) (k ∷ ns) zero n lx ln = refl
tallied_suc (x ∷ xs) (k ∷ ns) (suc i) n lx ln = ap (λ (es : List Event). event (tallies x) (counted k) ∷ es) (tallied_suc xs ns i n (omega arith) (omega arith))

pub tallied_more : (xs : List (List ℕ)) (ns : List ℕ) (i n : ℕ) → i < length xs → i < length ns
    → tallied (take (i + 1) xs) (slice_set ns i n) ≡ tallied (take i xs) ns ++ event (tallies (slice_index_or xs i [])) (counted n) ∷ []
tallied_more xs ns i n lx ln =
    let e : i + 1 ≡ suc i = omega arith in
    rw e (tallied_suc xs ns i n lx ln)

pub tallied_length : (xs : List (List ℕ)) (ns : List ℕ) (i : ℕ) → i ≤ length xs → i ≤ length ns → length (tallied (take i xs) ns) ≡ i
tallied_length xs ns zero lx ln = refl
tallied_length [] ns (suc i) lx ln = absurd (omega arith)
tallied_length (x ∷ xs) [] (suc i) lx ln = absurd (omega arith)
tallied_length (x ∷ xs) (k ∷ ns) (suc i) lx ln = ap suc (tallied_length xs ns i (omega arith) (omega arith))

pub next_tally : (xs : List (List ℕ)) (ns : List ℕ) (k i : ℕ) → i < length xs → i < length ns → i < k
    → slice_get (map tallies (take k xs)) (length (tallied (take i xs) ns)) ≡ Some (tallies (slice_index_or xs i []))
next_tally xs ns k i lx ln lk =
    rw (tallied_length xs ns i (omega arith) (omega arith), slice_get-map tallies (take k xs) i)
    (ap (option_map tallies) (slice_get-get_or (take k xs) i [] (omega (arith, length-take k xs)) ∙ ap Some (get_or-take k xs i [] lk)))

pub all_tallied : (xs : List (List ℕ)) (ns : List ℕ) (k i : ℕ) → k ≡ length ns → i ≡ min (length xs) k → length (tallied (take i xs) ns) ≡ length (map tallies (take k xs))
all_tallied xs ns k i e q = omega (arith, tallied_length xs ns i (omega arith) (omega arith), length-map (take k xs) tallies, length-take k xs)
