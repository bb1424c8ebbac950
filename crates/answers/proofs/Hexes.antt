-- Digits of parts, one after another.
use Rattle.std.proofs.Common.{◌≡◌, ℕ, List, [], ◌∷◌, ◌++◌, refl, append_assoc}
use Rattle.hex.specs.Hex.{encode_with, encode_lower, lower_digits}

encode_with-append : (t xs ys : List ℕ) → encode_with t (xs ++ ys) ≡ encode_with t xs ++ encode_with t ys
unfolding encode_with
encode_with-append t [] ys = refl
encode_with-append t (x ∷ xs) ys = rw (encode_with-append t xs ys) refl

pub encode_with-nil : (t : List ℕ) → encode_with t [] ≡ []
unfolding encode_with
encode_with-nil t = refl

-- one part more
pub part_more : (done digits part rest all whole : List ℕ) → all ≡ part ++ rest → digits ≡ encode_lower part → done ++ encode_lower all ≡ whole
    → (done ++ digits) ++ encode_lower rest ≡ whole
part_more done digits part rest all whole parts now before =
    rw (append_assoc, now, ← encode_with-append lower_digits part rest, ← parts) before
