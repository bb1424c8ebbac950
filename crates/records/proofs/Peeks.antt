-- Following a chain from its front.
use Rattle.std.proofs.Common.{◌≡◌, ℕ, zero, suc, ◌+◌, ◌<◌, ◌≤◌, List, [], ◌∷◌, length, get_or, drop, Some, sym, ap, add-one, arith}
use Rattle.std.specs.List.{slice_get}
use Rattle.records.specs.Chain.{Linked, Within}

-- the numbers from the place j on begin at k, which is one of them
pub record From (next xs : List ℕ) (j k : ℕ) : Type 0 where
  pub linked : Linked next k (drop j xs)
  pub here : j < length xs → (slice_get xs j ≡ Some k) × (1 ≤ k) × (k ≤ 1025)

begins : (next xs : List ℕ) (j k : ℕ) → Within xs → Linked next k (drop j xs) → j < length xs → (slice_get xs j ≡ Some k) × (1 ≤ k) × (k ≤ 1025)
begins next [] j k w l lt = absurd (omega arith)
begins next (x ∷ xs) zero k w l lt = (ap (λ (y : ℕ). Some y) (sym l.0), omega (arith, l.0, w.0.0), omega (arith, l.0, w.0.1))
begins next (x ∷ xs) (suc j) k w l lt = begins next xs j k w.1 l (omega arith)

goes_on : (next xs : List ℕ) (j k : ℕ) → Linked next k (drop j xs) → j < length xs → Linked next (get_or next k 0) (drop (suc j) xs)
goes_on next [] j k l lt = absurd (omega arith)
goes_on next (x ∷ xs) zero k l lt = rw l.0 l.1
goes_on next (x ∷ xs) (suc j) k l lt = goes_on next xs j k l (omega arith)

pub from_front : (next xs : List ℕ) (k : ℕ) → Within xs → Linked next k xs → From next xs 0 k
from_front next xs k w l = record { linked = l; here = begins next xs 0 k w l }

pub from_next : (next xs : List ℕ) (j k : ℕ) → Within xs → From next xs j k → j < length xs → From next xs (j + 1) (get_or next k 0)
from_next next xs j k w f lt = rw (add-one j) (record { linked = goes_on next xs j k f.linked lt; here = begins next xs (suc j) (get_or next k 0) w (goes_on next xs j k f.linked lt) })
