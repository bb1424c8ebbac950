-- For callers of a scan: its last page, and the pages that are left unmarked.
use Rattle.std.proofs.Common.{◌≡◌, ℕ, Bool, true, false, cond, not, List, [], ◌∷◌, get_or, filter, refl, ap, ◌∙◌, arith}
use Rattle.tree.specs.Tree.{limit_of}
use Rattle.tree.specs.Scan.{absent}
use Rattle.walks.specs.Scans.{last_page, Marked}

-- with the limit of a store of n pages, that is the last page
pub own_limit : (limit n : ℕ) → limit ≡ limit_of n → last_page limit n ≡ limit
own_limit limit n e = omega arith

twice : (b : Bool) → not (not b) ≡ b
twice true = refl
twice false = refl

-- of any numbers, those that are not marked are those not seen
pub unmarked_is : (marks : List Bool) (seen : List ℕ) → Marked marks seen → (ks : List ℕ) → filter (λ k. not (get_or marks k false)) ks ≡ filter (λ k. absent k seen) ks
unmarked_is marks seen h [] = refl
unmarked_is marks seen h (k ∷ ks) =
    let e : not (get_or marks k false) ≡ absent k seen = ap not (h k) ∙ twice (absent k seen) in
    λ i. cond (e i) (k ∷ unmarked_is marks seen h ks i) (unmarked_is marks seen h ks i)
