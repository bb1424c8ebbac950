-- Rule C by the page that the entries give again.
use Rattle.std.proofs.Common.{◌≡◌, ℕ, ◌≤◌, Bool, List, length, Decides, sym, ap, ◌∙◌, arith}
use Rattle.layout.specs.declared.entry.Entry.{Entry}
use Rattle.layout.specs.Content.{Filled}
use Rattle.layout.specs.Bytes.{level_of, number_of, entries_of, content_of, page_bytes}
use Rattle.layout.proofs.Entries.{length_entries}
use Rattle.layout.proofs.Trips.{clean_decides}

-- rule C: the page again, from what was read of it
pub filled_decides : (bs again : List ℕ) (l n : ℕ) (es : List Entry) (r : Bool) → l ≡ level_of bs → n ≡ number_of bs → es ≡ entries_of bs → (length es ≡ 0 → ⊥)
    → again ≡ page_bytes l n es → Decides r (again ≡ bs) → Decides r (Filled (content_of bs))
filled_decides bs again l n es r p q e some a d =
    let w : again ≡ page_bytes (level_of bs) (number_of bs) (entries_of bs) = a ∙ (λ i. page_bytes (p i) (q i) (e i)) in
    let k = length_entries bs in
    let s : 1 ≤ length (entries_of bs) = omega (arith, ap length e) in
    let t : length (entries_of bs) ≤ 10 = omega arith in (
      λ h. ((s, t), (clean_decides bs).1 (sym (d.0 h) ∙ w)),
      λ f. d.1 (w ∙ sym ((clean_decides bs).0 f.1)),
    )
