-- Reads and writes of a slot store, by the answer to the two questions.
use Rattle.std.proofs.Common.{◌≡◌, ℕ, ◌+◌, ◌-◌, List, map, length, take, set, Ok, Err, refl, ap, ◌∙◌, inl, inr}
use Rattle.std.specs.List.{range_with_len}
use Rattle.std.proofs.lemmas.List.FromFn.{length-map-range_with_len}
use Rattle.pages.specs.declared.fault.StoreFault.{StoreFault}
use Rattle.pages.specs.declared.fault.StoreFault.TheVariants.{Absent, Uncharged}
use Rattle.pages.specs.Image.{Image, at, Accesses, Reads, Writes}
use Rattle.slots.specs.Slot.{page_in, held}

abbrev pictured : ℕ → List (List ℕ) → Image
pictured c ps = record { pages = ps; charge = c }

module _ (slots : List (List ℕ)) (n c p : ℕ) where
  pub size_is : length (map (page_in (take (n + 1) slots)) (range_with_len 1 n)) ≡ n
  size_is = length-map-range_with_len (page_in (take (n + 1) slots)) 1 n

  pub reads_yes : (c' : ℕ) (old new : List ℕ) → Accesses c p n (Ok tt) c' → new ≡ at (held slots n c) p → Reads (held slots n c) p old (Ok tt) (held slots n c') new
  reads_yes c' old new a e = ((a.0, rw size_is a.1), a.2, e, ap (held slots n) a.3)

  pub reads_no : (c' : ℕ) (old : List ℕ) (f : StoreFault) → Accesses c p n (Err f) c' → Reads (held slots n c) p old (Err f) (held slots n c') old
  reads_no c' old Absent a = (elim a.0 [ inl z ↦ inl z | inr g ↦ inr (rw size_is g) ], refl, ap (held slots n) a.1)
  reads_no c' old Uncharged a = ((a.0, rw size_is a.1), a.2, refl, ap (held slots n) a.3)

  pub writes_yes : (c' c'' n' : ℕ) (bytes : List ℕ) (slots' : List (List ℕ)) → Accesses c p n (Ok tt) c' → c'' ≡ c'
      → (held slots' n' c'').pages ≡ set (held slots n c).pages (p - 1) bytes → Writes (held slots n c) p bytes (Ok tt) (held slots' n' c'')
  writes_yes c' c'' n' bytes slots' a e w =
      ((a.0, rw size_is a.1), a.2, ap (pictured c'') w ∙ ap (λ (k : ℕ). pictured k (set (held slots n c).pages (p - 1) bytes)) (e ∙ a.3))

  pub writes_no : (c' : ℕ) (bytes : List ℕ) (f : StoreFault) → Accesses c p n (Err f) c' → Writes (held slots n c) p bytes (Err f) (held slots n c')
  writes_no c' bytes Absent a = (elim a.0 [ inl z ↦ inl z | inr g ↦ inr (rw size_is g) ], ap (held slots n) a.1)
  writes_no c' bytes Uncharged a = ((a.0, rw size_is a.1), a.2, ap (held slots n) a.3)
