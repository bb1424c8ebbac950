-- Lemmas on the pages that lie in a row of bytes.
use Rattle.std.proofs.Common.{◌≡◌, ℕ, zero, suc, ◌+◌, ◌-◌, ◌*◌, ◌<◌, ◌≤◌, List, ◌∷◌, ◌++◌, length, take, drop, set, Ok, Err, sym, refl, ap, ◌∙◌, inl, inr, arith}
use borrow.Rule.Slice.PartMut.{put_mid}
use Rattle.std.proofs.lemmas.List.{drop-drop, take_at, drop_at, drop-take, drop-append-le, take-append-le, take-take, length-take-le, length-drop, length-append}
use Rattle.pages.specs.declared.fault.StoreFault.{StoreFault}
use Rattle.pages.specs.declared.fault.StoreFault.TheVariants.{Absent, Uncharged}
use Rattle.pages.specs.Image.{Image, Accesses, Reads, Writes}
use Rattle.pages.specs.Cut.{cut, number, held, overwritten}
use Rattle.pages.specs.Sizes.{cut_length, cut_at, number_within}

abbrev put : ℕ → List ℕ → List ℕ → List ℕ
put a xs ys = take a xs ++ (ys ++ drop 128 (drop a xs))

drop_put : (a b : ℕ) (xs ys : List ℕ) → b ≡ 128 + a → b ≤ length xs → drop 128 (put b xs ys) ≡ put a (drop 128 xs) ys
drop_put a b xs ys e h =
    let l : 128 ≤ length (take b xs) = rw (length-take-le b xs h) (omega arith) in
    drop-append-le 128 (take b xs) (ys ++ drop 128 (drop b xs)) l
    ∙ ap (λ (z : List ℕ). z ++ (ys ++ drop 128 (drop b xs))) (ap (λ (k : ℕ). drop 128 (take k xs)) e ∙ drop-take 128 a xs)
    ∙ ap (λ (z : List ℕ). take a (drop 128 xs) ++ (ys ++ drop 128 z)) (ap (λ (k : ℕ). drop k xs) e ∙ sym (drop-drop a 128 xs))

-- a page put into a row is a page replaced among those of the row
cut_put : (n i : ℕ) (xs ys : List ℕ) → i < n → n * 128 ≤ length xs → length ys ≡ 128 → cut n (put (i * 128) xs ys) ≡ set (cut n xs) i ys
unfolding cut
cut_put zero i xs ys h l e = absurd (omega arith)
cut_put (suc n) zero xs ys h l e =
    let p : take 128 (ys ++ drop 128 xs) ≡ ys = take_at ys (drop 128 xs) 128 e in
    let q : drop 128 (ys ++ drop 128 xs) ≡ drop 128 xs = drop_at ys (drop 128 xs) 128 e in
    ap (λ (z : List ℕ). z ∷ cut n (drop 128 (ys ++ drop 128 xs))) p ∙ ap (λ (z : List ℕ). ys ∷ cut n z) q
cut_put (suc n) (suc i) xs ys h l e =
    let eb : suc i * 128 ≡ 128 + i * 128 = omega arith in
    let p : i < n = omega arith in
    let lb : suc i * 128 ≤ length xs = omega arith in
    let ld : n * 128 ≤ length (drop 128 xs) = rw (length-drop 128 xs) (omega arith) in
    let lt : 128 ≤ length (take (suc i * 128) xs) = rw (length-take-le (suc i * 128) xs lb) (omega arith) in
    let le : 128 ≤ suc i * 128 = omega arith in
    let front : take 128 (put (suc i * 128) xs ys) ≡ take 128 xs =
    take-append-le 128 (take (suc i * 128) xs) (ys ++ drop 128 (drop (suc i * 128) xs)) lt ∙ take-take 128 (suc i * 128) xs le in
    let back : cut n (drop 128 (put (suc i * 128) xs ys)) ≡ set (cut n (drop 128 xs)) i ys =
    ap (cut n) (drop_put (i * 128) (suc i * 128) xs ys eb lb) ∙ cut_put n i (drop 128 xs) ys p ld e in
    ap (λ (z : List ℕ). z ∷ cut n (drop 128 (put (suc i * 128) xs ys))) front ∙ ap (λ (z : List (List ℕ)). take 128 xs ∷ z) back

put_length : (a : ℕ) (xs ys : List ℕ) → a + 128 ≤ length xs → length ys ≡ 128 → length (put a xs ys) ≡ length xs
put_length a xs ys h e =
    let p : length (take a xs) ≡ a = length-take-le a xs (omega arith) in
    simp (length-append, length-drop) (omega arith)

abbrev pictured : ℕ → List (List ℕ) → Image
pictured charge ps = record { pages = ps; charge = charge }

-- what a store over a row of bytes means once a page of it was replaced
held_put : (i charge : ℕ) (xs ys : List ℕ) → i < number (length xs) → length ys ≡ 128
    → held (put (i * 128) xs ys) charge ≡ record { pages = set (cut (number (length xs)) xs) i ys; charge = charge }
held_put i charge xs ys h e =
    let w : number (length xs) * 128 ≤ length xs = number_within (length xs) in
    let l : length (put (i * 128) xs ys) ≡ length xs = put_length (i * 128) xs ys (omega arith) e in
    ap (λ (k : ℕ). pictured charge (cut (number k) (put (i * 128) xs ys))) l ∙ ap (pictured charge) (cut_put (number (length xs)) i xs ys h w e)

module _ (bytes : List ℕ) (c p n : ℕ) (en : n ≡ number (length bytes)) where
  length_is : length (cut (number (length bytes)) bytes) ≡ n
  length_is = cut_length (number (length bytes)) bytes ∙ sym en

  -- a read, by the answer to the two questions
  pub reads_yes : (c' : ℕ) (old new : List ℕ) → Accesses c p n (Ok tt) c' → new ≡ take 128 (drop ((p - 1) * 128) bytes)
      → Reads (held bytes c) p old (Ok tt) (held bytes c') new
  reads_yes c' old new a e =
      let l : p - 1 < number (length bytes) = omega arith in
      ((a.0, rw length_is a.1), a.2, e ∙ sym (cut_at (number (length bytes)) (p - 1) bytes l), ap (held bytes) a.3)

  pub reads_no : (c' : ℕ) (old : List ℕ) (f : StoreFault) → Accesses c p n (Err f) c' → Reads (held bytes c) p old (Err f) (held bytes c') old
  reads_no c' old Absent a = (elim a.0 [ inl z ↦ inl z | inr g ↦ inr (rw length_is g) ], refl, ap (held bytes) a.1)
  reads_no c' old Uncharged a = ((a.0, rw length_is a.1), a.2, refl, ap (held bytes) a.3)

  -- a write, likewise
  pub writes_yes : (c' : ℕ) (page bytes' : List ℕ) → Accesses c p n (Ok tt) c' → length page ≡ 128 → bytes' ≡ overwritten bytes p page
      → Writes (held bytes c) p page (Ok tt) (held bytes' c')
  writes_yes c' page bytes' a e b =
      let l : p - 1 < number (length bytes) = omega arith in (
        (a.0, rw length_is a.1),
        a.2,
        ap (λ (xs : List ℕ). held xs c') b ∙ held_put (p - 1) c' bytes page l e
            ∙ ap (λ (k : ℕ). pictured k (set (cut (number (length bytes)) bytes) (p - 1) page)) a.3,
      )

  pub writes_no : (c' : ℕ) (page : List ℕ) (f : StoreFault) → Accesses c p n (Err f) c' → Writes (held bytes c) p page (Err f) (held bytes c')
  writes_no c' page Absent a = (elim a.0 [ inl z ↦ inl z | inr g ↦ inr (rw length_is g) ], ap (held bytes) a.1)
  writes_no c' page Uncharged a = ((a.0, rw length_is a.1), a.2, ap (held bytes) a.3)

-- a part of 128 bytes that a slice was written at
pub overwritten_is : (bytes ys page : List ℕ) (p k : ℕ) → k ≡ 128 → ys ≡ page → put_mid ((p - 1) * 128) k bytes ys ≡ overwritten bytes p page
overwritten_is bytes ys page p k e f = rw (e, f)
