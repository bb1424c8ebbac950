-- Lemmas on a layer that skips pages.
use Rattle.std.proofs.Common.{◌≡◌, ℕ, ◌-◌, ◌<◌, ◌≤◌, Bool, true, false, cond, leb, ◌≢◌, List, [], map, length, get_or, set, Ok, Err, Result, sym, refl, ap, ◌∙◌, subst, inl, inr, arith}
use Rattle.std.proofs.lemmas.Bool.{leb-true, cases_eq, cases_lt}
use Rattle.std.proofs.ByRecursion.{All-get_or}
use Rattle.std.proofs.lemmas.List.{length-map, length-set, get_or-map, get_or-set_same, get_or-set_other, ext_get_or}
use Rattle.pages.specs.declared.fault.StoreFault.{StoreFault}
use Rattle.pages.specs.declared.fault.StoreFault.TheVariants.{Absent, Uncharged}
use Rattle.pages.specs.declared.table.SkipTable.{SkipTable}
use Rattle.pages.specs.Image.{Image, Has, Lacks, Reads, Writes, at, written}
use Rattle.pages.specs.Sizes.{rises_by}
use Rattle.pages.specs.Table.{places_in, seen, counted, Finds}
use Rattle.pages.proofs.Goods.{rises_apart}

abbrev pictured : ℕ → List (List ℕ) → Image
pictured c ps = record { pages = ps; charge = c }

module _ (t : SkipTable) (m : Image) where
  by_test : (b : Bool) → length (cond b (map (at m) (places_in t)) []) ≡ cond b (length (places_in t)) 0
  by_test true = length-map (places_in t) (at m)
  by_test false = refl

  module _ (n : ℕ) (en : n ≡ length m.pages) where
    -- the number of the layer's pages
    pub count_is : counted t n ≡ length (seen t m).pages
    count_is = ap (counted t) en ∙ sym (by_test (leb t.reach (length m.pages)))

    module _ (p k : ℕ) (f : Finds t n p (Ok k)) where
      reached : (b : Bool) → p ≤ cond b (length (places_in t)) 0 → (b ≡ true) × (p ≤ length (places_in t))
      reached true h = (refl, h)
      reached false h = absurd (let z = f.0 in omega arith)

      reaches : leb t.reach (length m.pages) ≡ true
      reaches = (reached (leb t.reach (length m.pages)) (subst (λ (l : ℕ). p ≤ counted t l) en f.1)).0

      low : p - 1 < length (places_in t)
      low = let h = (reached (leb t.reach n) f.1).1 in let z = f.0 in omega arith

      place_is : get_or (places_in t) (p - 1) 0 ≡ k
      place_is = sym f.2

      positive : 0 < k
      positive = rw f.2 (rises_by 0 (places_in t) t.rising (p - 1) low)

      within : k ≤ t.reach
      within = rw f.2 (All-get_or (λ j. j ≤ t.reach) (places_in t) (p - 1) 0 low t.within)

      pages_are : (seen t m).pages ≡ map (at m) (places_in t)
      pages_are = ap (λ (b : Bool). cond b (map (at m) (places_in t)) []) reaches

      at_place : at (seen t m) p ≡ at m k
      at_place = ap (λ (ps : List (List ℕ)). get_or ps (p - 1) []) pages_are ∙ get_or-map (at m) (places_in t) (p - 1) 0 [] low ∙ ap (at m) place_is

      has : Has (seen t m) p
      has = (f.0, rw (← count_is) f.1)

      has_below : Has m k
      has_below = (positive, omega (arith, within, leb-true t.reach (length m.pages) reaches))

      not_lacking : Lacks m k → ⊥
      not_lacking o = let h = has_below in elim o [ inl z ↦ omega arith | inr g ↦ omega arith ]

      pub reads : (m' : Image) (old new : List ℕ) (r : Result (Unit {0}) StoreFault) → Reads m k old r m' new → Reads (seen t m) p old r (seen t m') new
      reads m' old new (Ok u) h = (has, h.1, h.2 ∙ sym at_place, ap (seen t) h.3)
      reads m' old new (Err Absent) h = absurd (not_lacking h.0)
      reads m' old new (Err Uncharged) h = (has, h.1, h.2, ap (seen t) h.3)

      -- the page at place k replaced is the layer's page p replaced
      module _ (bytes : List ℕ) where
        other : (i : ℕ) → i < length (places_in t) → i ≢ p - 1 → get_or (places_in t) i 0 - 1 ≢ k - 1
        other i h ne e =
            let zi = rises_by 0 (places_in t) t.rising i h in
            let zk = positive in
            let fk = f.2 in
            elim (cases_lt i (p - 1)) [
              | inl g ↦ (let r = rises_apart 0 (places_in t) t.rising i (p - 1) g low in omega arith)
              | inr g ↦ (let r = rises_apart 0 (places_in t) t.rising (p - 1) i (omega arith) h in omega arith)
            ]

        here : (i : ℕ) → i < length (places_in t) → at (written m k bytes) (get_or (places_in t) i 0) ≡ get_or (set (map (at m) (places_in t)) (p - 1) bytes) i []
        here i h =
            elim (cases_eq i (p - 1)) [
              | inl e ↦ (let l : p - 1 < length (map (at m) (places_in t)) = rw (length-map (places_in t) (at m)) low in
                  let lk : k - 1 < length m.pages = (let b = has_below in omega arith) in
                  rw (e, place_is, get_or-set_same (map (at m) (places_in t)) (p - 1) bytes [] l) (get_or-set_same m.pages (k - 1) bytes [] lk))
              | inr ne ↦ (get_or-set_other m.pages (k - 1) (get_or (places_in t) i 0 - 1) bytes [] (other i h ne)
                  ∙ sym (get_or-set_other (map (at m) (places_in t)) (p - 1) i bytes [] ne ∙ get_or-map (at m) (places_in t) i 0 [] h))
            ]

        replaced : map (at (written m k bytes)) (places_in t) ≡ set (map (at m) (places_in t)) (p - 1) bytes
        replaced = ext_get_or [] (map (at (written m k bytes)) (places_in t)) (set (map (at m) (places_in t)) (p - 1) bytes)
            (length-map (places_in t) (at (written m k bytes)) ∙ sym (length-set (map (at m) (places_in t)) (p - 1) bytes ∙ length-map (places_in t) (at m)))
            (λ i h. (let h' : i < length (places_in t) = rw (length-map (places_in t) (at (written m k bytes))) at h in
            get_or-map (at (written m k bytes)) (places_in t) i 0 [] h' ∙ here i h'))

        still : leb t.reach (length (written m k bytes).pages) ≡ true
        still = ap (leb t.reach) (length-set m.pages (k - 1) bytes) ∙ reaches

        seen_written : seen t (written m k bytes) ≡ written (seen t m) p bytes
        seen_written =
            ap (pictured (m.charge - 1))
            (ap (λ (b : Bool). cond b (map (at (written m k bytes)) (places_in t)) []) still ∙ replaced ∙ ap (λ (ps : List (List ℕ)). set ps (p - 1) bytes) (sym pages_are))

        pub writes : (m' : Image) (r : Result (Unit {0}) StoreFault) → Writes m k bytes r m' → Writes (seen t m) p bytes r (seen t m')
        writes m' (Ok u) h = (has, h.1, ap (seen t) h.2 ∙ seen_written)
        writes m' (Err Absent) h = absurd (not_lacking h.0)
        writes m' (Err Uncharged) h = (has, h.1, ap (seen t) h.2)
