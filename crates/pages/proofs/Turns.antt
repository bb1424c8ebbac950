-- Lemmas on a store whose bytes are turned.
use Rattle.std.proofs.Common.{◌≡◌, ℕ, ◌-◌, List, map, set, Ok, Err, Result, ap, ◌∙◌, inl, inr, ⊎_elim}
use Rattle.std.proofs.lemmas.List.{map-set, length-map}
use Rattle.pages.specs.declared.fault.StoreFault.{StoreFault}
use Rattle.pages.specs.declared.fault.StoreFault.TheVariants.{Absent, Uncharged}
use Rattle.pages.specs.Image.{Image, Has, Lacks, Writes}
use Rattle.pages.specs.Turn.{turn, turned}

module _ (m m' : Image) (p : ℕ) where
  has : Has m p → Has (turned m) p
  has h = (h.0, rw (length-map m.pages (map turn)) h.1)

  lacks : Lacks m p → Lacks (turned m) p
  lacks h = ⊎_elim (λ e. inl e) (λ l. inr (rw (length-map m.pages (map turn)) l)) h

  abbrev pictured : ℕ → List (List ℕ) → Image
  pictured c ps = record { pages = ps; charge = c }

  pub writes : (bytes low : List ℕ) (r : Result (Unit {0}) StoreFault) → map turn low ≡ bytes → Writes m p low r m' → Writes (turned m) p bytes r (turned m')
  writes bytes low (Ok u) e h = (
    has h.0,
    h.1,
    ap turned h.2 ∙ ap (pictured (m.charge - 1)) (map-set (map turn) m.pages (p - 1) low ∙ ap (set (map (map turn) m.pages) (p - 1)) e),
  )
  writes bytes low (Err Absent) e h = (lacks h.0, ap turned h.1)
  writes bytes low (Err Uncharged) e h = (has h.0, h.1, ap turned h.2)
