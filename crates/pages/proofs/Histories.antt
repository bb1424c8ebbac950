-- Every page holds what was last written to it.
use Rattle.std.proofs.Common.{◌≡◌, ℕ, ◌-◌, ◌<◌, true, false, cond, eqb, ◌≢◌, List, [], ◌∷◌, length, get_or, Ok, Err, Result, ap, ◌∙◌, inl, inr, arith}
use Rattle.std.proofs.lemmas.List.{length-set, get_or-set_same, get_or-set_other}
use Rattle.std.proofs.lemmas.Bool.{cases_eq, eq-eqb, ne_eqb}
use Rattle.pages.specs.declared.fault.StoreFault.{StoreFault}
use Rattle.pages.specs.declared.fault.StoreFault.TheVariants.{Absent, Uncharged}
use Rattle.pages.specs.Image.{Image, Has, at, Reads, Writes, written}
use Rattle.pages.specs.History.{Event, reads, writes, grants, Leads, last, Remembers, ReadsBack}

module _ (m : Image) (h : List Event) (mid : Image) (i : Remembers m h mid) where
  -- a call that leaves the pages
  stays : (m' : Image) → m'.pages ≡ mid.pages → Remembers m h m'
  stays m' e = record {
    size = ap length e ∙ i.size;
    page = λ p k. ap (λ (ps : List (List ℕ)). get_or ps (p - 1) []) e ∙ i.page p k;
  }

  read_pages : (p : ℕ) (old new : List ℕ) (r : Result (Unit {0}) StoreFault) (m' : Image) → Reads mid p old r m' new → m'.pages ≡ mid.pages
  read_pages p old new (Ok u) m' g = ap (λ (x : Image). x.pages) g.3
  read_pages p old new (Err Absent) m' g = ap (λ (x : Image). x.pages) g.2
  read_pages p old new (Err Uncharged) m' g = ap (λ (x : Image). x.pages) g.3

  pub after_read : (p : ℕ) (old new : List ℕ) (r : Result (Unit {0}) StoreFault) (m' : Image) → Reads mid p old r m' new → Remembers m h m'
  after_read p old new r m' g = stays m' (read_pages p old new r m' g)

  wrote : (q : ℕ) (bytes : List ℕ) (p : ℕ) → Has mid q → Has m p → at (written mid q bytes) p ≡ cond (eqb q p) bytes (last h p (at m p))
  wrote q bytes p hq hp =
      elim (cases_eq q p) [
        | inl e ↦ (let t : eqb q p ≡ true = eq-eqb q p e in let l : q - 1 < length mid.pages = omega arith in
            rw (t, ← e) (get_or-set_same mid.pages (q - 1) bytes [] l))
        | inr n ↦ (let t : eqb q p ≡ false = ne_eqb q p n in let o : p - 1 ≢ q - 1 = λ e. n (omega arith) in
            rw t (get_or-set_other mid.pages (q - 1) (p - 1) bytes [] o ∙ i.page p hp))
      ]

  after_write : (q : ℕ) (bytes : List ℕ) (r : Result (Unit {0}) StoreFault) (m' : Image) → Writes mid q bytes r m' → Remembers m (writes q bytes r ∷ h) m'
  after_write q bytes (Ok u) m' g = record {
    size = ap (λ (x : Image). length x.pages) g.2 ∙ length-set mid.pages (q - 1) bytes ∙ i.size;
    page = λ p k. ap (λ (x : Image). at x p) g.2 ∙ wrote q bytes p g.0 k;
  }
  after_write q bytes (Err Absent) m' g = record { size = (stays m' (ap (λ (x : Image). x.pages) g.1)).size; page = (stays m' (ap (λ (x : Image). x.pages) g.1)).page }
  after_write q bytes (Err Uncharged) m' g = record { size = (stays m' (ap (λ (x : Image). x.pages) g.2)).size; page = (stays m' (ap (λ (x : Image). x.pages) g.2)).page }

pub remembers : (m : Image) (h : List Event) (m' : Image) → Leads m h m' → Remembers m h m'
remembers m [] m' e = record { size = ap (λ (x : Image). length x.pages) e; page = λ p k. ap (λ (x : Image). at x p) e }
remembers m (reads p old new r ∷ h) m' l =
    let t = after_read m h l.0 (remembers m h l.0 l.1) p old new r m' l.2 in record { size = t.size; page = t.page }
remembers m (writes p bytes r ∷ h) m' l = after_write m h l.0 (remembers m h l.0 l.1) p bytes r m' l.2
remembers m (grants c ∷ h) m' l =
    let t = stays m h l.0 (remembers m h l.0 l.1) m' (ap (λ (x : Image). x.pages) l.2) in record { size = t.size; page = t.page }

-- the law of a read
pub reads_back : (m m' : Image) (p : ℕ) (old new : List ℕ) (r : Result (Unit {0}) StoreFault) → Reads m p old r m' new → ReadsBack m p r m' new
reads_back m m' p old new (Ok u) g = λ start h l.
    (let i = remembers start h m l in
    (g.2 ∙ i.page p (g.0.0, rw (← i.size) g.0.1), after_read start h m i p old new (Ok u) m' g))
reads_back m m' p old new (Err Absent) g = λ start h l. after_read start h m (remembers start h m l) p old new (Err Absent) m' g
reads_back m m' p old new (Err Uncharged) g = λ start h l. after_read start h m (remembers start h m l) p old new (Err Uncharged) m' g
