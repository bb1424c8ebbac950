-- Each exit of the accesses to one page.
use Rattle.std.proofs.Common.{◌≡◌, ℕ, ◌≤◌, true, false, cond, List, [], ◌∷◌, length, Ok, Err, Result, sym, refl, ap, ◌∙◌, subst, arith}
use Rattle.pages.specs.declared.fault.StoreFault.{StoreFault}
use Rattle.pages.specs.declared.fault.StoreFault.TheVariants.{Absent, Uncharged}
use Rattle.pages.specs.Image.{Image, Reads, Writes, written}
use Rattle.layout.specs.declared.entry.Entry.{Entry}
use Rattle.layout.specs.declared.writer.TooMany.{TooMany}
use Rattle.layout.specs.Content.{Own}
use Rattle.layout.specs.Writing as layout
use Rattle.layout.specs.Bytes.{content_of, entries_of}
use Rattle.layout.proofs.Entries.{length_entries}
use Rattle.layout.specs.declared.visit.Rule.TheVariants.{B, C}
use Rattle.faults.specs.declared.fault.Fault.{Fault}
use Rattle.faults.specs.declared.fault.Fault.TheVariants.{Unsound}
use Rattle.faults.specs.Accesses.{access, Fetches, Stores}
use Rattle.paths.specs.PathsWrites.{Refuses, Unwrites}
use Rattle.paths.specs.PathsPages.{Read, UnreadPage, write_of, WritesPage}
use Rattle.paths.specs.PathsPages.UnreadPage.{refused, broken}

read_refused : (m m' : Image) (p : ℕ) (old new : List ℕ) (f : StoreFault) → Reads m p old (Err f) m' new → Refuses m p f × (m' ≡ m)
read_refused m m' p old new Absent r = (r.0, r.2)
read_refused m m' p old new Uncharged r = ((r.0, r.1), r.3)

pub page_refused : (m m' : Image) (p l : ℕ) (old new : List ℕ) (f : Fault) → Fetches m p l old (Err f) m' new → UnreadPage m p l f m'
page_refused m m' p l old new f t =
    let x = read_refused m m' p old new t.0 t.2 in
    refused (access p l t.0) t.1 refl refl x.0 x.1

pub differ : {A : Type 0} → false ≡ true → A
differ e = let z : ◌≡◌ {A = ℕ} 1 0 = ap (λ b. cond b 0 1) e in absurd (omega arith)

pub page_misplaced : (m m' : Image) (p l : ℕ) (b : List ℕ) → Reads m p [] (Ok tt) m' b → (Own p l (content_of b) → false ≡ true) → UnreadPage m p l (Unsound p B) m'
page_misplaced m m' p l b r n = broken B refl r.1 (λ o. differ (n (subst (λ (z : List ℕ). Own p l (content_of z)) (sym r.2) o))) r.3

none_left : (es : List Entry) (n : ℕ) → n ≡ length es → n ≡ 0 → es ≡ []
none_left [] n e z = refl
none_left (x ∷ es) n e z = absurd (omega arith)

pub page_empty : (m m' : Image) (p l n : ℕ) (b : List ℕ) (es : List Entry) → Reads m p [] (Ok tt) m' b → Own p l (content_of b) → es ≡ entries_of b → n ≡ length es → n ≡ 0 → UnreadPage m p l (Unsound p C) m'
page_empty m m' p l n b es r o e q z =
    broken C refl r.1 (subst (λ (x : List ℕ). Own p l (content_of x)) r.2 o, ap entries_of (sym r.2) ∙ sym e ∙ none_left es n q z) r.3

pub page_read : (m m' : Image) (p l n : ℕ) (b : List ℕ) (es : List Entry) → Reads m p [] (Ok tt) m' b → Own p l (content_of b) → es ≡ entries_of b → n ≡ length es → (n ≡ 0 → ⊥) → Read m p l es m'
page_read m m' p l n b es r o e q some = record {
  has = r.0;
  charged = r.1;
  own = subst (λ (x : List ℕ). Own p l (content_of x)) r.2 o;
  holds = e ∙ ap entries_of r.2;
  some = omega (arith, some);
  few = omega (arith, ap length e, length_entries b);
  spends = r.3;
}

write_refused : (m m' : Image) (p : ℕ) (b : List ℕ) (f : StoreFault) → Writes m p b (Err f) m' → (m' ≡ m) × Refuses m' p f
write_refused m m' p b Absent w = (w.1, subst (λ (x : Image). Refuses x p Absent) (sym w.1) w.0)
write_refused m m' p b Uncharged w = (w.2, subst (λ (x : Image). Refuses x p Uncharged) (sym w.2) (w.0, w.1))

write_broken : (m m' : Image) (p l : ℕ) (b : List ℕ) (es : List Entry) (f : Fault) → Stores m p l b (Err f) m' → Unwrites (write_of l p es ∷ []) m f m'
write_broken m m' p l b es f t =
    let x = write_refused m m' p b t.0 t.2 in
    record {
      access = access p l t.0;
      told = t.1;
      cut = record {
        done = [];
        next = write_of l p es;
        rest = [];
        writes = refl;
        page = refl;
        level = refl;
        began = record { accepts = tt; image = x.0 };
        refused = x.1;
      };
    }

-- done or refused
pub page_written : (m m' : Image) (p l : ℕ) (before b : List ℕ) (es : List Entry) (w : Result (Unit {0}) TooMany) (r : Result (Unit {0}) Fault) → length es ≤ 10 → layout.Writes l p es before w b
    → Stores m p l b r m' → WritesPage m l p es r m'
page_written m m' p l before b es (Err e) r n t s = absurd (omega (arith, n, t.0))
page_written m m' p l before b es (Ok v) (Ok u) n t s =
    record { accepts = (s.0, s.1, ap content_of (sym t.1.0) ∙ t.1.1, tt); image = s.2 ∙ ap (written m p) t.1.0 }
page_written m m' p l before b es (Ok v) (Err f) n t s = write_broken m m' p l b es f s
