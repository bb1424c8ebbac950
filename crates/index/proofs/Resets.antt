-- Format, shut and grant are steps.
use Rattle.std.proofs.Common.{◌≡◌, ℕ, zero, suc, ◌+◌, ◌≤◌, min, Bool, false, List, [], ◌∷◌, length, get_or, set, replicate, Ok, Err, sym, refl, ap, ◌∙◌, subst, inl, inr, zero-add, add-one, arith, length-set, get_or-set_same}
use Rattle.std.proofs.Common.{Some, None, Option, is_some}
use Rattle.std.proofs.lemmas.Bool.{true≢false}
use Rattle.pages.specs.Image.{Image, Writes, written, granted}
use Rattle.pages.specs.declared.fault.StoreFault.{StoreFault}
use Rattle.pages.specs.declared.fault.StoreFault.TheVariants.{Absent, Uncharged}
use Rattle.layout.specs.Heads.{header_bytes}
use Rattle.orders.specs.Orders.{Order}
use Rattle.tree.specs.CopyLaws.{usable, upward}
use Rattle.tree.specs.CopyWrites.{times}
use Rattle.records.specs.Chain.{unmarked}
use Rattle.faults.specs.declared.fault.Fault.{Fault}
use Rattle.faults.specs.Refusals.{unwritten}
use Rattle.index.specs.Model.{Known, state, refusal, limit}
use Rattle.index.specs.Model.Answer.{accepted}
use Rattle.index.specs.Model.Known.{shut, knows}
use Rattle.index.specs.Model.Call.{formats, shuts, grants}
use Rattle.index.specs.Head.{WritesHead, header_with}
use Rattle.index.specs.Keeping.{Holds, header_for}
use Rattle.index.specs.Keeping.Content.{filed}
use Rattle.index.specs.Steps.{Step, empty_file}
use Rattle.index.specs.Steps.Does.{formatted, format_absent, format_uncharged, shut_down, given}
use Rattle.index.specs.declared.index.OpenTree.{OpenTree}
use Rattle.index.specs.View.{known_in}
use Rattle.index.proofs.Keeps.{recharged, forgotten}

pub shuts_down : (o : Order) (m : Image) (k : Known) → Step o (state m k) accepted (state m shut) shuts
shuts_down o m k = record { size = refl; exact = λ c h. record { next = c; kept = forgotten o m k c h; does = shut_down refl refl refl } }

-- an index that is shut already stays as it is
pub stays_shut : (o : Order) (m : Image) (t : Option OpenTree) → is_some t ≡ false → Step o (state m (known_in t)) accepted (state m (known_in t)) shuts
stays_shut o m None e = shuts_down o m shut
stays_shut o m (Some t) e = absurd (true≢false e)

pub grants_charge : (o : Order) (m m' : Image) (k : Known) (n : ℕ) → m' ≡ granted m n → Step o (state m k) accepted (state m' k) (grants n)
grants_charge o m m' k n e = subst (λ (x : Image). Step o (state m k) accepted (state x k) (grants n)) (sym e)
    (record { size = refl; exact = λ c h. record { next = c; kept = recharged o m n k c h; does = given refl refl refl } })

-- an empty header on page 1, with all usable pages free
empty_holds : (o : Order) (m : Image) → 1 ≤ length m.pages →
    Holds o (state (written m 1 (header_bytes (header_for o empty_file))) (knows 0 0 0 (usable (limit m)))) empty_file
empty_holds o m le =
    let bytes : List ℕ = header_bytes (header_for o empty_file) in
    let len : length (set m.pages 0 bytes) ≡ length m.pages = length-set m.pages 0 bytes in
    record {
      there = omega (arith, len);
      header = get_or-set_same m.pages 0 bytes [] le;
      sound = (refl, refl);
      low = omega arith;
      counts = tt;
      agrees = (refl, refl, refl, λ p. zero-add _ ∙ ap (λ (l : ℕ). times p (usable (min l 1024))) (sym len));
    }

pub formats_memory : (o : Order) (m m' : Image) (k : Known) (free : List ℕ) → WritesHead o m 0 0 0 (Ok tt) m' → free ≡ usable (limit m) →
    Step o (state m k) accepted (state m' (knows 0 0 0 free)) formats
formats_memory o m m' k free w ef =
    let le : 1 ≤ length m.pages = w.0.1 in
    subst (λ (x : Image). Step o (state m k) accepted (state x (knows 0 0 0 free)) formats) (sym w.2)
    (subst (λ (fs : List ℕ). Step o (state m k) accepted (state (written m 1 (header_bytes (header_for o empty_file))) (knows 0 0 0 fs)) formats) (sym ef)
    (record { size = length-set m.pages 0 (header_bytes (header_for o empty_file)); exact = λ c h. record { next = filed empty_file; kept = empty_holds o m le; does = formatted le w.1 refl refl refl } }))

refuses_format : (o : Order) (m : Image) (k : Known) (bytes : List ℕ) (f : StoreFault) (m' : Image) → Writes m 1 bytes (Err f) m' →
    Step o (state m k) (refusal (unwritten (record { at = record { page = 1; level = 0 }; fault = f }))) (state m' k) formats
refuses_format o m k bytes Absent m' w =
    let none : length m.pages ≡ 0 = elim w.0 [ inl e ↦ absurd (omega arith) | inr lt ↦ omega arith ] in
    subst (λ (x : Image). Step o (state m k) (refusal (unwritten (record { at = record { page = 1; level = 0 }; fault = Absent }))) (state x k) formats) (sym w.1)
    (record { size = refl; exact = λ c h. record { next = c; kept = h; does = format_absent none refl refl refl } })
refuses_format o m k bytes Uncharged m' w =
    subst (λ (x : Image). Step o (state m k) (refusal (unwritten (record { at = record { page = 1; level = 0 }; fault = Uncharged }))) (state x k) formats) (sym w.2)
    (record { size = refl; exact = λ c h. record { next = c; kept = h; does = format_uncharged w.0.1 w.1 refl refl refl } })

pub format_refused : (o : Order) (m m' : Image) (k : Known) (f : Fault) → WritesHead o m 0 0 0 (Err f) m' → Step o (state m k) (refusal f) (state m' k) formats
format_refused o m m' k f (e, told, w) =
    subst (λ (z : Fault). Step o (state m k) (refusal z) (state m' k) formats) (sym told) (refuses_format o m k (header_bytes (header_with o 0 0 0)) e m' w)

-- with no mark set, every number from a on is free
pub none_marked : (marks : List Bool) (a n : ℕ) → ((k : ℕ) → get_or marks k false ≡ false) → unmarked marks a n ≡ upward a n
none_marked marks a zero e = refl
none_marked marks a (suc n) e = rw (e a) (ap (λ (xs : List ℕ). a ∷ xs) (none_marked marks (a + 1) n e ∙ ap (λ (k : ℕ). upward k n) (add-one a)))

pub none_set : (n k : ℕ) → get_or (replicate n false) k false ≡ false
none_set zero k = refl
none_set (suc n) zero = refl
none_set (suc n) (suc k) = none_set n k
