-- Writes to free pages: what they leave alone, and where they break off when every page is there.
use Rattle.std.proofs.Common.{◌≡◌, ℕ, suc, ◌-◌, ◌≤◌, List, [], ◌∷◌, ◌++◌, length, sym, refl, ap, ◌∙◌, subst, arith, length-set}
use Rattle.std.specs.List.{AllByRecursion}
use Rattle.std.proofs.lemmas.List.{get_or-set_other}
use Rattle.pages.specs.declared.fault.StoreFault.{StoreFault}
use Rattle.pages.specs.declared.fault.StoreFault.TheVariants.{Uncharged}
use Rattle.pages.specs.Image.{Image, Has, at, written}
use Rattle.tree.specs.Tree.{Absent}
use Rattle.tree.specs.CopyWrites.{Write}
use Rattle.tree.specs.CopyWrites as tree
use Rattle.faults.specs.declared.fault.Access.{Access}
use Rattle.faults.specs.declared.fault.Fault.{Fault}
use Rattle.faults.specs.declared.fault.Fault.TheVariants.{Absent as no_page, Unwritten}
use Rattle.faults.specs.Refusals.{unwritten, by_fault}
use Rattle.paths.specs.PathsWrites.{stored, encoded, after_reads, Accepts, Wrote, Unwrites, WritesRunOut}
use Rattle.paths.specs.PathsReading.{Misread}
use Rattle.paths.specs.PathsReading.Misread.{refused, broken}
use Rattle.paths.specs.PathsCopies.{LeavesAlone}
use Rattle.paths.proofs.PathsWriting.{accepts_charge, stored_charge}
use Rattle.paths.proofs.PathsKept.{only_charge}

pub stored_length : (ws : List Write) (m : Image) → length (stored ws m).pages ≡ length m.pages
stored_length [] m = refl
stored_length (w ∷ ws) m = stored_length ws (written m w.page (encoded w.says)) ∙ length-set m.pages (w.page - 1) (encoded w.says)

front_of : (P : ℕ → Type 0) (xs ys : List ℕ) → AllByRecursion P (xs ++ ys) → AllByRecursion P xs
front_of P [] ys t = tt
front_of P (x ∷ xs) ys t = (t.0, front_of P xs ys t.1)

written_append : (xs ys : List Write) → tree.written (xs ++ ys) ≡ tree.written xs ++ tree.written ys
written_append [] ys = refl
written_append (x ∷ xs) ys = ap (λ (z : List ℕ). x.page ∷ z) (written_append xs ys)

pub stays : (ws : List Write) (m : Image) (p : ℕ) → Accepts ws m → 1 ≤ p → Absent p (tree.written ws) → at (stored ws m) p ≡ at m p
stays [] m p a o n = refl
stays (w ∷ ws) m p a o n =
    stays ws (written m w.page (encoded w.says)) p a.3 o n.1
    ∙ get_or-set_other m.pages (w.page - 1) (p - 1) (encoded w.says) [] (λ e. n.0 (omega (arith, e, a.0.0)))

-- a beginning of writes that come from the free list
pub wrote_alone : (ws done rest : List Write) (m m' : Image) (h : ℕ) (free left : List ℕ) → tree.written ws ++ left ≡ free → ws ≡ done ++ rest → Wrote done (after_reads m h) m' → LeavesAlone m free m'
wrote_alone ws done rest m m' h free left t e w = record {
  size = ap (λ (z : Image). length z.pages) w.image ∙ stored_length done (after_reads m h);
  charge = omega (arith, ap (λ (z : Image). z.charge) w.image, stored_charge done (after_reads m h));
  others = λ p o n.
      (let P : ℕ → Type 0 = λ x. x ≡ p → ⊥ in
      let b : AllByRecursion P (tree.written ws) = front_of P (tree.written ws) left (subst (AllByRecursion P) (sym t) n) in
      let c : AllByRecursion P (tree.written done) = front_of P (tree.written done) (tree.written rest) (subst (AllByRecursion P) (ap tree.written e ∙ written_append done rest) b) in
      ap (λ (z : Image). at z p) w.image ∙ stays done (after_reads m h) p w.accepts o c);
}

pub read_alone : (m m' : Image) (h : ℕ) (free : List ℕ) → m' ≡ after_reads m h → LeavesAlone m free m'
read_alone m m' h free e = record {
  size = ap (λ (z : Image). length z.pages) e;
  charge = omega (arith, ap (λ (z : Image). z.charge) e);
  others = λ p o n. ap (λ (z : Image). at z p) e;
}

pub append_none : (ws : List Write) → ws ≡ ws ++ []
append_none [] = refl
append_none (w ∷ ws) = ap (λ (z : List Write). w ∷ z) (append_none ws)

pub misread_alone : (m m' : Image) (l p a : ℕ) (free : List ℕ) (f : Fault) → Misread m l p a f m' → LeavesAlone m free m'
misread_alone m m' l p a free f (refused d x e s k r i) = read_alone m m' d free i
misread_alone m m' l p a free f (broken d q v r e s k b i) = read_alone m m' (suc d) free i

-- writes that break off where every page is there
all_next : (P : ℕ → Type 0) (done rest : List Write) (next : Write) → AllByRecursion P (tree.written (done ++ (next ∷ rest))) → P next.page
all_next P [] rest next t = t.0
all_next P (w ∷ done) rest next t = all_next P done rest next t.1

unwritten_is : (x : Access) → x.fault ≡ Uncharged → unwritten x ≡ Unwritten x
unwritten_is x e = ap (λ (y : StoreFault). by_fault y (no_page x) (Unwritten x)) e

pub record OnlyShort (ws : List Write) (m : Image) (f : Fault) (m' : Image) : Type 0 where
  pub access : Access
  pub told : f ≡ Unwritten access
  pub runs : WritesRunOut ws m access m'

pub only_short : (ws : List Write) (m m' : Image) (f : Fault) → AllByRecursion (Has m) (tree.written ws) → Unwrites ws m f m' → OnlyShort ws m f m'
only_short ws m m' f all u =
    let c = u.cut in
    let x = u.access in
    let h : Has m c.next.page = all_next (Has m) c.done c.rest c.next (subst (λ (z : List Write). AllByRecursion (Has m) (tree.written z)) c.writes all) in
    let l : length m'.pages ≡ length m.pages = ap (λ (z : Image). length z.pages) c.began.image ∙ stored_length c.done m in
    let o = only_charge m' x.at.page x.fault (omega (arith, h.0, c.page), omega (arith, h.1, c.page, l)) c.refused in
    record {
      access = x;
      told = u.told ∙ unwritten_is x o.0;
      runs = record {
        done = c.done;
        next = c.next;
        rest = c.rest;
        writes = c.writes;
        page = c.page;
        level = c.level;
        fault = o.0;
        began = c.began;
        many = omega (arith, o.1, ap (λ (z : Image). z.charge) c.began.image, stored_charge c.done m, accepts_charge c.done m c.began.accepts);
      };
    }
