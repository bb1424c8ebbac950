-- Where a state is kept: only the charge stops the reading of a path, and a leaf's count is the tree's.
use Rattle.std.proofs.Common.{◌≡◌, ℕ, suc, ◌+◌, ◌-◌, ◌<◌, ◌≤◌, List, [], ◌∷◌, length, get_or, Option, sym, refl, ap, ◌∙◌, subst, inl, inr, arith}
use Rattle.pages.specs.declared.fault.StoreFault.{StoreFault}
use Rattle.pages.specs.declared.fault.StoreFault.TheVariants.{Absent, Uncharged}
use Rattle.pages.specs.Image.{Image, Has}
use Rattle.layout.specs.declared.entry.Entry.{Entry}
use Rattle.layout.specs.Content.{LeafKeys}
use Rattle.layout.specs.Edits.{found}
use Rattle.layout.specs.declared.visit.Rule.{Rule}
use Rattle.layout.specs.declared.visit.Rule.TheVariants.{A, B, C, D, E, F}
use Rattle.tree.specs.Tree.{Contents, count_at}
use Rattle.tree.specs.CopyMoves.{State}
use Rattle.tree.specs.CopyLaws.{Kept, root_of, path_of, events_of}
use Rattle.tree.specs.CopyMemory.{path_at, leaf_at}
use Rattle.tree.specs.CopyDescent.{Expected}
use Rattle.tree.proofs.CopyBase.{by_le, by_eq}
use Rattle.tree.proofs.CopyDescent.{path_law, tally_law}
use Rattle.tree.proofs.CopyUpdate.{update_law}
use Rattle.faults.specs.declared.fault.Access.{Access}
use Rattle.faults.specs.declared.fault.Fault.{Fault}
use Rattle.faults.specs.declared.fault.Fault.TheVariants.{Unread, Absent as no_page}
use Rattle.faults.specs.Refusals.{unread, by_fault}
use Rattle.faults.specs.Accesses.{contents}
use Rattle.paths.specs.PathsWrites.{Refuses, after_reads}
use Rattle.paths.specs.PathsPages.{Breaks}
use Rattle.paths.specs.PathsReading.{Stopped, Misread, counted, RunsOut, KeptAt}
use Rattle.paths.specs.PathsReading.Misread.{refused, broken}

-- a store that has the page refuses it only for want of charge
pub only_charge : (m : Image) (p : ℕ) (f : StoreFault) → Has m p → Refuses m p f → (f ≡ Uncharged) × (m.charge ≡ 0)
only_charge m p Absent h (inl e) = absurd (omega (arith, h.0))
only_charge m p Absent h (inr l) = absurd (omega (arith, h.1))
only_charge m p Uncharged h r = (refl, r.1)

pub unread_is : (x : Access) → x.fault ≡ Uncharged → unread x ≡ Unread x
unread_is x e = ap (λ (y : StoreFault). by_fault y (no_page x) (Unread x)) e

never_breaks : (m : Contents) (limit q v : ℕ) (r : Rule) → Expected m limit q v → Breaks m q v r → ⊥
never_breaks m limit q v A e b = b
never_breaks m limit q v B e b = b (e.number_is, e.level_is)
never_breaks m limit q v C e b = omega (arith, e.sized.0, ap length b.1)
never_breaks m limit q v D e b = b
never_breaks m limit q v E e b = b
never_breaks m limit q v F e b = b

pub record OnlyCharge (m : Image) (s : State) (a : ℕ) (f : Fault) (m' : Image) : Type 0 where
  pub access : Access
  pub told : f ≡ Unread access
  pub runs : RunsOut m s.height (path_of s.tree a) access m'

expected : (m : Image) (limit total top : ℕ) (s : State) (a d q v : ℕ) → Kept (contents m) limit total top s → Stopped m s.height (root_of s.tree) a d q v → Expected (contents m) limit q v
expected m limit total top s a d q v k t =
    subst (λ (x : ℕ). Expected (contents m) limit q x) (sym t.level)
    (subst (λ (x : ℕ). Expected (contents m) limit x (s.height - d)) (sym t.page) (path_law (contents m) limit total top s a d k t.within))

misread_at : (m m' : Image) (limit total top : ℕ) (s : State) (a : ℕ) (f : Fault) → Kept (contents m) limit total top s → limit ≤ length m.pages
    → Misread m s.height (root_of s.tree) a f m' → OnlyCharge m s a f m'
misread_at m m' limit total top s a f k l (refused d x e t c r i) =
    let y = expected m limit total top s a d x.at.page x.at.level k t in
    let o = only_charge (after_reads m d) x.at.page x.fault (omega (arith, y.low), omega (arith, y.high)) r in
    let z : d ≡ m.charge = omega (arith, c, o.1) in
    record {
      access = x;
      told = e ∙ unread_is x o.0;
      runs = record {
        short = omega (arith, z, t.within);
        page = t.page ∙ ap (λ (n : ℕ). get_or (path_at s.height (contents m) (root_of s.tree) a) n 0) z
            ∙ ap (λ (ps : List ℕ). get_or ps m.charge 0) (update_law (contents m) limit total top s a k).3;
        level = t.level ∙ ap (λ (n : ℕ). s.height - n) z;
        fault = o.0;
        spent = i ∙ ap (after_reads m) z;
      };
    }
misread_at m m' limit total top s a f k l (broken d q v r e t c b i) = absurd (never_breaks (contents m) limit q v r (expected m limit total top s a d q v k t) b)

-- what is proved for a root and a height holds at the kept state's
pub at_kept : (P : ℕ → ℕ → Type 0) (m : Image) (root height limit total top : ℕ) (s : State) → KeptAt m root height limit total top s → P height root → P s.height (root_of s.tree)
at_kept P m root height limit total top s k t = subst (λ (x : ℕ). P s.height x) k.root_is (subst (λ (x : ℕ). P x root) k.height_is t)

pub misread_kept : (m m' : Image) (root height limit total top : ℕ) (s : State) (a : ℕ) (f : Fault) → KeptAt m root height limit total top s → Misread m height root a f m' → OnlyCharge m s a f m'
misread_kept m m' root height limit total top s a f k t =
    misread_at m m' limit total top s a f k.kept k.there (at_kept (λ h p. Misread m h p a f m') m root height limit total top s k t)

count_low : (a lo hi : ℕ) (es : List Entry) → LeafKeys lo hi es → a < lo → count_at es a ≡ 0
count_low a lo hi [] k h = refl
count_low a lo hi (e ∷ es) k h =
    by_eq (λ (n : ℕ). n + count_at es a ≡ 0) e.key a e.value 0 (λ q. absurd (omega (arith, k.0))) (λ ne. omega (arith, count_low a (suc e.key) hi es k.3 (omega (arith, k.0))))

-- where the keys rise, the first key that is not below the address decides
pub found_count : (a lo hi : ℕ) (es : List Entry) → LeafKeys lo hi es → counted (found a es) ≡ count_at es a
found_count a lo hi [] k = refl
found_count a lo hi (e ∷ es) k =
    by_le (λ (o : Option ℕ). counted o ≡ count_at (e ∷ es) a) a e.key _ _
    (λ le. by_eq (λ (o : Option ℕ). counted o ≡ count_at (e ∷ es) a) a e.key _ _
    (λ q. by_eq (λ (n : ℕ). e.value ≡ n + count_at es a) e.key a e.value 0 (λ _. omega (arith, count_low a (suc e.key) hi es k.3 (omega arith))) (λ ne. absurd (ne (sym q))))
    (λ ne. by_eq (λ (n : ℕ). 0 ≡ n + count_at es a) e.key a e.value 0 (λ q. absurd (ne (sym q))) (λ _. omega (arith, count_low a (suc e.key) hi es k.3 (omega arith)))))
    (λ gt. by_eq (λ (n : ℕ). counted (found a es) ≡ n + count_at es a) e.key a e.value 0 (λ q. absurd (omega arith)) (λ _. omega (arith, found_count a (suc e.key) hi es k.3)))

pub leaf_count : (m : Image) (limit total top : ℕ) (s : State) (a : ℕ) → Kept (contents m) limit total top s
    → counted (found a (leaf_at s.height (contents m) (root_of s.tree) a)) ≡ count_at (events_of s.tree) a
leaf_count m limit total top s a k =
    let t = tally_law (contents m) limit total top s a k in
    found_count a 0 top (leaf_at s.height (contents m) (root_of s.tree) a) t.1 ∙ t.0
