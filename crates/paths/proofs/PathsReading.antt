-- A path read page by page, and where that stops.
use Rattle.std.proofs.Common.{◌≡◌, ℕ, zero, suc, ◌-◌, ◌<◌, ◌≤◌, List, length, get_or, sym, refl, ap, ◌∙◌, subst, arith}
use Rattle.pages.specs.Image.{Image, spent}
use Rattle.layout.specs.declared.entry.Entry.{Entry}
use Rattle.tree.specs.Tree.{Contents}
use Rattle.tree.specs.CopyPages.{pick}
use Rattle.tree.specs.CopyMemory.{path_at}
use Rattle.faults.specs.declared.fault.Fault.{Fault}
use Rattle.faults.specs.Accesses.{contents}
use Rattle.paths.specs.PathsWrites.{Refuses}
use Rattle.paths.specs.PathsPages.{Read, UnreadPage}
use Rattle.paths.specs.PathsPages.UnreadPage.{refused as at_store, broken as at_page}
use Rattle.paths.specs.PathsReading.{Stopped, Misread}
use Rattle.paths.specs.PathsReading.Misread.{refused, broken}
use Rattle.paths.proofs.PathsWriting.{after_none, after_more}

path_first : (l : ℕ) (m : Contents) (p a : ℕ) → 1 ≤ l → p ≡ get_or (path_at l m p a) 0 0
unfolding path_at
path_first zero m p a h = absurd (omega arith)
path_first (suc zero) m p a h = refl
path_first (suc (suc l)) m p a h = refl

here : (m : Image) (l p a q v : ℕ) → 1 ≤ l → q ≡ p → v ≡ l → Stopped m l p a 0 q v
here m l p a q v h e k = record { within = omega arith; page = e ∙ path_first l (contents m) p a h; level = omega (arith, k) }

-- the first page of the path stops the reading
pub misread_here : (m m' : Image) (l p a : ℕ) (f : Fault) → 1 ≤ l → UnreadPage m p l f m' → Misread m l p a f m'
misread_here m m' l p a f h (at_store x e q v r s) =
    refused 0 x e (here m l p a x.at.page x.at.level h q v) (omega arith)
    (subst (λ (z : Image). Refuses z x.at.page x.fault) (after_none m) (subst (λ (y : ℕ). Refuses m y x.fault) (sym q) r)) (s ∙ after_none m)
misread_here m m' l p a f h (at_page r e c b s) = broken 0 p l r e (here m l p a p l h refl refl) (omega arith) b s

stopped_below : (m : Image) (h p a d q v : ℕ) → Stopped (spent m) (suc h) (pick (contents m p).entries a) a d q v → Stopped m (suc (suc h)) p a (suc d) q v
unfolding path_at
stopped_below m h p a d q v s = record { within = omega (arith, s.within); page = s.page; level = omega (arith, s.level) }

below : (m m' : Image) (h p a : ℕ) (f : Fault) → 0 < m.charge → Misread (spent m) (suc h) (pick (contents m p).entries a) a f m' → Misread m (suc (suc h)) p a f m'
below m m' h p a f c (refused d x e s k r i) =
    refused (suc d) x e (stopped_below m h p a d x.at.page x.at.level s) (omega arith)
    (subst (λ (z : Image). Refuses z x.at.page x.fault) (after_more m d) r) (i ∙ after_more m d)
below m m' h p a f c (broken d q v r e s k b i) = broken (suc d) q v r e (stopped_below m h p a d q v s) (omega arith) b (i ∙ after_more m (suc d))

-- A page of the path that was read, and the one below: what code knows when it goes down.
pub record Goes (m m₂ : Image) (l k p a child : ℕ) (es : List Entry) : Type 0 where
  pub inner : 2 ≤ l
  pub lower : k ≡ l - 1
  pub charged : 0 < m.charge
  pub spends : m₂ ≡ spent m
  pub holds : es ≡ (contents m p).entries
  pub few : length es ≤ 10
  pub picks : child ≡ pick es a

pub goes : (m m₂ : Image) (l k p a child : ℕ) (es : List Entry) → 2 ≤ l → Read m p l es m₂ → child ≡ pick es a → k ≡ l - 1 → Goes m m₂ l k p a child es
goes m m₂ l k p a child es two r c e = record { inner = two; lower = e; charged = r.charged; spends = r.spends; holds = r.holds; few = r.few; picks = c }

pub goes_to : {m m₂ : Image} {l k p a child : ℕ} {es : List Entry} → Goes m m₂ l k p a child es → child ≡ pick (contents m p).entries a
goes_to {a = a} w = w.picks ∙ ap (λ (x : List Entry). pick x a) w.holds

-- what is known of the child, said at the values that the theory has
pub at_child : (P : Image → ℕ → ℕ → Type 0) (m m₂ : Image) (h k p a child : ℕ) (es : List Entry) → Goes m m₂ (suc (suc h)) k p a child es → P m₂ k child → P (spent m) (suc h) (pick (contents m p).entries a)
at_child P m m₂ h k p a child es w t =
    let e : k ≡ suc h = omega (arith, w.lower) in
    subst (λ (x : ℕ). P (spent m) (suc h) x) (goes_to w) (subst (λ (x : ℕ). P (spent m) x child) e (subst (λ (x : Image). P x k child) w.spends t))

pub misread_below : (l k : ℕ) (m m₂ m' : Image) (p a child : ℕ) (es : List Entry) (f : Fault) → Goes m m₂ l k p a child es → Misread m₂ k child a f m' → Misread m l p a f m'
misread_below zero k m m₂ m' p a child es f w t = absurd (omega (arith, w.inner))
misread_below (suc zero) k m m₂ m' p a child es f w t = absurd (omega (arith, w.inner))
misread_below (suc (suc h)) k m m₂ m' p a child es f w t =
    below m m' h p a f w.charged (at_child (λ x y z. Misread x y z a f m') m m₂ h k p a child es w t)
