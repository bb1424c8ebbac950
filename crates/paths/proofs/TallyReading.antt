-- Each exit of tally.
use Rattle.std.proofs.Common.{◌≡◌, ℕ, zero, suc, ◌<◌, List, Ok, Err, Result, sym, refl, ap, ◌∙◌, subst, arith}
use Rattle.pages.specs.Image.{Image, spent}
use Rattle.layout.specs.declared.entry.Entry.{Entry}
use Rattle.layout.specs.Edits.{found}
use Rattle.tree.specs.CopyPages.{pick}
use Rattle.tree.specs.CopyMemory.{leaf_at}
use Rattle.faults.specs.declared.fault.Fault.{Fault}
use Rattle.faults.specs.Accesses.{contents}
use Rattle.paths.specs.PathsPages.{Read}
use Rattle.paths.specs.PathsReading.{counted}
use Rattle.paths.specs.TallyRules.{Tallied}
use Rattle.paths.proofs.PathsWriting.{after_none, after_more}
use Rattle.paths.proofs.PathsReading.{Goes, at_child, misread_below}

tally_none : (m : Image) (p a : ℕ) → Tallied m 0 p a (Ok 0) m
unfolding leaf_at
tally_none m p a = (omega arith, refl, after_none m)

pub tally_empty : (m : Image) (l p a : ℕ) → l ≡ 0 → Tallied m l p a (Ok 0) m
tally_empty m l p a e = subst (λ (x : ℕ). Tallied m x p a (Ok 0) m) (sym e) (tally_none m p a)

tally_one : (m m' : Image) (p a n : ℕ) → 0 < m.charge → n ≡ counted (found a (contents m p).entries) → m' ≡ spent m → Tallied m 1 p a (Ok n) m'
unfolding leaf_at
tally_one m m' p a n c e s = (omega arith, e, s)

pub tally_leaf : (m m' : Image) (l p a n : ℕ) (es : List Entry) → l ≡ 1 → Read m p l es m' → n ≡ counted (found a es) → Tallied m l p a (Ok n) m'
tally_leaf m m' l p a n es o r e =
    subst (λ (x : ℕ). Tallied m x p a (Ok n) m') (sym o) (tally_one m m' p a n r.charged (e ∙ ap (λ (x : List Entry). counted (found a x)) r.holds) r.spends)

tally_up : (m m' : Image) (h p a n : ℕ) → 0 < m.charge → Tallied (spent m) (suc h) (pick (contents m p).entries a) a (Ok n) m' → Tallied m (suc (suc h)) p a (Ok n) m'
unfolding leaf_at
tally_up m m' h p a n c t = (omega (arith, t.0), t.1, t.2 ∙ after_more m (suc h))

pub tally_below : (l k : ℕ) (m m₂ m' : Image) (p a child : ℕ) (es : List Entry) (r : Result ℕ Fault) → Goes m m₂ l k p a child es → Tallied m₂ k child a r m' → Tallied m l p a r m'
tally_below zero k m m₂ m' p a child es r w t = absurd (omega (arith, w.inner))
tally_below (suc zero) k m m₂ m' p a child es r w t = absurd (omega (arith, w.inner))
tally_below (suc (suc h)) k m m₂ m' p a child es (Ok n) w t =
    tally_up m m' h p a n w.charged (at_child (λ x y z. Tallied x y z a (Ok n) m') m m₂ h k p a child es w t)
tally_below (suc (suc h)) k m m₂ m' p a child es (Err f) w t = misread_below (suc (suc h)) k m m₂ m' p a child es f w t
