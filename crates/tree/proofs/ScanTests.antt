-- Each test of a scan decides its rule.
use Rattle.std.proofs.Common.{◌≡◌, ℕ, suc, ◌≤◌, true, false, ◌&&◌, eqb, ltb, leb, List, [], ◌∷◌, length, Decides, refl, inl, inr, arith}
use Rattle.std.proofs.lemmas.Bool.Decides.{Decides-eqb, Decides-and, Decides-ltb}
use Rattle.std.proofs.lemmas.Bool.{leb-true, le-leb, eq-eqb, ne_eqb, cases_eq}
use Rattle.layout.specs.declared.entry.Entry.{Entry}
use Rattle.layout.specs.Content.{Content, Own, Filled, LeafKeys, InnerKeys}
use Rattle.tree.specs.Tree.{Absent}
use Rattle.tree.specs.Scan.{Visit, absent, admits, own, filled, leaf_keys, inner_keys}
use Rattle.tree.specs.ScanRules.{Admitted}

pub decides_leb : (a b : ℕ) → Decides (leb a b) (a ≤ b)
decides_leb a b = (leb-true a b, le-leb a b)

pub absent_decides : (k : ℕ) (xs : List ℕ) → Decides (absent k xs) (Absent k xs)
absent_decides k [] = (λ e. tt, λ a. refl)
absent_decides k (x ∷ xs) =
    let ih = absent_decides k xs in
    elim (cases_eq x k) [
      | inl e ↦ (let t : eqb x k ≡ true = eq-eqb x k e in rw t ((λ z. (let o : ◌≡◌ {A = ℕ} 0 1 = cc in absurd (omega arith)), λ a. absurd (a.0 e))))
      | inr n ↦ (let t : eqb x k ≡ false = ne_eqb x k n in rw t ((λ z. (n, ih.0 z), λ a. ih.1 a.1)))
    ]

pub admits_decides : (limit : ℕ) (marks : List ℕ) (p : ℕ) → Decides (admits limit marks p) (Admitted limit marks p)
unfolding admits
admits_decides limit marks p =
    Decides-and (leb 2 p && leb p limit) (absent p marks) (Decides-and (leb 2 p) (leb p limit) (decides_leb 2 p) (decides_leb p limit)) (absent_decides p marks)

pub own_decides : (c : Content) (v : Visit) → Decides (own c v) (Own v.at.page v.at.level c)
unfolding own
own_decides c v =
    Decides-and (eqb c.number v.at.page) (eqb c.level v.at.level) (Decides-eqb c.number v.at.page) (Decides-eqb c.level v.at.level)

pub filled_decides : (c : Content) → Decides (filled c) (Filled c)
unfolding filled
filled_decides c =
    let n = length c.entries in
    Decides-and (leb 1 n && leb n 10) c.clean (Decides-and (leb 1 n) (leb n 10) (decides_leb 1 n) (decides_leb n 10)) (λ e. e, λ e. e)

pub leaf_keys_decides : (lo hi : ℕ) (es : List Entry) → Decides (leaf_keys lo hi es) (LeafKeys lo hi es)
leaf_keys_decides lo hi [] = (λ e. tt, λ a. refl)
leaf_keys_decides lo hi (e ∷ es) =
    let k = e.key in
    let d = Decides-and ((leb lo k && leb k hi) && leb 1 e.value) (leaf_keys (suc k) hi es)
    (Decides-and (leb lo k && leb k hi) (leb 1 e.value) (Decides-and (leb lo k) (leb k hi) (decides_leb lo k) (decides_leb k hi)) (decides_leb 1 e.value))
    (leaf_keys_decides (suc k) hi es) in
    (λ t. (let h = d.0 t in (h.0.0.0, h.0.0.1, h.0.1, h.1)), λ h. d.1 (((h.0, h.1), h.2), h.3))

pub inner_keys_decides : (lo hi : ℕ) (es : List Entry) → Decides (inner_keys lo hi es) (InnerKeys lo hi es)
inner_keys_decides lo hi [] = (λ z. (let o : ◌≡◌ {A = ℕ} 0 1 = cc in absurd (omega arith)), λ a. absurd a)
inner_keys_decides lo hi (e ∷ []) = Decides-eqb e.key 0
inner_keys_decides lo hi (e ∷ (d ∷ es)) =
    let k = e.key in
    let b = Decides-and (leb lo k && ltb k hi) (inner_keys (suc k) hi (d ∷ es))
    (Decides-and (leb lo k) (ltb k hi) (decides_leb lo k) (Decides-ltb k hi)) (inner_keys_decides (suc k) hi (d ∷ es)) in
    (λ t. (let h = b.0 t in (h.0.0, h.0.1, h.1)), λ h. b.1 ((h.0, h.1), h.2))
