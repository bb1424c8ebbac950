-- The counts of a leaf and the children's visits of an inner page, by place.
use Rattle.std.proofs.Common.{◌≡◌, ℕ, zero, suc, ◌+◌, ◌-◌, ◌<◌, List, [], ◌∷◌, ◌++◌, reverse, map, sum, sum_by, length, get_or, take, drop, Ok, Err, Result, sym, refl, ap, ◌∙◌, arith}
use Rattle.std.proofs.lemmas.List.{drop_more, drop_all, reverse-append, length-set}
use Rattle.std.proofs.lemmas.List.Sums.{sum_by-cons, sum-map}
use Rattle.layout.specs.declared.entry.Entry.{Entry}
use Rattle.layout.specs.Content.{InnerKeys}
use Rattle.layout.specs.Listed.{blank}
use Rattle.layout.specs.declared.visit.Visit.{Visit}
use Rattle.tree.specs.Tree.{counts}
use Rattle.tree.specs.Scan.{visit, child_visits}
use Rattle.records.specs.Tray.{Lays}
use Rattle.records.specs.declared.tray.Tray.{Tray}
use Rattle.walks.specs.Pending.{to_come, SameSize}

-- the sum of a leaf's counts
counts_by : (es : List Entry) → sum_by (λ e. e.value) es ≡ counts es
counts_by [] = refl
counts_by (e ∷ es) = sum_by-cons (λ x. x.value) e es ∙ ap (λ n. e.value + n) (counts_by es)

pub counts_sum : (es : List Entry) → sum (map (λ e. e.value) es) ≡ counts es
counts_sum es = sum-map (λ e. e.value) es ∙ counts_by es

-- every key but the last is below the region's end
pub key_below : (es : List Entry) (lo hi k : ℕ) → InnerKeys lo hi es → suc k < length es → (get_or es k blank).key < hi
key_below [] lo hi k h l = absurd h
key_below (e ∷ []) lo hi k h l = absurd (omega arith)
key_below (e ∷ (d ∷ es)) lo hi zero h l = h.1
key_below (e ∷ (d ∷ es)) lo hi (suc k) h l = key_below (d ∷ es) (suc e.key) hi k h.2 (omega arith)

-- the visit of child i has the region from a to b
pub child_at : (level hi : ℕ) (es : List Entry) (lo i a b : ℕ) → i < length es → (i ≡ 0 → a ≡ lo) → ((k : ℕ) → i ≡ suc k → a ≡ suc (get_or es k blank).key) →
    (suc i < length es → b ≡ (get_or es i blank).key) → (suc i ≡ length es → b ≡ hi) →
    visit (get_or es i blank).value level a b ≡ get_or (child_visits level lo hi es) i (visit 0 0 0 0)
child_at level hi [] lo i a b h a₀ a₁ b₀ b₁ = absurd (omega arith)
child_at level hi (e ∷ []) lo zero a b h a₀ a₁ b₀ b₁ = λ j. visit e.value level (a₀ refl j) (b₁ refl j)
child_at level hi (e ∷ []) lo (suc i) a b h a₀ a₁ b₀ b₁ = absurd (omega arith)
child_at level hi (e ∷ (d ∷ es)) lo zero a b h a₀ a₁ b₀ b₁ = λ j. visit e.value level (a₀ refl j) (b₀ (omega arith) j)
child_at level hi (e ∷ (d ∷ es)) lo (suc i) a b h a₀ a₁ b₀ b₁ =
    child_at level hi (d ∷ es) (suc e.key) i a b (omega arith) (λ z. a₁ 0 (ap suc z)) (λ k z. a₁ (suc k) (ap suc z)) (λ l. b₀ (omega arith)) (λ l. b₁ (ap suc l))

-- a child's region begins past the key before it
pub begins_past : (es : List Entry) (i k a : ℕ) → i ≡ suc k → a ≡ (get_or es (i - 1) blank).key + 1 → a ≡ suc (get_or es k blank).key
begins_past es i k a e q = let f : i - 1 ≡ k = omega arith in omega (arith, ap (λ j. (get_or es j blank).key) f)

pub length_children : (level hi : ℕ) (es : List Entry) (lo : ℕ) → length (child_visits level lo hi es) ≡ length es
length_children level hi [] lo = refl
length_children level hi (e ∷ []) lo = refl
length_children level hi (e ∷ (d ∷ es)) lo = ap suc (length_children level hi (d ∷ es) (suc e.key))

-- one more visit in the tray comes next
pub put_next : (xs ys : List Visit) (x : Visit) → ys ≡ xs ++ x ∷ [] → reverse ys ≡ x ∷ reverse xs
put_next xs ys x e = ap reverse e ∙ reverse-append xs (x ∷ [])

-- the visits from j on are in the tray; and then the one before them
pub put_more : (t t' : Tray Visit) (j : ℕ) (vs base : List Visit) (x : Visit) (r : Result (Unit {0}) Visit) → j < length vs → t.used < length t.memory.now →
    x ≡ get_or vs j (visit 0 0 0 0) → Lays t.memory.now t.used x r t'.memory.now t'.used → to_come t ≡ drop (j + 1) vs ++ base →
    (t'.used ≡ t.used + 1) × SameSize t t' × (to_come t' ≡ drop j vs ++ base)
put_more t t' j vs base x (Ok u) h f q l e = (
  l.1,
  ap length l.2 ∙ length-set t.memory.now t.used x,
  put_next (take t.used t.memory.now) (take t'.used t'.memory.now) x l.3 ∙ ap (λ ys. x ∷ ys) e ∙ (λ i. q i ∷ drop (j + 1) vs ++ base)
      ∙ ap (λ ys. ys ++ base) (sym (drop_more vs j (visit 0 0 0 0) h)),
)
put_more t t' j vs base x (Err y) h f q l e = absurd (omega (arith, l.0))

-- the tray at the loop's start
pub put_none : (n : ℕ) (vs base : List Visit) → length vs ≡ n → base ≡ drop n vs ++ base
put_none n vs base h = ap (λ ys. ys ++ base) (sym (drop_all n vs (omega arith)))
