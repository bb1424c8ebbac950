-- The events of a box in the leaves are exactly the points of the box that hold events, with what they hold.
use Rattle.std.proofs.Common.{◌≡◌, ℕ, suc, ◌+◌, ◌<◌, ◌≤◌, Bool, true, false, cond, List, [], ◌∷◌, map, filter, sym, refl, ap, ◌∙◌, subst, arith}
use Rattle.std.specs.List.{ContainsAt as Has, AllByRecursion}
use Rattle.std.proofs.ByRecursion.{All-weaker, All-map, all-has, all_kept_by, kept_by_passes, has_push, has_append_left, has_append_right}
use Rattle.layout.specs.declared.entry.Entry.{Entry}
use Rattle.layout.specs.Content.{LeafKeys}
use Rattle.orders.specs.Orders.{Order, Lawful, InSpaceOf}
use Rattle.orders.specs.Spaces.{Within}
use Rattle.tree.specs.Tree.{count_at}
use Rattle.tree.proofs.CopyBase.{by_eq}
use Rattle.tree.proofs.CopyEntries.{count_below}
use Rattle.searches.specs.declared.find.Find.{Find}
use Rattle.searches.specs.Inside.{inside}
use Rattle.searches.specs.Finds.{find_of}
use Rattle.searches.proofs.Insides.{inside_decides}
use Rattle.index.specs.Keeping.{top}
use Rattle.index.specs.Histories.{History, held as holds_after}
use Rattle.index.specs.Law.{Right, Rising, Exactly}

has_here : {X : Type 0} (x : X) (xs : List X) → Has (x ∷ xs) x
has_here x xs = has_append_left (x ∷ []) xs x (has_push [] x)

has_there : {X : Type 0} (y x : X) (xs : List X) → Has xs x → Has (y ∷ xs) x
has_there y x xs h = has_append_right (y ∷ []) xs x h

all_both : {X : Type 0} (P Q : X → Type 0) (xs : List X) → AllByRecursion P xs → AllByRecursion Q xs → AllByRecursion (λ x. P x × Q x) xs
all_both P Q [] a b = tt
all_both P Q (x ∷ xs) a b = ((a.0, b.0), all_both P Q xs a.1 b.1)

-- 1. entries with rising keys

abbrev KeptByRules : ℕ → ℕ → Entry → Type 0
KeptByRules lo hi e = (lo ≤ e.key) × (e.key ≤ hi) × (1 ≤ e.value)

ruled : (lo hi : ℕ) (es : List Entry) → LeafKeys lo hi es → AllByRecursion (KeptByRules lo hi) es
ruled lo hi [] k = tt
ruled lo hi (e ∷ es) k =
    ((k.0, k.1, k.2), All-weaker (KeptByRules (suc e.key) hi) (KeptByRules lo hi) (λ x h. (omega (arith, h.0, k.0), h.1, h.2)) es (ruled (suc e.key) hi es k.3))

-- each entry's count is the one that its key has
counted_there : (e : Entry) (hi : ℕ) (es xs : List Entry) → AllByRecursion (KeptByRules (suc e.key) hi) xs → AllByRecursion (λ x. count_at es x.key ≡ x.value) xs → AllByRecursion (λ x. count_at (e ∷ es) x.key ≡ x.value) xs
counted_there e hi es [] a b = tt
counted_there e hi es (x ∷ xs) a b = (
  by_eq (λ (n : ℕ). n + count_at es x.key ≡ x.value) e.key x.key e.value 0 (λ q. absurd (omega (arith, a.0.0))) (λ ne. omega (arith, b.0)),
  counted_there e hi es xs a.1 b.1,
)

counted : (lo hi : ℕ) (es : List Entry) → LeafKeys lo hi es → AllByRecursion (λ x. count_at es x.key ≡ x.value) es
counted lo hi [] k = tt
counted lo hi (e ∷ es) k =
    let none : count_at es e.key ≡ 0 = count_below e.key (suc e.key) hi es (omega arith) k.3 in (
      by_eq (λ (n : ℕ). n + count_at es e.key ≡ e.value) e.key e.key e.value 0 (λ q. omega arith) (λ ne. absurd (ne refl)),
      counted_there e hi es es (ruled (suc e.key) hi es k.3) (counted (suc e.key) hi es k.3),
    )

module _ (o : Order) (law : Lawful o) (h : History) (lo hi : List ℕ) where
  abbrev test : Entry → Bool
  test e = inside o lo hi e.key

  abbrev box : List Entry → List Find
  box es = map (find_of o) (filter test es)

  -- 2. they rise
  rises : (low high : ℕ) (es : List Entry) → LeafKeys low high es → Rising (box es) × AllByRecursion (λ y. low ≤ y.address) (box es)
  rises low high [] k = (tt, tt)
  rises low high (e ∷ es) k = go (test e) (rises (suc e.key) high es k.3)
    where
      go : (b : Bool) → Rising (box es) × AllByRecursion (λ y. suc e.key ≤ y.address) (box es) →
          Rising (map (find_of o) (cond b (e ∷ filter test es) (filter test es))) × AllByRecursion (λ y. low ≤ y.address) (map (find_of o) (cond b (e ∷ filter test es) (filter test es)))
      go true r = (
        (All-weaker (λ y. suc e.key ≤ y.address) (λ y. e.key < y.address) (λ y l. omega arith) (box es) r.1, r.0),
        (k.0, All-weaker (λ y. suc e.key ≤ y.address) (λ y. low ≤ y.address) (λ y l. omega (arith, k.0)) (box es) r.1),
      )
      go false r = (r.0, All-weaker (λ y. suc e.key ≤ y.address) (λ y. low ≤ y.address) (λ y l. omega (arith, k.0)) (box es) r.1)

  -- 3. one for each address of the box that has a count
  abbrev FoundAt : ℕ → List Find → Type 0
  FoundAt a xs = (y : Find) × Has xs y × (y.address ≡ a)

  found_here : (e : Entry) (es : List Entry) (a : ℕ) (b : Bool) → b ≡ true → e.key ≡ a → FoundAt a (map (find_of o) (cond b (e ∷ filter test es) (filter test es)))
  found_here e es a true f q = (find_of o e, has_here (find_of o e) (box es), q)
  found_here e es a false f q = absurd cc

  found_there : (e : Entry) (es : List Entry) (a : ℕ) (b : Bool) → FoundAt a (box es) → FoundAt a (map (find_of o) (cond b (e ∷ filter test es) (filter test es)))
  found_there e es a true r = (r.0, has_there (find_of o e) r.0 (box es) r.1, r.2)
  found_there e es a false r = r

  found_at : (es : List Entry) (a : ℕ) → inside o lo hi a ≡ true → 1 ≤ count_at es a → FoundAt a (box es)
  found_at [] a t some = absurd (omega arith)
  found_at (e ∷ es) a t some =
      by_eq (λ (n : ℕ). 1 ≤ n + count_at es a → FoundAt a (box (e ∷ es))) e.key a e.value 0
      (λ q s. found_here e es a (test e) (ap (inside o lo hi) q ∙ t) q)
      (λ ne s. found_there e es a (test e) (found_at es a t (omega arith))) some

  module _ (es : List Entry) (keys : LeafKeys 0 (top o) es) (counts : (x : List ℕ) → InSpaceOf o x → count_at es (o.address x) ≡ holds_after h x) where
    -- 4. each is right
    right_one : (e : Entry) → inside o lo hi e.key ≡ true → 1 ≤ e.value → count_at es e.key ≡ e.value → Right o h lo hi (find_of o e)
    right_one e t some c =
        let b = (inside_decides o lo hi e.key).0 t in
        let back = law.back e.key b.0 in
        record {
          in_space = back.0;
          in_box = b.1;
          address = sym back.1;
          count = sym c ∙ ap (count_at es) (sym back.1) ∙ counts (o.point e.key) back.0;
          some = some;
        }

    all_right : AllByRecursion (Right o h lo hi) (box es)
    all_right =
        All-map (Right o h lo hi) (find_of o) (filter test es)
        (All-weaker (λ e. (test e ≡ true) × (KeptByRules 0 (top o) e × (count_at es e.key ≡ e.value))) (λ e. Right o h lo hi (find_of o e)) (λ e f. right_one e f.0 f.1.0.2 f.1.1) (filter test es)
        (all_both (λ e. test e ≡ true) (λ e. KeptByRules 0 (top o) e × (count_at es e.key ≡ e.value)) (filter test es) (kept_by_passes test es)
        (all_kept_by test (λ e. KeptByRules 0 (top o) e × (count_at es e.key ≡ e.value)) es
        (all_both (KeptByRules 0 (top o)) (λ e. count_at es e.key ≡ e.value) es (ruled 0 (top o) es keys) (counted 0 (top o) es keys)))))

    every_one : (x : List ℕ) → InSpaceOf o x → Within lo hi x → 0 < holds_after h x → (y : Find) × Has (box es) y × (y.point.coords ≡ x)
    every_one x ix wx some =
        let there = law.there x ix in
        let is-inside : inside o lo hi (o.address x) ≡ true = (inside_decides o lo hi (o.address x)).1 (there.0, subst (λ (y : List ℕ). Within lo hi y) (sym there.1) wx) in
        let r = found_at es (o.address x) is-inside (omega (arith, counts x ix)) in
        let right = all-has (Right o h lo hi) (box es) r.0 all_right r.1 in
        (r.0, r.1, sym (law.there r.0.point.coords right.in_space).1 ∙ ap o.point (sym right.address ∙ r.2) ∙ there.1)

    pub exactly : Exactly o h lo hi (box es)
    exactly = record { rising = (rises 0 (top o) es keys).0; right = all_right; every = every_one }
