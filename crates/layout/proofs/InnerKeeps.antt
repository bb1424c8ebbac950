-- The edits of an inner page keep rule E.
use Rattle.std.proofs.Common.{◌≡◌, ℕ, zero, suc, ◌<◌, ◌≤◌, false, cond, leb, List, [], ◌∷◌, length, get_or, take, drop, set, refl, ap, ◌∙◌, inl, inr, arith}
use Rattle.std.proofs.lemmas.Bool.{cond_both, cond-true, cond-false, leb-true, leb-false, cases_Bool}
use Rattle.layout.specs.declared.entry.Entry.{Entry}
use Rattle.layout.specs.Content.{InnerKeys}
use Rattle.layout.specs.Edits.{Split, one, two, entry, ended, before, child_for, child_start, child_end, put_child, drop_child_lem}
use Rattle.layout.specs.EditLaws.{InnerLaw}

weaken : (s t end : ℕ) (es : List Entry) → t ≤ s → InnerKeys s end es → InnerKeys t end es
weaken s t end [] h k = k
weaken s t end (e ∷ []) h k = k
weaken s t end (e ∷ (d ∷ es)) h k = (omega (arith, k.0), k.1, k.2)

-- one entry more in front
ahead : (s end : ℕ) (e : Entry) (es : List Entry) → s ≤ e.key → e.key < end → InnerKeys (suc e.key) end es → InnerKeys s end (e ∷ es)
ahead s end e [] a b k = absurd k
ahead s end e (d ∷ es) a b k = (a, b, k)

-- the region of the child for an address
region : (a s end : ℕ) (es : List Entry) → InnerKeys s end es → s ≤ a → a ≤ end
    → (s ≤ child_start es a s) × (child_start es a s ≤ a) × (a ≤ child_end es a end) × (child_end es a end ≤ end)
region a s end [] k l h = absurd k
region a s end (e ∷ []) k l h = (omega arith, l, h, omega arith)
region a s end (e ∷ (d ∷ es)) k l h =
    let b = k.0 in
    let c = k.1 in
    elim (cases_Bool (leb a e.key)) [
      | inl t ↦ (let u = leb-true a e.key t in rw t (omega arith, l, u, omega arith))
      | inr t ↦ (let u = leb-false a e.key t in let r = region a (suc e.key) end (d ∷ es) k.2 (omega arith) h in let f = r.0 in rw t (omega arith, r.1, r.2, r.3))
    ]

puts_one : (a v s end : ℕ) (es : List Entry) → InnerKeys s end es → InnerKeys s end (put_child es a (one v))
puts_one a v s end [] k = absurd k
puts_one a v s end (e ∷ []) k = refl
puts_one a v s end (e ∷ (d ∷ es)) k =
    cond_both (leb a e.key) _ _ (InnerKeys s end) (λ t. (k.0, k.1, k.2)) (λ t. ahead s end e (put_child (d ∷ es) a (one v)) k.0 k.1 (puts_one a v (suc e.key) end (d ∷ es) k.2))

puts_two : (a v j w s end : ℕ) (es : List Entry) → InnerKeys s end es → child_start es a s ≤ j → j < child_end es a end → InnerKeys s end (put_child es a (two v j w))
puts_two a v j w s end [] k l h = absurd k
puts_two a v j w s end (e ∷ []) k l h = (l, h, refl)
puts_two a v j w s end (e ∷ (d ∷ es)) k l h =
    let b = k.0 in
    let c = k.1 in
    elim (cases_Bool (leb a e.key)) [
      | inl t ↦ (let m : s ≤ j = rw t at l in let n : j < e.key = rw t at h in rw t (m, omega arith, (omega arith, c, k.2)))
      | inr t ↦ (let m : child_start (d ∷ es) a (suc e.key) ≤ j = rw t at l in let n : j < child_end (d ∷ es) a end = rw t at h in
          rw t (ahead s end e (put_child (d ∷ es) a (two v j w)) b c (puts_two a v j w (suc e.key) end (d ∷ es) k.2 m n)))
    ]

-- a page keeps some child, so the address goes on past a key that is below it
put_some : (e : Entry) (es : List Entry) (a : ℕ) (s : Split ℕ) → 1 ≤ length (put_child (e ∷ es) a s)
put_some e [] a (one v) = omega arith
put_some e [] a (two v j w) = omega arith
put_some e (d ∷ es) a (one v) = cond_both (leb a e.key) _ _ (λ xs. 1 ≤ length xs) (λ t. omega arith) (λ t. omega arith)
put_some e (d ∷ es) a (two v j w) = cond_both (leb a e.key) _ _ (λ xs. 1 ≤ length xs) (λ t. omega arith) (λ t. omega arith)

goes_on : (e : Entry) (es : List Entry) (a : ℕ) → leb a e.key ≡ false → 1 ≤ length es → child_for (e ∷ es) a ≡ child_for es a
goes_on e [] a t h = absurd (omega arith)
goes_on e (d ∷ es) a t h = cond-false (leb a e.key) _ _ t

picks_one : (a v s end : ℕ) (es : List Entry) → InnerKeys s end es → child_for (put_child es a (one v)) a ≡ v
picks_one a v s end [] k = absurd k
picks_one a v s end (e ∷ []) k = refl
picks_one a v s end (e ∷ (d ∷ es)) k =
    elim (cases_Bool (leb a e.key)) [
      | inl t ↦ ap (λ (x : List Entry). child_for x a) (cond-true (leb a e.key) _ _ t) ∙ cond-true (leb a e.key) _ _ t
      | inr t ↦ ap (λ (x : List Entry). child_for x a) (cond-false (leb a e.key) _ _ t) ∙ goes_on e (put_child (d ∷ es) a (one v)) a t (put_some d es a (one v)) ∙ picks_one a v (suc e.key) end (d ∷ es) k.2
    ]

picks_two : (a v j w s end : ℕ) (es : List Entry) → InnerKeys s end es → child_for (put_child es a (two v j w)) a ≡ cond (leb a j) v w
picks_two a v j w s end [] k = absurd k
picks_two a v j w s end (e ∷ []) k = refl
picks_two a v j w s end (e ∷ (d ∷ es)) k =
    elim (cases_Bool (leb a e.key)) [
      | inl t ↦ ap (λ (x : List Entry). child_for x a) (cond-true (leb a e.key) _ _ t) ∙ ap (λ (x : ℕ). cond (leb a j) v x) (cond-true (leb a e.key) _ _ t)
      | inr t ↦ ap (λ (x : List Entry). child_for x a) (cond-false (leb a e.key) _ _ t) ∙ goes_on e (put_child (d ∷ es) a (two v j w)) a t (put_some d es a (two v j w)) ∙ picks_two a v j w (suc e.key) end (d ∷ es) k.2
    ]

-- an entry before what is left
before_keeps : (s end : ℕ) (e : Entry) (es : List Entry) → s ≤ e.key → e.key < end → (1 ≤ length es → InnerKeys (suc e.key) end es) → InnerKeys s end (before e es)
before_keeps s end e [] a b k = refl
before_keeps s end e (d ∷ es) a b k = (a, b, k (omega arith))

drops : (a s end : ℕ) (es : List Entry) → InnerKeys s end es → 1 ≤ length (drop_child_lem es a) → InnerKeys s end (drop_child_lem es a)
drops a s end [] k h = absurd k
drops a s end (e ∷ []) k h = absurd (omega arith)
drops a s end (e ∷ (d ∷ es)) k h =
    cond_both (leb a e.key) _ _ (InnerKeys s end) (λ t. weaken (suc e.key) s end (d ∷ es) (omega (arith, k.0)) k.2)
    (λ t. before_keeps s end e (drop_child_lem (d ∷ es) a) k.0 k.1 (drops a (suc e.key) end (d ∷ es) k.2))

before_some : (e : Entry) (es : List Entry) → 1 ≤ length (before e es)
before_some e [] = omega arith
before_some e (d ∷ es) = omega arith

some_left : (a : ℕ) (es : List Entry) → 2 ≤ length es → 1 ≤ length (drop_child_lem es a)
some_left a [] h = absurd (omega arith)
some_left a (e ∷ []) h = absurd (omega arith)
some_left a (e ∷ (d ∷ es)) h = cond_both (leb a e.key) _ _ (λ xs. 1 ≤ length xs) (λ t. omega arith) (λ t. before_some e (drop_child_lem (d ∷ es) a))

-- a cut behind the place n, where something is left behind it
abbrev at : List Entry → ℕ → Entry
at es i = get_or es i (entry 0 0)

cuts : (s end n : ℕ) (es : List Entry) → InnerKeys s end es → suc n < length es
    → (s ≤ (at es n).key) × ((at es n).key < end) × InnerKeys s (at es n).key (set (take (suc n) es) n (ended (at es n))) × InnerKeys (suc (at es n).key) end (drop (suc n) es)
cuts s end n [] k h = absurd k
cuts s end n (e ∷ []) k h = absurd (omega arith)
cuts s end zero (e ∷ (d ∷ es)) k h = (k.0, k.1, refl, k.2)
cuts s end (suc n) (e ∷ (d ∷ es)) k h =
    let r = cuts (suc e.key) end n (d ∷ es) k.2 (omega arith) in
    let a = r.0 in
    (omega (arith, k.0), r.1, ahead s (at (d ∷ es) n).key e (set (take (suc n) (d ∷ es)) n (ended (at (d ∷ es) n))) k.0 (omega arith) r.2, r.3)

pub inner_law : InnerLaw
inner_law s end es k = record {
  region = λ a l h. region a s end es k l h;
  puts_one = λ a v. puts_one a v s end es k;
  puts_two = λ a v j w l h. puts_two a v j w s end es k l h;
  picks_one = λ a v. picks_one a v s end es k;
  picks_two = λ a v j w. picks_two a v j w s end es k;
  drops = λ a h. drops a s end es k (some_left a es h);
  splits = λ h. cuts s end 5 es k h;
}
