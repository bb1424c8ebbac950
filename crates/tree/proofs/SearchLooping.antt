-- Loops over a page's children and entries.
use Rattle.std.proofs.Common.{◌≡◌, ℕ, zero, suc, ◌+◌, ◌-◌, ◌<◌, Bool, true, false, cond, List, [], ◌∷◌, ◌++◌, length, get_or, take, drop, Option, sym, refl, ap, ◌∙◌, subst, append_assoc, append-nil, add-zero, add_assoc, zero-add, arith, take-append-drop}
use native.Mathlib.Nat.{sub-zero}
use Rattle.std.proofs.lemmas.List.{take_more, take_all, drop_more}
use Rattle.layout.specs.declared.entry.Entry.{Entry}
use Rattle.tree.specs.Tree.{Forest}
use Rattle.tree.specs.Tree.Forest.{last, more}
use Rattle.tree.specs.SearchSteps.{Step, find_steps}
use Rattle.tree.specs.SearchSteps.Step.{finds}
use Rattle.tree.specs.SearchRuns.{Ending, Outcome, outcome, run, after}
use Rattle.tree.specs.SearchRuns.Ending.{done}
use Rattle.tree.specs.SearchWalks.{Walked, walk, walk_in, passed, joined}
use Rattle.tree.specs.SearchLoops.{Child, children, walk_child, walk_children}
use Rattle.tree.specs.SearchLimits.{Agrees}
use Rattle.tree.specs.SearchCodeLaws.{LoopBeginLaw, LoopTurnLaw, LoopEndLaw, LoopEarlyLaw, EntryLaw}
use Rattle.tree.proofs.SearchRunning.{append_law}
use Rattle.tree.proofs.SearchWalking.{walked_is}
use Rattle.tree.proofs.SearchLimiting.{done_then, stopped_then}

-- walks behind one another, and a walk that does nothing
joined_none : (w : Walked) → joined w (passed w.next) ≡ w
joined_none w = walked_is (append-nil w.steps) refl (add-zero w.asks)

none_joined : (next : Option ℕ) (w : Walked) → joined (passed next) w ≡ w
none_joined next w = walked_is refl refl (zero-add w.asks)

joined_joined : (u v w : Walked) → joined (joined u v) w ≡ joined u (joined v w)
joined_joined u v w = walked_is (append_assoc u.steps v.steps w.steps) refl (add_assoc u.asks v.asks w.asks)

children_law : (ask : ℕ → Option ℕ) (P : ℕ → Bool) (ks : Forest) (hi : ℕ) (next : Option ℕ) → walk_in ask P ks hi next ≡ walk_children ask P (children ks hi) next
children_law ask P (last n) hi next = sym (joined_none (walk ask P n hi next))
children_law ask P (more n key ks) hi next = ap (joined (walk ask P n key next)) (children_law ask P ks hi (walk ask P n key next).next)

children_append : (ask : ℕ → Option ℕ) (P : ℕ → Bool) (xs ys : List Child) (next : Option ℕ) →
    walk_children ask P (xs ++ ys) next ≡ joined (walk_children ask P xs next) (walk_children ask P ys (walk_children ask P xs next).next)
children_append ask P [] ys next = sym (none_joined next (walk_children ask P ys next))
children_append ask P (k ∷ xs) ys next =
    let w = walk_child ask P k next in
    ap (joined w) (children_append ask P xs ys w.next)
    ∙ sym (joined_joined w (walk_children ask P xs w.next) (walk_children ask P ys (walk_children ask P xs w.next).next))

children_turn : (ask : ℕ → Option ℕ) (P : ℕ → Bool) (xs : List Child) (j : ℕ) (d : Child) (next : Option ℕ) → j < length xs →
    walk_children ask P (take (j + 1) xs) next ≡ joined (walk_children ask P (take j xs) next) (walk_child ask P (get_or xs j d) (walk_children ask P (take j xs) next).next)
children_turn ask P xs j d next h =
    let w = walk_children ask P (take j xs) next in
    ap (λ (ks : List Child). walk_children ask P ks next) (take_more xs j d h)
    ∙ children_append ask P (take j xs) (get_or xs j d ∷ []) next
    ∙ ap (joined w) (joined_none (walk_child ask P (get_or xs j d) w.next))

pub loop_begin_law : LoopBeginLaw
loop_begin_law ask P xs next charge room = record { outcome_is = refl; next_is = λ e. refl }

pub loop_turn_law : LoopTurnLaw
loop_turn_law ask P xs j d next charge room o p after-o after-p lt h e behind =
    rw (children_turn ask P xs j d next lt)
    (done_then o p after-o after-p (walk_children ask P (take j xs) next) (λ nx. walk_child ask P (get_or xs j d) nx) charge room h e behind)

pub loop_end_law : LoopEndLaw
loop_end_law ask P f hi j next charge room o after-o le h =
    rw (children_law ask P f hi next) (subst (λ (xs : List Child). Agrees o after-o (walk_children ask P xs next) charge room) (take_all j (children f hi) le) h)

pub loop_early_law : LoopEarlyLaw
loop_early_law ask P f hi j next charge room o after-o stopped h =
    let xs = children f hi in
    let split : walk_in ask P f hi next ≡ joined (walk_children ask P (take j xs) next) (walk_children ask P (drop j xs) (walk_children ask P (take j xs) next).next) =
    children_law ask P f hi next ∙ ap (λ (ks : List Child). walk_children ask P ks next) (sym (take-append-drop j xs)) ∙ children_append ask P (take j xs) (drop j xs) next in
    subst (λ (w : Walked). Agrees o after-o w charge room) (sym split)
    (stopped_then o o after-o after-o (walk_children ask P (take j xs) next) (λ nx. walk_children ask P (drop j xs) nx) charge room h stopped)

-- a leaf's entries
entries_append : (P : ℕ → Bool) (xs ys : List Entry) → find_steps P (xs ++ ys) ≡ find_steps P xs ++ find_steps P ys
entries_append P [] ys = refl
entries_append P (e ∷ xs) ys = go (P e.key) (entries_append P xs ys)
  where
    go : (t : Bool) → find_steps P (xs ++ ys) ≡ find_steps P xs ++ find_steps P ys →
        cond t (finds e ∷ find_steps P (xs ++ ys)) (find_steps P (xs ++ ys)) ≡ cond t (finds e ∷ find_steps P xs) (find_steps P xs) ++ find_steps P ys
    go true h = ap (λ (ss : List Step). finds e ∷ ss) h
    go false h = h

-- the entries before have ended done with these finds, and others are behind
done_before : (P : ℕ → Bool) (xs ys : List Entry) (charge room : ℕ) (found : List Entry) → run (find_steps P xs) charge room ≡ outcome found done 0 →
    run (find_steps P (xs ++ ys)) charge room ≡ after (outcome found done 0) (run (find_steps P ys) charge (room - length found))
done_before P xs ys charge room found e =
    ap (λ (ss : List Step). run ss charge room) (entries_append P xs ys)
    ∙ append_law (find_steps P xs) (find_steps P ys) charge room
    ∙ rw (e, sub-zero charge)

full_find : (x : Entry) (ss : List Step) (charge left : ℕ) → left ≡ 0 → run (finds x ∷ ss) charge left ≡ outcome [] (Ending.more x.key) 0
full_find x ss charge left h = rw h

one_find : (x : Entry) (charge left : ℕ) → 0 < left → run (finds x ∷ []) charge left ≡ outcome (x ∷ []) done 0
one_find x charge zero h = absurd (omega arith)
one_find x charge (suc left) h = refl

pub entry_law : EntryLaw
entry_law P es i d charge room found lt e =
    let x = get_or es i d in
    let left = room - length found in
    let next = ap (λ (xs : List Entry). run (find_steps P xs) charge room) (take_more es i d lt) ∙ done_before P (take i es) (x ∷ []) charge room found e in
    let none : (o : Outcome) → o ≡ after (outcome found done 0) (outcome [] done 0) → o ≡ outcome found done 0 = λ o h. h ∙ ap (λ (xs : List Entry). outcome xs done 0) (append-nil found) in (
      λ out. none (run (find_steps P (take (i + 1) es)) charge room) (next ∙ rw out),
      λ hit fits. next ∙ rw (hit, one_find x charge left (omega arith)),
      λ hit fits.
          ap (λ (xs : List Entry). run (find_steps P xs) charge room) (sym (take-append-drop i es) ∙ ap (λ (xs : List Entry). take i es ++ xs) (drop_more es i d lt))
          ∙ done_before P (take i es) (x ∷ drop (i + 1) es) charge room found e
          ∙ rw (hit, full_find x (find_steps P (drop (i + 1) es)) charge left (omega arith), append-nil found),
    )
