-- The walk with a charge and room comes to the run of the walk's steps. This needs no order of the tree.
use Rattle.std.proofs.Common.{◌≡◌, ℕ, zero, suc, ◌-◌, ◌<◌, ◌≤◌, Bool, true, false, cond, leb, List, [], ◌++◌, length, Some, None, Option, sym, refl, ap, ◌∙◌, subst, arith, le-leb}
use borrow.Author.Tests.{lt-leb}
use Rattle.layout.specs.declared.entry.Entry.{Entry}
use Rattle.tree.specs.Tree.{Node, Forest}
use Rattle.tree.specs.Tree.Node.{leaf, inner}
use Rattle.tree.specs.Tree.Forest.{last, more}
use Rattle.tree.specs.SearchSteps.{find_steps}
use Rattle.tree.specs.SearchRuns.{Ending, Outcome, outcome, run, add_read, after, and_then}
use Rattle.tree.specs.SearchRuns.Ending.{done, cut}
use Rattle.tree.specs.SearchWalks.{Walked, walk, walk_in, enter, entered, passed, joined}
use Rattle.tree.specs.SearchLimits.{Limited, Agrees, charged, reach, after_leaf, continue, limited, limited_in}
use Rattle.tree.specs.SearchCodeLaws.{PassLaw, UnpaidLaw, LeafLaw, InnerLaw}
use Rattle.tree.proofs.SearchRunning.{append_law}

-- a page that is passed by, cannot be read, or is read
enter_pass : (page hi : ℕ) (w : Walked) (charge room : ℕ) (next : Option ℕ) → ((a : ℕ) → next ≡ Some a → hi < a) →
    Agrees (outcome [] done 0) next (enter page hi next w) charge room
enter_pass page hi w charge room None h = record { outcome_is = refl; next_is = λ e. refl }
enter_pass page hi w charge room (Some a) h = rw (lt-leb a hi (h a refl)) (record { outcome_is = refl; next_is = λ e. refl })

enter_cut : (page hi a : ℕ) (w : Walked) (next : Option ℕ) (room : ℕ) → a ≤ hi → Agrees (outcome [] (cut page a) 0) next (enter page hi (Some a) w) 0 room
enter_cut page hi a w next room h = rw (le-leb a hi h) (record {
  outcome_is = refl;
  next_is = λ e. let z : ◌≡◌ {A = ℕ} 0 1 = cc in absurd (omega arith);
})

enter_read : (page hi a : ℕ) (w : Walked) (o : Outcome) (next : Option ℕ) (charge room : ℕ) → a ≤ hi → Agrees o next w charge room →
    Agrees (add_read o) next (enter page hi (Some a) w) (suc charge) room
enter_read page hi a w o next charge room h g = rw (le-leb a hi h) (record { outcome_is = ap add_read g.outcome_is; next_is = g.next_is })

pub pass_law : PassLaw
pass_law ask P (leaf page es) hi next charge room h = enter_pass page hi _ charge room next h
pass_law ask P (inner page ks) hi next charge room h = enter_pass page hi _ charge room next h

pub unpaid_law : UnpaidLaw
unpaid_law ask P (leaf page es) hi a next room h = enter_cut page hi a _ next room h
unpaid_law ask P (inner page ks) hi a next room h = enter_cut page hi a _ next room h

pub leaf_law : LeafLaw
leaf_law ask P page es hi a next charge less room h paid asked =
    rw paid (enter_read page hi a _ (run (find_steps P es) less room) next less room h (record { outcome_is = refl; next_is = asked }))

pub inner_law : InnerLaw
inner_law ask P page f hi a o next charge less room h paid g = rw paid (enter_read page hi a (walk_in ask P f hi (Some a)) o next less room h g)

-- one walk and another behind it, which is begun only where the first ended done
module _ (o p : Outcome) (after-o after-p : Option ℕ) (w : Walked) (rest : Option ℕ → Walked) (charge room : ℕ) (h : Agrees o after-o w charge room) where
  -- by `ap` and not by `rw`, which would put the ending into `o` itself, too
  then_out : (e : Ending) → o.ending ≡ e → run (w.steps ++ (rest w.next).steps) charge room
      ≡ and_then e o (run (rest w.next).steps (charge - o.reads) (room - length o.found))
  then_out e q = append_law w.steps (rest w.next).steps charge room
      ∙ ap (λ (x : Outcome). and_then x.ending x (run (rest w.next).steps (charge - x.reads) (room - length x.found))) (sym h.outcome_is)
      ∙ ap (λ (x : Ending). and_then x o (run (rest w.next).steps (charge - o.reads) (room - length o.found))) q

  pub done_then : o.ending ≡ done → Agrees p after-p (rest after-o) (charge - o.reads) (room - length o.found) → Agrees (after o p) after-p (joined w (rest w.next)) charge room
  done_then e behind =
      let b = subst (λ (nx : Option ℕ). Agrees p after-p (rest nx) (charge - o.reads) (room - length o.found)) (h.next_is e) behind in
      record { outcome_is = ap (after o) b.outcome_is ∙ sym (then_out done e); next_is = b.next_is }

  pub stopped_then : (o.ending ≡ done → ⊥) → Agrees o after-o (joined w (rest w.next)) charge room
  stopped_then stopped = go o.ending refl
    where
      go : (e : Ending) → o.ending ≡ e → Agrees o after-o (joined w (rest w.next)) charge room
      go done e = absurd (stopped e)
      go (Ending.more a) e = record { outcome_is = sym (then_out (Ending.more a) e); next_is = λ q. absurd (stopped q) }
      go (cut page a) e = record { outcome_is = sym (then_out (cut page a) e); next_is = λ q. absurd (stopped q) }

-- the limited walk as a whole
abbrev Keeps : Limited → Walked → ℕ → ℕ → Type 0
Keeps d w charge room = Agrees d.out d.next w charge room

continue_keeps : (d p : Limited) (w : Walked) (rest : Option ℕ → Walked) (charge room : ℕ) → Keeps d w charge room →
    Keeps p (rest d.next) (charge - d.out.reads) (room - length d.out.found) → (e : Ending) → d.out.ending ≡ e → Keeps (continue e d p) (joined w (rest w.next)) charge room
continue_keeps d p w rest charge room h behind done e = done_then d.out p.out d.next p.next w rest charge room h e behind
continue_keeps d p w rest charge room h behind (Ending.more a) e =
    stopped_then d.out p.out d.next p.next w rest charge room h (λ q. let z : ◌≡◌ {A = ℕ} 0 1 = cc in omega arith)
continue_keeps d p w rest charge room h behind (cut page a) e =
    stopped_then d.out p.out d.next p.next w rest charge room h (λ q. let z : ◌≡◌ {A = ℕ} 0 1 = cc in omega arith)

reach_keeps : (page hi : ℕ) (below : ℕ → Limited) (w : Walked) (charge room : ℕ) → ((c : ℕ) → Keeps (below c) w c room) →
    (next : Option ℕ) → Keeps (reach page hi next charge below) (enter page hi next w) charge room
reach_keeps page hi below w charge room h None = record { outcome_is = refl; next_is = λ e. refl }
reach_keeps page hi below w charge room h (Some a) = go (leb a hi) charge
  where
    go : (t : Bool) (charge : ℕ) → Keeps (cond t (charged page a charge below) (record { out = outcome [] done 0; next = Some a; asks = 0 })) (cond t (entered page a w) (passed (Some a))) charge room
    go true zero = record { outcome_is = refl; next_is = λ e. let z : ◌≡◌ {A = ℕ} 0 1 = cc in absurd (omega arith) }
    go true (suc c) = record { outcome_is = ap add_read (h c).outcome_is; next_is = (h c).next_is }
    go false charge = record { outcome_is = refl; next_is = λ e. refl }

leaf_keeps : (P : ℕ → Bool) (es : List Entry) (next asked : Option ℕ) (charge room : ℕ) (e : Ending) → (run (find_steps P es) charge room).ending ≡ e →
    Keeps (after_leaf e (run (find_steps P es) charge room) next asked) (record { steps = find_steps P es; next = asked; asks = 1 }) charge room
leaf_keeps P es next asked charge room done q = record { outcome_is = refl; next_is = λ e. refl }
leaf_keeps P es next asked charge room (Ending.more a) q = record { outcome_is = refl; next_is = λ e. let z : ◌≡◌ {A = ℕ} 0 1 = cc in absurd (omega arith) }
leaf_keeps P es next asked charge room (cut page a) q = record { outcome_is = refl; next_is = λ e. let z : ◌≡◌ {A = ℕ} 0 1 = cc in absurd (omega arith) }

module _ (ask : ℕ → Option ℕ) (P : ℕ → Bool) where
  mutual
    pub limited_node : (n : Node) (hi : ℕ) (next : Option ℕ) (charge room : ℕ) → Keeps (limited ask P n hi next charge room) (walk ask P n hi next) charge room
    limited_node (leaf page es) hi next charge room =
        reach_keeps page hi (λ c. after_leaf (run (find_steps P es) c room).ending (run (find_steps P es) c room) next (ask (suc hi))) (record { steps = find_steps P es; next = ask (suc hi); asks = 1 }) charge room
        (λ c. leaf_keeps P es next (ask (suc hi)) c room (run (find_steps P es) c room).ending refl) next
    limited_node (inner page ks) hi next charge room =
        reach_keeps page hi (λ c. limited_in ask P ks hi next c room) (walk_in ask P ks hi next) charge room (λ c. limited_forest ks hi next c room) next

    pub limited_forest : (ks : Forest) (hi : ℕ) (next : Option ℕ) (charge room : ℕ) → Keeps (limited_in ask P ks hi next charge room) (walk_in ask P ks hi next) charge room
    limited_forest (last n) hi next charge room = limited_node n hi next charge room
    limited_forest (more n key ks) hi next charge room =
        let d = limited ask P n key next charge room in
        continue_keeps d (limited_in ask P ks hi d.next (charge - d.out.reads) (room - length d.out.found)) (walk ask P n key next) (λ nx. walk_in ask P ks hi nx) charge room
        (limited_node n key next charge room) (limited_forest ks hi d.next (charge - d.out.reads) (room - length d.out.found)) d.out.ending refl
