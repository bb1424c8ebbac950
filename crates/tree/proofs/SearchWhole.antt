-- When a search ends done, and search after search.
use Rattle.std.proofs.Common.{◌≡◌, ℕ, zero, suc, ◌+◌, ◌<◌, ◌≤◌, Bool, true, List, length, Some, sym, refl, ap, ◌∙◌, arith, length-append}
use Rattle.layout.specs.declared.entry.Entry.{Entry}
use Rattle.tree.specs.Tree.{Node, Ordered, Level}
use Rattle.tree.specs.SearchSteps.{Step, search_steps, found_of}
use Rattle.tree.specs.SearchRuns.{Ending, Outcome, stopped_at, unpaid, run, read_count}
use Rattle.tree.specs.SearchRuns.Ending.{done, more, cut}
use Rattle.tree.specs.SearchRounds.{next_round, rounds}
use Rattle.tree.specs.SearchLaws.{ExactLaw, RoundsLaw}
use Rattle.tree.proofs.SearchRunning.{done_law, only_law, more_law}
use Rattle.tree.proofs.SearchCut.{cut_page_law}
use Rattle.tree.proofs.SearchFinds.{finds_law}
use Rattle.tree.proofs.SearchReads.{count_law}
use Rattle.tree.proofs.SearchResume.{resume_law}
use Rattle.tree.proofs.SearchAgain.{again_law}

pub exact_law : ExactLaw
exact_law inside start n lo hi o charge room =
    let found = (finds_law inside start n lo hi o).0 in
    let cost = count_law inside start n lo hi o in
    let len = ap length found in (
      λ h k. ap (λ x. x.ending) (done_law (search_steps inside start n lo hi) charge room (omega arith) (omega arith)),
      λ e. let w = only_law (search_steps inside start n lo hi) charge room e in
          (omega (arith, w.1), omega (arith, w.2), ap (λ x. x.found) w.0 ∙ found, ap (λ x. x.reads) w.0 ∙ cost),
    )

module _ (inside : ℕ → Bool) (n : Node) (lo hi : ℕ) (height : ℕ) (o : Ordered n lo hi) (lv : Level n height) (charge room : ℕ) (way : height ≤ charge) (some : 0 < room) where
  abbrev all_steps : ℕ → List Step
  all_steps s = search_steps inside s n lo hi

  abbrev result : ℕ → Outcome
  result s = run (all_steps s) charge room

  -- what is left from s on
  abbrev left : ℕ → ℕ
  left s = read_count (all_steps s) + length (found_of (all_steps s))

  -- a search that stopped at a leaves less than there was
  falls : (start a : ℕ) (e : Ending) → (result start).ending ≡ e → stopped_at e ≡ Some a → left a < left start
  falls start a done e q = let z : ◌≡◌ {A = ℕ} 0 1 = cc in absurd (omega arith)
  falls start a (more b) e q =
      let s = ap stopped_at e ∙ q in
      let r = resume_law inside start n lo hi o charge room a s in
      let len = sym (length-append (result start).found (found_of (all_steps a))) ∙ ap length r.all in
      omega (arith, r.no_dearer, len, (more_law (all_steps start) charge room b e).0)
  falls start a (cut page b) e q =
      let s = ap stopped_at e ∙ q in
      let r = resume_law inside start n lo hi o charge room a s in
      let len = sym (length-append (result start).found (found_of (all_steps a))) ∙ ap length r.all in
      let again = again_law inside start n lo hi height o lv charge room a s in
      omega (arith, len, again, (cut_page_law inside start n lo hi charge room page b e).0, ap unpaid e)

  ended_at_all : (k start : ℕ) → ((a : ℕ) → stopped_at (result start).ending ≡ Some a → rounds result k a ≡ record { found = found_of (all_steps a); ended = true }) →
      (e : Ending) → (result start).ending ≡ e →
      next_round (result start) (stopped_at e) (λ a. rounds result k a) ≡ record { found = found_of (all_steps start); ended = true }
  ended_at_all k start ih done e =
      ap (λ (xs : List Entry). record { found = xs; ended = true }) (ap (λ x. x.found) (only_law (all_steps start) charge room e).0)
  ended_at_all k start ih (more a) e =
      let s = ap stopped_at e in
      rw (ih a s) (ap (λ (xs : List Entry). record { found = xs; ended = true }) (resume_law inside start n lo hi o charge room a s).all)
  ended_at_all k start ih (cut page a) e =
      let s = ap stopped_at e in
      rw (ih a s) (ap (λ (xs : List Entry). record { found = xs; ended = true }) (resume_law inside start n lo hi o charge room a s).all)

  rounds_end : (k start : ℕ) → left start < k → rounds result k start ≡ record { found = found_of (all_steps start); ended = true }
  rounds_end zero start h = absurd (omega arith)
  rounds_end (suc k) start h =
      ended_at_all k start (λ a s. rounds_end k a (omega (arith, falls start a (result start).ending refl s))) (result start).ending refl

pub rounds_law : RoundsLaw
rounds_law inside n lo hi height o lv charge room way some k start h = rounds_end inside n lo hi height o lv charge room way some k start h
