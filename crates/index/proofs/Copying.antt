-- A call that copies a path is a step: what is left to show of it is said once for lodge and withdraw.
use Rattle.std.proofs.Common.{◌≡◌, ◌≢◌, ℕ, ◌≤◌, List, length, Ok, Err, Result, ◌∙◌, subst, arith}
use Rattle.std.proofs.ByRecursion.{All-weaker}
use Rattle.std.specs.List.{AllByRecursion}
use Rattle.pages.specs.Image.{Image, at}
use Rattle.orders.specs.Orders.{Order}
use Rattle.tree.specs.Tree.{Absent}
use Rattle.tree.specs.CopyMoves.{State as TreeState}
use Rattle.tree.specs.CopyLaws.{Kept as TreeKept}
use Rattle.faults.specs.Accesses.{contents}
use Rattle.faults.specs.declared.fault.Fault.{Fault}
use Rattle.paths.specs.declared.copied.Copied.{Copied}
use Rattle.index.specs.Model.{Call, Answer, State, Known, state, limit, refusal, told}
use Rattle.index.specs.Model.Known.{knows}
use Rattle.index.specs.Keeping.{Content, Filed, Holds, top}
use Rattle.index.specs.Keeping.Content.{filed}
use Rattle.index.specs.Changes.{Changes, tree_state}
use Rattle.index.specs.Head.{WritesHead}
use Rattle.index.specs.Steps.{Step, Does}
use Rattle.index.proofs.Changed.{MadeCopy, ended, not_copied}
use Rattle.index.proofs.Settling.{After, head_size}
use Rattle.index.proofs.Tallying.{open_steps}

-- page 1 is none of the pages from 2 on
pub above_one : (l : ℕ) (xs : List ℕ) → AllByRecursion (λ p. (2 ≤ p) × (p ≤ l)) xs → Absent 1 xs
above_one l xs all = All-weaker (λ (p : ℕ). (2 ≤ p) × (p ≤ l)) (λ (p : ℕ). p ≢ 1) (λ p a e. omega (arith, a.0)) xs all

-- `Copy f` is what the path copy is of the tree f on file, `next f` the tree after it and `total f` its events; the rule is the call's.
module _ (o : Order) (m : Image) (h r t : ℕ) (free : List ℕ) (call : Call)
    (Copy : Filed → Result Copied Fault → Image → Type 0) (next : Filed → TreeState) (total : Filed → ℕ)
    (rule : (f : Filed) → Holds o (state m (knows h r t free)) f → (a : Answer) (u : State) (v : Content) →
    Changes o (state m (knows h r t free)) f (Copy f) (next f) (total f) a u v → Does o (filed f) (state m (knows h r t free)) a u v call) where
  -- refused before or during the copy: the old tree is kept, and page 1 is as it was
  pub refused_step : (fault : Fault) (m' : Image) → length m'.pages ≡ length m.pages →
      ((f : Filed) → Holds o (state m (knows h r t free)) f → Copy f (Err fault) m' × (at m' 1 ≡ at m 1) × TreeKept (contents m') (limit m) f.total (top o) (tree_state f free)) →
      Step o (state m (knows h r t free)) (refusal fault) (state m' (knows h r t free)) call
  refused_step fault m' size facts =
      open_steps o m m' h r t free (refusal fault) (knows h r t free) call size (λ f holds.
      let known = facts f holds in
      not_copied o m (knows h r t free) f free holds (next f) (total f) call (Copy f) (rule f holds) fault m' known.0 known.1 size known.2)

  -- copied, and the header written or not
  pub copied_step : (g : Copied) (m' m'' : Image) (sum : ℕ) (res : Result (Unit {0}) Fault) (k' : Known) → length m'.pages ≡ length m.pages →
      ((f : Filed) → Holds o (state m (knows h r t free)) f → Copy f (Ok g) m' × MadeCopy o m f free (next f) (total f) g m' × (sum ≡ total f)) →
      WritesHead o m' g.root.level g.root.page sum res m'' → After res free (knows h r t free) g sum k' → Step o (state m (knows h r t free)) (told res) (state m'' k') call
  copied_step g m' m'' sum res k' size facts head after =
      open_steps o m m'' h r t free (told res) k' call (head_size o m' m'' g.root.level g.root.page sum res head ∙ size) (λ f holds.
      let known = facts f holds in
      ended o m (knows h r t free) f free holds (next f) (total f) call (Copy f) (rule f holds) g m' m'' res k' known.1 known.0
      (subst (λ (n : ℕ). WritesHead o m' g.root.level g.root.page n res m'') known.2 head)
      (subst (λ (n : ℕ). After res free (knows h r t free) g n k') known.2 after))
