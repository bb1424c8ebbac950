-- Withdraw is a step.
use Rattle.std.proofs.Common.{◌≡◌, ℕ, ◌-◌, ◌≤◌, true, false, cond, eqb, List, [], Ok, Err, Result, sym, refl, ap, ◌∙◌, subst, arith}
use Rattle.pages.specs.Image.{Image, at}
use Rattle.orders.specs.Orders.{Order}
use Rattle.tree.specs.Tree.{Node, Held}
use Rattle.tree.specs.Tree.Held.{none, held}
use Rattle.tree.specs.CopyMoves.{withdraw_step}
use Rattle.tree.specs.CopyLaws.{Kept as TreeKept, height_withdrawn, page_drops}
use Rattle.tree.proofs.CopyKept.{withdraw_law, greatest_law, range_law}
use Rattle.tree.proofs.CopyFinding.{height_law}
use Rattle.faults.specs.Accesses.{contents}
use Rattle.faults.specs.declared.fault.Fault.{Fault}
use Rattle.paths.specs.declared.copied.Copied.{Copied}
use Rattle.paths.specs.PathsCopies.{LeavesAlone}
use Rattle.paths.specs.WithdrawRules.{Withdraws, WithdrawIs}
use Rattle.paths.proofs.PathsMemory.{kept_after}
use Rattle.paths.proofs.PathsCopying.{append_none}
use Rattle.paths.proofs.WithdrawKept.{withdraw_keeps, withdraw_keeps_old, withdraw_frees}
use Rattle.index.specs.Model.{Answer, State, Known, state, limit, refusal, told}
use Rattle.index.specs.Model.Known.{knows}
use Rattle.index.specs.Model.Call.{withdraws}
use Rattle.index.specs.Keeping.{Content, Filed, Holds, top}
use Rattle.index.specs.Keeping.Content.{filed}
use Rattle.index.specs.Changes.{Changes, tree_state}
use Rattle.index.specs.Steps.{Step, Does}
use Rattle.index.specs.Steps.Does.{withdrawn}
use Rattle.index.proofs.Changing.{knows_file, tree_kept}
use Rattle.index.proofs.Changed.{MadeCopy}
use Rattle.index.proofs.Copying.{above_one, refused_step, copied_step}
use Rattle.index.specs.Located.{Inside}
use Rattle.index.specs.Head.{WritesHead}
use Rattle.index.proofs.Settling.{After}
use Rattle.index.proofs.Tallying.{open_file}

lower : (t : Held Node) (h a : ℕ) → height_withdrawn t h a ≤ h
lower none h a = omega arith
lower (held n) h a = elim (eqb (page_drops n a) 1) as (λ b. cond b 0 h ≤ h) [ true ↦ omega arith | false ↦ omega arith ]

module _ (o : Order) (m : Image) (h r t : ℕ) (free : List ℕ) (f : Filed) (holds : Holds o (state m (knows h r t free)) f) where
  kept_tree : TreeKept (contents m) (limit m) f.total (top o) (tree_state f free)
  kept_tree = tree_kept o m h r t free f holds

  page_one : (m' : Image) → LeavesAlone m free m' → at m' 1 ≡ at m 1
  page_one m' alone = alone.others 1 (omega arith) (above_one (limit m) free (range_law (contents m) (limit m) f.total (top o) (tree_state f free) kept_tree).1)

  made_withdrawal : (a : ℕ) (g : Copied) (m' : Image) → Withdraws m (tree_state f free) a (Ok g) m' → LeavesAlone m free m' →
      MadeCopy o m f free (withdraw_step (tree_state f free) a).next (f.total - 1) g m'
  made_withdrawal a g m' w alone =
      let st = tree_state f free in
      let copies = (withdraw_law (contents m) (limit m) f.total (top o) st a kept_tree holds.low w.event).2 in
      record {
        root = w.root;
        height = w.height;
        freed = withdraw_frees m m' (limit m) f.total (top o) st a g kept_tree holds.low w;
        kept = withdraw_keeps m m' (limit m) f.total (top o) st a g kept_tree holds.low w;
        old = kept_after (withdraw_step st a).writes m m' f.height (limit m) f.total (top o) st w.wrote
            (copies.old (withdraw_step st a).writes [] (append_none (withdraw_step st a).writes));
        page = page_one m' alone;
        size = alone.size;
        low = omega (arith, (height_law st a).1, lower f.tree f.height a, holds.low);
        counts = (greatest_law (contents m) (limit m) f.total (top o) st a 65535 kept_tree holds.counts).1;
      }

module _ (o : Order) (m m' : Image) (h r t : ℕ) (free x : List ℕ) (a : ℕ) (at : Inside o x a) where
  rule : (f : Filed) → Holds o (state m (knows h r t free)) f → (ans : Answer) (u : State) (v : Content) →
      Changes o (state m (knows h r t free)) f (Withdraws m (tree_state f free) (o.address x)) (withdraw_step (tree_state f free) (o.address x)).next (f.total - 1) ans u v →
      Does o (filed f) (state m (knows h r t free)) ans u v (withdraws x)
  rule f holds ans u v changes = withdrawn f free refl (knows_file (limit m) h r t free f holds.agrees) at.inside changes

  -- what the copy is of a tree on file
  of_file : (res : Result Copied Fault) → WithdrawIs m r h a free res m' → (f : Filed) → Holds o (state m (knows h r t free)) f → Withdraws m (tree_state f free) (o.address x) res m'
  of_file res is f holds =
      let low : h ≤ 6 = subst (λ (n : ℕ). n ≤ 6) (sym holds.agrees.0) holds.low in
      subst (λ (y : ℕ). Withdraws m (tree_state f free) y res m') at.address (is.kept (limit m) f.total (top o) (tree_state f free) (open_file o m h r t free f holds) refl low)

  pub withdraw_refused : (fault : Fault) → WithdrawIs m r h a free (Err fault) m' → Step o (state m (knows h r t free)) (refusal fault) (state m' (knows h r t free)) (withdraws x)
  withdraw_refused fault is =
      refused_step o m h r t free (withdraws x) (λ f. Withdraws m (tree_state f free) (o.address x)) (λ f. (withdraw_step (tree_state f free) (o.address x)).next) (λ f. f.total - 1) rule
      fault m' is.alone.size (λ f holds.
      let w = of_file (Err fault) is f holds in (
        w,
        page_one o m h r t free f holds m' is.alone,
        withdraw_keeps_old m m' (limit m) f.total (top o) (tree_state f free) (o.address x) fault (kept_tree o m h r t free f holds) holds.low w,
      ))

  pub withdraw_copied : (g : Copied) (m'' : Image) (sum : ℕ) (res : Result (Unit {0}) Fault) (k' : Known) → WithdrawIs m r h a free (Ok g) m' → sum ≡ t - 1 →
      WritesHead o m' g.root.level g.root.page sum res m'' → After res free (knows h r t free) g sum k' →
      Step o (state m (knows h r t free)) (told res) (state m'' k') (withdraws x)
  withdraw_copied g m'' sum res k' is es head after =
      copied_step o m h r t free (withdraws x) (λ f. Withdraws m (tree_state f free) (o.address x)) (λ f. (withdraw_step (tree_state f free) (o.address x)).next) (λ f. f.total - 1) rule
      g m' m'' sum res k' is.alone.size (λ f holds.
      let w = of_file (Ok g) is f holds in
      (w, made_withdrawal o m h r t free f holds (o.address x) g m' w is.alone, es ∙ ap (λ (n : ℕ). n - 1) holds.agrees.2))
      head after
