-- A lodge whose questions are all answered yes is accepted, or lacks the charge for its header.
use Rattle.std.proofs.Common.{◌≡◌, ℕ, zero, suc, ◌+◌, ◌-◌, ◌<◌, ◌≤◌, List, [], ◌∷◌, length, Ok, Err, refl, ap, ◌∙◌, subst, arith, length-append}
use Rattle.pages.specs.Image.{Image}
use Rattle.orders.specs.Orders.{Order, InSpaceOf}
use Rattle.tree.specs.Tree.{count_at}
use Rattle.tree.specs.CopyMoves.{State as TreeState, lodge_step}
use Rattle.tree.specs.CopyLaws.{Kept as TreeKept, lodge_takes, events_of}
use Rattle.tree.proofs.CopyKept.{lodge_law}
use Rattle.faults.specs.Accesses.{contents}
use Rattle.faults.specs.declared.fault.Fault.{Fault}
use Rattle.faults.specs.declared.fault.Fault.TheVariants.{Shut, Outside, Work, Absent, Unread, NoHeader, OtherOrder, Unsound, NoEvent, CountFull, HeightFull, Room, Unwritten}
use Rattle.paths.specs.declared.copied.Copied.{Copied}
use Rattle.paths.specs.PathsWrites.{after_reads}
use Rattle.paths.specs.LodgeKept.{Lodges}
use Rattle.paths.proofs.PathsWriting.{stored_charge}
use Rattle.index.specs.Model.{Answer, State, Known, state, limit}
use Rattle.index.specs.Model.Call.{lodges}
use Rattle.index.specs.Model.Answer.{accepted, refused}
use Rattle.index.specs.Keeping.{Content, Filed, Kept, Holds, top}
use Rattle.index.specs.Keeping.Content.{filed}
use Rattle.index.specs.Changes.{Changes, tree_state, file_of, known_of}
use Rattle.index.specs.Changes.Changes.{copy_refused, header_unpaid, changed}
use Rattle.index.specs.Steps.{Step, Does}
use Rattle.index.specs.Steps.Names.{lodging}
use Rattle.index.specs.Steps.Does.{not_open, outside, lodged}

-- the index is open on the tree t with these events and this charge, and keeps it
pub record At (o : Order) (s : State) (t : TreeState) (total charge : ℕ) : Type 0 where
  pub kept : Holds o s (file_of t total)
  pub known : s.known ≡ known_of t total
  pub left : s.image.charge ≡ charge

-- the questions 14, 15 and 16 are answered yes, the address is in range, and the charge carries the reads and the pages
pub record Yes (o : Order) (t : TreeState) (charge : ℕ) (x : List ℕ) : Type 0 where
  pub inside : InSpaceOf o x
  pub in_range : o.address x ≤ top o
  pub count : count_at (events_of t.tree) (o.address x) < 65535
  pub height : (lodge_step t (o.address x)).next.height ≤ 6
  pub room : lodge_takes t.tree t.height (o.address x) + 6 ≤ length t.free
  pub paid : t.height + lodge_takes t.tree t.height (o.address x) ≤ charge

-- with nothing left the header is refused; otherwise the lodge is accepted
abbrev pub Ended : Order → Answer → State → TreeState → ℕ → List ℕ → ℕ → Type 0
Ended o a u t total x zero = (a ≡ refused 17 (1 ∷ 0 ∷ 2 ∷ [])) × At o u t total 0
Ended o a u t total x (suc n) = (a ≡ accepted) × At o u (lodge_step t (o.address x)).next (suc total) n

module _ (o : Order) (m : Image) (k : Known) (t : TreeState) (total charge : ℕ) (x : List ℕ) (at : At o (state m k) t total charge) (yes : Yes o t charge x) where
  tree_kept : TreeKept (contents m) (limit m) total (top o) t
  tree_kept =
      let holds = subst (λ (y : Known). Holds o (state m y) (file_of t total)) at.known at.kept in
      record { sound = holds.sound; shared = holds.agrees.3 }

  written : length (lodge_step t (o.address x)).writes ≡ lodge_takes t.tree t.height (o.address x)
  written = (lodge_law (contents m) (limit m) total (top o) t (o.address x) tree_kept yes.in_range yes.room).1.took

  -- no question says no
  never : (fault : Fault) (m' : Image) → Lodges m t (o.address x) (Err fault) m' → ⊥
  never (Unread y) m' l = omega (arith, l.short, at.left, yes.paid)
  never CountFull m' l = omega (arith, l.1, yes.count)
  never HeightFull m' l = omega (arith, l.2, yes.height)
  never Room m' l = omega (arith, l.3, yes.room)
  never (Unwritten y) m' (paid, allowed, run) =
      omega (arith, run.many, at.left, yes.paid, written, ap length run.writes, length-append run.done (run.next ∷ run.rest))
  never Shut m' l = l
  never Outside m' l = l
  never Work m' l = l
  never (Absent y) m' l = l
  never NoHeader m' l = l
  never OtherOrder m' l = l
  never (Unsound p r) m' l = l
  never NoEvent m' l = l

  spent : (g : Copied) (m' : Image) → Lodges m t (o.address x) (Ok g) m' → m'.charge ≡ charge - (t.height + lodge_takes t.tree t.height (o.address x))
  spent g m' l =
      let e = ap (λ (i : Image). i.charge) l.wrote.image ∙ stored_charge (lodge_step t (o.address x)).writes (after_reads m t.height) in
      omega (arith, e, written, at.left, yes.paid)

  from_changes : (a : Answer) (u : State) (v : Content) (left : ℕ) → left ≡ charge - (t.height + lodge_takes t.tree t.height (o.address x)) → Kept o u v →
      Changes o (state m k) (file_of t total) (Lodges m t (o.address x)) (lodge_step t (o.address x)).next (suc total) a u v → Ended o a u t total x left
  from_changes a u v left e kept (copy_refused fault m' copy ea eu ev) = absurd (never fault m' copy)
  from_changes a u v zero e kept (header_unpaid g m' copy none ea eu ev) = (
    ea,
    record {
      kept = subst (λ (c : Content). Kept o u c) ev kept;
      known = ap (λ (s : State). s.known) eu ∙ at.known;
      left = ap (λ (s : State). s.image.charge) eu ∙ none;
    },
  )
  from_changes a u v (suc left) e kept (header_unpaid g m' copy none ea eu ev) = absurd (omega (arith, spent g m' copy))
  from_changes a u v zero e kept (changed g m' copy some ea eu ev) = absurd (omega (arith, spent g m' copy))
  from_changes a u v (suc left) e kept (changed g m' copy some ea eu ev) = (
    ea,
    record {
      kept = subst (λ (c : Content). Kept o u c) ev kept;
      known = ap (λ (s : State). s.known) eu;
      left = ap (λ (s : State). s.image.charge) eu ∙ omega (arith, spent g m' copy);
    },
  )

  to_changes : (a : Answer) (u : State) (v : Content) → Does o (filed (file_of t total)) (state m k) a u v (lodges x) →
      Changes o (state m k) (file_of t total) (Lodges m t (o.address x)) (lodge_step t (o.address x)).next (suc total) a u v
  to_changes a u v (not_open y names e ea eu ev) = let z : ◌≡◌ {A = ℕ} 0 1 = cc (e, at.known) in absurd (omega arith)
  to_changes a u v (outside y h r n free lodging e out ea eu ev) = absurd (out yes.inside)
  to_changes a u v (lodged f free ec ek inside changes) =
      let ef : f ≡ file_of t total = cc ec in
      let fr : free ≡ t.free = cc (ek, at.known) in
      subst (λ (ys : List ℕ). Changes o (state m k) (file_of t total) (Lodges m (tree_state (file_of t total) ys) (o.address x)) (lodge_step (tree_state (file_of t total) ys) (o.address x)).next (suc total) a u v) fr
      (subst (λ (y : Filed). Changes o (state m k) y (Lodges m (tree_state y free) (o.address x)) (lodge_step (tree_state y free) (o.address x)).next (suc y.total) a u v) ef changes)

pub lodge_ends : (o : Order) (s u : State) (a : Answer) (t : TreeState) (total charge : ℕ) (x : List ℕ) → At o s t total charge → Yes o t charge x → Step o s a u (lodges x) →
    Ended o a u t total x (charge - (t.height + lodge_takes t.tree t.height (o.address x)))
lodge_ends o s u a t total charge x at says step =
    let g = step.exact (filed (file_of t total)) at.kept in
    from_changes o s.image s.known t total charge x at says a u g.next _ refl g.kept (to_changes o s.image s.known t total charge x at says a u g.next g.does)
