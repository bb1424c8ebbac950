-- A path copy and the header over it make a step.
use Rattle.std.proofs.Common.{◌≡◌, ℕ, ◌≤◌, List, [], ◌∷◌, ◌++◌, length, drop, Ok, Err, Result, sym, refl, ◌∙◌, subst, inl, inr, arith, reverse}
use Rattle.std.specs.List.{AllByRecursion}
use Rattle.pages.specs.Image.{Image, at, written, Writes}
use Rattle.pages.specs.declared.fault.StoreFault.{StoreFault}
use Rattle.pages.specs.declared.fault.StoreFault.TheVariants.{Absent, Uncharged}
use Rattle.layout.specs.Heads.{header_bytes}
use Rattle.orders.specs.Orders.{Order}
use Rattle.tree.specs.Tree.{Apart}
use Rattle.tree.specs.CopyMoves.{State as TreeState}
use Rattle.tree.specs.CopyLaws.{Kept as TreeKept, Within, events_of, root_of}
use Rattle.tree.proofs.CopyKept.{range_law}
use Rattle.faults.specs.Accesses.{contents}
use Rattle.faults.specs.Refusals.{unwritten}
use Rattle.faults.specs.declared.fault.Fault.{Fault}
use Rattle.paths.specs.OldPages.{old_pages}
use Rattle.paths.specs.declared.copied.Copied.{Copied}
use Rattle.index.specs.Model.{Call, Answer, State, Known, state, limit, refusal, told}
use Rattle.index.specs.Model.Answer.{accepted, refused}
use Rattle.index.specs.Model.Known.{knows}
use Rattle.index.specs.Keeping.{Content, Filed, Holds, header_for, top}
use Rattle.index.specs.Keeping.Content.{filed}
use Rattle.index.specs.Changes.{Changes, tree_state, file_of, known_of}
use Rattle.index.specs.Changes.Changes.{copy_refused, header_unpaid, changed}
use Rattle.index.specs.Freed.{FitsList, GivenBack}
use Rattle.index.specs.Head.{WritesHead, header_with}
use Rattle.index.specs.Steps.{Does, Goes}
use Rattle.index.proofs.Changing.{still_holds, now_holds}
use Rattle.index.proofs.Settling.{After}

-- What is known of a path copy that was made, from the memory m to m': the tree t after it is kept there, and the tree f on file still is.
pub record MadeCopy (o : Order) (m : Image) (f : Filed) (free : List ℕ) (t : TreeState) (total : ℕ) (g : Copied) (m' : Image) : Type 0 where
  pub root : g.root.page ≡ root_of t.tree
  pub height : g.root.level ≡ t.height
  pub freed : t.free ≡ reverse (old_pages g.trade.path) ++ drop g.trade.used free
  pub kept : TreeKept (contents m') (limit m) total (top o) t
  pub old : TreeKept (contents m') (limit m) f.total (top o) (tree_state f free)
  pub page : at m' 1 ≡ at m 1
  pub size : length m'.pages ≡ length m.pages
  pub low : t.height ≤ 6
  pub counts : Within 65535 (events_of t.tree)

all_front : (l : ℕ) (xs ys : List ℕ) → l ≤ 1024 → AllByRecursion (λ p. (2 ≤ p) × (p ≤ l)) (xs ++ ys) → FitsList xs
all_front l [] ys small all = tt
all_front l (x ∷ xs) ys small all = ((omega (arith, all.0.0), omega (arith, all.0.1)), all_front l xs ys small all.1)

module _ (o : Order) (m : Image) (k : Known) (f : Filed) (free : List ℕ) (holds : Holds o (state m k) f) (t : TreeState) (total : ℕ) (call : Call)
    (Copy : Result Copied Fault → Image → Type 0)
    (rule : (a : Answer) (u : State) (v : Content) → Changes o (state m k) f Copy t total a u v → Does o (filed f) (state m k) a u v call) where
  -- the free list after the header is the new tree's
  free_after : (g : Copied) (m' : Image) (free' : List ℕ) → MadeCopy o m f free t total g m' → GivenBack (old_pages g.trade.path) (drop g.trade.used free) free' → free' ≡ t.free
  free_after g m' free' made given =
      let range = range_law (contents m') (limit m) total (top o) t made.kept in
      let all = subst (λ (xs : List ℕ). AllByRecursion (λ p. (2 ≤ p) × (p ≤ limit m)) xs) made.freed range.1 in
      let apart = subst (λ (xs : List ℕ). Apart xs) made.freed range.2 in
      given (all_front (limit m) (reverse (old_pages g.trade.path)) (drop g.trade.used free) (omega arith) all) apart ∙ sym made.freed

  pub sealed : (g : Copied) (m' m'' : Image) (free' : List ℕ) → MadeCopy o m f free t total g m' → Copy (Ok g) m' →
      WritesHead o m' g.root.level g.root.page total (Ok tt) m'' → GivenBack (old_pages g.trade.path) (drop g.trade.used free) free' →
      Goes o (filed f) (state m k) accepted (state m'' (knows g.root.level g.root.page total free')) call
  sealed g m' m'' free' made copy head given =
      let em : m'' ≡ written m' 1 (header_bytes (header_for o (file_of t total))) =
      head.2 ∙ (λ i. written m' 1 (header_bytes (header_with o (made.height i) (made.root i) total))) in
      let ef = free_after g m' free' made given in
      let eu : state m'' (knows g.root.level g.root.page total free') ≡ state (written m' 1 (header_bytes (header_for o (file_of t total)))) (known_of t total) =
      λ i. state (em i) (knows (made.height i) (made.root i) total (ef i)) in
      subst (λ (u : State). Goes o (filed f) (state m k) accepted u call) (sym eu)
      (record {
        next = filed (file_of t total);
        kept = now_holds o m m' made.page made.size t total holds.there made.kept made.low made.counts;
        does = rule accepted _ _ (changed g m' copy head.1 refl refl refl);
      })

  -- the header is refused for want of charge: page 1 is there
  unpaid : (g : Copied) (m' m'' : Image) (fault : StoreFault) (bytes : List ℕ) → MadeCopy o m f free t total g m' → Copy (Ok g) m' → Writes m' 1 bytes (Err fault) m'' →
      Goes o (filed f) (state m k) (refusal (unwritten (record { at = record { page = 1; level = 0 }; fault = fault }))) (state m'' k) call
  unpaid g m' m'' Absent bytes made copy w =
      let there = subst (λ (n : ℕ). 1 ≤ n) (sym made.size) holds.there in
      elim w.0 [ inl e ↦ absurd (omega arith) | inr lt ↦ absurd (omega arith) ]
  unpaid g m' m'' Uncharged bytes made copy w =
      subst (λ (x : Image). Goes o (filed f) (state m k) (refused 17 (1 ∷ 0 ∷ 2 ∷ [])) (state x k) call) (sym w.2)
      (record {
        next = filed f;
        kept = still_holds o m m' made.page made.size k f free holds made.old;
        does = rule _ _ _ (header_unpaid g m' copy w.1 refl refl refl);
      })

  pub unsealed : (g : Copied) (m' m'' : Image) (fault : Fault) → MadeCopy o m f free t total g m' → Copy (Ok g) m' →
      WritesHead o m' g.root.level g.root.page total (Err fault) m'' →
      Goes o (filed f) (state m k) (refusal fault) (state m'' k) call
  unsealed g m' m'' fault made copy (e, told, w) =
      subst (λ (y : Fault). Goes o (filed f) (state m k) (refusal y) (state m'' k) call) (sym told)
      (unpaid g m' m'' e (header_bytes (header_with o g.root.level g.root.page total)) made copy w)

  -- a copy that was refused
  pub not_copied : (fault : Fault) (m' : Image) → Copy (Err fault) m' → at m' 1 ≡ at m 1 → length m'.pages ≡ length m.pages →
      TreeKept (contents m') (limit m) f.total (top o) (tree_state f free) → Goes o (filed f) (state m k) (refusal fault) (state m' k) call
  not_copied fault m' copy page size old = record {
    next = filed f;
    kept = still_holds o m m' page size k f free holds old;
    does = rule _ _ _ (copy_refused fault m' copy refl refl refl);
  }

  -- either way
  pub ended : (g : Copied) (m' m'' : Image) (res : Result (Unit {0}) Fault) (k' : Known) → MadeCopy o m f free t total g m' → Copy (Ok g) m' →
      WritesHead o m' g.root.level g.root.page total res m'' → After res free k g total k' → Goes o (filed f) (state m k) (told res) (state m'' k') call
  ended g m' m'' (Ok u) k' made copy head (free', after, given) =
      subst (λ (y : Known). Goes o (filed f) (state m k) accepted (state m'' y) call) (sym after) (sealed g m' m'' free' made copy head given)
  ended g m' m'' (Err fault) k' made copy head after =
      subst (λ (y : Known). Goes o (filed f) (state m k) (refusal fault) (state m'' y) call) (sym after) (unsealed g m' m'' fault made copy head)
