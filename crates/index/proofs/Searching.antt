-- A search is a step.
use Rattle.std.proofs.Common.{◌≡◌, ℕ, ◌-◌, ◌≤◌, List, [], length, take, sym, refl, ap, subst, arith}
use Rattle.std.proofs.ByRecursion.{All-weaker}
use Rattle.pages.specs.Image.{Image}
use Rattle.orders.specs.Orders.{Order, InSpaceOf}
use Rattle.faults.specs.Accesses.{contents}
use Rattle.faults.specs.declared.fault.Fault.{Fault}
use Rattle.tree.specs.Tree.{Node, Held, Level, pages}
use Rattle.tree.specs.Tree.Held.{none, held}
use Rattle.tree.specs.CopyLaws.{SoundOf, root_of}
use Rattle.tree.specs.SearchRuns.{Outcome, outcome}
use Rattle.tree.specs.SearchRuns.Ending.{done}
use Rattle.searches.specs.declared.find.Find.{Find}
use Rattle.searches.specs.declared.find.Found.{Found}
use Rattle.layout.specs.declared.page_ref.PageRef.{PageRef}
use Rattle.searches.specs.Sought.{Sought}
use Rattle.searches.specs.Finds.{ending_of}
use Rattle.searches.specs.Walking.{StandsAs}
use Rattle.searches.specs.Searching.{Tells, Searches}
use Rattle.index.specs.Model.{state, limit}
use Rattle.index.specs.Model.Call.{searches}
use Rattle.index.specs.Model.Answer.{found}
use Rattle.index.specs.Model.Known.{knows}
use Rattle.index.specs.Keeping.{top}
use Rattle.index.specs.Keeping.Content.{filed}
use Rattle.index.specs.Located.{Inside, LiesOutside}
use Rattle.index.specs.Searched.{search_of, answer_of}
use Rattle.index.specs.Steps.{Step}
use Rattle.index.specs.Steps.Does.{searched}
use Rattle.index.proofs.Keeps.{same_pages}
use Rattle.index.proofs.Changing.{knows_file}
use Rattle.index.proofs.Tallying.{open_steps}

-- a box and a start in an order, and the root of a tree
abbrev seek : Order → List ℕ → List ℕ → ℕ → Sought
seek o lo hi start = record { order = o; low = lo; high = hi; start = start }

abbrev rooted : ℕ → ℕ → PageRef
rooted h root = record { page = root; level = h }

tells_answer : (o : Order) (out : Outcome) (r : Found) (memory : List Find) → Tells o out r memory → found (take r.count memory) r.reads (ending_of r.ending) ≡ answer_of o out
tells_answer o out r memory t = λ i. found (t.finds i) (t.reads i) (t.ending i)

module _ (o : Order) (m m' : Image) (h root start : ℕ) (lo hi : List ℕ) (memory memory' : List Find) (r : Found) (s : Searches (seek o lo hi start) m (rooted h root) (top o) memory r m' memory')
    (il : InSpaceOf o lo) (ih : InSpaceOf o hi) where
  -- the answer tells what the search of the tree on file comes to
  tells : (height total : ℕ) (t : Held Node) → SoundOf (contents m) (limit m) height total (top o) t → h ≡ height → root ≡ root_of t →
      Tells o (search_of o lo hi start t m.charge (length memory)) r memory'
  tells height total none sound eh er =
      subst (λ (x : Found). Tells o (outcome [] done 0) x memory') (sym (s.empty (omega (arith, sound.0)))) (record { ending = refl; reads = refl; finds = refl })
  tells height total (held n) sound eh er =
      let stands : StandsAs m root h n = (
        sym er,
        subst (λ (k : ℕ). Level n k) (sym eh) sound.levels,
        sound.stands,
        All-weaker (λ (p : ℕ). (2 ≤ p) × (p ≤ limit m)) (λ (p : ℕ). (2 ≤ p) × (p ≤ length m.pages)) (λ p a. (a.0, omega (arith, a.1))) (pages n) sound.range,
      ) in
      s.tree n stands sound.ordered refl il ih

  pub search_steps_open : (total : ℕ) (free : List ℕ) →
      Step o (state m (knows h root total free)) (found (take r.count memory') r.reads (ending_of r.ending)) (state m' (knows h root total free)) (searches lo hi start (length memory))
  search_steps_open total free =
      open_steps o m m' h root total free (found (take r.count memory') r.reads (ending_of r.ending)) (knows h root total free) (searches lo hi start (length memory)) (ap length s.same)
      (λ f holds.
      (let t = tells f.height f.total f.tree holds.sound holds.agrees.0 holds.agrees.1 in
      let left : m'.charge ≡ m.charge - (search_of o lo hi start f.tree m.charge (length memory)).reads = omega (arith, s.paid, t.reads) in
      record {
        next = filed f;
        kept = same_pages o m m' (knows h root total free) (filed f) s.same holds;
        does = searched f free refl (knows_file (limit m) h root total free f holds.agrees) il ih
            (tells_answer o (search_of o lo hi start f.tree m.charge (length memory)) r memory' t)
            (λ i. state (record { pages = s.same i; charge = left i }) (knows h root total free)) refl;
      }))

-- of each end of the box, as the code reads it
pub inside_at : {o : Order} {p q : List ℕ} {a : ℕ} → p ≡ q → Inside o p a → InSpaceOf o q
inside_at {o} e at = subst (λ (y : List ℕ). InSpaceOf o y) e at.inside

pub outside_at : {o : Order} {p q : List ℕ} {f : Fault} → p ≡ q → LiesOutside o p f → LiesOutside o q f
outside_at {o} {f = f} e at = subst (λ (y : List ℕ). LiesOutside o y f) e at

pub searched_at : (o : Order) (m m' : Image) (h root total : ℕ) (free lo hi : List ℕ) {start most : ℕ} {memory memory' : List Find} {r : Found} → InSpaceOf o lo → InSpaceOf o hi →
    most ≡ top o → Searches (seek o lo hi start) m (rooted h root) most memory r m' memory' →
    Step o (state m (knows h root total free)) (found (take r.count memory') r.reads (ending_of r.ending)) (state m' (knows h root total free)) (searches lo hi start (length memory))
searched_at o m m' h root total free lo hi {start} {most} {memory} {memory'} {r} il ih e s =
    search_steps_open o m m' h root start lo hi memory memory' r (subst (λ (t : ℕ). Searches (seek o lo hi start) m (rooted h root) t memory r m' memory') e s) il ih total free
