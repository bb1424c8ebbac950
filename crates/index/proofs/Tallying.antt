-- The first questions, and tally, are steps.
use Rattle.std.proofs.Common.{◌≡◌, ℕ, List, length, Some, None, Option, Ok, Err, Result, sym, refl, ap, subst, arith}
use Rattle.pages.specs.Image.{Image}
use Rattle.orders.specs.Orders.{Order}
use Rattle.faults.specs.declared.fault.Fault.{Fault}
use Rattle.faults.specs.declared.fault.Fault.TheVariants.{Shut}
use Rattle.paths.specs.PathsReading.{Misread, KeptAt}
use Rattle.paths.specs.PathsReading.Misread.{refused as read_refused, broken}
use Rattle.paths.specs.TallyRules.{Tallied, Tallies, TallyIs}
use Rattle.records.specs.Free.{numbers}
use Rattle.index.specs.declared.index.OpenTree.{OpenTree}
use Rattle.index.specs.Model.{Call, Answer, State, Known, state, limit, refusal, told_count}
use Rattle.index.specs.Model.Known.{knows}
use Rattle.index.specs.Model.Call.{tallies}
use Rattle.index.specs.Keeping.{Content, Filed, Kept, Holds, top}
use Rattle.index.specs.Keeping.Content.{blank, filed}
use Rattle.index.specs.View.{known_tree, known_in}
use Rattle.index.specs.Located.{Inside, LiesOutside}
use Rattle.index.specs.Changes.{tree_state}
use Rattle.index.specs.Steps.{Step, Goes, Does, Names}
use Rattle.index.specs.Steps.Does.{not_open, outside, tallied}
use Rattle.index.proofs.Keeps.{same_pages}
use Rattle.index.proofs.Changing.{knows_file, tree_kept}

stays : (o : Order) (s : State) (a : Answer) (call : Call) → ((c : Content) → Does o c s a s c call) → Step o s a s call
stays o s a call does = record { size = refl; exact = λ c kept. record { next = c; kept = kept; does = does c } }

-- an index that is open on the tree t
pub from_tree : {o : Order} {m : Image} {x : Option OpenTree} {t : OpenTree} {a : Answer} {u : State} {call : Call} → x ≡ Some t →
    Step o (state m (known_tree t)) a u call → Step o (state m (known_in x)) a u call
from_tree {o} {m} {x} {t} {a} {u} {call} e step = subst (λ (y : Option OpenTree). Step o (state m (known_in y)) a u call) (sym e) step

-- and stays so
pub on_tree : {o : Order} {m m' : Image} {x : Option OpenTree} {t : OpenTree} {a : Answer} {call : Call} → x ≡ Some t →
    Step o (state m (known_tree t)) a (state m' (known_tree t)) call → Step o (state m (known_in x)) a (state m' (known_in x)) call
on_tree {o} {m} {m'} {x} {t} {a} {call} e step = subst (λ (y : Option OpenTree). Step o (state m (known_in y)) a (state m' (known_in y)) call) (sym e) step

-- 5
pub shut_refused : {o : Order} {m : Image} {x : Option OpenTree} {p : List ℕ} {call : Call} → x ≡ None → Names p call →
    Step o (state m (known_in x)) (refusal Shut) (state m (known_in x)) call
shut_refused {o} {m} {x} {p} {call} e names = stays o (state m (known_in x)) (refusal Shut) call (λ c. not_open p names (ap known_in e) refl refl refl)

-- 6
pub outside_refused : {o : Order} {m : Image} (t : OpenTree) {p : List ℕ} {call : Call} {f : Fault} → Names p call → LiesOutside o p f →
    Step o (state m (known_tree t)) (refusal f) (state m (known_tree t)) call
outside_refused {o} {m} t {p} {call} {f} names at =
    stays o (state m (known_tree t)) (refusal f) call (λ c. outside p t.root.level t.root.page t.total (numbers t.free) names refl at.away (ap refusal at.told) refl refl)

-- an index that is open has a tree on file, and the path functions find it kept
pub open_file : (o : Order) (m : Image) (h r t : ℕ) (free : List ℕ) (f : Filed) → Holds o (state m (knows h r t free)) f →
    KeptAt m r h (limit m) f.total (top o) (tree_state f free)
open_file o m h r t free f holds = record {
  kept = tree_kept o m h r t free f holds;
  there = omega arith;
  root_is = holds.agrees.1;
  height_is = holds.agrees.0;
}

pub read_pages : (m m' : Image) (l p a : ℕ) (f : Fault) → Misread m l p a f m' → m'.pages ≡ m.pages
read_pages m m' l p a f (read_refused d x told at paid why e) = ap (λ (i : Image). i.pages) e
read_pages m m' l p a f (broken d q v r told at paid why e) = ap (λ (i : Image). i.pages) e

tallied_pages : (m m' : Image) (l p a : ℕ) (res : Result ℕ Fault) → Tallied m l p a res m' → m'.pages ≡ m.pages
tallied_pages m m' l p a (Ok n) t = ap (λ (i : Image). i.pages) t.2
tallied_pages m m' l p a (Err f) t = read_pages m m' l p a f t

open_goes : (o : Order) (m : Image) (h r t : ℕ) (free : List ℕ) (a : Answer) (u : State) (call : Call) (c : Content) → Kept o (state m (knows h r t free)) c →
    ((f : Filed) → Holds o (state m (knows h r t free)) f → Goes o (filed f) (state m (knows h r t free)) a u call) → Goes o c (state m (knows h r t free)) a u call
open_goes o m h r t free a u call blank kept go = absurd (cc kept.0)
open_goes o m h r t free a u call (filed f) kept go = go f kept

pub open_steps : (o : Order) (m m' : Image) (h r t : ℕ) (free : List ℕ) (a : Answer) (k' : Known) (call : Call) → length m'.pages ≡ length m.pages →
    ((f : Filed) → Holds o (state m (knows h r t free)) f → Goes o (filed f) (state m (knows h r t free)) a (state m' k') call) → Step o (state m (knows h r t free)) a (state m' k') call
open_steps o m m' h r t free a k' call size go = record { size = size; exact = λ c kept. open_goes o m h r t free a (state m' k') call c kept go }

pub tally_steps : (o : Order) (m m' : Image) (h r t : ℕ) (free x : List ℕ) (a : ℕ) (res : Result ℕ Fault) → Inside o x a → TallyIs m r h a res m' →
    Step o (state m (knows h r t free)) (told_count res) (state m' (knows h r t free)) (tallies x)
tally_steps o m m' h r t free x a res at is =
    let pages = tallied_pages m m' h r a res is.always in
    open_steps o m m' h r t free (told_count res) (knows h r t free) (tallies x) (ap length pages) (λ f holds. record {
      next = filed f;
      kept = same_pages o m m' (knows h r t free) (filed f) pages holds;
      does = tallied f free res m' refl (knows_file (limit m) h r t free f holds.agrees) at.inside
          (subst (λ (y : ℕ). Tallies m (tree_state f free) y res m') at.address (is.kept (limit m) f.total (top o) (tree_state f free) (open_file o m h r t free f holds))) refl refl refl;
    })
