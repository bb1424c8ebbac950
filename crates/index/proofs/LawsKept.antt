-- What holds in every kept state, and after a refusal.
use Rattle.std.proofs.Common.{◌≡◌, ℕ, List, Result, sym, refl, ap, ◌∙◌, subst}
use Rattle.pages.specs.Image.{Image, at}
use Rattle.orders.specs.Orders.{Order}
use Rattle.tree.specs.Tree.{Node, Held, Contents, counts}
use Rattle.tree.specs.Tree.Held.{none, held}
use Rattle.tree.specs.CopyMoves.{State as TreeState}
use Rattle.tree.specs.CopyLaws.{SoundOf, events_of}
use Rattle.tree.proofs.CopyKept.{number_law, range_law, sorted_law}
use Rattle.faults.specs.Accesses.{contents}
use Rattle.faults.specs.declared.fault.Fault.{Fault}
use Rattle.index.specs.Model.{Call, Answer, State, Known, state, limit}
use Rattle.index.specs.Model.Answer.{refused}
use Rattle.index.specs.Model.Known.{shut, knows}
use Rattle.index.specs.Keeping.{Content, Filed, Kept, Holds, top}
use Rattle.index.specs.Keeping.Content.{blank, filed}
use Rattle.index.specs.Changes.{Changes, tree_state}
use Rattle.index.specs.Changes.Changes.{copy_refused, header_unpaid, changed}
use Rattle.index.specs.Steps.{Does, Names}
use Rattle.index.specs.Steps.Names.{lodging, withdrawing, tallying, from_low, to_high}
use Rattle.index.specs.Steps.Does.{formatted, format_absent, format_uncharged, open_few, open_absent, open_uncharged, open_no_header, open_other, open_short, open_tree, not_open, outside, tallied, searched, lodged, withdrawn, shut_down, given}
use Rattle.index.specs.LawsSteps.{Accounts, AccountsLaw, StepAccountsLaw, KnowsAfter, RefusedLaw}
use Rattle.index.proofs.Changing.{tree_kept}

sum_is : (m : Contents) (l h total most : ℕ) (t : Held Node) → SoundOf m l h total most t → counts (events_of t) ≡ total
sum_is m l h total most none s = sym s.1
sum_is m l h total most (held n) s = s.sum

accounts : (o : Order) (m : Image) (k : Known) (c : Content) → Kept o (state m k) c → Accounts o (limit m) c k
accounts o m shut c kept = tt
accounts o m (knows h r t free) blank kept = absurd (cc kept.0)
accounts o m (knows h r t free) (filed f) holds =
    let st = tree_state f free in
    let z = tree_kept o m h r t free f holds in
    let number = number_law (contents m) (limit m) f.total (top o) st z in
    let range = range_law (contents m) (limit m) f.total (top o) st z in (
      holds.agrees.0,
      holds.agrees.1,
      holds.agrees.2,
      record {
        once = z.shared;
        number = number.0;
        range = (range.0, range.1);
        apart = range.2;
        six = number.1;
        rising = sorted_law (contents m) (limit m) f.total (top o) st z;
        sum = sum_is (contents m) (limit m) f.height f.total (top o) f.tree holds.sound;
      },
    )

pub accounts_law : AccountsLaw
accounts_law o s c kept = accounts o s.image s.known c kept

pub step_accounts_law : StepAccountsLaw
step_accounts_law o s u a call step c kept = accounts_law o u (step.exact c kept).next (step.exact c kept).kept

-- Refusals
named : (x : List ℕ) (before now : Known) → now ≡ before → (call : Call) → Names x call → KnowsAfter call before now
named x before now e call lodging = e
named x before now e call withdrawing = e
named x before now e call tallying = e
named x before now e call from_low = e
named x before now e call to_high = e

-- one tree on file before and after: one header
one_header : (o : Order) (s u : State) (f : Filed) (c v : Content) → c ≡ filed f → v ≡ filed f → Kept o s c → Kept o u v → at u.image 1 ≡ at s.image 1
one_header o s u f c v ec ev ks ku =
    let hs : Holds o s f = subst (λ (w : Content). Kept o s w) ec ks in
    let hu : Holds o u f = subst (λ (w : Content). Kept o u w) ev ku in
    hu.header ∙ sym hs.header

-- what is claimed of a refused call
abbrev LeftAlone : Content → Content → State → State → Call → Type 0
LeftAlone c v s u call = (v ≡ c) × (at u.image 1 ≡ at s.image 1) × KnowsAfter call s.known u.known

untouched : (c v : Content) (s u : State) (x : List ℕ) → v ≡ c → u ≡ s → (call : Call) → Names x call → LeftAlone c v s u call
untouched c v s u x ev eu call names = (ev, ap (λ (z : State). at z.image 1) eu, named x s.known u.known (ap (λ (z : State). z.known) eu) call names)

change_left : {G : Type 0} (o : Order) (s u : State) (f : Filed) (Copy : Result G Fault → Image → Type 0) (t : TreeState) (total : ℕ) (a : Answer) (c v : Content) (n : ℕ) (vs : List ℕ) →
    a ≡ refused n vs → c ≡ filed f → Kept o s c → Kept o u v → Changes o s f Copy t total a u v → (v ≡ c) × (at u.image 1 ≡ at s.image 1) × (u.known ≡ s.known)
change_left o s u f Copy t total a c v n vs e ec ks ku (copy_refused fault m copy ea eu ev) =
    (ev ∙ sym ec, one_header o s u f c v ec ev ks ku, ap (λ (z : State). z.known) eu)
change_left o s u f Copy t total a c v n vs e ec ks ku (header_unpaid g m copy z ea eu ev) =
    (ev ∙ sym ec, one_header o s u f c v ec ev ks ku, ap (λ (z : State). z.known) eu)
change_left o s u f Copy t total a c v n vs e ec ks ku (changed g m copy paid ea eu ev) = absurd (cc (ea, e))

left_alone : (o : Order) (n : ℕ) (vs : List ℕ) (c v : Content) (s u : State) (a : Answer) → a ≡ refused n vs → Kept o s c → Kept o u v → (call : Call) → Does o c s a u v call →
    LeftAlone c v s u call
left_alone o n vs c v s u a e ks ku call (formatted le paid ea eu ev) = absurd (cc (ea, e))
left_alone o n vs c v s u a e ks ku call (format_absent z ea eu ev) = (ev, ap (λ (z : State). at z.image 1) eu, ap (λ (z : State). z.known) eu)
left_alone o n vs c v s u a e ks ku call (format_uncharged le z ea eu ev) = (ev, ap (λ (z : State). at z.image 1) eu, ap (λ (z : State). z.known) eu)
left_alone o n vs c v s u a e ks ku call (open_few lt ea eu ev) = (ev, ap (λ (z : State). at z.image 1) eu, ap (λ (z : State). z.known) eu)
left_alone o n vs c v s u a e ks ku call (open_absent w z ea eu ev) = (ev, ap (λ (z : State). at z.image 1) eu, ap (λ (z : State). z.known) eu)
left_alone o n vs c v s u a e ks ku call (open_uncharged w le z ea eu ev) = (ev, ap (λ (z : State). at z.image 1) eu, ap (λ (z : State). z.known) eu)
left_alone o n vs c v s u a e ks ku call (open_no_header w le paid headless ea eu ev) = (ev, ap (λ (z : State). at z.image 1) eu, ap (λ (z : State). z.known) eu)
left_alone o n vs c v s u a e ks ku call (open_other h w le paid proper es other ea eu ev) = (ev, ap (λ (z : State). at z.image 1) eu, ap (λ (z : State). z.known) eu)
left_alone o n vs c v s u a e ks ku call (open_short f level ec w paid less scan ea eu ev) = (ev, ap (λ (z : State). at z.image 1) eu, ap (λ (z : State). z.known) eu)
left_alone o n vs c v s u a e ks ku call (open_tree f ec w paid enough ea eu ev) = absurd (cc (ea, e))
left_alone o n vs c v s u a e ks ku call (not_open x names is ea eu ev) = untouched c v s u x ev eu call names
left_alone o n vs c v s u a e ks ku call (outside x h r t free names is out ea eu ev) = untouched c v s u x ev eu call names
left_alone o n vs c v s u a e ks ku call (tallied f free r m ec ek inside t ea eu ev) =
    (ev, one_header o s u f c v ec (ev ∙ ec) ks ku, ap (λ (z : State). z.known) eu)
left_alone o n vs c v s u a e ks ku call (searched f free ec ek il ih ea eu ev) = absurd (cc (ea, e))
left_alone o n vs c v s u a e ks ku call (lodged f free ec ek inside changes) = change_left o s u f _ _ _ a c v n vs e ec ks ku changes
left_alone o n vs c v s u a e ks ku call (withdrawn f free ec ek inside changes) = change_left o s u f _ _ _ a c v n vs e ec ks ku changes
left_alone o n vs c v s u a e ks ku call (shut_down ea eu ev) = absurd (cc (ea, e))
left_alone o n vs c v s u a e ks ku call (given ea eu ev) = absurd (cc (ea, e))

pub refused_law : RefusedLaw
refused_law o s u n vs call step c kept =
    left_alone o n vs c (step.exact c kept).next s u (refused n vs) refl kept (step.exact c kept).kept call (step.exact c kept).does
