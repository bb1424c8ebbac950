-- What a step does to the counts of points.
use Rattle.std.proofs.Common.{◌≡◌, ℕ, suc, ◌+◌, ◌-◌, List, Ok, Err, Result, sym, refl, ap, ◌∙◌, subst, arith}
use Rattle.pages.specs.Image.{Image}
use Rattle.orders.specs.Orders.{Order, Lawful, InSpaceOf}
use Rattle.tree.specs.Tree.{count_at}
use Rattle.tree.specs.CopyMoves.{State as TreeState, lodge_step, withdraw_step}
use Rattle.tree.specs.CopyLaws.{Kept as TreeKept, events_of}
use Rattle.tree.specs.CopyWrites.{mark}
use Rattle.tree.proofs.CopyBase.{mark_same, mark_apart}
use Rattle.tree.proofs.CopyKept.{count_law}
use Rattle.faults.specs.Accesses.{contents}
use Rattle.faults.specs.declared.fault.Fault.{Fault}
use Rattle.paths.specs.TallyRules.{Tallies}
use Rattle.paths.specs.WithdrawRules.{Withdraws}
use Rattle.paths.specs.LodgeKept.{Lodges}
use Rattle.index.specs.Model.{Call, Answer, State, Known, state, limit, told_count}
use Rattle.index.specs.Model.Call.{formats, opens, shuts, lodges, withdraws, tallies, searches, grants}
use Rattle.index.specs.Model.Answer.{accepted, refused, counted}
use Rattle.index.specs.Model.Known.{knows}
use Rattle.index.specs.Keeping.{Content, Filed, Kept, Holds, top}
use Rattle.index.specs.Keeping.Content.{filed}
use Rattle.index.specs.Changes.{Changes, tree_state, known_of}
use Rattle.index.specs.Changes.Changes.{copy_refused, header_unpaid, changed}
use Rattle.index.specs.Steps.{Does}
use Rattle.index.specs.Steps.Does.{formatted, format_absent, format_uncharged, open_few, open_absent, open_uncharged, open_no_header, open_other, open_short, open_tree, not_open, outside, tallied, searched, lodged, withdrawn, shut_down, given}
use Rattle.index.specs.Histories.{held_in}
use Rattle.index.specs.LawsSteps.{Counts, CountsLaw, AllStay, AnsweredLaw}
use Rattle.index.proofs.Changing.{tree_kept}

-- a file that an open index knows, with its free pages
pub opened_tree : (o : Order) (m : Image) (k : Known) (h r t : ℕ) (free : List ℕ) (f : Filed) → k ≡ knows h r t free → Holds o (state m k) f →
    TreeKept (contents m) (limit m) f.total (top o) (tree_state f free)
opened_tree o m k h r t free f e holds = tree_kept o m h r t free f (subst (λ (y : Known). Holds o (state m y) f) e holds)

-- a call that changes nothing on file changes no count
same_file : (o : Order) (c : Content) (call : Call) (n : ℕ) (vs : List ℕ) → Counts o c c call (refused n vs)
same_file o c formats n vs = λ x. refl
same_file o c (opens w) n vs = λ x. refl
same_file o c shuts n vs = λ x. refl
same_file o c (lodges y) n vs = λ x. refl
same_file o c (withdraws y) n vs = λ x. refl
same_file o c (tallies y) n vs = λ x. refl
same_file o c (searches lo hi start room) n vs = λ x. refl
same_file o c (grants k) n vs = λ x. refl

refused_counts : (o : Order) (c v : Content) (call : Call) (a : Answer) (n : ℕ) (vs : List ℕ) → a ≡ refused n vs → v ≡ c → Counts o c v call a
refused_counts o c v call a n vs ea ev = subst (λ (b : Answer). Counts o c v call b) (sym ea) (subst (λ (w : Content). Counts o c w call (refused n vs)) (sym ev) (same_file o c call n vs))

-- two points of the space with one address are the same
apart : (o : Order) → Lawful o → (x y : List ℕ) → InSpaceOf o x → InSpaceOf o y → o.address x ≡ o.address y → x ≡ y
apart o law x y ix iy e = sym (law.there x ix).1 ∙ ap o.point e ∙ (law.there y iy).1

module _ (o : Order) (law : Lawful o) (s u : State) (a : Answer) (v : Content) (f : Filed) (free y : List ℕ) (holds : Holds o s f)
    (ek : s.known ≡ known_of (tree_state f free) f.total) (inside : InSpaceOf o y) where
  -- the count at each address after a lodge and after a withdrawal
  after_both : (b : ℕ) →
      (count_at (events_of (lodge_step (tree_state f free) (o.address y)).next.tree) b ≡ count_at (events_of f.tree) b + mark b (o.address y))
      × (count_at (events_of (withdraw_step (tree_state f free) (o.address y)).next.tree) b ≡ count_at (events_of f.tree) b - mark b (o.address y))
  after_both b = count_law (contents s.image) (limit s.image) f.total (top o) (tree_state f free) (o.address y) b
      (opened_tree o s.image s.known _ _ _ free f ek holds)

  elsewhere : (x : List ℕ) → InSpaceOf o x → (x ≡ y → ⊥) → mark (o.address x) (o.address y) ≡ 0
  elsewhere x ix ne = mark_apart (o.address x) (o.address y) (λ e. ne (apart o law x y ix inside (sym e)))

  lodge_counts : Changes o s f (Lodges s.image (tree_state f free) (o.address y)) (lodge_step (tree_state f free) (o.address y)).next (suc f.total) a u v →
      Counts o (filed f) v (lodges y) a
  lodge_counts (copy_refused fault m copy ea eu ev) = refused_counts o (filed f) v (lodges y) a _ _ ea ev
  lodge_counts (header_unpaid g m copy z ea eu ev) = refused_counts o (filed f) v (lodges y) a _ _ ea ev
  lodge_counts (changed g m copy paid ea eu ev) =
      subst (λ (b : Answer). Counts o (filed f) v (lodges y) b) (sym ea)
      (subst (λ (w : Content). Counts o (filed f) w (lodges y) accepted) (sym ev) (
        inside,
        omega (arith, (after_both (o.address y)).0, mark_same (o.address y)),
        λ x ix ne. omega (arith, (after_both (o.address x)).0, elsewhere x ix ne),
      ))

  withdraw_counts : Changes o s f (Withdraws s.image (tree_state f free) (o.address y)) (withdraw_step (tree_state f free) (o.address y)).next (f.total - 1) a u v →
      Counts o (filed f) v (withdraws y) a
  withdraw_counts (copy_refused fault m copy ea eu ev) = refused_counts o (filed f) v (withdraws y) a _ _ ea ev
  withdraw_counts (header_unpaid g m copy z ea eu ev) = refused_counts o (filed f) v (withdraws y) a _ _ ea ev
  withdraw_counts (changed g m copy paid ea eu ev) =
      subst (λ (b : Answer). Counts o (filed f) v (withdraws y) b) (sym ea)
      (subst (λ (w : Content). Counts o (filed f) w (withdraws y) accepted) (sym ev) (
        inside,
        omega (arith, (after_both (o.address y)).1, mark_same (o.address y), copy.event),
        λ x ix ne. omega (arith, (after_both (o.address x)).1, elsewhere x ix ne),
      ))

all_stay : (o : Order) (c v : Content) → v ≡ c → AllStay o c v
all_stay o c v e = λ x. ap (λ (w : Content). held_in o w x) e

-- rule by rule
pub counts_of : (o : Order) → Lawful o → (c v : Content) (s u : State) (a : Answer) → Kept o s c → (call : Call) → Does o c s a u v call → Counts o c v call a
counts_of o law c v s u a k call (formatted le paid ea eu ev) =
    subst (λ (b : Answer). Counts o c v formats b) (sym ea) (subst (λ (w : Content). Counts o c w formats accepted) (sym ev) (λ x. refl))
counts_of o law c v s u a k call (format_absent z ea eu ev) = refused_counts o c v formats a _ _ ea ev
counts_of o law c v s u a k call (format_uncharged le z ea eu ev) = refused_counts o c v formats a _ _ ea ev
counts_of o law c v s u a k call (open_few lt ea eu ev) = all_stay o c v ev
counts_of o law c v s u a k call (open_absent w z ea eu ev) = all_stay o c v ev
counts_of o law c v s u a k call (open_uncharged w le z ea eu ev) = all_stay o c v ev
counts_of o law c v s u a k call (open_no_header w le paid headless ea eu ev) = all_stay o c v ev
counts_of o law c v s u a k call (open_other h w le paid proper e other ea eu ev) = all_stay o c v ev
counts_of o law c v s u a k call (open_short f level ec w paid less scan ea eu ev) = all_stay o c v ev
counts_of o law c v s u a k call (open_tree f ec w paid enough ea eu ev) = all_stay o c v ev
counts_of o law c v s u a k call (not_open x names is ea eu ev) = refused_counts o c v call a _ _ ea ev
counts_of o law c v s u a k call (outside x h r t free names is out ea eu ev) = refused_counts o c v call a _ _ ea ev
counts_of o law c v s u a k call (tallied f free r m ec ek inside t ea eu ev) = all_stay o c v ev
counts_of o law c v s u a k call (searched f free ec ek il ih ea eu ev) = all_stay o c v ev
counts_of o law c v s u a k call (lodged {x = y} f free ec ek inside changes) =
    subst (λ (w : Content). Counts o w v (lodges y) a) (sym ec) (lodge_counts o law s u a v f free y (subst (λ (w : Content). Kept o s w) ec k) ek inside changes)
counts_of o law c v s u a k call (withdrawn {x = y} f free ec ek inside changes) =
    subst (λ (w : Content). Counts o w v (withdraws y) a) (sym ec) (withdraw_counts o law s u a v f free y (subst (λ (w : Content). Kept o s w) ec k) ek inside changes)
counts_of o law c v s u a k call (shut_down ea eu ev) = all_stay o c v ev
counts_of o law c v s u a k call (given ea eu ev) = all_stay o c v ev

pub counts_law : CountsLaw
counts_law o law s u a call step c kept = counts_of o law c (step.exact c kept).next s u a kept call (step.exact c kept).does

-- what a tally answers
answers_count : (m m' : Image) (st : TreeState) (a n : ℕ) (r : Result ℕ Fault) → Tallies m st a r m' → counted n ≡ told_count r → n ≡ count_at (events_of st.tree) a
answers_count m m' st a n (Ok k) t e = let same : n ≡ k = cc in same ∙ t.1
answers_count m m' st a n (Err f) t e = absurd cc

answered : (o : Order) (x : List ℕ) (n : ℕ) (c v : Content) (s u : State) (a : Answer) → a ≡ counted n → Does o c s a u v (tallies x) → InSpaceOf o x × (n ≡ held_in o c x)
answered o x n c v s u a e (not_open y names is ea eu ev) = absurd cc
answered o x n c v s u a e (outside y h r t free names is out ea eu ev) = absurd cc
answered o x n c v s u a e (tallied f free r m ec ek inside t ea eu ev) =
    (inside, answers_count s.image m (tree_state f free) (o.address x) n r t (sym e ∙ ea) ∙ ap (λ (w : Content). held_in o w x) (sym ec))

pub answered_law : AnsweredLaw
answered_law o s u x n step c kept = answered o x n c (step.exact c kept).next s u (counted n) refl (step.exact c kept).does
