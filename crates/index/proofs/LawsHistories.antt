-- The law of histories: by induction over the history, with what the memory holds carried along.
use Rattle.std.proofs.Common.{◌≡◌, ℕ, suc, ◌+◌, ◌-◌, ◌≤◌, Bool, true, false, List, [], ◌∷◌, sym, refl, ◌∙◌, subst, arith}
use Rattle.std.proofs.lemmas.Bool.{cond_both}
use Rattle.pages.specs.Image.{Image, Blank}
use Rattle.orders.specs.Orders.{Order, Lawful, InSpaceOf}
use Rattle.tree.proofs.CopyBase.{by_eq}
use Rattle.index.specs.Model.{Call, Answer, State}
use Rattle.index.specs.Model.Call.{formats, opens, shuts, lodges, withdraws, tallies, searches, grants}
use Rattle.index.specs.Model.Answer.{accepted, refused, counted, found}
use Rattle.index.specs.Keeping.{Content}
use Rattle.index.specs.Keeping.Content.{blank}
use Rattle.index.specs.Histories.{History, Led, Holding, same, one_if_same, lodgings, withdrawals, lodgings_with, withdrawals_with, held_in, HistoryLaw, TallyLaw, WithdrawalLaw}
use Rattle.index.specs.Histories.Led.{begun, goes_on}
use Rattle.index.specs.LawsSteps.{Counts}
use Rattle.index.proofs.LawsBlank.{blank_law}
use Rattle.index.proofs.LawsCounts.{counts_of, counts_law, answered_law}

-- the test for the same point
same_true : (x y : List ℕ) → same x y ≡ true → x ≡ y
same_true [] [] e = refl
same_true [] (y ∷ ys) e = absurd cc
same_true (x ∷ xs) [] e = absurd cc
same_true (x ∷ xs) (y ∷ ys) e =
    by_eq (λ (b : Bool). b ≡ true → (x ∷ xs) ≡ (y ∷ ys)) x y (same xs ys) false (λ q r. λ i. q i ∷ same_true xs ys r i) (λ ne r. absurd (cc r)) e

same_refl : (x : List ℕ) → same x x ≡ true
same_refl [] = refl
same_refl (x ∷ xs) = by_eq (λ (b : Bool). b ≡ true) x x (same xs xs) false (λ q. same_refl xs) (λ ne. absurd (ne refl))

same_false : (x y : List ℕ) → same x y ≡ false → x ≡ y → ⊥
same_false x y e q = absurd (cc (e, subst (λ (z : List ℕ). same x z ≡ true) q (same_refl x)))

by_same : (P : ℕ → Type 0) (y x : List ℕ) → (y ≡ x → P 1) → ((y ≡ x → ⊥) → P 0) → P (one_if_same y x)
by_same P y x f g = cond_both (same y x) 1 0 P (λ e. f (same_true y x e)) (λ e. g (same_false y x e))

one_lodged : (w l n k : ℕ) → w ≤ l → n ≡ l - w → k ≡ suc n → (w ≤ 1 + l) × (k ≡ (1 + l) - w)
one_lodged w l n k le e f = (omega arith, omega arith)

none_lodged : (w l n k : ℕ) → w ≤ l → n ≡ l - w → k ≡ n → (w ≤ 0 + l) × (k ≡ (0 + l) - w)
none_lodged w l n k le e f = (omega arith, omega arith)

one_withdrawn : (w l n k : ℕ) → w ≤ l → n ≡ l - w → suc k ≡ n → (1 + w ≤ l) × (k ≡ l - (1 + w))
one_withdrawn w l n k le e f = (omega arith, omega arith)

none_withdrawn : (w l n k : ℕ) → w ≤ l → n ≡ l - w → k ≡ n → (0 + w ≤ l) × (k ≡ l - (0 + w))
none_withdrawn w l n k le e f = (omega arith, omega arith)

account : (o : Order) (c v : Content) (x : List ℕ) (l w : ℕ) → InSpaceOf o x → w ≤ l → held_in o c x ≡ l - w → (call : Call) (a : Answer) → Counts o c v call a →
    (withdrawals_with call a x w ≤ lodgings_with call a x l) × (held_in o v x ≡ lodgings_with call a x l - withdrawals_with call a x w)
account o c v x l w i le e formats accepted k = (omega arith, k x)
account o c v x l w i le e formats (refused n vs) k = (le, k x ∙ e)
account o c v x l w i le e formats (counted n) k = (le, k x ∙ e)
account o c v x l w i le e formats (found fs n y) k = (le, k x ∙ e)
account o c v x l w i le e (lodges y) accepted k =
    by_same (λ (one : ℕ). (w ≤ one + l) × (held_in o v x ≡ (one + l) - w)) y x
    (λ q. one_lodged w l (held_in o c x) (held_in o v x) le e (subst (λ (z : List ℕ). held_in o v z ≡ suc (held_in o c z)) q k.1))
    (λ ne. none_lodged w l (held_in o c x) (held_in o v x) le e (k.2 x i (λ q. ne (sym q))))
account o c v x l w i le e (lodges y) (refused n vs) k = (le, k x ∙ e)
account o c v x l w i le e (lodges y) (counted n) k = (le, k x ∙ e)
account o c v x l w i le e (lodges y) (found fs n z) k = (le, k x ∙ e)
account o c v x l w i le e (withdraws y) accepted k =
    by_same (λ (one : ℕ). (one + w ≤ l) × (held_in o v x ≡ l - (one + w))) y x
    (λ q. one_withdrawn w l (held_in o c x) (held_in o v x) le e (subst (λ (z : List ℕ). suc (held_in o v z) ≡ held_in o c z) q k.1))
    (λ ne. none_withdrawn w l (held_in o c x) (held_in o v x) le e (k.2 x i (λ q. ne (sym q))))
account o c v x l w i le e (withdraws y) (refused n vs) k = (le, k x ∙ e)
account o c v x l w i le e (withdraws y) (counted n) k = (le, k x ∙ e)
account o c v x l w i le e (withdraws y) (found fs n z) k = (le, k x ∙ e)
account o c v x l w i le e (tallies y) a k = (le, k x ∙ e)
account o c v x l w i le e (searches lo hi start room) a k = (le, k x ∙ e)
account o c v x l w i le e (opens n) a k = (le, k x ∙ e)
account o c v x l w i le e shuts a k = (le, k x ∙ e)
account o c v x l w i le e (grants n) a k = (le, k x ∙ e)

holding : (o : Order) → Lawful o → (start : Image) → Blank start → (h : History) (s : State) → Led o start h s → Holding o h s
holding o law start b h s begun = record { content = blank; kept = blank_law o start b; covered = λ x i. omega arith; counts = λ x i. refl }
holding o law start b h s (goes_on {h = before} {s = from} {u = to} {a = a} {call = call} led step) =
    let r = holding o law start b before from led in
    let g = step.exact r.content r.kept in
    let both = λ (x : List ℕ) (i : InSpaceOf o x).
    account o r.content g.next x (lodgings before x) (withdrawals before x) i (r.covered x i) (r.counts x i) call a
    (counts_of o law r.content g.next from to a r.kept call g.does) in
    record { content = g.next; kept = g.kept; covered = λ x i. (both x i).0; counts = λ x i. (both x i).1 }

pub history_law : HistoryLaw
history_law = holding

pub tally_law : TallyLaw
tally_law o law start b h s u x n led step =
    let r = holding o law start b h s led in
    let w = answered_law o s u x n step r.content r.kept in
    w.1 ∙ r.counts x w.0

some_held : (n k h : ℕ) → suc k ≡ n → n ≡ h → 1 ≤ h
some_held n k h e f = omega arith

pub withdrawal_law : WithdrawalLaw
withdrawal_law o law start b h s u x led step =
    let r = holding o law start b h s led in
    let w = counts_law o law s u accepted (withdraws x) step r.content r.kept in
    some_held _ _ _ w.1 (r.counts x w.0)
