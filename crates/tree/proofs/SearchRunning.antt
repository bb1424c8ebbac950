-- Laws of a run, of any steps.
use Rattle.std.proofs.Common.{◌≡◌, ℕ, zero, suc, ◌+◌, ◌-◌, List, [], ◌∷◌, ◌++◌, length, sym, refl, ap, ◌∙◌, suc-add, zero-add, arith, length-append}
use native.Mathlib.Nat.{sub-zero, suc-sub-suc}
use Rattle.layout.specs.declared.entry.Entry.{Entry}
use Rattle.tree.specs.SearchSteps.{Step, pages_read, found_of}
use Rattle.tree.specs.SearchSteps.Step.{reads, finds}
use Rattle.tree.specs.SearchRuns.{Ending, Outcome, outcome, run, read_count, add_read, add_find, and_then}
use Rattle.tree.specs.SearchRuns.Ending.{done, more, cut}
use Rattle.tree.specs.SearchLaws.{DoneLaw, OnlyLaw, CutLaw, MoreLaw, AppendLaw}

pub found_append : (xs ys : List Step) → found_of (xs ++ ys) ≡ found_of xs ++ found_of ys
found_append [] ys = refl
found_append (reads p a ∷ xs) ys = found_append xs ys
found_append (finds e ∷ xs) ys = ap (λ zs. e ∷ zs) (found_append xs ys)

pub pages_append : (xs ys : List Step) → pages_read (xs ++ ys) ≡ pages_read xs ++ pages_read ys
pages_append [] ys = refl
pages_append (reads p a ∷ xs) ys = ap (λ zs. p ∷ zs) (pages_append xs ys)
pages_append (finds e ∷ xs) ys = pages_append xs ys

pub count_append : (xs ys : List Step) → read_count (xs ++ ys) ≡ read_count xs + read_count ys
count_append xs ys = ap length (pages_append xs ys) ∙ length-append (pages_read xs) (pages_read ys)

pub done_law : DoneLaw
done_law [] charge room h k = refl
done_law (reads p a ∷ ss) zero room h k = absurd (omega arith)
done_law (reads p a ∷ ss) (suc charge) room h k = ap add_read (done_law ss charge room (omega arith) k)
done_law (finds e ∷ ss) charge zero h k = absurd (omega arith)
done_law (finds e ∷ ss) charge (suc room) h k = ap (add_find e) (done_law ss charge room h (omega arith))

pub only_law : OnlyLaw
only_law [] charge room h = (refl, omega arith, omega arith)
only_law (reads p a ∷ ss) zero room h = let z : ◌≡◌ {A = ℕ} 0 1 = cc in absurd (omega arith)
only_law (reads p a ∷ ss) (suc charge) room h = let r = only_law ss charge room h in (ap add_read r.0, omega (arith, r.1), r.2)
only_law (finds e ∷ ss) charge zero h = let z : ◌≡◌ {A = ℕ} 0 1 = cc in absurd (omega arith)
only_law (finds e ∷ ss) charge (suc room) h = let r = only_law ss charge room h in (ap (add_find e) r.0, r.1, omega (arith, r.2))

pub cut_law : CutLaw
cut_law [] charge room h k = absurd (omega arith)
cut_law (reads p a ∷ ss) zero room h k = ((p, a, refl), refl, (found_of ss, refl))
cut_law (reads p a ∷ ss) (suc charge) room h k = let r = cut_law ss charge room (omega arith) k in (r.0, ap suc r.1, r.2)
cut_law (finds e ∷ ss) charge zero h k = absurd (omega arith)
cut_law (finds e ∷ ss) charge (suc room) h k =
    let r = cut_law ss charge room h (omega arith) in
    (r.0, r.1, (r.2.0, ap (λ xs. e ∷ xs) r.2.1))

pub more_law : MoreLaw
more_law [] charge room a q = let z : ◌≡◌ {A = ℕ} 0 1 = cc in absurd (omega arith)
more_law (reads p b ∷ ss) zero room a q = let z : ◌≡◌ {A = ℕ} 0 1 = cc in absurd (omega arith)
more_law (reads p b ∷ ss) (suc charge) room a q = more_law ss charge room a q
more_law (finds e ∷ ss) charge zero a q = (refl, (e, found_of ss, refl, cc))
more_law (finds e ∷ ss) charge (suc room) a q =
    let r = more_law ss charge room a q in
    (ap suc r.0, (r.1.0, r.1.1, ap (λ xs. e ∷ xs) r.1.2, r.1.3))

-- a step in front of both
read_then : (e : Ending) (o p : Outcome) → add_read (and_then e o p) ≡ and_then e (add_read o) p
read_then done o p = ap (outcome (o.found ++ p.found) p.ending) (sym (suc-add o.reads p.reads))
read_then (more a) o p = refl
read_then (cut page a) o p = refl

find_then : (g : Entry) (e : Ending) (o p : Outcome) → add_find g (and_then e o p) ≡ and_then e (add_find g o) p
find_then g done o p = refl
find_then g (more a) o p = refl
find_then g (cut page a) o p = refl

pub append_law : AppendLaw
append_law [] ys charge room =
    rw (sub-zero charge, sub-zero room) (ap (outcome (run ys charge room).found (run ys charge room).ending) (sym (zero-add (run ys charge room).reads)))
append_law (reads p a ∷ xs) ys zero room = refl
append_law (reads p a ∷ xs) ys (suc charge) room =
    ap add_read (append_law xs ys charge room)
    ∙ rw (suc-sub-suc charge (run xs charge room).reads) (read_then (run xs charge room).ending (run xs charge room) (run ys (charge - (run xs charge room).reads) (room - length (run xs charge room).found)))
append_law (finds e ∷ xs) ys charge zero = refl
append_law (finds e ∷ xs) ys charge (suc room) =
    ap (add_find e) (append_law xs ys charge room)
    ∙ rw (suc-sub-suc room (length (run xs charge room).found)) (find_then e (run xs charge room).ending (run xs charge room) (run ys (charge - (run xs charge room).reads) (room - length (run xs charge room).found)))
