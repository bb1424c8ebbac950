-- A search that was cut, or ended more, goes on from the address that it named.
use Rattle.std.proofs.Common.{◌≡◌, ◌+◌, ◌≤◌, List, ◌++◌, length, drop, filter, sym, refl, ap, ◌∙◌, arith, length-append}
use Rattle.std.proofs.lemmas.List.{drop_at}
use Rattle.layout.specs.declared.entry.Entry.{Entry}
use Rattle.tree.specs.Tree.{events}
use Rattle.tree.specs.SearchSteps.{from, passes, search_steps, found_of}
use Rattle.tree.specs.SearchRuns.{run}
use Rattle.tree.specs.SearchLaws.{ResumeLaw, FinishLaw}
use Rattle.tree.proofs.SearchTests.{from_inside, from_start, from_is, from_later, kept_kept}
use Rattle.tree.proofs.SearchRunning.{done_law}
use Rattle.tree.proofs.SearchFinds.{finds_node}
use Rattle.tree.proofs.SearchReads.{fewer_reads}
use Rattle.tree.proofs.SearchRising.{not_before, run_stopped, steps_rise}

pub resume_law : ResumeLaw
resume_law inside start n lo hi o charge room a e =
    let P = from inside start in
    let all = found_of (search_steps inside start n lo hi) in
    let rest = found_of (search_steps inside a n lo hi) in
    let found = (run (search_steps inside start n lo hi) charge room).found in
    let stop = run_stopped P lo hi (search_steps inside start n lo hi) (steps_rise P n lo hi o) charge room a e in
    let le : start ≤ a = from_start inside start a stop.1 in
    let same : filter (not_before a) all ≡ rest =
    ap (filter (not_before a)) (finds_node P n lo hi o)
    ∙ kept_kept (passes P) (not_before a) (passes (from inside a)) (λ (x : Entry). from_later inside start a le x.key) (events n)
    ∙ sym (finds_node (from inside a) n lo hi o) in
    let whole : found ++ rest ≡ all = ap (λ (xs : List Entry). found ++ xs) (sym same) ∙ stop.2 in
    record {
      not_back = le;
      all = whole;
      rest = sym (drop_at found rest (length found) refl) ∙ ap (drop (length found)) whole;
      no_dearer = fewer_reads P (from inside a) (λ b h. from_is inside start b (from_inside inside a b h) (omega (arith, from_start inside a b h))) n lo hi o;
    }

pub finish_law : FinishLaw
finish_law inside start n lo hi o charge room a e charge' room' enough fits =
    let r = resume_law inside start n lo hi o charge room a e in
    let found = (run (search_steps inside start n lo hi) charge room).found in
    let rest = found_of (search_steps inside a n lo hi) in
    let len : length found + length rest ≡ length (found_of (search_steps inside start n lo hi)) = sym (length-append found rest) ∙ ap length r.all in
    let d = done_law (search_steps inside a n lo hi) charge' room' (omega (arith, r.no_dearer)) (omega arith) in
    (ap (λ o. o.ending) d, ap (λ o. found ++ o.found) d ∙ r.all, omega (arith, r.no_dearer, ap (λ o. o.reads) d))
