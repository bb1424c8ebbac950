use Rattle.std.proofs.Common.{◌≡◌, ℕ, Option, ◌+◌, ◌<◌, ◌∙◌, sum, map, rules, arith}
use Rattle.std.proofs.iter.runs.Made.{chains}
use Rattle.std.proofs.lemmas.Iterator.Adapters.{fits_from_length, at_most_from_yields_List}
use Rattle.std.proofs.lemmas.Iterator.{YieldsList-from_slice}
use Rattle.std.specs.List.{fold}
use Rattle.std.specs.Iterator.Runs.{EachRunFrom, WholeRun}
use Rattle.layout.specs.declared.entry.Entry.{Entry}
use Rattle.walks.proofs.ChildVisits.{counts_sum}
use Rattle.walks.proofs.children.counted.Goals as goal

pub returns-clause-sum : goal.returns-clause-sum
returns-clause-sum c =
    let e : c.sum.result ≡ sum (map (λ (x : Entry). x.value) c.args.entries.now) = search (rules, chains) in
    e ∙ counts_sum c.args.entries.now

-- a total is below what that of each run is below
total_below : {S : Type 0} {steps : S → Option ℕ → S → Type 0} {s : S} (r n : ℕ) → WholeRun steps s (λ p. r ≡ fold (λ a x. a + x) 0 p.items) →
    EachRunFrom steps s (λ p. fold (λ a x. a + x) 0 p.items < n) → r < n
total_below r n h b = omega (arith, h.3, b h.0 h.0.seen h.1)

pub returns-clause-small : goal.returns-clause-small
returns-clause-small c =
    let few = c.requires in
    let t = total_below c.sum.result 655351 (c.sum.ensures.runs tt)
    (fits_from_length _ _ 10 655351 (at_most_from_yields_List (YieldsList-from_slice c.args.entries.now cc) few) c.map.ensures.closure (omega arith) (λ x r q k. search rules)) in
    omega arith
