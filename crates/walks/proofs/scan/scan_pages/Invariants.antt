use Rattle.std.proofs.Common.{ℕ, suc, ◌+◌, ◌-◌, ◌≤◌, List, [], length}
use Rattle.tree.specs.Scan.{scan, start}
use Rattle.faults.specs.Accesses.{contents}
use Rattle.walks.specs.Pending.{to_come}
use Rattle.walks.proofs.ScanLoop.{Scanning, Same}
use Rattle.walks.proofs.scan.scan_pages.Given as goal

abbrev pub invariant-loop-v : goal.invariant-loop-v
invariant-loop-v g l =
    let m₀ = g.S.PageStore.meaning l.initial.store in
    let m = g.S.PageStore.meaning l.store in
    ((ms : List ℕ)
    × Scanning (contents m₀) l.last (scan (suc l.last) (contents m₀) l.last m₀.charge [] (start l.fn.root.level l.fn.root.page l.top) 0)
    m.charge l.marks (to_come l.pending) l.seen ms)
    × Same m₀ m
    × (64 ≤ length l.pending.memory.now)

abbrev pub decreases-loop-v : goal.decreases-loop-v
decreases-loop-v g l = l.last + 1 - l.seen.pages
