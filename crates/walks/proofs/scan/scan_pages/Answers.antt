use Rattle.std.proofs.Common.{◌≡◌, [], length, refl, ap, ◌∙◌, arith}
use Rattle.std.proofs.lemmas.Result.{err_from_is_err_and}
use Rattle.records.specs.declared.tray.Tray.{Tray}
use Rattle.layout.specs.declared.visit.Visit.{Visit}
use Rattle.walks.specs.declared.scanning.Seen.{Seen}
use Rattle.walks.specs.Pending.{to_come}
use Rattle.walks.proofs.ScanLoop.{length_to_come, popped, popped_none, first_put, none_put, begins, few_pages, next_level, others_few, ends, refused_A, visit_refused, visit_passed}
use Rattle.walks.proofs.scan.scan_pages.Goals as goal
use Rattle.walks.proofs.scan.scan_pages.Goals.{then-root-gt0, else-root-gt0}

pub loop-v-init : goal.loop-v-init
loop-v-init g c =
    let t = c.over-pending.result in
    let lent = ap length c.over-pending.ensures.memory in
    let work = c.requires.work in
    let zero = c.default-seen.ensures in
    elim c.if-root-gt0.branch [
      | then-root-gt0 w ↦
          (let f = first_put t w.put.new.self c.args.root.level c.args.root.page c.args.top w.put.result
          c.over-pending.ensures.empty (omega arith) w.if-root-gt0.true w.put.ensures.put in
          let size = f.1 in
          let same = ap (λ (x : Tray Visit). length x.memory.now) w.pending-is in (
            ([], begins _ _ _ _ _ _ _ _ c.requires.height (ap (λ (x : Tray Visit). to_come x) w.pending-is ∙ f.0) zero.0 zero.1),
            refl,
            omega arith,
          ))
      | else-root-gt0 w ↦
          (let same = ap (λ (x : Tray Visit). length x.memory.now) w.pending-is in
          let low : c.args.root.level ≡ 0 = omega (arith, w.if-root-gt0.false) in (
            (
              [],
              begins _ _ _ _ _ _ _ _ c.requires.height
                  (ap (λ (x : Tray Visit). to_come x) w.pending-is ∙ none_put t c.args.root.level c.args.root.page c.args.top c.over-pending.ensures.empty low) zero.0 zero.1,
            ),
            refl,
            omega arith,
          ))
    ]

pub returns-then-not-is_new : goal.returns-then-not-is_new
returns-then-not-is_new g c = refused_A (g.S.PageStore.meaning c.args.store.now) (g.S.PageStore.meaning c.loop-v.store) c.loop-v.invariant.0.1 c.loop-v.invariant.1 (popped c.loop-v.pending c.pop.new.self _ c.in-Some.ensures.pop) _ c.if-not-is_new.ensures refl

pub visit_page-requires : goal.visit_page-requires
visit_page-requires g c =
    let w = c.loop-v.invariant.0.1 in
    let l = c.in-Some.ensures.pop in
    let n = popped c.loop-v.pending c.pop.new.self _ l in
    let room = c.loop-v.invariant.2 in
    let within = c.pop.new.self.within in
    let same = ap length l.1 in
    let used = length_to_come c.pop.new.self within in
    let few = others_few w n in
    record { level = next_level w n; room = omega arith }

pub returns-in_err-count : goal.returns-in_err-count
returns-in_err-count g c =
    let d = c.if-not-is_new.ensures.0 refl in
    let p = err_from_is_err_and c.from_residual.result c.from_residual.ensures.1 in
    rw (p.1, p.2) (visit_refused (g.S.PageStore.meaning c.args.store.now) (g.S.PageStore.meaning c.loop-v.store) c.loop-v.invariant.0.1 c.loop-v.invariant.1 (popped c.loop-v.pending c.pop.new.self _ c.in-Some.ensures.pop) d.0 d.1 d.2 c.requires.pages _ _ _ c.in_err-count.ensures.visits)

pub add-requires : goal.add-requires
add-requires g c =
    let few = few_pages c.loop-v.invariant.0.1 in
    let small = c.loop-v.invariant.0.1.small in
    let last = c.requires.last in
    let count = c.in_ok-count.ensures.visits.2.1 in
    record { pages = omega arith; sum = omega arith }

pub loop-v-smaller : goal.loop-v-smaller
loop-v-smaller g c =
    let few = few_pages c.loop-v.invariant.0.1 in
    omega (arith, ap (λ (s : Seen). s.pages) c.add.ensures)

pub loop-v-preserved : goal.loop-v-preserved
loop-v-preserved g c =
    let d = c.if-not-is_new.ensures.0 refl in
    let h = c.in_ok-count.ensures in
    let l = c.in-Some.ensures.pop in
    let p = visit_passed (g.S.PageStore.meaning c.args.store.now) (g.S.PageStore.meaning c.loop-v.store) c.loop-v.invariant.0.1 c.loop-v.invariant.1 (popped c.loop-v.pending c.pop.new.self _ l) d.0 d.1 d.2 c.requires.pages
    c.in_ok-count.count (g.S.PageStore.meaning c.visit_page.new.store) (to_come c.visit_page.new.pending) c.add.new.self c.add.ensures c.requires.last h.visits in
    let room = c.loop-v.invariant.2 in
    let size = h.size in
    let same = ap length l.1 in
    ((_, p.0), p.1, omega arith)

pub returns : goal.returns
returns g c = ends (g.S.PageStore.meaning c.args.store.now) (g.S.PageStore.meaning c.loop-v.store) c.loop-v.invariant.0.1 c.loop-v.invariant.1 (popped_none c.loop-v.pending c.pop.new.self c.in_default.ensures.pop)
