-- A format and a first lodge, as a history.
use Rattle.std.proofs.Common.{◌≡◌, ℕ, suc, ◌-◌, ◌^◌, ◌<◌, ◌≤◌, min, List, length, replicate, Ok, sym, refl, ap, ◌∙◌, subst, arith, length-set, []}
use lib.Pow.{pow-lt}
use Rattle.pages.specs.Image.{Image, at, written}
use Rattle.layout.specs.Heads.{header_bytes}
use Rattle.layout.proofs.Trips.{round_trip}
use Rattle.orders.specs.Orders.{Order, Lawful, InSpaceOf, size}
use Rattle.tree.specs.Tree.{Node, Held, Contents}
use Rattle.tree.specs.Tree.Node.{leaf, inner}
use Rattle.tree.specs.Tree.Held.{none, held}
use Rattle.tree.specs.CopyMoves.{State as TreeState, lodge_step, front}
use Rattle.tree.specs.CopyWrites.{Write}
use Rattle.tree.specs.CopyLaws.{Kept as TreeKept, SoundOf, upward, usable, root_of}
use Rattle.tree.proofs.CopyShares.{upward_length}
use Rattle.tree.proofs.CopyKept.{lodge_law, empty_law}
use Rattle.faults.specs.Accesses.{contents}
use Rattle.paths.specs.declared.copied.Copied.{Copied}
use Rattle.paths.specs.PathsWrites.{Wrote, Accepts, stored, after_reads}
use Rattle.paths.specs.LodgeKept.{Lodges}
use Rattle.paths.proofs.PathsBack.{no_pages}
use Rattle.paths.proofs.PathsMemory.{kept_after}
use Rattle.paths.proofs.PathsCopying.{stored_length, stays}
use Rattle.index.specs.Model.{State, state, limit}
use Rattle.index.specs.Model.Known.{shut, knows}
use Rattle.index.specs.Model.Call.{formats, lodges}
use Rattle.index.specs.Model.Answer.{accepted}
use Rattle.index.specs.Keeping.{Filed, header_for, top}
use Rattle.index.specs.Keeping.Content.{filed}
use Rattle.index.specs.Changes.{tree_state, file_of, known_of}
use Rattle.index.specs.Changes.Changes.{changed}
use Rattle.index.specs.Steps.{Step, Goes, empty_file}
use Rattle.index.specs.Steps.Does.{lodged}
use Rattle.index.specs.Histories.Led.{begun, goes_on}
use Rattle.index.specs.LawsWitness.{one_event}
use Rattle.index.specs.LawsFirst.{FirstLaw}
use Rattle.index.proofs.Changing.{now_holds}
use Rattle.index.proofs.Heading.{few_bits}
use Rattle.index.proofs.Resets.{formats_memory}
use Rattle.index.proofs.Tallying.{open_steps}

-- a file of the root 0 is the empty one
only_empty : (m : Contents) (l most : ℕ) (t : Held Node) (h total : ℕ) → SoundOf m l h total most t → 0 ≡ h → 0 ≡ root_of t → 0 ≡ total →
    record { tree = t; height = h; total = total } ≡ empty_file
only_empty m l most none h total s eh er et = λ i. record { tree = none; height = sym eh i; total = sym et i }
only_empty m l most (held (leaf p es)) h total s eh er et = absurd (omega (arith, s.range.0.0))
only_empty m l most (held (inner p f)) h total s eh er et = absurd (omega (arith, s.range.0.0))

first_usable : (l : ℕ) → 2 ≤ l → front (usable l) ≡ 2
first_usable l le = let e : suc (l - 2) ≡ l - 1 = omega arith in ap (λ (n : ℕ). front (upward 2 n)) (sym e)

module _ (o : Order) (law : Lawful o) (m : Image) (x : List ℕ) (inside : InSpaceOf o x) (enough : 8 ≤ limit m) (there : 8 ≤ length m.pages) (charge : 2 ≤ m.charge) where
  abbrev start : TreeState
  start = tree_state empty_file (usable (limit m))

  abbrev next : TreeState
  next = (lodge_step start (o.address x)).next

  abbrev writes : List Write
  writes = (lodge_step start (o.address x)).writes

  abbrev after : Image
  after = stored writes (after_reads m 0)

  abbrev copy : Copied
  copy = record { root = record { page = front (usable (limit m)); level = 1 }; trade = record { used = 1; path = no_pages } }

  room : 7 ≤ length (usable (limit m))
  room = omega (arith, upward_length 2 (limit m - 1))

  two : front (usable (limit m)) ≡ 2
  two = first_usable (limit m) (omega arith)

  within : o.address x < size o
  within = (law.there x inside).0

  accepts : Accepts writes (after_reads m 0)
  accepts =
      let small : size o < 2 ^ 64 = pow-lt (few_bits o law o.n o.p refl refl) in (
        (omega (arith, two), omega (arith, two)),
        omega arith,
        round_trip 1 (front (usable (limit m))) (one_event o x) (omega (arith, two)) (omega arith) ((omega (arith, within), omega arith), tt),
        tt,
      )

  wrote : Wrote writes (after_reads m 0) after
  wrote = record { accepts = accepts; image = refl }

  done : Lodges m start (o.address x) (Ok copy) after
  done = record {
    allowed = record { count_low = omega arith; height_low = omega arith; room = omega (arith, room) };
    carried = omega arith;
    root = refl;
    height = refl;
    used = refl;
    path = refl;
    wrote = wrote;
  }

  kept : TreeKept (contents after) (limit m) 1 (top o) next
  kept = kept_after writes m after 0 (limit m) 1 (top o) next wrote
      (lodge_law (contents m) (limit m) 0 (top o) start (o.address x) (empty_law (contents m) (limit m) (top o)) (omega (arith, within)) (omega (arith, room))).1.kept

  same_page : at after 1 ≡ at m 1
  same_page = stays writes (after_reads m 0) 1 accepts (omega arith) ((λ e. omega (arith, two)), tt)

  abbrev ended : State
  ended = state (written after 1 (header_bytes (header_for o (file_of next 1)))) (known_of next 1)

  from_empty : Goes o (filed empty_file) (state m (knows 0 0 0 (usable (limit m)))) accepted ended (lodges x)
  from_empty = record {
    next = filed (file_of next 1);
    kept = now_holds o m after same_page (stored_length writes (after_reads m 0)) next 1 (omega arith) kept (omega arith) (omega arith, tt);
    does = lodged empty_file (usable (limit m)) refl refl inside (changed copy after done (omega arith) refl refl refl);
  }

  pub first_lodge : Step o (state m (knows 0 0 0 (usable (limit m)))) accepted ended (lodges x)
  first_lodge = open_steps o m (written after 1 (header_bytes (header_for o (file_of next 1)))) 0 0 0 (usable (limit m)) accepted (known_of next 1) (lodges x)
      (length-set after.pages 0 (header_bytes (header_for o (file_of next 1))) ∙ stored_length writes (after_reads m 0))
      (λ f holds. subst (λ (g : Filed). Goes o (filed g) (state m (knows 0 0 0 (usable (limit m)))) accepted ended (lodges x))
      (sym (only_empty (contents m) (limit m) (top o) f.tree f.height f.total holds.sound holds.agrees.0 holds.agrees.1 holds.agrees.2)) from_empty)

pub first_law : FirstLaw
first_law o law m x inside enough charge =
    let bytes : List ℕ = header_bytes (header_for o empty_file) in
    let m' : Image = written m 1 bytes in
    let len : length m'.pages ≡ length m.pages = length-set m.pages 0 bytes in
    let eight : 8 ≤ limit m' = omega (arith, len) in
    let step : Step o (state m shut) accepted (state m' (knows 0 0 0 (usable (limit m')))) formats =
    formats_memory o m m' shut (usable (limit m')) ((omega arith, omega arith), omega arith, refl) (ap (λ (n : ℕ). usable (min n 1024)) len) in
    (_, goes_on (goes_on begun step) (first_lodge o law m' x inside eight (omega (arith, len)) (omega arith)))
