-- Lodge is a step.
use Rattle.std.proofs.Common.{◌≡◌, ℕ, suc, ◌+◌, ◌<◌, ◌≤◌, List, [], ◌∷◌, ◌++◌, length, drop, Ok, Err, Result, sym, refl, ap, ◌∙◌, subst, inl, inr, add-one, arith, take-append-drop}
use Rattle.std.specs.List.{AllByRecursion}
use Rattle.pages.specs.Image.{Image, at}
use Rattle.orders.specs.Orders.{Order, Lawful}
use Rattle.tree.specs.CopyWrites.{Write}
use Rattle.tree.specs.CopyMoves.{lodge_step}
use Rattle.tree.specs.CopyLaws.{Kept as TreeKept, Copies, lodge_takes}
use Rattle.tree.specs.CopyUpdate.{lodge_by}
use Rattle.tree.proofs.CopyKept.{lodge_law, greatest_law, range_law}
use Rattle.faults.specs.Accesses.{contents}
use Rattle.faults.specs.declared.fault.Fault.{Fault}
use Rattle.faults.specs.declared.fault.Fault.TheVariants.{Shut, Outside, Work, Absent as is_absent, Unread, NoHeader, OtherOrder, Unsound, NoEvent, CountFull, HeightFull, Room, Unwritten}
use Rattle.paths.specs.declared.copied.Copied.{Copied}
use Rattle.paths.specs.PathsWrites.{Wrote, after_reads}
use Rattle.paths.specs.LodgeKept.{Lodges, LodgeIs}
use Rattle.paths.specs.LodgeRules.{Unlodged}
use Rattle.paths.specs.LodgeRules.Unlodged.{denied, cut}
use Rattle.paths.specs.LodgeTree.{LodgedBy}
use Rattle.paths.proofs.PathsMemory.{kept_after}
use Rattle.paths.specs.PathsCopies.{LeavesAlone}
use Rattle.paths.proofs.PathsCopying.{wrote_alone, read_alone, misread_alone, append_none, stored_length}
use Rattle.paths.proofs.LodgeKeeping.{lodge_keeps, lodge_keeps_old, lodge_frees}
use Rattle.std.proofs.lemmas.Bool.{cases_lt}
use Rattle.index.specs.Model.{Answer, State, Known, state, limit, refusal, told}
use Rattle.index.specs.Model.Known.{knows}
use Rattle.index.specs.Model.Call.{lodges}
use Rattle.index.specs.Keeping.{Content, Filed, Holds, top}
use Rattle.index.specs.Keeping.Content.{filed}
use Rattle.index.specs.Changes.{Changes, tree_state}
use Rattle.index.specs.Steps.{Step, Does}
use Rattle.index.specs.Steps.Does.{lodged}
use Rattle.index.specs.Located.{Inside}
use Rattle.index.specs.Head.{WritesHead}
use Rattle.index.proofs.Changing.{knows_file, tree_kept}
use Rattle.index.proofs.Headers.{file_numbers}
use Rattle.index.proofs.Changed.{MadeCopy}
use Rattle.index.proofs.Copying.{above_one, refused_step, copied_step}
use Rattle.index.proofs.Settling.{After}
use Rattle.index.proofs.Tallying.{open_file}

module _ (o : Order) (m : Image) (h r t : ℕ) (free : List ℕ) (f : Filed) (holds : Holds o (state m (knows h r t free)) f) (a : ℕ) (inside : a ≤ top o) where
  kept_tree : TreeKept (contents m) (limit m) f.total (top o) (tree_state f free)
  kept_tree = tree_kept o m h r t free f holds

  free_range : AllByRecursion (λ p. (2 ≤ p) × (p ≤ limit m)) free
  free_range = (range_law (contents m) (limit m) f.total (top o) (tree_state f free) kept_tree).1

  copies : lodge_takes f.tree f.height a + 6 ≤ length free →
      Copies (contents m) (limit m) f.total (suc f.total) (top o) (tree_state f free) a (lodge_takes f.tree f.height a) (lodge_step (tree_state f free) a)
  copies room = (lodge_law (contents m) (limit m) f.total (top o) (tree_state f free) a kept_tree inside room).1

  -- a beginning of the copy's writes leaves page 1 and the number of pages
  alone : (done rest : List Write) (m' : Image) → lodge_takes f.tree f.height a + 6 ≤ length free → (lodge_step (tree_state f free) a).writes ≡ done ++ rest →
      Wrote done (after_reads m f.height) m' → LeavesAlone m free m'
  alone done rest m' room e wrote =
      let n = lodge_takes f.tree f.height a in
      wrote_alone (lodge_step (tree_state f free) a).writes done rest m m' f.height free (drop n free)
      (ap (λ (xs : List ℕ). xs ++ drop n free) (copies room).wrote ∙ take-append-drop n free) e wrote

  page_one : (m' : Image) → LeavesAlone m free m' → at m' 1 ≡ at m 1
  page_one m' same = same.others 1 (omega arith) (above_one (limit m) free free_range)

  made_lodging : (g : Copied) (m' : Image) → Lodges m (tree_state f free) a (Ok g) m' → MadeCopy o m f free (lodge_step (tree_state f free) a).next (suc f.total) g m'
  made_lodging g m' w =
      let st = tree_state f free in
      let ws = (lodge_step st a).writes in
      let same = alone ws [] m' w.allowed.room (append_none ws) w.wrote in
      record {
        root = w.root;
        height = w.height;
        freed = lodge_frees m m' (limit m) f.total (top o) st a g kept_tree inside w;
        kept = lodge_keeps m m' (limit m) f.total (top o) st a g kept_tree inside w;
        old = kept_after ws m m' f.height (limit m) f.total (top o) st w.wrote ((copies w.allowed.room).old ws [] (append_none ws));
        page = page_one m' same;
        size = same.size;
        low = w.allowed.height_low;
        counts = (greatest_law (contents m) (limit m) f.total (top o) st a 65535 kept_tree holds.counts).0 w.allowed.count_low;
      }

  -- a refused lodge leaves page 1
  refused_lodging : (fault : Fault) (m' : Image) → Lodges m (tree_state f free) a (Err fault) m' → at m' 1 ≡ at m 1
  refused_lodging (Unread x) m' w = page_one m' (read_alone m m' m.charge free w.spent)
  refused_lodging CountFull m' w = page_one m' (read_alone m m' f.height free w.2)
  refused_lodging HeightFull m' w = page_one m' (read_alone m m' f.height free w.3)
  refused_lodging Room m' w = page_one m' (read_alone m m' f.height free w.4)
  refused_lodging (Unwritten x) m' (paid, allowed, run) = page_one m' (alone run.done (run.next ∷ run.rest) m' allowed.room run.writes run.began)
  refused_lodging Shut m' w = absurd w
  refused_lodging Outside m' w = absurd w
  refused_lodging Work m' w = absurd w
  refused_lodging (is_absent x) m' w = absurd w
  refused_lodging NoHeader m' w = absurd w
  refused_lodging OtherOrder m' w = absurd w
  refused_lodging (Unsound p q) m' w = absurd w
  refused_lodging NoEvent m' w = absurd w

-- the number of pages stays, over every memory
unlodged_size : (m m' : Image) (h count height takes n : ℕ) (ws : List Write) (f : Fault) → Unlodged (after_reads m h) count height takes n ws f m' → length m'.pages ≡ length m.pages
unlodged_size m m' h count height takes n ws f (denied d e) = ap (λ (i : Image). length i.pages) e
unlodged_size m m' h count height takes n ws f (cut allowed u) = ap (λ (i : Image). length i.pages) u.cut.began.image ∙ stored_length u.cut.done (after_reads m h)

lodged_size : (m m' : Image) (h p a : ℕ) (free : List ℕ) (res : Result Copied Fault) → LodgedBy m h p a free res m' → length m'.pages ≡ length m.pages
lodged_size m m' h p a free (Ok g) l = ap (λ (i : Image). length i.pages) l.wrote.image ∙ stored_length (lodge_by h (contents m) p a free).writes (after_reads m h)
lodged_size m m' h p a free (Err f) (inl mis) = (misread_alone m m' h p a free f mis).size
lodged_size m m' h p a free (Err f) (inr un) = unlodged_size m m' h _ _ _ _ _ f un.1

lodge_size : (m m' : Image) (h p a : ℕ) (free : List ℕ) (res : Result Copied Fault) → LodgeIs m p h a free res m' → length m'.pages ≡ length m.pages
lodge_size m m' h p a free res is = elim (cases_lt 6 h) [
  | inl above ↦ ap (λ (i : Image). length i.pages) (is.above above).1
  | inr low ↦ lodged_size m m' h p a free res (is.always low)
]

module _ (o : Order) (law : Lawful o) (m m' : Image) (h r t : ℕ) (free x : List ℕ) (a : ℕ) (at : Inside o x a) where
  rule : (f : Filed) → Holds o (state m (knows h r t free)) f → (ans : Answer) (u : State) (v : Content) →
      Changes o (state m (knows h r t free)) f (Lodges m (tree_state f free) (o.address x)) (lodge_step (tree_state f free) (o.address x)).next (suc f.total) ans u v →
      Does o (filed f) (state m (knows h r t free)) ans u v (lodges x)
  rule f holds ans u v changes = lodged f free refl (knows_file (limit m) h r t free f holds.agrees) at.inside changes

  in_range : o.address x ≤ top o
  in_range = omega (arith, (law.there x at.inside).0)

  of_file : (res : Result Copied Fault) → LodgeIs m r h a free res m' → (f : Filed) → Holds o (state m (knows h r t free)) f → Lodges m (tree_state f free) (o.address x) res m'
  of_file res is f holds =
      let low : h ≤ 6 = subst (λ (n : ℕ). n ≤ 6) (sym holds.agrees.0) holds.low in
      let in_top : a ≤ top o = subst (λ (y : ℕ). y ≤ top o) (sym at.address) in_range in
      subst (λ (y : ℕ). Lodges m (tree_state f free) y res m') at.address (is.kept (limit m) f.total (top o) (tree_state f free) (open_file o m h r t free f holds) refl in_top low)

  pub lodge_refused : (fault : Fault) → LodgeIs m r h a free (Err fault) m' → Step o (state m (knows h r t free)) (refusal fault) (state m' (knows h r t free)) (lodges x)
  lodge_refused fault is =
      refused_step o m h r t free (lodges x) (λ f. Lodges m (tree_state f free) (o.address x)) (λ f. (lodge_step (tree_state f free) (o.address x)).next) (λ f. suc f.total) rule
      fault m' (lodge_size m m' h r a free (Err fault) is) (λ f holds.
      let w = of_file (Err fault) is f holds in (
        w,
        refused_lodging o m h r t free f holds (o.address x) in_range fault m' w,
        lodge_keeps_old m m' (limit m) f.total (top o) (tree_state f free) (o.address x) fault (kept_tree o m h r t free f holds (o.address x) in_range) in_range w,
      ))

  pub lodge_copied : (g : Copied) (m'' : Image) (sum : ℕ) (res : Result (Unit {0}) Fault) (k' : Known) → LodgeIs m r h a free (Ok g) m' →
      (t + 1 < 4294967296 → sum ≡ t + 1) →
      WritesHead o m' g.root.level g.root.page sum res m'' → After res free (knows h r t free) g sum k' →
      Step o (state m (knows h r t free)) (told res) (state m'' k') (lodges x)
  lodge_copied g m'' sum res k' is es head after =
      copied_step o m h r t free (lodges x) (λ f. Lodges m (tree_state f free) (o.address x)) (λ f. (lodge_step (tree_state f free) (o.address x)).next) (λ f. suc f.total) rule
      g m' m'' sum res k' (lodge_size m m' h r a free (Ok g) is) (λ f holds.
      let w = of_file (Ok g) is f holds in
      let made = made_lodging o m h r t free f holds (o.address x) in_range g m' w in
      let small = (file_numbers o law (contents m') (limit m) (omega arith) _ (suc f.total) _ made.kept.sound made.counts).1 in
      let same : t ≡ f.total = holds.agrees.2 in
      (w, made, es (omega arith) ∙ add-one t ∙ ap suc same))
      head after
