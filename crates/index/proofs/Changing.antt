-- A change of the tree keeps what ties the index to its memory.
use Rattle.std.proofs.Common.{◌≡◌, ℕ, ◌-◌, ◌≤◌, min, List, [], length, set, sym, refl, ap, ◌∙◌, subst, arith, length-set, get_or-set_other, get_or-set_same}
use Rattle.pages.specs.Image.{Image, at, written}
use Rattle.layout.specs.Bytes.{content_of}
use Rattle.layout.specs.Heads.{header_bytes}
use Rattle.orders.specs.Orders.{Order}
use Rattle.tree.specs.CopyMoves.{State as TreeState}
use Rattle.tree.specs.CopyLaws.{Kept as TreeKept, SoundOf, Within, events_of, usable}
use Rattle.tree.specs.CopyWrites.{times}
use Rattle.tree.proofs.CopyKept.{agree_law}
use Rattle.faults.specs.Accesses.{contents}
use Rattle.index.specs.Model.{Known, state, limit}
use Rattle.index.specs.Model.Known.{knows}
use Rattle.index.specs.Keeping.{Filed, Holds, Agrees, header_for, top}
use Rattle.index.specs.Changes.{tree_state, file_of, known_of}

-- what an open index knows of a tree on file
pub knows_file : (l h r t : ℕ) (free : List ℕ) (f : Filed) → Agrees l f (knows h r t free) → knows h r t free ≡ known_of (tree_state f free) f.total
knows_file l h r t free f a = λ i. knows (a.0 i) (a.1 i) (a.2 i) free

-- the tree with its free pages is kept over the contents of the memory
pub tree_kept : (o : Order) (m : Image) (h r t : ℕ) (free : List ℕ) (f : Filed) → Holds o (state m (knows h r t free)) f → TreeKept (contents m) (limit m) f.total (top o) (tree_state f free)
tree_kept o m h r t free f holds = record { sound = holds.sound; shared = holds.agrees.3 }

module _ (o : Order) (m m' : Image) (same : at m' 1 ≡ at m 1) (size : length m'.pages ≡ length m.pages) where
  same_limit : limit m ≡ limit m'
  same_limit = ap (λ (n : ℕ). min n 1024) (sym size)

  -- a refusal: the old tree is kept in the memory as it is now
  pub still_holds : (k : Known) (f : Filed) (free : List ℕ) → Holds o (state m k) f → TreeKept (contents m') (limit m) f.total (top o) (tree_state f free) → Holds o (state m' k) f
  still_holds k f free holds kept = record {
    there = subst (λ (n : ℕ). 1 ≤ n) (sym size) holds.there;
    header = same ∙ holds.header;
    sound = subst (λ (l : ℕ). SoundOf (contents m') l f.height f.total (top o) f.tree) same_limit kept.sound;
    low = holds.low;
    counts = holds.counts;
    agrees = subst (λ (l : ℕ). Agrees l f k) same_limit holds.agrees;
  }

  -- the header is written over page 1: the new tree is kept, for no tree page is touched
  pub now_holds : (t : TreeState) (total : ℕ) → 1 ≤ length m.pages → TreeKept (contents m') (limit m) total (top o) t → t.height ≤ 6 → Within 65535 (events_of t.tree) →
      Holds o (state (written m' 1 (header_bytes (header_for o (file_of t total)))) (known_of t total)) (file_of t total)
  now_holds t total there kept low within =
      let bytes : List ℕ = header_bytes (header_for o (file_of t total)) in
      let len : length (set m'.pages 0 bytes) ≡ length m'.pages = length-set m'.pages 0 bytes in
      let l-is : limit m ≡ limit (written m' 1 bytes) = ap (λ (n : ℕ). min n 1024) (sym (len ∙ size)) in
      let apart : (p : ℕ) → 2 ≤ p → p ≤ limit m → contents (written m' 1 bytes) p ≡ contents m' p =
      λ p two le. ap content_of (get_or-set_other m'.pages 0 (p - 1) bytes [] (λ e. omega arith)) in
      let kept' = agree_law (contents m') (contents (written m' 1 bytes)) (limit m) total (top o) t apart kept in
      record {
        there = omega (arith, len);
        header = get_or-set_same m'.pages 0 bytes [] (omega arith);
        sound = subst (λ (l : ℕ). SoundOf (contents (written m' 1 bytes)) l t.height total (top o) t.tree) l-is kept'.sound;
        low = low;
        counts = within;
        agrees = (refl, refl, refl, λ p. kept'.shared p ∙ ap (λ (l : ℕ). times p (usable l)) l-is);
      }
