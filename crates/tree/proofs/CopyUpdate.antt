-- The turn on a memory and a header is the state's step.
use Rattle.std.proofs.Common.{◌≡◌, ℕ, zero, suc, List, [], ◌++◌, sym, refl, ap, ◌∙◌, append-nil, arith}
use Rattle.tree.specs.Tree.{Contents, Held, Node, number}
use Rattle.tree.specs.Tree.Held.{held, none}
use Rattle.tree.specs.CopyLaws.{SoundOf, lodge_takes, path_of, root_of}
use Rattle.tree.specs.CopyMemory.{lodge_at, path_at, withdraw_at}
use Rattle.tree.specs.CopyMoves.{Split, height_left, lodge, lodge_from, new_root, path, raised, withdraw, withdraw_from}
use Rattle.tree.specs.CopyMoves.Split.{one, two}
use Rattle.tree.specs.CopyPages.{number_left, numbers}
use Rattle.tree.specs.CopyUpdate.{UpdateLaw, lodge_by, lodge_finish, needed, new_root_at, update_of, withdraw_by, withdraw_finish}
use Rattle.tree.specs.CopyWrites.{Write}
use Rattle.tree.proofs.CopyForests
use Rattle.tree.proofs.CopyLodging
use Rattle.tree.proofs.CopyMemory
use Rattle.tree.proofs.CopyUnique

-- the new root
lodge_end_is : (s : Split Node) (h : ℕ) (old : List ℕ) (ws : List Write) (rest : List ℕ) → CopyForests.LevelTwo s h →
    lodge_finish h old (record { part = numbers s; writes = ws; rest = rest })
    ≡ record { next = record { root = number (new_root s ws rest).part; height = raised s h; free = old ++ (new_root s ws rest).rest }; writes = (new_root s ws rest).writes }
lodge_end_is (one n) h old ws rest l = refl
lodge_end_is (two a k r) h old ws rest l = rw (CopyMemory.level_is a h l.0)

withdraw_end_is : (s : Held Node) (h : ℕ) (old : List ℕ) (ws : List Write) (rest : List ℕ) →
    withdraw_finish h old (record { part = number_left s; writes = ws; rest = rest })
    ≡ record { next = record { root = root_of s; height = height_left s h; free = old ++ rest }; writes = ws }
withdraw_end_is none h old ws rest = refl
withdraw_end_is (held n) h old ws rest = refl

pub new_root_writes : (h : ℕ) (s : Split ℕ) (ws : List Write) (free : List ℕ) → (new_root_at h s ws free).writes ≡ ws ++ (new_root_at h s [] free).writes
new_root_writes h (one p) ws free = sym (append-nil ws)
new_root_writes h (two p k q) ws free = refl

lodge_is : (m : Contents) (limit h total top : ℕ) (t : Held Node) (a : ℕ) (free : List ℕ) → SoundOf m limit h total top t → lodge_by h m (root_of t) a free ≡ update_of (lodge_from t h a free)
lodge_is m limit zero total top none a free s = refl
lodge_is m limit (suc h) total top none a free s = absurd (omega (arith, s.0))
lodge_is m limit zero total top (held n) a free s = absurd (CopyUnique.level_some n s.levels)
lodge_is m limit (suc h) total top (held n) a free s =
    ap (λ (w : List ℕ). lodge_finish (suc h) w (lodge_at (suc h) m (number n) a free)) (CopyMemory.path_at_is (suc h) n m a s.levels s.stands)
    ∙ ap (lodge_finish (suc h) (path n a)) (CopyMemory.lodge_at_is (suc h) n m a free s.levels s.stands)
    ∙ lodge_end_is (lodge n a free).part (suc h) (path n a) (lodge n a free).writes (lodge n a free).rest (CopyLodging.lodge_level n a (suc h) free s.levels)

withdraw_is : (m : Contents) (limit h total top : ℕ) (t : Held Node) (a : ℕ) (free : List ℕ) → SoundOf m limit h total top t → withdraw_by h m (root_of t) a free ≡ update_of (withdraw_from t h a free)
withdraw_is m limit zero total top none a free s = refl
withdraw_is m limit (suc h) total top none a free s = absurd (omega (arith, s.0))
withdraw_is m limit zero total top (held n) a free s = absurd (CopyUnique.level_some n s.levels)
withdraw_is m limit (suc h) total top (held n) a free s =
    ap (λ (w : List ℕ). withdraw_finish (suc h) w (withdraw_at (suc h) m (number n) a free)) (CopyMemory.path_at_is (suc h) n m a s.levels s.stands)
    ∙ ap (withdraw_finish (suc h) (path n a)) (CopyMemory.withdraw_at_is (suc h) n m a free s.levels s.stands)
    ∙ withdraw_end_is (withdraw n a free).part (suc h) (path n a) (withdraw n a free).writes (withdraw n a free).rest

needed_is : (m : Contents) (limit h total top : ℕ) (t : Held Node) (a : ℕ) → SoundOf m limit h total top t → needed h m (root_of t) a ≡ lodge_takes t h a
needed_is m limit zero total top none a s = refl
needed_is m limit (suc h) total top none a s = absurd (omega (arith, s.0))
needed_is m limit zero total top (held n) a s = absurd (CopyUnique.level_some n s.levels)
needed_is m limit (suc h) total top (held n) a s =
    omega (arith, CopyMemory.path_splits_at_is (suc h) n m a s.levels s.stands, CopyMemory.page_splits_at_is (suc h) n m a s.levels s.stands)

path_is : (m : Contents) (limit h total top : ℕ) (t : Held Node) (a : ℕ) → SoundOf m limit h total top t → path_at h m (root_of t) a ≡ path_of t a
unfolding path_at
path_is m limit zero total top none a s = refl
path_is m limit (suc h) total top none a s = absurd (omega (arith, s.0))
path_is m limit h total top (held n) a s = CopyMemory.path_at_is h n m a s.levels s.stands

pub update_law : UpdateLaw
update_law m limit total top s a z = (
  lodge_is m limit s.height total top s.tree a s.free z.sound,
  withdraw_is m limit s.height total top s.tree a s.free z.sound,
  needed_is m limit s.height total top s.tree a z.sound,
  path_is m limit s.height total top s.tree a z.sound,
)
