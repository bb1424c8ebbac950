-- A tree that stands at a visit, one page at a time: what its root's page says, and what stands below it.
use Rattle.std.proofs.Common.{◌≡◌, ℕ, zero, suc, ◌+◌, List, [], ◌∷◌, ◌++◌, sym, refl, ap, ◌∙◌, append_assoc, arith}
use Rattle.layout.specs.declared.entry.Entry.{Entry}
use Rattle.layout.specs.Content.{page, Sized, LeafKeys}
use Rattle.tree.specs.Tree.{Node, Forest, leaf, inner, last, more, pages, pages_in, events, events_in, counts, child_entries, Level, LevelIn, level, level_in, OrderedIn, FilledIn, Contents, StandsIn}
use Rattle.tree.specs.ScanRules.{StandsAt, pages_all, counts_all}
use Rattle.tree.proofs.CopyUnique.{level_some_in, size_some, entries_size}

-- the same of the children of a page
abbrev pub StandsAtIn : Contents → Forest → ℕ → ℕ → ℕ → Type 0
StandsAtIn m f level lo hi = LevelIn f level × StandsIn f m × FilledIn f × OrderedIn f lo hi

-- the level read off the first path down is the level
mutual
  pub level_is : (t : Node) (h : ℕ) → Level t h → level t ≡ h
  level_is (leaf p es) h e = sym e
  level_is (inner p f) zero e = absurd e
  level_is (inner p f) (suc h) e = ap suc (level_in_is f h e)

  pub level_in_is : (f : Forest) (h : ℕ) → LevelIn f h → level_in f ≡ h
  level_in_is (last n) h e = level_is n h e
  level_in_is (more n k f) h e = level_is n h e.0

-- a leaf
pub leaf_from : (m : Contents) (p lo hi : ℕ) (es : List Entry) → m p ≡ page 1 p es → Sized es → LeafKeys lo hi es → StandsAt m (leaf p es) 1 lo hi
leaf_from m p lo hi es e z h = (refl, e, z, h)

-- an inner page
pub inner_from : (m : Contents) (p k lo hi : ℕ) (f : Forest) → m p ≡ page (suc (suc k)) p (child_entries f) → Sized (child_entries f) → StandsAtIn m f (suc k) lo hi →
    StandsAt m (inner p f) (suc (suc k)) lo hi
inner_from m p k lo hi f e z h =
    let l = level_in_is f (suc k) h.0 in
    let n = entries_size f in
    (h.0, (e ∙ ap (λ i. page (suc i) p (child_entries f)) (sym l), h.1), (omega (arith, z.1), h.2), h.3)

pub record InnerAt (m : Contents) (p level lo hi : ℕ) (f : Forest) : Type 0 where
  pub below : ℕ
  pub level_is : level ≡ suc (suc below)
  pub says : m p ≡ page (suc (suc below)) p (child_entries f)
  pub sized : Sized (child_entries f)
  pub children : StandsAtIn m f (suc below) lo hi

pub inner_parts : (m : Contents) (p level lo hi : ℕ) (f : Forest) → StandsAt m (inner p f) level lo hi → InnerAt m p level lo hi f
inner_parts m p zero lo hi f h = absurd h.0
inner_parts m p (suc zero) lo hi f h = absurd (level_some_in f h.0)
inner_parts m p (suc (suc k)) lo hi f h =
    let l = level_in_is f (suc k) h.0 in
    let n = entries_size f in
    let s = size_some f in
    record {
      below = k;
      level_is = refl;
      says = h.1.0 ∙ ap (λ i. page (suc i) p (child_entries f)) l;
      sized = (omega arith, omega (arith, h.2.0));
      children = (h.0, h.1.1, h.2.1, h.3);
    }

-- the children of an inner page as a list
abbrev pub nodes : Forest → List Node
nodes (last n) = n ∷ []
nodes (more n k f) = n ∷ nodes f

pub pages_nodes : (f : Forest) (ts : List Node) → pages_all (nodes f ++ ts) ≡ pages_in f ++ pages_all ts
pages_nodes (last n) ts = refl
pages_nodes (more n k f) ts = ap (λ ps. pages n ++ ps) (pages_nodes f ts) ∙ sym (append_assoc (pages n) (pages_in f) (pages_all ts))

pub counts_append : (es ds : List Entry) → counts (es ++ ds) ≡ counts es + counts ds
counts_append [] ds = omega arith
counts_append (e ∷ es) ds = omega (arith, counts_append es ds)

pub counts_nodes : (f : Forest) (ts : List Node) → counts_all (nodes f ++ ts) ≡ counts (events_in f) + counts_all ts
counts_nodes (last n) ts = refl
counts_nodes (more n k f) ts = omega (arith, counts_nodes f ts, counts_append (events n) (events_in f))
