-- A memory, a root and a height determine the tree.
use Rattle.std.proofs.Common.{◌≡◌, ℕ, zero, suc, ◌≤◌, List, [], ◌∷◌, length, sym, refl, ap, ◌∙◌, subst, arith}
use Rattle.layout.specs.declared.entry.Entry.{Entry}
use Rattle.layout.specs.Content.{Content}
use Rattle.tree.specs.Tree.{Contents, Forest, Held, Level, LevelIn, Node, Stands, StandsIn, child_entries, content, number, size}
use Rattle.tree.specs.Tree.Node.{inner, leaf}
use Rattle.tree.specs.Tree.Forest.{last, more}
use Rattle.tree.specs.Tree.Held.{held, none}
use Rattle.tree.specs.CopyLaws.{SameLaw, SoundOf, UniqueLaw, root_of}
use Rattle.tree.specs.CopyMoves.{entry}

mutual
  pub level_some : (n : Node) → Level n 0 → ⊥
  level_some (leaf p es) l = omega (arith, l)
  level_some (inner p f) l = l

  pub level_some_in : (f : Forest) → LevelIn f 0 → ⊥
  level_some_in (last n) l = level_some n l
  level_some_in (more n k f) l = level_some n l.0

pub size_some : (f : Forest) → 1 ≤ size f
size_some (last n) = omega arith
size_some (more n k f) = omega arith

-- an inner page has as many entries as children
pub entries_size : (f : Forest) → length (child_entries f) ≡ size f
entries_size (last n) = refl
entries_size (more n k f) = ap suc (entries_size f)

-- equal pages at equal numbers
pages_alike : (m : Contents) (p q : ℕ) (c d : Content) → p ≡ q → m p ≡ c → m q ≡ d → c ≡ d
pages_alike m p q c d e s t = sym s ∙ ap m e ∙ t

leaf_alike : (p q : ℕ) (es ds : List Entry) → p ≡ q → es ≡ ds → leaf p es ≡ leaf q ds
leaf_alike p q es ds e f = cc

inner_alike : (p q : ℕ) (f g : Forest) → p ≡ q → f ≡ g → inner p f ≡ inner q g
inner_alike p q f g e h = cc

more_alike : (n n' : Node) (k k' : ℕ) (f f' : Forest) → n ≡ n' → k ≡ k' → f ≡ f' → more n k f ≡ more n' k' f'
more_alike n n' k k' f f' e h i = cc

head_alike : (d e : Entry) (ds es : List Entry) → d ∷ ds ≡ e ∷ es → d ≡ e
head_alike d e ds es h = cc

tail_alike : (d e : Entry) (ds es : List Entry) → d ∷ ds ≡ e ∷ es → ds ≡ es
tail_alike d e ds es h = cc

mutual
  pub same_tree : (n n' : Node) (m : Contents) (h : ℕ) → Level n h → Level n' h → number n ≡ number n' → Stands n m → Stands n' m → n ≡ n'
  same_tree (leaf p es) (leaf q ds) m h l l' e s t =
      let c = ap (λ (x : Content). x.entries) (pages_alike m p q (content (leaf p es)) (content (leaf q ds)) e s t) in
      leaf_alike p q es ds e c
  same_tree (leaf p es) (inner q g) m zero l l' e s t = absurd l'
  same_tree (leaf p es) (inner q g) m (suc h) l l' e s t =
      let z : h ≡ 0 = omega arith in absurd (level_some_in g (subst (LevelIn g) z l'))
  same_tree (inner p f) (leaf q ds) m zero l l' e s t = absurd l
  same_tree (inner p f) (leaf q ds) m (suc h) l l' e s t =
      let z : h ≡ 0 = omega arith in absurd (level_some_in f (subst (LevelIn f) z l))
  same_tree (inner p f) (inner q g) m zero l l' e s t = absurd l
  same_tree (inner p f) (inner q g) m (suc h) l l' e s t =
      let c = ap (λ (x : Content). x.entries) (pages_alike m p q (content (inner p f)) (content (inner q g)) e s.0 t.0) in
      inner_alike p q f g e (same_row f g m h l l' c s.1 t.1)

  pub same_row : (f f' : Forest) (m : Contents) (h : ℕ) → LevelIn f h → LevelIn f' h → child_entries f ≡ child_entries f' → StandsIn f m → StandsIn f' m → f ≡ f'
  same_row (last n) (last n') m h l l' e s t =
      ap last (same_tree n n' m h l l' (ap (λ (x : Entry). x.value) (head_alike (entry 0 (number n)) (entry 0 (number n')) [] [] e)) s t)
  same_row (last n) (more n' k f') m h l l' e s t = absurd (omega (arith, ap length e, entries_size f', size_some f'))
  same_row (more n k f) (last n') m h l l' e s t = absurd (omega (arith, ap length e, entries_size f, size_some f))
  same_row (more n k f) (more n' k' f') m h l l' e s t =
      let d = head_alike (entry k (number n)) (entry k' (number n')) (child_entries f) (child_entries f') e in
      more_alike n n' k k' f f'
      (same_tree n n' m h l.0 l'.0 (ap (λ (x : Entry). x.value) d) s.0 t.0)
      (ap (λ (x : Entry). x.key) d)
      (same_row f f' m h l.1 l'.1 (tail_alike (entry k (number n)) (entry k' (number n')) (child_entries f) (child_entries f') e) s.1 t.1)

pub unique_law : UniqueLaw
unique_law = same_tree

pub same_held : (m : Contents) (limit limit' total total' top top' h h' : ℕ) (t t' : Held Node) → SoundOf m limit h total top t → SoundOf m limit' h' total' top' t' →
    h ≡ h' → root_of t ≡ root_of t' → t ≡ t'
same_held m limit limit' total total' top top' h h' none none s s' e r = refl
same_held m limit limit' total total' top top' h h' none (held n) s s' e r = let z : h' ≡ 0 = omega (arith, s.0) in absurd (level_some n (subst (Level n) z s'.levels))
same_held m limit limit' total total' top top' h h' (held n) none s s' e r = let z : h ≡ 0 = omega (arith, s'.0) in absurd (level_some n (subst (Level n) z s.levels))
same_held m limit limit' total total' top top' h h' (held n) (held n') s s' e r =
    ap held (same_tree n n' m h s.levels (subst (Level n') (sym e) s'.levels) r s.stands s'.stands)

pub same_law : SameLaw
same_law m limit limit' total total' top top' s s' z z' e r =
    same_held m limit limit' total total' top top' s.height s'.height s.tree s'.tree z.sound z'.sound e r
