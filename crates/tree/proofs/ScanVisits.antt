-- A tree at a visit in front of other trees, against the trees of its children in front of them: the two say the same.
use Rattle.std.proofs.Common.{◌≡◌, ℕ, zero, suc, ◌+◌, List, [], ◌∷◌, ◌++◌, sym, refl, ap, ◌∙◌, subst, arith}
use Rattle.layout.specs.declared.entry.Entry.{Entry}
use Rattle.layout.specs.Content.{page, Sized, Own, Filled, LeafKeys, InnerKeys}
use Rattle.tree.specs.Tree.{Node, Forest, leaf, inner, last, more, number, counts, child_entries, Contents}
use Rattle.tree.specs.Scan.{Visit, child_visits}
use Rattle.tree.specs.ScanRules.{Expands, StandsAt, StandAll, pages_all, counts_all}
use Rattle.tree.proofs.ScanTrees.{StandsAtIn, leaf_from, inner_from, inner_parts, nodes, pages_nodes, counts_nodes}

module _ (m : Contents) where
  -- trees that stand at the visits of an inner page's children, and at others behind them, are a forest and the rest
  pub record Gathered (l lo hi : ℕ) (es : List Entry) (st : List Visit) (ts : List Node) : Type 0 where
    pub forest : Forest
    pub rest : List Node
    pub says : child_entries forest ≡ es
    pub stands : StandsAtIn m forest l lo hi
    pub parts : ts ≡ nodes forest ++ rest
    pub others : StandAll m st rest

  pub gathered : (l : ℕ) (st : List Visit) (es : List Entry) (lo hi : ℕ) (ts : List Node) → InnerKeys lo hi es → StandAll m (child_visits l lo hi es ++ st) ts → Gathered l lo hi es st ts
  gathered l st [] lo hi ts k h = absurd k
  gathered l st (e ∷ []) lo hi [] k h = absurd h
  gathered l st (e ∷ []) lo hi (t ∷ ts) k h =
      record { forest = last t; rest = ts; says = (λ i. record { key = sym k i; value = h.0 i } ∷ []); stands = h.1; parts = refl; others = h.2 }
  gathered l st (e ∷ (d ∷ es)) lo hi [] k h = absurd h
  gathered l st (e ∷ (d ∷ es)) lo hi (t ∷ ts) k h =
      let r = gathered l st (d ∷ es) (suc e.key) hi ts k.2 h.2 in
      let s = h.1 in
      let u = r.stands in
      record {
        forest = more t e.key r.forest;
        rest = r.rest;
        says = (λ i. record { key = e.key; value = h.0 i } ∷ r.says i);
        stands = ((s.0, u.0), (s.1, u.1), (s.2, u.2), (k.0, k.1, s.3, u.3));
        parts = ap (λ us. t ∷ us) r.parts;
        others = r.others;
      }

  -- and back: the trees of a forest that stands do stand at the visits
  pub spread : (l : ℕ) (st : List Visit) (ts : List Node) → StandAll m st ts → (f : Forest) (lo hi : ℕ) → StandsAtIn m f l lo hi →
      InnerKeys lo hi (child_entries f) × StandAll m (child_visits l lo hi (child_entries f) ++ st) (nodes f ++ ts)
  spread l st ts a (last n) lo hi h = (refl, (refl, h, a))
  spread l st ts a (more n k (last u)) lo hi h =
      let o = h.3 in
      ((o.0, o.1, refl), (refl, (h.0.0, h.1.0, h.2.0, o.2), (refl, (h.0.1, h.1.1, h.2.1, o.3), a)))
  spread l st ts a (more n k (more u j f)) lo hi h =
      let o = h.3 in
      let r = spread l st ts a (more u j f) (suc k) hi (h.0.1, h.1.1, h.2.1, o.3) in
      ((o.0, o.1, r.0), (refl, (h.0.0, h.1.0, h.2.0, o.2), r.1))

  -- a visit whose page expands, with trees at what it brings and at the others: a tree for the visit
  pub record Joined (p l lo hi n : ℕ) (st : List Visit) (ts : List Node) : Type 0 where
    pub tree : Node
    pub rest : List Node
    pub number : number tree ≡ p
    pub stands : StandsAt m tree l lo hi
    pub others : StandAll m st rest
    pub pages : pages_all (tree ∷ rest) ≡ p ∷ pages_all ts
    pub total : counts_all (tree ∷ rest) ≡ n + counts_all ts

  pub joined : (l p lo hi n : ℕ) (vs st : List Visit) (ts : List Node) → Own p l (m p) → Filled (m p) → Expands l lo hi (m p).entries n vs → StandAll m (vs ++ st) ts →
      Joined p l lo hi n st ts
  joined zero p lo hi n vs st ts o z h a = absurd h
  joined (suc zero) p lo hi n vs st ts o z h a =
      let es = (m p).entries in
      record {
        tree = leaf p es;
        rest = ts;
        number = refl;
        stands = leaf_from m p lo hi es (λ i. record { level = o.1 i; number = o.0 i; clean = z.1 i; entries = es }) z.0 h.0;
        others = subst (λ us. StandAll m (us ++ st) ts) h.2 a;
        pages = refl;
        total = omega (arith, h.1);
      }
  joined (suc (suc k)) p lo hi n vs st ts o z h a =
      let es = (m p).entries in
      let r = gathered (suc k) st es lo hi ts h.0 (subst (λ us. StandAll m (us ++ st) ts) h.2 a) in
      let f = r.forest in
      record {
        tree = inner p f;
        rest = r.rest;
        number = refl;
        stands = inner_from m p k lo hi f (λ i. record { level = o.1 i; number = o.0 i; clean = z.1 i; entries = sym r.says i }) (subst Sized (sym r.says) z.0) r.stands;
        others = r.others;
        pages = ap (λ ps. p ∷ ps) (sym (pages_nodes f r.rest) ∙ ap pages_all (sym r.parts));
        total = omega (arith, h.1, counts_nodes f r.rest, ap counts_all r.parts);
      }

  -- a tree at a visit, and trees at the others: the visit's page expands, and trees stand at what it brings
  pub record Parted (p l lo hi : ℕ) (st : List Visit) (t : Node) (ts : List Node) : Type 0 where
    pub adds : ℕ
    pub brings : List Visit
    pub below : List Node
    pub own : Own p l (m p)
    pub filled : Filled (m p)
    pub expands : Expands l lo hi (m p).entries adds brings
    pub stand : StandAll m (brings ++ st) below
    pub pages : pages_all (t ∷ ts) ≡ p ∷ pages_all below
    pub total : counts_all (t ∷ ts) ≡ adds + counts_all below

  parted_leaf : (p lo hi : ℕ) (es : List Entry) (st : List Visit) (ts : List Node) → m p ≡ page 1 p es → Sized es → LeafKeys lo hi es → StandAll m st ts →
      Parted p 1 lo hi st (leaf p es) ts
  parted_leaf p lo hi es st ts e z h a =
      record {
        adds = counts es;
        brings = [];
        below = ts;
        own = (ap (λ c. c.number) e, ap (λ c. c.level) e);
        filled = (subst (λ c. Sized c.entries) (sym e) z, ap (λ c. c.clean) e);
        expands = subst (λ c. Expands 1 lo hi c.entries (counts es) []) (sym e) (h, refl, refl);
        stand = a;
        pages = refl;
        total = refl;
      }

  parted_inner : (p k lo hi : ℕ) (f : Forest) (st : List Visit) (ts : List Node) → m p ≡ page (suc (suc k)) p (child_entries f) → Sized (child_entries f) → StandsAtIn m f (suc k) lo hi →
      StandAll m st ts → Parted p (suc (suc k)) lo hi st (inner p f) ts
  parted_inner p k lo hi f st ts e z h a =
      let r = spread (suc k) st ts a f lo hi h in
      let vs = child_visits (suc k) lo hi (child_entries f) in
      record {
        adds = 0;
        brings = vs;
        below = nodes f ++ ts;
        own = (ap (λ c. c.number) e, ap (λ c. c.level) e);
        filled = (subst (λ c. Sized c.entries) (sym e) z, ap (λ c. c.clean) e);
        expands = subst (λ c. Expands (suc (suc k)) lo hi c.entries 0 vs) (sym e) (r.0, refl, refl);
        stand = r.1;
        pages = ap (λ ps. p ∷ ps) (sym (pages_nodes f ts));
        total = omega (arith, counts_nodes f ts);
      }

  pub parted : (l p lo hi : ℕ) (st : List Visit) (t : Node) (ts : List Node) → number t ≡ p → StandsAt m t l lo hi → StandAll m st ts → Parted p l lo hi st t ts
  parted l p lo hi st (leaf q es) ts e h a =
      subst (λ u. Parted u l lo hi st (leaf q es) ts) e (subst (λ u. Parted q u lo hi st (leaf q es) ts) (sym h.0) (parted_leaf q lo hi es st ts h.1 h.2 h.3 a))
  parted l p lo hi st (inner q f) ts e h a =
      let i = inner_parts m q l lo hi f h in
      subst (λ u. Parted u l lo hi st (inner q f) ts) e
      (subst (λ u. Parted q u lo hi st (inner q f) ts) (sym i.level_is) (parted_inner q i.below lo hi f st ts i.says i.sized i.children a))
