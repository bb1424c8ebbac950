-- A visit by what the check of its page and the read of it answered.
use Rattle.std.proofs.Common.{◌≡◌, ℕ, suc, ◌-◌, ◌≤◌, cond, List, [], ◌++◌, Ok, Err, sym, refl, ap, ◌∙◌, subst, arith}
use Rattle.std.proofs.lemmas.Bool.{cond-true, cond-false}
use Rattle.layout.specs.Content.{Content, Own, Filled, LeafKeys, InnerKeys}
use Rattle.layout.specs.Rules.{Keys, Checks}
use Rattle.layout.specs.declared.visit.Visit.{Visit}
use Rattle.layout.specs.declared.visit.Rule.{Rule}
use Rattle.layout.specs.declared.visit.Rule.TheVariants.{A, B, C, D, E, F}
use Rattle.tree.specs.Tree.{counts}
use Rattle.tree.specs.Scan.{Turn, breaks, onward, own, filled, leaf_keys, inner_keys, child_visits, expand, judged}
use Rattle.tree.proofs.ScanTests.{own_decides, filled_decides, leaf_keys_decides, inner_keys_decides}
use Rattle.tree.proofs.SearchTests.{decided_false}
use Rattle.walks.specs.Visits.{OfPage, Judges}

module _ (c : Content) (v : Visit) where
  abbrev opened_up : Turn
  opened_up = expand v.at.level v.lo v.hi c.entries

  owned : Own v.at.page v.at.level c → judged c v ≡ cond (filled c) opened_up (breaks C)
  unfolding judged
  owned o = cond-true (own c v) (cond (filled c) opened_up (breaks C)) (breaks B) ((own_decides c v).1 o)

  full : Own v.at.page v.at.level c → Filled c → judged c v ≡ opened_up
  full o f = owned o ∙ cond-true (filled c) opened_up (breaks C) ((filled_decides c).1 f)

  at_leaf : v.at.level ≡ 1 → opened_up ≡ cond (leaf_keys v.lo v.hi c.entries) (onward (counts c.entries) []) (breaks D)
  unfolding expand
  at_leaf e = ap (λ l. expand l v.lo v.hi c.entries) e

  at_inner : (k : ℕ) → v.at.level ≡ suc (suc k) → opened_up ≡ cond (inner_keys v.lo v.hi c.entries) (onward 0 (child_visits (suc k) v.lo v.hi c.entries)) (breaks E)
  unfolding expand
  at_inner k e = ap (λ l. expand l v.lo v.hi c.entries) e

  broken : (r : Rule) → 1 ≤ v.at.level → Checks v c (Err r) → judged c v ≡ breaks r
  unfolding judged
  broken A l h = absurd h
  broken B l h =
      cond-false (own c v) (cond (filled c) opened_up (breaks C)) (breaks B) (decided_false (own c v) (own_decides c v) (λ o. omega (arith, h o)))
  broken C l h = owned h.0 ∙ cond-false (filled c) opened_up (breaks C) (decided_false (filled c) (filled_decides c) h.2)
  broken D l h =
      full h.0 h.2 ∙ at_leaf h.1
      ∙ cond-false (leaf_keys v.lo v.hi c.entries) (onward (counts c.entries) []) (breaks D)
      (decided_false (leaf_keys v.lo v.hi c.entries) (leaf_keys_decides v.lo v.hi c.entries) h.3)
  broken E l h =
      let k = v.at.level - 2 in
      let e : v.at.level ≡ suc (suc k) = omega (arith, h.1) in
      full h.0 h.2 ∙ at_inner k e
      ∙ cond-false (inner_keys v.lo v.hi c.entries) (onward 0 (child_visits (suc k) v.lo v.hi c.entries)) (breaks E)
      (decided_false (inner_keys v.lo v.hi c.entries) (inner_keys_decides v.lo v.hi c.entries) h.3)
  broken F l h = absurd h

  of_page : (r : Rule) → Checks v c (Err r) → OfPage r
  of_page A h = h
  of_page B h = tt
  of_page C h = tt
  of_page D h = tt
  of_page E h = tt
  of_page F h = h

  module _ (stack : List Visit) where
    pub judges_broken : (r : Rule) → 1 ≤ v.at.level → Checks v c (Err r) → Judges c v stack (Err r) stack
    judges_broken r l h = (broken r l h, of_page r h, refl)

    pub judges_leaf : (u : Unit {0}) (n : ℕ) → Checks v c (Ok u) → v.at.level ≡ 1 → n ≡ counts c.entries → n ≤ 655350 → Judges c v stack (Ok n) stack
    judges_leaf u n h e q s =
        let keys : LeafKeys v.lo v.hi c.entries = subst (λ l. Keys l v.lo v.hi c.entries) e h.2 in (
          (
            [],
            full h.0 h.1 ∙ at_leaf e
                ∙ cond-true (leaf_keys v.lo v.hi c.entries) (onward (counts c.entries) []) (breaks D) ((leaf_keys_decides v.lo v.hi c.entries).1 keys)
                ∙ ap (λ k. onward k []) (sym q),
            refl,
          ),
          s,
        )

    pub inner_keys_of : (u : Unit {0}) → Checks v c (Ok u) → 2 ≤ v.at.level → InnerKeys v.lo v.hi c.entries
    inner_keys_of u h l = let e : v.at.level ≡ suc (suc (v.at.level - 2)) = omega arith in subst (λ k. Keys k v.lo v.hi c.entries) e h.2

    pub judges_inner : (u : Unit {0}) (stack' : List Visit) → Checks v c (Ok u) → 2 ≤ v.at.level →
        stack' ≡ child_visits (v.at.level - 1) v.lo v.hi c.entries ++ stack → Judges c v stack (Ok 0) stack'
    judges_inner u stack' h l q =
        let k = v.at.level - 2 in
        let e : v.at.level ≡ suc (suc k) = omega arith in
        let f : suc k ≡ v.at.level - 1 = omega arith in (
          (
            child_visits (v.at.level - 1) v.lo v.hi c.entries,
            full h.0 h.1 ∙ at_inner k e
                ∙ cond-true (inner_keys v.lo v.hi c.entries) (onward 0 (child_visits (suc k) v.lo v.hi c.entries)) (breaks E)
                ((inner_keys_decides v.lo v.hi c.entries).1 (inner_keys_of u h l))
                ∙ ap (λ j. onward 0 (child_visits j v.lo v.hi c.entries)) f,
            q,
          ),
          omega arith,
        )
