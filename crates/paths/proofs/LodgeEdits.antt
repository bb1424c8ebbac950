-- The edits of a page's entries are the tree's.
use Rattle.std.proofs.Common.{◌≡◌, ℕ, ◌≤◌, Bool, true, false, cond, leb, List, [], ◌∷◌, length, Option, Ok, Err, Result, refl, ap, ◌∙◌, arith}
use Rattle.layout.specs.declared.entry.Entry.{Entry}
use Rattle.layout.specs.declared.change.ChildPages.{ChildPages}
use Rattle.layout.specs.declared.change.ChildPages.TheVariants.{One, Two}
use Rattle.layout.specs.declared.change.RightHalf.{RightHalf}
use Rattle.layout.specs.declared.list.EntryList.{EntryList}
use Rattle.layout.specs.Edits as page
use Rattle.layout.specs.declared.change.Full.{Full}
use Rattle.layout.specs.Changes.{Puts, split_of, after_split}
use Rattle.tree.specs.CopyPages.{swap, fill, fit_leaf, fit_inner}
use Rattle.paths.specs.LodgePlaces.{pages_in, as_tree, halves_of}

tree_cond : {A : Type 0} (b : Bool) (x y : page.Split A) → as_tree (cond b x y) ≡ cond b (as_tree x) (as_tree y)
tree_cond true x y = refl
tree_cond false x y = refl

tree_inner : (es : List Entry) → as_tree (page.fit_inner es) ≡ fit_inner es
tree_inner es = tree_cond (leb (length es) 10) (page.one es) _

filled : (k : ℕ) (es : List Entry) (s : ChildPages) → page.in_place k es (split_of s) ≡ fill k es (pages_in s)
filled k es (One v) = refl
filled k es (Two v j w) = refl

put_same : (es : List Entry) (a : ℕ) (s : ChildPages) → page.put_child es a (split_of s) ≡ swap es a (pages_in s)
put_same [] a s = refl
put_same (e ∷ []) a s = filled 0 [] s
put_same (e ∷ (d ∷ es)) a s =
    ap (λ (z : List Entry). cond (leb a e.key) z (e ∷ page.put_child (d ∷ es) a (split_of s))) (filled e.key (d ∷ es) s)
    ∙ ap (λ (z : List Entry). cond (leb a e.key) (fill e.key (d ∷ es) (pages_in s)) (e ∷ z)) (put_same (d ∷ es) a s)

pub puts : (es mid : List Entry) (a : ℕ) (s : ChildPages) (b : Result (Unit {0}) Full) → length es ≤ 10 → Puts a s es b mid → mid ≡ swap es a (pages_in s)
puts es mid a s (Ok u) n t = t ∙ put_same es a s
puts es mid a s (Err f) n t = absurd (omega (arith, n, t.0))

pub inner_split : (es out : List Entry) (r : Option (RightHalf EntryList)) → after_split out r ≡ page.fit_inner es → halves_of out r ≡ fit_inner es
inner_split es out r e = ap as_tree e ∙ tree_inner es

tree_leaf : (es : List Entry) → as_tree (page.fit_leaf es) ≡ fit_leaf es
tree_leaf es = tree_cond (leb (length es) 10) (page.one es) _

pub leaf_split : (es out : List Entry) (r : Option (RightHalf EntryList)) → after_split out r ≡ page.fit_leaf es → halves_of out r ≡ fit_leaf es
leaf_split es out r e = ap as_tree e ∙ tree_leaf es
