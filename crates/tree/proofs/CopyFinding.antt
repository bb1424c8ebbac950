-- A lookup down one path finds what all entries say; the heights.
use Rattle.std.proofs.Common.{◌≡◌, ℕ, suc, ◌+◌, ◌<◌, cond, eqb, List, [], ◌∷◌, ◌++◌, refl, ap, ◌∙◌, arith}
use Rattle.std.proofs.lemmas.Bool.{ne_eqb}
use Rattle.layout.specs.declared.entry.Entry.{Entry}
use Rattle.tree.specs.Tree.{Contents, Forest, Held, Node, Ordered, OrderedIn, count_at, events, events_in}
use Rattle.tree.specs.Tree.Node.{inner, leaf}
use Rattle.tree.specs.Tree.Forest.{last, more}
use Rattle.tree.specs.Tree.Held.{held, none}
use Rattle.tree.specs.CopyDescent.{parts}
use Rattle.tree.specs.CopyLaws.{HeightLaw, SoundOf, events_of, height_lodged, height_withdrawn}
use Rattle.tree.specs.CopyLookup.{FindLaw, count_in, leaf_for, leaf_for_in}
use Rattle.tree.specs.CopyMoves.{Split, height_left, lodge, lodge_from, raised, withdraw, withdraw_from}
use Rattle.tree.specs.CopyMoves.Split.{one, two}
use Rattle.tree.proofs.CopyBase.{by_le}
use Rattle.tree.proofs.CopyEntries.{From, Upto}
use Rattle.tree.proofs.CopyCounts
use Rattle.tree.proofs.CopyForests

count_append : (xs ys : List Entry) (a : ℕ) → count_at (xs ++ ys) a ≡ count_at xs a + count_at ys a
count_append [] ys a = omega arith
count_append (x ∷ xs) ys a = omega (arith, count_append xs ys a)

none_from : (lo a : ℕ) (es : List Entry) → a < lo → From lo es → count_at es a ≡ 0
none_from lo a [] h f = refl
none_from lo a (e ∷ es) h f = rw (ne_eqb e.key a (λ q. omega (arith, f.0))) (omega (arith, none_from lo a es h f.1))

none_upto : (hi a : ℕ) (es : List Entry) → hi < a → Upto hi es → count_at es a ≡ 0
none_upto hi a [] h u = refl
none_upto hi a (e ∷ es) h u = rw (ne_eqb e.key a (λ q. omega (arith, u.0))) (omega (arith, none_upto hi a es h u.1))

mutual
  pub find : (n : Node) (a lo hi : ℕ) → Ordered n lo hi → count_at (leaf_for n a) a ≡ count_at (events n) a
  find (leaf p es) a lo hi o = refl
  find (inner p f) a lo hi o = find_in f a lo hi o

  pub find_in : (f : Forest) (a lo hi : ℕ) → OrderedIn f lo hi → count_at (leaf_for_in f a) a ≡ count_at (events_in f) a
  find_in (last n) a lo hi o = find n a lo hi o
  find_in (more n k f) a lo hi o =
      by_le (λ (es : List Entry). count_at es a ≡ count_at (events n ++ events_in f) a) a k _ _
      (λ le. omega (arith, find n a lo k o.2, count_append (events n) (events_in f) a, none_from (suc k) a (events_in f) (omega arith) (CopyForests.tree_from_in f (suc k) hi o.3)))
      (λ gt. omega (arith, find_in f a (suc k) hi o.3, count_append (events n) (events_in f) a, none_upto k a (events n) gt (CopyForests.tree_upto n lo k o.2)))

find_of : (m : Contents) (limit h total top : ℕ) (t : Held Node) (a : ℕ) → SoundOf m limit h total top t → count_in t a ≡ count_at (events_of t) a
find_of m limit h total top none a s = refl
find_of m limit h total top (held n) a s = find n a 0 top s.ordered

pub find_law : FindLaw
find_law m limit total top s a z = find_of m limit s.height total top s.tree a z.sound

raised_is : (s : Split Node) (h : ℕ) → raised s h ≡ h + parts s
raised_is (one n) h = omega arith
raised_is (two l k r) h = omega arith

left_is : (t : Held Node) (h : ℕ) → height_left t h ≡ cond (eqb (CopyCounts.lost t) 1) 0 h
left_is none h = refl
left_is (held n) h = refl

lodge_height : (t : Held Node) (h a : ℕ) (free : List ℕ) → (lodge_from t h a free).next.height ≡ height_lodged t h a
lodge_height none h a free = refl
lodge_height (held n) h a free = raised_is (lodge n a free).part h ∙ ap (λ (z : ℕ). h + z) (CopyCounts.lodge_parts n a free)

withdraw_height : (t : Held Node) (h a : ℕ) (free : List ℕ) → (withdraw_from t h a free).next.height ≡ height_withdrawn t h a
withdraw_height none h a free = refl
withdraw_height (held n) h a free = left_is (withdraw n a free).part h ∙ ap (λ (z : ℕ). cond (eqb z 1) 0 h) (CopyCounts.withdraw_lost n a free)

pub height_law : HeightLaw
height_law s a = (lodge_height s.tree s.height a s.free, withdraw_height s.tree s.height a s.free)
