-- The day in the 8 x 8 space.
use Rattle.std.proofs.Common.{◌≡◌, ℕ, zero, suc, ◌+◌, ◌-◌, ◌^◌, ◌<◌, ◌≤◌, min, Bool, true, ◌&&◌, ltb, leb, List, [], ◌∷◌, ◌++◌, map, length, get_or, take, sym, refl, ap, ◌∙◌, subst, inl, inr, arith, lit<, lit≤}
use Rattle.std.proofs.lemmas.Bool.{and_parts, leb-true, ltb-true}
use Rattle.pages.specs.Image.{Image, Blank, at}
use Rattle.layout.specs.declared.header.Header.{Header}
use Rattle.layout.specs.Heads.{header_bytes, Proper}
use Rattle.orders.specs.Orders.{InSpaceOf}
use Rattle.tree.specs.Tree.{count_at}
use Rattle.tree.specs.CopyMoves.{State as TreeState, lodge_step}
use Rattle.tree.specs.CopyLaws.{lodge_takes, events_of, usable}
use Rattle.tree.specs.Tree.Held.{none}
use Rattle.index.specs.Model.{Call, Answer, State, state}
use Rattle.index.specs.Model.Call.{formats, lodges, grants}
use Rattle.index.specs.Model.Answer.{accepted, refused}
use Rattle.index.specs.Model.Known.{shut, knows}
use Rattle.index.specs.Keeping.{Content, Kept, Ours, top}
use Rattle.index.specs.Keeping.Content.{blank}
use Rattle.index.specs.Changes.{file_of}
use Rattle.index.specs.Steps.{Step, Does}
use Rattle.index.specs.Steps.Does.{formatted, format_absent, format_uncharged, given, not_open, outside}
use Rattle.cases.specs.EightByEight.{z}
use Rattle.cases.specs.EightByEight as eight
use Rattle.cases.specs.Branch.{Chain, points, all_accepted, Enough, Short}
use Rattle.cases.proofs.Accepting.{At, Yes, Ended, lodge_ends}

-- the empty tree over 16 pages
abbrev pub start : TreeState
start = record { tree = none; height = 0; free = usable 16 }

-- factory-blank memory has no header
no_header : (m : Image) → Blank m → 1 ≤ length m.pages → (h : Header) → Proper h → Ours z h → at m 1 ≡ header_bytes h → ⊥
no_header m all le h proper ours e = elim (all 1 (omega arith, le)) [
  | inl zeros ↦ let x : ◌≡◌ {A = ℕ} 0 85 = ap (λ (bs : List ℕ). get_or bs 0 0) (sym zeros ∙ e) in omega arith
  | inr ones ↦ let x : ◌≡◌ {A = ℕ} 255 85 = ap (λ (bs : List ℕ). get_or bs 0 0) (sym ones ∙ e) in omega arith
]

-- grant and format
after_grant : (m : Image) (c : Content) (a : Answer) (u : State) (v : Content) (n : ℕ) → Does z c (state m shut) a u v (grants n) → (a ≡ accepted) × (u ≡ state (record { pages = m.pages; charge = n }) shut) × (v ≡ c)
after_grant m c a u v n (given ea eu ev) = (ea, eu, ev)
after_grant m c a u v n (not_open y names e ea eu ev) = elim names [ ]
after_grant m c a u v n (outside y h r t free names e out ea eu ev) = elim names [ ]

after_format : (ps : List (List ℕ)) (n : ℕ) (c : Content) (a : Answer) (u : State) (v : Content) → length ps ≡ 16 → Kept z u v → Does z c (state (record { pages = ps; charge = suc n }) shut) a u v formats →
    (a ≡ accepted) × At z u start 0 n
after_format ps n c a u v len kept (formatted there some ea eu ev) = (
  ea,
  record {
    kept = subst (λ (y : Content). Kept z u y) ev kept;
    known = ap (λ (s : State). s.known) eu ∙ ap (λ (l : ℕ). knows 0 0 0 (usable (min l 1024))) len;
    left = ap (λ (s : State). s.image.charge) eu ∙ omega arith;
  },
)
after_format ps n c a u v len kept (format_absent gone ea eu ev) = absurd (omega arith)
after_format ps n c a u v len kept (format_uncharged there gone ea eu ev) = absurd (omega arith)
after_format ps n c a u v len kept (not_open y names e ea eu ev) = elim names [ ]
after_format ps n c a u v len kept (outside y h r t free names e out ea eu ev) = elim names [ ]

-- what a lodge costs but for the header
pages_of_lodge : TreeState → List ℕ → ℕ
pages_of_lodge t x = t.height + lodge_takes t.tree t.height (z.address x)

-- the questions of a lodge, answered by computing
unfoldable pub says_yes : TreeState → List ℕ → Bool
says_yes t x =
    ltb (count_at (events_of t.tree) (z.address x)) 65535
    && (leb (lodge_step t (z.address x)).next.height 6 && leb (lodge_takes t.tree t.height (z.address x) + 6) (length t.free))

abbrev Inside : List ℕ → Type 0
Inside x = InSpaceOf z x × (z.address x ≤ top z)

yes_from : (t : TreeState) (x : List ℕ) (c : ℕ) → Inside x → says_yes t x ≡ true → t.height + lodge_takes t.tree t.height (z.address x) ≤ c → Yes z t c x
unfolding says_yes
yes_from t x c inside e paid =
    let p = and_parts _ _ e in
    let q = and_parts _ _ p.1 in
    record { inside = inside.0; in_range = inside.1; count = ltb-true _ _ p.0; height = leb-true _ _ q.0; room = leb-true _ _ q.1; paid = paid }

-- a list of lodges, each with a charge for its header too
unfoldable pub run : List (List ℕ) → TreeState → TreeState
run [] t = t
run (x ∷ xs) t = run xs (lodge_step t (z.address x)).next

unfoldable pub left_of : List (List ℕ) → TreeState → ℕ → ℕ
left_of [] t c = c
left_of (x ∷ xs) t c = left_of xs (lodge_step t (z.address x)).next (c - suc (t.height + lodge_takes t.tree t.height (z.address x)))

unfoldable pub upto : List (List ℕ) → ℕ → ℕ
upto [] total = total
upto (x ∷ xs) total = upto xs (suc total)

unfoldable pub fits : List (List ℕ) → TreeState → ℕ → Bool
fits [] t c = true
fits (x ∷ xs) t c =
    (says_yes t x && leb (suc (t.height + lodge_takes t.tree t.height (z.address x))) c)
    && fits xs (lodge_step t (z.address x)).next (c - suc (t.height + lodge_takes t.tree t.height (z.address x)))

pub AllIn : List (List ℕ) → Type 0
AllIn [] = Unit {0}
AllIn (x ∷ xs) = Inside x × AllIn xs

pub record Then (xs : List (List ℕ)) (t : TreeState) (total c : ℕ) (cs : List Call) (rs : List Answer) (u : State) : Type 0 where
  pub rest : List Answer
  pub there : State
  pub answers : rs ≡ all_accepted (map lodges xs) ++ rest
  pub holds : At z there (run xs t) (upto xs total) (left_of xs t c)
  pub chain : Chain z there cs rest u

-- all of them are accepted, and the run goes on from there
pub runs : (xs : List (List ℕ)) (cs : List Call) (t : TreeState) (total c : ℕ) (s u : State) (rs : List Answer) → AllIn xs → fits xs t c ≡ true → At z s t total c →
    Chain z s (map lodges xs ++ cs) rs u → Then xs t total c cs rs u
unfolding run left_of upto fits AllIn
runs [] cs t total c s u rs inside e at chain = record { rest = rs; there = s; answers = refl; holds = at; chain = chain }
runs (x ∷ xs) cs t total c s u [] inside e at chain = absurd chain
runs (x ∷ xs) cs t total c s u (a ∷ rest) inside e at (mid, step, more) =
    let n : ℕ = t.height + lodge_takes t.tree t.height (z.address x) in
    let p = and_parts _ _ e in
    let q = and_parts _ _ p.0 in
    let paid : suc n ≤ c = leb-true _ _ q.1 in
    let one : c - n ≡ suc (c - suc n) = omega arith in
    let enough : n ≤ c = omega arith in
    let ended : Ended z a mid t total x (suc (c - suc n)) = subst (λ (k : ℕ). Ended z a mid t total x k) one (lodge_ends z s mid a t total c x at (yes_from t x c inside.0 q.0 enough) step) in
    let next = runs xs cs (lodge_step t (z.address x)).next (suc total) (c - suc n) mid u rest inside.1 p.1 ended.1 more in
    record { rest = next.rest; there = next.there; answers = λ i. ended.0 i ∷ next.answers i; holds = next.holds; chain = next.chain }

-- points of the 8 x 8 space
pub in_eight : (x y : ℕ) → x < 8 → y < 8 → InSpaceOf z (eight.at x y)
in_eight x y lx ly = (refl, low, high)
  where
    low : (j : ℕ) → j < 2 → get_or (eight.at x y) j 0 < 2 ^ 3
    low zero lt = lx
    low (suc zero) lt = ly
    low (suc (suc j)) lt = absurd (omega arith)

    high : (j : ℕ) → 2 ≤ j → get_or (eight.at x y) j 0 ≡ 0
    high zero le = absurd (omega arith)
    high (suc zero) le = absurd (omega arith)
    high (suc (suc zero)) le = refl
    high (suc (suc (suc zero))) le = refl
    high (suc (suc (suc (suc j)))) le = refl

inside_eight : (x y : ℕ) → x < 8 → y < 8 → z.address (eight.at x y) ≤ 63 → Inside (eight.at x y)
inside_eight x y lx ly le = (in_eight x y lx ly, le)

pub all_points : AllIn points
unfolding AllIn
all_points =
    let i = inside_eight in (
      i 0 0 (lit< tt) (lit< tt) (lit≤ tt),
      (
        i 1 0 (lit< tt) (lit< tt) (lit≤ tt),
        (
          i 0 1 (lit< tt) (lit< tt) (lit≤ tt),
          (
            i 1 1 (lit< tt) (lit< tt) (lit≤ tt),
            (
              i 2 0 (lit< tt) (lit< tt) (lit≤ tt),
              (
                i 3 0 (lit< tt) (lit< tt) (lit≤ tt),
                (
                  i 2 1 (lit< tt) (lit< tt) (lit≤ tt),
                  (
                    i 3 1 (lit< tt) (lit< tt) (lit≤ tt),
                    (i 0 2 (lit< tt) (lit< tt) (lit≤ tt), (i 1 2 (lit< tt) (lit< tt) (lit≤ tt), (i 0 3 (lit< tt) (lit< tt) (lit≤ tt), tt))),
                  ),
                ),
              ),
            ),
          ),
        ),
      ),
    )

pub ended_chain : (rs : List Answer) (s u : State) → Chain z s [] rs u → (rs ≡ []) × (s ≡ u)
ended_chain [] s u chain = (refl, chain)
ended_chain (a ∷ rs) s u chain = absurd chain

-- granted and formatted: the empty tree, with one charge less
pub record Begun (n : ℕ) (cs : List Call) (rs : List Answer) (u : State) : Type 0 where
  pub rest : List Answer
  pub there : State
  pub answers : rs ≡ accepted ∷ (accepted ∷ rest)
  pub holds : At z there start 0 n
  pub chain : Chain z there cs rest u

pub begins : (m : Image) (n : ℕ) (cs : List Call) (rs : List Answer) (u : State) → Blank m → length m.pages ≡ 16 → Chain z (state m shut) (grants (suc n) ∷ (formats ∷ cs)) rs u → Begun n cs rs u
begins m n cs [] u all len chain = absurd chain
begins m n cs (a ∷ []) u all len (s, step, chain) = absurd chain
begins m n cs (a ∷ (b ∷ rest)) u all len (s, step, (s', step', chain)) =
    let kept : Kept z (state m shut) blank = (refl, no_header m all (omega arith)) in
    let g = step.exact blank kept in
    let d = after_grant m blank a s g.next (suc n) g.does in
    let formats-there = subst (λ (y : State). Step z y b s' formats) d.1 step' in
    let h = formats-there.exact blank kept in
    let e = after_format m.pages n blank b s' h.next len h.kept h.does in
    record { rest = rest; there = s'; answers = λ i. d.0 i ∷ (e.0 i ∷ rest); holds = e.1; chain = chain }

pub enough : Enough
unfolding fits says_yes run left_of upto
enough m answers u all len chain =
    let b = begins m 34 (map lodges points) answers u all len chain in
    let t = runs points [] start 0 34 b.there u b.rest all_points refl b.holds b.chain in
    let e = ended_chain t.rest t.there u t.chain in (
      b.answers ∙ (λ i. accepted ∷ (accepted ∷ (t.answers ∙ ap (λ (rs : List Answer). all_accepted (map lodges points) ++ rs) e.0) i)),
      ap (λ (s : State). s.known) (sym e.1) ∙ t.holds.known,
      ap (λ (s : State). s.image.charge) (sym e.1) ∙ t.holds.left,
    )

firsts : AllIn points → AllIn (take 10 points)
unfolding AllIn
firsts (a, (b, (c, (d, (e, (f, (g, (h, (i, (j, k)))))))))) = (a, (b, (c, (d, (e, (f, (g, (h, (i, (j, tt))))))))))

-- the eleventh, with a charge that carries its read and its pages and not its header
last_lodge : (rs : List Answer) (s u : State) → At z s (run (take 10 points) start) 10 4 → Chain z s (lodges (eight.at 0 3) ∷ []) rs u →
    (rs ≡ refused 17 (1 ∷ (0 ∷ (2 ∷ []))) ∷ []) × At z u (run (take 10 points) start) 10 0
unfolding run says_yes
last_lodge [] s u at chain = absurd chain
last_lodge (a ∷ rs) s u at (mid, step, chain) =
    let e = ended_chain rs mid u chain in
    let t : TreeState = run (take 10 points) start in
    let ends : Ended z a mid t 10 (eight.at 0 3) 0 = lodge_ends z s mid a t 10 4 (eight.at 0 3) at (yes_from t (eight.at 0 3) 4 (inside_eight 0 3 (lit< tt) (lit< tt) (lit≤ tt)) refl (lit≤ tt)) step in
    (λ i. ends.0 i ∷ e.0 i, subst (λ (y : State). At z y t 10 0) e.1 ends.1)

-- the eleventh, at (0, 3), with a charge that carries its read and its pages and not its header
pub short : Short
unfolding fits says_yes run left_of upto
short m answers u all len chain =
    let b = begins m 33 (map lodges points) answers u all len chain in
    let t = runs (take 10 points) (lodges (eight.at 0 3) ∷ []) start 0 33 b.there u b.rest (firsts all_points) refl b.holds b.chain in
    let l = last_lodge t.rest t.there u t.holds t.chain in (
      b.answers ∙ (λ i. accepted ∷ (accepted ∷ (t.answers ∙ ap (λ (rs : List Answer). all_accepted (map lodges (take 10 points)) ++ rs) l.0) i)),
      l.1.left,
      (file_of (run (take 10 points) start) 10, l.1.kept, refl),
    )
