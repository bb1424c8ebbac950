-- The walk of a search: the exits at a page, and a turn over its children.
use Rattle.std.proofs.Common.{◌≡◌, ℕ, zero, suc, ◌+◌, ◌-◌, ◌*◌, ◌^◌, ◌<◌, ◌≤◌, Bool, ◌⊎◌, List, [], ◌∷◌, ◌++◌, map, length, get_or, take, set, true, false, Some, None, Ok, Err, Option, Result, sym, refl, ap, ◌∙◌, subst, inl, inr, mul-le-mul, arith, pow_mono}
use Rattle.std.specs.List.{AllByRecursion}
use Rattle.std.proofs.lemmas.List.{map-append, length-append}
use Rattle.std.proofs.lemmas.Bool.{cases_order, cases_lt, false≢true, true≢false}
use Rattle.std.specs.Result.{is_err}
use Rattle.layout.specs.declared.entry.Entry.{Entry}
use Rattle.layout.specs.declared.page_ref.PageRef.{PageRef}
use Rattle.layout.specs.Listed.{blank}
use Rattle.layout.specs.Bytes.{entries_of}
use Rattle.orders.specs.Orders.{Order, Lawful, size}
use Rattle.pages.specs.Image.{Image, Reads}
use Rattle.pages.specs.declared.fault.StoreFault.{StoreFault}
use Rattle.pages.specs.declared.fault.StoreFault.TheVariants.{Absent, Uncharged}
use Rattle.records.specs.declared.tray.Tray.{Tray}
use Rattle.tree.specs.Tree.{Node, Forest, number, pages, pages_in, child_entries, Level, LevelIn, Contents, Stands, StandsIn}
use Rattle.tree.specs.Tree.Node.{leaf, inner}
use Rattle.tree.specs.Tree.Forest.{last, more}
use Rattle.tree.specs.SearchSteps.{find_steps, from}
use Rattle.tree.specs.SearchRuns.{outcome, run, add_read}
use Rattle.tree.specs.SearchRuns.Ending.{done, cut}
use Rattle.tree.specs.SearchWalks.{walk, walk_in}
use Rattle.tree.specs.SearchLoops.{Child, child, children, walk_children}
use Rattle.tree.specs.SearchLimits.{Agrees}
use Rattle.tree.proofs.SearchLimiting.{pass_law, unpaid_law, leaf_law, inner_law}
use Rattle.tree.proofs.SearchChild.{children_length, child_law}
use Rattle.tree.proofs.SearchLooping.{loop_begin_law, loop_turn_law, loop_end_law, loop_early_law}
use Rattle.faults.specs.Accesses.{contents, Fetches}
use Rattle.faults.specs.declared.fault.Fault.{Fault}
use Rattle.searches.specs.declared.find.Find.{Find}
use Rattle.searches.specs.declared.part.Part.{Part}
use Rattle.searches.specs.declared.find.Ending.{Ending as EndingCode}
use Rattle.searches.specs.declared.find.Ending.TheVariants.{Done, More, Cut}
use Rattle.searches.specs.Sought.{Sought, Tests, FirstFrom, Asks}
use Rattle.searches.specs.Finds.{find_of, ending_of, room, put_all, Puts, Laid, Finds}
use Rattle.searches.specs.Walking.{Reached, StandsAs, StandBelow, ComesOf, WalksOver, Walks, WalksBelow}
use Rattle.searches.specs.Inside.{inside}
use Rattle.searches.proofs.Insides.{in_box, wanted_tests}
use Rattle.searches.proofs.LeafFinds.{length_map, puts_none, puts_length}
use Rattle.faults.proofs.Same.{same_contents}

-- 1. first addresses

-- no address is past the greatest number of 64 bits
pub none_past : (o : Order) → Lawful o → (b : ℕ) → b < size o → 18446744073709551616 ≤ b → ⊥
none_past o l b h past =
    let few : o.n * o.p ≤ 60 = mul-le-mul l.range.1 l.range.3 in
    let low : 2 ^ (o.n * o.p) ≤ 2 ^ 60 = pow_mono few in
    omega arith

pub first_once : (q : Sought) (b : ℕ) (r s : Option ℕ) → FirstFrom q b r → FirstFrom q b s → r ≡ s
first_once q b None None f g = refl
first_once q b (Some x) None f g = absurd (g f.0 f.1 x f.2 f.3)
first_once q b None (Some y) f g = absurd (f g.0 g.1 y g.2 g.3)
first_once q b (Some x) (Some y) f g =
    elim (cases_order x y) [
      | inl e ↦ ap Some e
      | inr w ↦ elim w [ inl l ↦ absurd (g.4 x f.2 l f.3) | inr l ↦ absurd (f.4 y g.2 l g.3) ]
    ]

-- 2. finds in the tray, one part after another

put_all_append : (memory : List Find) (used : ℕ) (xs ys : List Find) → put_all memory used (xs ++ ys) ≡ put_all (put_all memory used xs) (used + length xs) ys
put_all_append memory used [] ys = let e : used ≡ used + 0 = omega arith in ap (λ n. put_all memory n ys) e
put_all_append memory used (x ∷ xs) ys =
    let e : used + 1 + length xs ≡ used + suc (length xs) = omega arith in
    put_all_append (set memory used x) (used + 1) xs ys ∙ ap (λ n. put_all (put_all (set memory used x) (used + 1) xs) n ys) e

puts_append : {xs ys : List Find} {t t₁ t₂ : Tray Find} → Puts xs t t₁ → Puts ys t₁ t₂ → Puts (xs ++ ys) t t₂
puts_append {xs} {ys} {t} {t₁} {t₂} p r = record {
  memory = r.memory ∙ (λ i. put_all (p.memory i) (p.used i) ys) ∙ sym (put_all_append t.memory.now t.used xs ys);
  used = omega (arith, p.used, r.used, length-append xs ys);
  lent = r.lent ∙ p.lent;
}

laid_none : (t : Tray Find) → Laid t t
laid_none t = ([], puts_none t)

laid_append : {t t₁ t₂ : Tray Find} → Laid t t₁ → Laid t₁ t₂ → Laid t t₂
laid_append (xs, p) (ys, r) = (xs ++ ys, puts_append p r)

-- 3. trees and levels

pub no_level : (n : Node) → Level n 0 → ⊥
no_level (leaf p es) h = omega arith
no_level (inner p f) h = h

none_below : (f : Forest) → LevelIn f 0 → ⊥
none_below (last n) h = no_level n h
none_below (more n k f) h = no_level n h.0

low_inner : (p : ℕ) (f : Forest) (level : ℕ) → level ≤ 1 → Level (inner p f) level → ⊥
low_inner p f zero l h = h
low_inner p f (suc zero) l h = none_below f h
low_inner p f (suc (suc k)) l h = omega arith

own_page : (R : ℕ → Type 0) (n : Node) → AllByRecursion R (pages n) → R (number n)
own_page R (leaf p es) h = h.0
own_page R (inner p f) h = h.0

-- a read that does not fail
pub fetched : (m : Image) (page level : ℕ) (old : List ℕ) (r : Result (Unit {0}) Fault) (m' : Image) (new : List ℕ) → is_err r ≡ false → Fetches m page level old r m' new →
    Reads m page old (Ok tt) m' new
fetched m page level old (Ok u) m' new e h = h
fetched m page level old (Err f) m' new e h = absurd (true≢false e)

module _ (q : Sought) (m : Image) (at : PageRef) (end : ℕ) (next : Option ℕ) (t : Tray Find) where
  -- 4. the page is passed by
  pub passed : Reached next end None → Walks q m at end next t (record { ending = Done; reads = 0; next = next }) m t
  passed h = record {
    same = refl;
    paid = omega arith;
    laid = laid_none t;
    walks = λ n s P tests ask k. ([], pass_law ask P n end next m.charge (room t) h, puts_none t);
  }

  module _ (a : ℕ) (reach : Reached next end (Some a)) where
    -- 5. it is not read
    pub cut_off : (r : Result (Unit {0}) Fault) (m' : Image) (old new : List ℕ) → is_err r ≡ true → Fetches m at.page at.level old r m' new →
        Walks q m at end next t (record { ending = Cut at.page a; reads = 0; next = next }) m' t
    cut_off (Ok u) m' old new bad h = absurd (false≢true bad)
    cut_off (Err f) m' old new bad h = go h.0 h.2
      where
        go : (x : StoreFault) → Reads m at.page old (Err x) m' new → Walks q m at end next t (record { ending = Cut at.page a; reads = 0; next = next }) m' t
        go Absent y = record {
          same = ap (λ x. x.pages) y.2;
          paid = omega (arith, ap (λ x. x.charge) y.2);
          laid = laid_none t;
          walks = λ n s P tests ask k.
              (let w = own_page (λ p. (2 ≤ p) × (p ≤ length m.pages)) n s.3 in
              let e = s.0 in
              let l = w.0 in
              let g = w.1 in
              absurd (elim y.0 [ inl z ↦ omega arith | inr z ↦ omega arith ]));
        }
        go Uncharged y = record {
          same = ap (λ x. x.pages) y.3;
          paid = omega (arith, ap (λ x. x.charge) y.3);
          laid = laid_none t;
          walks = λ n s P tests ask k. (
            [],
            subst (λ p. Agrees (outcome [] (cut p a) 0) next (walk ask P n end next) m.charge (room t)) s.0
                (subst (λ nx. Agrees (outcome [] (cut (number n) a) 0) next (walk ask P n end nx) m.charge (room t)) (sym reach.0)
                (subst (λ c. Agrees (outcome [] (cut (number n) a) 0) next (walk ask P n end (Some a)) c (room t)) (sym y.1) (unpaid_law ask P n end a next (room t) reach.1))),
            puts_none t,
          );
        }

    module _ (m₁ : Image) (old new : List ℕ) (h : Reads m at.page old (Ok tt) m₁ new) (es : List Entry) (says : es ≡ entries_of new) where
      paid_one : m.charge ≡ suc m₁.charge
      paid_one = omega (arith, h.1, ap (λ x. x.charge) h.3)

      same_one : m₁.pages ≡ m.pages
      same_one = ap (λ x. x.pages) h.3

      -- what the page says
      said : (p : ℕ) → p ≡ at.page → (contents m p).entries ≡ es
      said p e = ap (λ x. (contents m x).entries) e ∙ sym (says ∙ ap entries_of h.2)

      -- 6. a leaf
      pub leaf_walked : (x : EndingCode) (nx : Option ℕ) (t' : Tray Find) → at.level ≤ 1 → Finds q es t x t' → FirstFrom q (suc end) nx →
          Walks q m at end next t (record { ending = x; reads = 1; next = nx }) m₁ t'
      leaf_walked x nx t' l f fp = record { same = same_one; paid = omega (arith, paid_one); laid = laid_by (f (from (in_box q) q.start) (wanted_tests q) 0); walks = go }
        where
          laid_by : (b : (found : List Entry) × (run (find_steps (from (in_box q) q.start) es) 0 (room t) ≡ outcome found (ending_of x) 0) × Puts (map (find_of q.order) found) t t') → Laid t t'
          laid_by b = (map (find_of q.order) b.0, b.2)

          go : (n : Node) → StandsAs m at.page at.level n → (P : ℕ → Bool) → Tests q P → (ask : ℕ → Option ℕ) → Asks q ask →
              ComesOf q m t (walk ask P n end next) (record { ending = x; reads = 1; next = nx }) t'
          go (leaf p fs) s P tests ask k =
              let b = f P tests m₁.charge in
              let same : es ≡ fs = sym (said p s.0) ∙ ap (λ c. c.entries) s.2 in (
                b.0,
                subst (λ nx'. Agrees (outcome b.0 (ending_of x) 1) nx (walk ask P (leaf p fs) end nx') m.charge (room t)) (sym reach.0)
                    (subst (λ y. Agrees (add_read y) nx (walk ask P (leaf p fs) end (Some a)) m.charge (room t))
                    (ap (λ gs. run (find_steps P gs) m₁.charge (room t)) (sym same) ∙ b.1)
                    (leaf_law ask P p fs end a nx m.charge m₁.charge (room t) reach.1 paid_one (λ d. first_once q (suc end) nx (ask (suc end)) fp (k (suc end))))),
                b.2,
              )
          go (inner p g) s P tests ask k = absurd (low_inner p g at.level l s.1)

      -- 7. an inner page
      pub inner_walked : (r : Part) (m₂ : Image) (t' : Tray Find) → 2 ≤ at.level → WalksBelow q m₁ (at.level - 1) es end next t r m₂ t' →
          Walks q m at end next t (record { ending = r.ending; reads = r.reads + 1; next = r.next }) m₂ t'
      inner_walked r m₂ t' l w = record {
        same = w.same ∙ same_one;
        paid = omega (arith, w.paid, paid_one);
        laid = w.laid;
        walks = go;
      }
        where
          go : (n : Node) → StandsAs m at.page at.level n → (P : ℕ → Bool) → Tests q P → (ask : ℕ → Option ℕ) → Asks q ask →
              ComesOf q m t (walk ask P n end next) (record { ending = r.ending; reads = r.reads + 1; next = r.next }) t'
          go (leaf p fs) s P tests ask k = let z = s.1 in absurd (omega arith)
          go (inner p f) s P tests ask k =
              let up : at.level ≡ suc (at.level - 1) = omega arith in
              let stand : StandBelow m₁ (at.level - 1) es f = (
                subst (λ x. Level (inner p f) x) up s.1,
                subst (λ (x : Contents). StandsIn f x) (sym (same_contents m m₁ same_one)) s.2.1,
                subst (λ x. AllByRecursion (λ p. (2 ≤ p) × (p ≤ x)) (pages_in f)) (ap length (sym same_one)) s.3.1,
                sym (ap (λ c. c.entries) s.2.0) ∙ said p s.0,
              ) in
              let b = w.walks f stand P tests ask k in
              let whole : Agrees (outcome b.0 (ending_of r.ending) r.reads) r.next (walk_in ask P f end (Some a)) m₁.charge (room t) =
              subst (λ nx. Agrees (outcome b.0 (ending_of r.ending) r.reads) r.next (walk_in ask P f end nx) m₁.charge (room t)) reach.0 b.1 in
              let more-one : suc r.reads ≡ r.reads + 1 = omega arith in (
                b.0,
                subst (λ x. Agrees (outcome b.0 (ending_of r.ending) x) r.next (walk ask P (inner p f) end next) m.charge (room t)) more-one
                    (subst (λ x. Agrees (outcome b.0 (ending_of r.ending) (suc r.reads)) r.next (walk ask P (inner p f) end x) m.charge (room t)) (sym reach.0)
                    (inner_law ask P p f end a (outcome b.0 (ending_of r.ending) r.reads) r.next m.charge m₁.charge (room t) reach.1 paid_one whole)),
                b.2,
              )

-- 8. the first j children are walked
not_done : (x : EndingCode) → (x ≡ Done → ⊥) → ending_of x ≡ done → ⊥
not_done Done n e = n refl
not_done (More b) n e = let z : ◌≡◌ {A = ℕ} 0 1 = cc in omega arith
not_done (Cut p b) n e = let z : ◌≡◌ {A = ℕ} 0 1 = cc in omega arith

abbrev none : Child
none = child (leaf 0 []) 0

module _ (q : Sought) (m : Image) (level : ℕ) (es : List Entry) (end : ℕ) (next : Option ℕ) (t : Tray Find) where
  abbrev pub Turned : ℕ → Part → Image → Tray Find → Type 0
  Turned j = WalksOver Forest (StandBelow m level es) (λ ask P f. walk_children ask P (take j (children f end)) next) q m t

  pub turned_none : Turned 0 (record { ending = Done; reads = 0; next = next }) m t
  turned_none = record {
    same = refl;
    paid = omega arith;
    laid = laid_none t;
    walks = λ f s P tests ask k. ([], loop_begin_law ask P (children f end) next m.charge (room t), puts_none t);
  }

  module _ (j : ℕ) (w : Part) (m₁ : Image) (t₁ : Tray Find) (turned : Turned j w m₁ t₁) where
    -- one more
    pub turned_more : (stop : ℕ) (r : Part) (m₂ : Image) (t₂ : Tray Find) →
        w.ending ≡ Done → j < length es → (j + 1 < length es → stop ≡ (get_or es j blank).key) → (j + 1 ≡ length es → stop ≡ end) →
        Walks q m₁ (record { page = (get_or es j blank).value; level = level }) stop w.next t₁ r m₂ t₂ →
        Turned (j + 1) (record { ending = r.ending; reads = w.reads + r.reads; next = r.next }) m₂ t₂
    turned_more stop r m₂ t₂ d h inside at-end x = record {
      same = x.same ∙ turned.same;
      paid = omega (arith, x.paid, turned.paid);
      laid = laid_append turned.laid x.laid;
      walks = λ f s P tests ask k.
          (let b = turned.walks f s P tests ask k in
          let n = ap length s.3 in
          let j< : j < length (child_entries f) = omega arith in
          let c = child_law f end j none blank j< in
          let kid = get_or (children f end) j none in
          let value : number kid.node ≡ (get_or es j blank).value = sym c.1 ∙ ap (λ ys. (get_or ys j blank).value) s.3 in
          let stops : stop ≡ kid.end =
          elim (cases_lt (j + 1) (length es)) [
            | inl l ↦ inside l ∙ sym (c.2 (omega arith) ∙ ap (λ ys. (get_or ys j blank).key) s.3)
            | inr l ↦ at-end (omega arith) ∙ sym (c.3 (omega arith))
          ] in
          let stands : StandsAs m₁ (get_or es j blank).value level kid.node = (
            value,
            c.4 level s.0,
            subst (λ (z : Contents). Stands kid.node z) (sym (same_contents m m₁ turned.same)) (c.5 (contents m) s.1),
            subst (λ z. AllByRecursion (λ p. (2 ≤ p) × (p ≤ z)) (pages kid.node)) (ap length (sym turned.same)) (c.6 (length m.pages) s.2),
          ) in
          let y = x.walks kid.node stands P tests ask k in
          let charge : m₁.charge ≡ m.charge - w.reads = omega (arith, turned.paid) in
          let left : room t₁ ≡ room t - length b.0 = omega (arith, puts_length b.2, b.2.used, length_map (find_of q.order) b.0) in
          let before : Agrees (outcome b.0 done w.reads) w.next (walk_children ask P (take j (children f end)) next) m.charge (room t) =
          subst (λ z. Agrees (outcome b.0 (ending_of z) w.reads) w.next (walk_children ask P (take j (children f end)) next) m.charge (room t)) d b.1 in (
            b.0 ++ y.0,
            loop_turn_law ask P (children f end) j none next m.charge (room t) (outcome b.0 done w.reads) (outcome y.0 (ending_of r.ending) r.reads) w.next r.next
                (omega (arith, c.0)) before refl
                (subst (λ z. Agrees (outcome y.0 (ending_of r.ending) r.reads) r.next (walk ask P kid.node kid.end w.next) (m.charge - w.reads) z) left
                (subst (λ z. Agrees (outcome y.0 (ending_of r.ending) r.reads) r.next (walk ask P kid.node kid.end w.next) z (room t₁)) charge
                (subst (λ z. Agrees (outcome y.0 (ending_of r.ending) r.reads) r.next (walk ask P kid.node z w.next) m₁.charge (room t₁)) stops y.1))),
            rw (map-append (find_of q.order) b.0 y.0) (puts_append b.2 y.2),
          ));
    }

    -- the last was walked, or one did not end done
    pub turned_out : (length es ≤ j) ⊎ (w.ending ≡ Done → ⊥) → WalksBelow q m level es end next t w m₁ t₁
    turned_out ended = record {
      same = turned.same;
      paid = turned.paid;
      laid = turned.laid;
      walks = λ f s P tests ask k.
          (let b = turned.walks f s P tests ask k in (
            b.0,
            elim ended [
              | inl l ↦ loop_end_law ask P f end j next m.charge (room t) (outcome b.0 (ending_of w.ending) w.reads) w.next (omega (arith, children_length f end, ap length s.3)) b.1
              | inr n ↦ loop_early_law ask P f end j next m.charge (room t) (outcome b.0 (ending_of w.ending) w.reads) w.next (not_done w.ending n) b.1
            ],
            b.2,
          ));
    }
