-- The search of a leaf's entries: a turn of the loop, and its ends.
use Rattle.std.proofs.Common.{◌≡◌, ℕ, suc, ◌+◌, ◌<◌, ◌≤◌, true, false, Result, List, [], ◌∷◌, ◌++◌, map, length, get_or, take, set, Some, None, Ok, Err, sym, refl, ap, ◌∙◌, arith}
use Rattle.std.proofs.lemmas.List.{length-set, length_push, map_push, take_all}
use Rattle.std.proofs.lemmas.Bool.{true≢false, false≢true}
use Rattle.std.specs.Result.{is_err}
use Rattle.layout.specs.declared.entry.Entry.{Entry}
use Rattle.layout.specs.Listed.{blank}
use Rattle.orders.specs.declared.point.Point.{Point}
use Rattle.records.specs.Tray.{Lays}
use Rattle.records.specs.declared.tray.Tray.{Tray}
use Rattle.tree.specs.SearchSteps.{find_steps}
use Rattle.tree.specs.SearchRuns.{run}
use Rattle.tree.proofs.SearchLooping.{entry_law}
use Rattle.searches.specs.declared.find.Find.{Find}
use Rattle.searches.specs.declared.find.Ending.TheVariants.{Done, More}
use Rattle.searches.specs.Sought.{Sought, Passes}
use Rattle.searches.specs.Finds.{find_of, room, put_all, Puts, Finds}
use Rattle.tree.proofs.SearchTests.{decided_false}

pub length_put_all : (memory : List Find) (used : ℕ) (xs : List Find) → length (put_all memory used xs) ≡ length memory
length_put_all memory used [] = refl
length_put_all memory used (x ∷ xs) = length_put_all (set memory used x) (used + 1) xs ∙ length-set memory used x

put_all_more : (memory : List Find) (used : ℕ) (xs : List Find) (x : Find) → put_all memory used (xs ++ x ∷ []) ≡ set (put_all memory used xs) (used + length xs) x
put_all_more memory used [] x = let e : used ≡ used + 0 = omega arith in ap (λ n. set memory n x) e
put_all_more memory used (y ∷ ys) x =
    let e : used + 1 + length ys ≡ used + suc (length ys) = omega arith in
    put_all_more (set memory used y) (used + 1) ys x ∙ ap (λ n. set (put_all (set memory used y) (used + 1) ys) n x) e

pub length_map : (f : Entry → Find) (es : List Entry) → length (map f es) ≡ length es
length_map f [] = refl
length_map f (e ∷ es) = ap suc (length_map f es)

pub puts_none : (t : Tray Find) → Puts [] t t
puts_none t = record { memory = refl; used = omega arith; lent = refl }

-- a tray keeps its length
pub puts_length : {xs : List Find} {t t' : Tray Find} → Puts xs t t' → length t'.memory.now ≡ length t.memory.now
puts_length {xs} {t} {t'} p = ap length p.memory ∙ length_put_all t.memory.now t.used xs

-- one more find is put
puts_more : {xs : List Find} {t t' t'' : Tray Find} (x : Find) → Puts xs t t' → t''.memory.now ≡ set t'.memory.now t'.used x → t''.used ≡ t'.used + 1 →
    t''.memory.ghost_name ≡ t'.memory.ghost_name → Puts (xs ++ x ∷ []) t t''
puts_more {xs} {t} {t'} {t''} x p m u l = record {
  memory = m ∙ (λ j. set (p.memory j) (p.used j) x) ∙ sym (put_all_more t.memory.now t.used xs x);
  used = omega (arith, p.used, u, length_push xs x);
  lent = l ∙ p.lent;
}

-- the first i entries were searched, and all that passed are in the tray
abbrev pub Searched : Sought → List Entry → ℕ → Tray Find → Tray Find → Type 0
Searched q es i t t' = Finds q (take i es) t Done t'

module _ (q : Sought) (es : List Entry) (t : Tray Find) where
  pub searched_none : Searched q es 0 t t
  searched_none P tests charge = ([], refl, puts_none t)

  pub searched_all : (i : ℕ) (t' : Tray Find) → length es ≤ i → Searched q es i t t' → Finds q es t Done t'
  searched_all i t' h s P tests charge =
      let b = s P tests charge in
      (b.0, ap (λ xs. run (find_steps P xs) charge (room t)) (sym (take_all i es h)) ∙ b.1, b.2)

  -- an entry is passed by
  pub passed_by : (i : ℕ) (t' : Tray Find) → i < length es → Searched q es i t t' → Passes q (get_or es i blank).key None → Searched q es (i + 1) t t'
  passed_by i t' h s n P tests charge =
      let b = s P tests charge in
      (b.0, (entry_law P es i blank charge (room t) b.0 h b.1).0 (decided_false (P (get_or es i blank).key) (tests (get_or es i blank).key) n), b.2)

  module _ (i : ℕ) (t₁ : Tray Find) (h : i < length es) (s : Searched q es i t t₁)
      (x : Find) (point : Point) (p : Passes q (get_or es i blank).key (Some point)) (x-is : x ≡ record { address = (get_or es i blank).key; point = point; count = (get_or es i blank).value }) where
    same_find : x ≡ find_of q.order (get_or es i blank)
    same_find = x-is ∙ (λ j. record { address = (get_or es i blank).key; point = record { coords = p.1 j }; count = (get_or es i blank).value })

    -- it is put into the tray
    pub found_one : (t₂ : Tray Find) (r : Result (Unit {0}) Find) → is_err r ≡ false → t₁.used ≤ length t₁.memory.now → Lays t₁.memory.now t₁.used x r t₂.memory.now t₂.used →
        t₂.memory.ghost_name ≡ t₁.memory.ghost_name → Searched q es (i + 1) t t₂
    found_one t₂ (Err y) ok w l lent P tests charge = absurd (true≢false ok)
    found_one t₂ (Ok u) ok w l lent P tests charge =
        let b = s P tests charge in
        let e = get_or es i blank in
        let long = puts_length b.2 in
        let count = b.2.used in
        let m = length_map (find_of q.order) b.0 in
        let fits = l.0 in (
          b.0 ++ e ∷ [],
          (entry_law P es i blank charge (room t) b.0 h b.1).1 ((tests e.key).1 p.0) (omega arith),
          rw (map_push (find_of q.order) b.0 e) (puts_more (find_of q.order e) b.2 (l.2 ∙ ap (set t₁.memory.now t₁.used) same_find) l.1 lent),
        )

    -- there is no room for it
    pub no_room : (t₂ : Tray Find) (r : Result (Unit {0}) Find) → is_err r ≡ true → Lays t₁.memory.now t₁.used x r t₂.memory.now t₂.used → t₂.memory.ghost_name ≡ t₁.memory.ghost_name →
        Finds q es t (More (get_or es i blank).key) t₂
    no_room t₂ (Ok u) full l lent P tests charge = absurd (false≢true full)
    no_room t₂ (Err y) bad l lent P tests charge =
        let b = s P tests charge in
        let long = puts_length b.2 in
        let count = b.2.used in
        let m = length_map (find_of q.order) b.0 in
        let full = l.0 in (
          b.0,
          (entry_law P es i blank charge (room t) b.0 h b.1).2 ((tests (get_or es i blank).key).1 p.0) (omega arith),
          record { memory = l.3 ∙ b.2.memory; used = l.2 ∙ b.2.used; lent = lent ∙ b.2.lent },
        )
