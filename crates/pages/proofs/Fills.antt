-- Lemmas on the loop that checks a list of bad pages and fills the table of a skip layer.
use Rattle.std.proofs.Common.{◌≡◌, ℕ, ◌+◌, ◌-◌, ◌<◌, ◌≤◌, ◌⊎◌, List, [], ◌∷◌, ◌++◌, length, get_or, take, drop, sym, refl, ap, ◌∙◌, subst, inl, inr, arith}
use Rattle.std.specs.List.{range_with_len, AllByRecursion}
use Rattle.std.proofs.ByRecursion.{All-get_or, All-weaker}
use Rattle.std.proofs.lemmas.List.{take-append-drop, drop_more, take_more, take_all, length-take}
use Rattle.pages.specs.Skip.{good, places, Rises, Allowed}
use Rattle.pages.proofs.Goods.{good_rest, good_more, good_rises, good_within}
use Rattle.pages.proofs.Rooms.{room_again}

-- the last of some numbers, or low where there is none
abbrev final : ℕ → List ℕ → ℕ
final low [] = low
final low (k ∷ ks) = final k ks

final_lower : (low : ℕ) (ks : List ℕ) → Rises low ks → low ≤ final low ks
final_lower low [] r = omega arith
final_lower low (k ∷ ks) r = omega (arith, final_lower k ks r.1)

final_most : (low : ℕ) (ks : List ℕ) → Rises low ks → AllByRecursion (λ k. k ≤ final low ks) ks
final_most low [] r = tt
final_most low (k ∷ ks) r = (final_lower k ks r.1, final_most k ks r.1)

final_push : (low b : ℕ) (ks : List ℕ) → final low (ks ++ b ∷ []) ≡ b
final_push low b [] = refl
final_push low b (k ∷ ks) = final_push k b ks

rises_push : (low b : ℕ) (ks : List ℕ) → Rises low ks → final low ks < b → Rises low (ks ++ b ∷ [])
rises_push low b [] r h = (h, tt)
rises_push low b (k ∷ ks) r h = (r.0, rises_push k b ks r.1 h)

rises_next : (low b : ℕ) (ks rest : List ℕ) → Rises low (ks ++ b ∷ rest) → final low ks < b
rises_next low b [] rest r = r.0
rises_next low b (k ∷ ks) rest r = rises_next k b ks rest r.1

-- what the loop knows once it went through the first i numbers
pub record Gone (bad : List ℕ) (size i last : ℕ) (ps : List ℕ) : Type 0 where
  pub low : last ≤ size
  pub rising : Rises 0 (take i bad)
  pub end : last ≡ final 0 (take i bad)
  pub filled : ps ≡ take 1024 (good (take i bad) last)

pub gone_none : (bad ps : List ℕ) (size : ℕ) → ps ≡ [] → Gone bad size 0 0 ps
unfolding good
gone_none bad ps size e = record { low = omega arith; rising = tt; end = refl; filled = e }

module _ (bad ps : List ℕ) (size i last : ℕ) (g : Gone bad size i last ps) where
  pub gone_few : length ps ≤ 1024
  gone_few = rw g.filled (omega (arith, length-take 1024 (good (take i bad) last)))

  below : AllByRecursion (λ k. k ≤ last) (take i bad)
  below = rw g.end (final_most 0 (take i bad) g.rising)

  module _ (b : ℕ) (lt : i < length bad) (is : b ≡ get_or bad i 0) where
    split : bad ≡ take i bad ++ (b ∷ drop (i + 1) bad)
    split = sym (take-append-drop i bad) ∙ ap (λ (ks : List ℕ). take i bad ++ ks) (drop_more bad i 0 lt ∙ ap (λ (k : ℕ). k ∷ drop (i + 1) bad) (sym is))

    push : take (i + 1) bad ≡ take i bad ++ b ∷ []
    push = take_more bad i 0 lt ∙ ap (λ (k : ℕ). take i bad ++ k ∷ []) (sym is)

    -- a number that does not rise, or lies beyond the pages
    pub refused : (b ≤ last) ⊎ (size < b) → Allowed bad size → ⊥
    refused o a =
        let r = rises_next 0 b (take i bad) (drop (i + 1) bad) (subst (Rises 0) split a.rising) in
        let w : get_or bad i 0 ≤ size = All-get_or (λ k. k ≤ size) bad i 0 lt a.within in
        let e = g.end in
        elim o [ inl n ↦ omega arith | inr n ↦ omega arith ]

    -- the next number is bad, and those between are entered
    pub gone_more : (ps' : List ℕ) → last < b → b ≤ size → ps' ≡ take 1024 (ps ++ range_with_len (last + 1) (b - 1 - last)) → Gone bad size (i + 1) b ps'
    gone_more ps' h s e = record {
      low = s;
      rising = rw push (rises_push 0 b (take i bad) g.rising (rw (← g.end) h));
      end = sym (ap (final 0) push ∙ final_push 0 b (take i bad));
      filled = e ∙ ap (λ (ks : List ℕ). take 1024 (ks ++ range_with_len (last + 1) (b - 1 - last))) g.filled
          ∙ room_again 1024 (good (take i bad) last) (range_with_len (last + 1) (b - 1 - last))
          ∙ sym (ap (take 1024) (ap (λ (ks : List ℕ). good ks b) push ∙ good_more (take i bad) last b h below));
    }

  module _ (all : length bad ≤ i) (ps' : List ℕ) (e : ps' ≡ take 1024 (ps ++ range_with_len (last + 1) (size - last))) where
    whole : take i bad ≡ bad
    whole = take_all i bad all

    pub gone_places : ps' ≡ places bad size
    gone_places =
        e ∙ ap (λ (ks : List ℕ). take 1024 (ks ++ range_with_len (last + 1) (size - last))) g.filled
        ∙ room_again 1024 (good (take i bad) last) (range_with_len (last + 1) (size - last))
        ∙ sym (ap (take 1024) (good_rest (take i bad) last size g.low below)) ∙ ap (λ (ks : List ℕ). take 1024 (good ks size)) whole

    pub gone_allowed : 0 < length bad → length bad ≤ 64 → Allowed bad size
    gone_allowed s f = record {
      some = s;
      few = f;
      rising = subst (Rises 0) whole g.rising;
      within = subst (AllByRecursion (λ k. k ≤ size)) whole (All-weaker (λ k. k ≤ last) (λ k. k ≤ size) (λ k h. (let l = g.low in omega arith)) (take i bad) below);
    }

-- what the table's ghost fields say of the numbers entered
module _ (bad ps : List ℕ) (size : ℕ) (e : ps ≡ places bad size) where
  pub entered_few : length ps ≤ 1024
  entered_few = rw e (omega (arith, length-take 1024 (good bad size)))

  pub entered_rising : Rises 0 ps
  entered_rising = rw e (good_rises bad size 1024)

  pub entered_within : AllByRecursion (λ k. k ≤ size) ps
  entered_within = rw e (good_within bad size 1024)
