-- The searches after the day in the 8 x 8 space.
use Rattle.std.proofs.Common.{◌≡◌, ℕ, List, [], ◌∷◌, ◌++◌, map, length, refl, ap, ◌∙◌, subst, lit<}
use Rattle.pages.specs.Image.{Image, Blank}
use Rattle.tree.specs.CopyMoves.{State as TreeState}
use Rattle.tree.specs.SearchSteps.{first}
use Rattle.searches.specs.Inside.{inside}
use Rattle.index.specs.Model.{Call, Answer, State, state}
use Rattle.index.specs.Model.Call.{lodges, searches, grants}
use Rattle.index.specs.Model.Answer.{accepted}
use Rattle.index.specs.Model.Known.{shut}
use Rattle.index.specs.Keeping.{Content, Filed}
use Rattle.index.specs.Keeping.Content.{filed}
use Rattle.index.specs.Changes.{file_of}
use Rattle.index.specs.Searched.{search_of, answer_of}
use Rattle.index.specs.Steps.{Step, Does}
use Rattle.index.specs.Steps.Does.{given, not_open, outside}
use Rattle.index.specs.Law.{with_charge}
use Rattle.index.proofs.LawSame.{answered}
use Rattle.cases.specs.EightByEight.{z, at}
use Rattle.cases.specs.Branch.{Chain, points, day, all_accepted}
use Rattle.cases.specs.Readout.{day_and_search, ReadsOut, Readouts}
use Rattle.cases.proofs.Accepting.{At}
use Rattle.cases.proofs.Branches.{start, run, begins, runs, all_points, in_eight, ended_chain, fits, says_yes, left_of, upto}

-- a grant leaves the index as it is, with another charge
granted_so : (s u : State) (f : Filed) (a : Answer) (v : Content) (n : ℕ) → Does z (filed f) s a u v (grants n) → (a ≡ accepted) × (u ≡ with_charge s n)
granted_so s u f a v n (given ea eu ev) = (ea, eu)
granted_so s u f a v n (not_open y names e ea eu ev) = elim names [ ]
granted_so s u f a v n (outside y h r t free names e out ea eu ev) = elim names [ ]

abbrev found_with : TreeState → ℕ → ℕ → Answer
found_with t charge room = answer_of z (search_of z (at 2 0) (at 3 1) 0 t.tree charge room)

-- a grant and a search on a tree
searched_on : (t : TreeState) (total left charge room : ℕ) (s u : State) (rs : List Answer) → At z s t total left → Chain z s (grants charge ∷ (searches (at 2 0) (at 3 1) 0 room ∷ [])) rs u →
    rs ≡ accepted ∷ (found_with t charge room ∷ [])
searched_on t total left charge room s u [] here chain = absurd chain
searched_on t total left charge room s u (a ∷ []) here (s', step, chain) = absurd chain
searched_on t total left charge room s u (a ∷ (b ∷ rest)) here (s', step, (s'', step', chain)) =
    let g = step.exact (filed (file_of t total)) here.kept in
    let d = granted_so s s' (file_of t total) a g.next charge g.does in
    let same = answered z s (file_of t total) t.free (at 2 0) (at 3 1) here.kept here.known (in_eight 2 0 (lit< tt) (lit< tt)) (in_eight 3 1 (lit< tt) (lit< tt)) 0 charge room in
    let e = same.only b s'' (subst (λ (x : State). Step z x b s'' (searches (at 2 0) (at 3 1) 0 room)) d.1 step') in
    let z' = ended_chain rest s'' u chain in
    λ i. d.0 i ∷ (e i ∷ z'.0 i)

-- after the day
after_day : (charge room : ℕ) (m : Image) (answers : List Answer) (u : State) → Blank m → length m.pages ≡ 16 → Chain z (state m shut) (day_and_search charge room) answers u →
    answers ≡ all_accepted (day 35) ++ (accepted ∷ (found_with (run points start) charge room ∷ []))
unfolding fits says_yes run left_of upto
after_day charge room m answers u all len chain =
    let cs : List Call = grants charge ∷ (searches (at 2 0) (at 3 1) 0 room ∷ []) in
    let b = begins m 34 (map lodges points ++ cs) answers u all len chain in
    let t = runs points cs start 0 34 b.there u b.rest all_points refl b.holds b.chain in
    let e = searched_on (run points start) 11 0 charge room t.there u t.rest t.holds t.chain in
    b.answers ∙ (λ i. accepted ∷ (accepted ∷ (t.answers ∙ ap (λ (rs : List Answer). all_accepted (map lodges points) ++ rs) e) i))

reads_so : (charge room : ℕ) (a : Answer) → found_with (run points start) charge room ≡ a → ReadsOut (charge, room, a)
reads_so charge room a e m answers u all len chain = after_day charge room m answers u all len chain ∙ ap (λ (b : Answer). all_accepted (day 35) ++ (accepted ∷ (b ∷ []))) e

pub readouts : Readouts
unfolding run inside first
readouts = (reads_so 3 16 _ refl, (reads_so 2 16 _ refl, (reads_so 0 16 _ refl, (reads_so 3 1 _ refl, tt))))
