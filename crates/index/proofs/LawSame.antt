-- The same search with another charge and room: what it is answered, and that it is answered so only.
use Rattle.std.proofs.Common.{◌≡◌, ℕ, ◌-◌, List, sym, refl, ap, ◌∙◌, subst}
use Rattle.pages.specs.Image.{Image, granted}
use Rattle.orders.specs.Orders.{Order, InSpaceOf}
use Rattle.faults.specs.Accesses.{contents}
use Rattle.tree.proofs.CopyUnique.{same_held}
use Rattle.index.specs.Model.{Answer, State, Known, state, limit}
use Rattle.index.specs.Model.Call.{searches}
use Rattle.index.specs.Keeping.{Content, Filed, Kept, Holds, Agrees, top}
use Rattle.index.specs.Keeping.Content.{blank, filed}
use Rattle.index.specs.Changes.{tree_state, known_of}
use Rattle.index.specs.Searched.{search_of, answer_of}
use Rattle.index.specs.Steps.{Step, Goes, Does}
use Rattle.index.specs.Steps.Names.{from_low, to_high}
use Rattle.index.specs.Steps.Does.{not_open, outside, searched}
use Rattle.index.specs.Law.{with_charge, Answered}
use Rattle.index.proofs.Keeps.{recharged}

-- an open index has one tree on file
module _ (o : Order) (m : Image) (k : Known) (f : Filed) (free : List ℕ) (holds : Holds o (state m k) f) (ek : k ≡ known_of (tree_state f free) f.total) where
  agreed : (g : Filed) → Holds o (state m k) g → Agrees (limit m) g (known_of (tree_state f free) f.total)
  agreed g h = subst (λ (x : Known). Agrees (limit m) g x) ek h.agrees

  same_file : (g : Filed) → Holds o (state m k) g → filed g ≡ filed f
  same_file g h =
      let a = agreed g h in
      let tree = same_held (contents m) (limit m) (limit m) g.total f.total (top o) (top o) g.height f.height g.tree f.tree h.sound holds.sound (sym a.0) (sym a.1) in
      λ i. filed (record { tree = tree i; height = sym a.0 i; total = sym a.2 i })

  pub same_content : (c : Content) → Kept o (state m k) c → c ≡ filed f
  same_content blank kept = absurd (cc (kept.0, ek))
  same_content (filed g) kept = same_file g kept

module _ (o : Order) (s : State) (f : Filed) (free lo hi : List ℕ) (holds : Holds o s f) (ek : s.known ≡ known_of (tree_state f free) f.total) (il : InSpaceOf o lo) (ih : InSpaceOf o hi)
    (start charge room : ℕ) where
  abbrev answer : Answer
  answer = answer_of o (search_of o lo hi start f.tree charge room)

  abbrev after : State
  after = with_charge s (charge - (search_of o lo hi start f.tree charge room).reads)

  goes : Goes o (filed f) (with_charge s charge) answer after (searches lo hi start room)
  goes = record {
    next = filed f;
    kept = recharged o s.image (charge - (search_of o lo hi start f.tree charge room).reads) s.known (filed f) holds;
    does = searched f free refl ek il ih refl refl refl;
  }

  steps_so : Step o (with_charge s charge) answer after (searches lo hi start room)
  steps_so = record {
    size = refl;
    exact = λ c kept.
        subst (λ (x : Content). Goes o x (with_charge s charge) answer after (searches lo hi start room))
        (sym (same_content o (granted s.image charge) s.known f free (recharged o s.image charge s.known (filed f) holds) ek c kept)) goes;
  }

  does_only : (b : Answer) (u : State) (v : Content) → Does o (filed f) (with_charge s charge) b u v (searches lo hi start room) → b ≡ answer
  does_only b u v (not_open x names is ea eu ev) = absurd (cc (is, ek))
  does_only b u v (outside x h r t g from_low is out ea eu ev) = absurd (out il)
  does_only b u v (outside x h r t g to_high is out ea eu ev) = absurd (out ih)
  does_only b u v (searched g free' ec ek' jl jh ea eu ev) =
      let same : g ≡ f = cc ec in
      ea ∙ ap (λ (y : Filed). answer_of o (search_of o lo hi start y.tree charge room)) same

  pub answered : Answered o s lo hi start charge room answer
  answered = record {
    so = (after, steps_so);
    only = λ b u step. (let g = step.exact (filed f) (recharged o s.image charge s.known (filed f) holds) in does_only b u g.next g.does);
  }
