-- Boxes searched one after the other.
use Rattle.std.proofs.Common.{◌≡◌, ℕ, ◌+◌, ◌<◌, ◌≤◌, List, [], ◌∷◌, map, length, take, Some, Ok, Err, refl, ap, ◌∙◌, inl, inr, arith, get_or}
use Rattle.std.specs.List.{slice_get}
use Rattle.std.specs.Prelude.{option_map}
use Rattle.std.proofs.lemmas.List.{length-append, length-map, length-take-le, take_more}
use Rattle.std.proofs.lemmas.Option.{slice_get-map, slice_get-get_or}
use Rattle.pages.specs.Image.{Image}
use Rattle.orders.specs.Orders.{Order}
use Rattle.index.specs.declared.index.Index.{Index}
use Rattle.index.specs.View.{view}
use Rattle.index.specs.Histories.{Event, event}
use Rattle.index.specs.Model.Answer.{found}
use Rattle.searches.specs.Finds.{ending_of}
use Rattle.searches.specs.declared.find.Find.{Find}
use Rattle.searches.specs.declared.find.Found.{Found}
use Rattle.exports.specs.declared.batch.Corners.{Corners}
use Rattle.exports.specs.declared.batch.Searched.{Searched}
use Rattle.exports.specs.Batches.{Sought, SearchBatch, seeking, capped, onward, opened}
use Rattle.exports.specs.Batches.Sought.{none, more}
use Rattle.exports.specs.Batches.Ended.{whole, broken}
use Rattle.exports.specs.Standing.{StandsAt, Seeks}
use Rattle.exports.proofs.Standings.{further, refused_on, onward_more}

sought_length : {lent memory : List Find} {boxes : List Corners} {events : List Event} {f r : ℕ} → Sought lent boxes events f r memory → length events ≡ length boxes
sought_length none = refl
sought_length {lent = lent} {boxes = bs} {events = es} (more {boxes = cs} {events = ds} s c g m b v l f r k) =
    omega (arith, sought_length s, ap length b, ap length v, length-append cs (c ∷ []), length-append ds (event (seeking (length lent) c) (found (take g.count m) g.reads (ending_of g.ending)) ∷ []))

module _ {S O : Type 0} (meaning : S → Image) (order_of : O → Order) (store : S) (order : O) (charge : ℕ) (lent before : List Find) (boxes : List Corners) (i : ℕ) (d : Corners) (events : List Event) (f r : ℕ)
    (s : Sought lent (take i boxes) events f r before) (x : Index S O) (at : StandsAt meaning order_of store order (onward events (opened charge)) x) where
  so_far : i ≤ length boxes → length events ≡ i
  so_far le = sought_length s ∙ length-take-le i boxes le

  next_seek : i < length boxes → slice_get (map (seeking (length lent)) boxes) (length events) ≡ Some (seeking (length lent) (get_or boxes i d))
  next_seek lt = rw (so_far (omega arith), slice_get-map (seeking (length lent)) boxes i) (ap (option_map (seeking (length lent))) (slice_get-get_or boxes i d lt))

  pub seek_refused : i < length boxes → (y : Index S O) (after : List Find) (k done : ℕ) → length before ≡ length lent → done ≡ i → Seeks meaning order_of x (get_or boxes i d) before (Err k) y after
      → SearchBatch (order_of order) (meaning store) charge boxes lent after (record { done = done; refusal = k; finds = f; reads = r })
  seek_refused lt y after k done e q t = record {
    few = omega (arith, q);
    events = events;
    sought = rw (q, t.0) s;
    ended = elim t.1 [
      | inl w ↦ inl (broken (next_seek lt) (refused_on meaning order_of store order x (onward events (opened charge)) w.0 k (view meaning y) (seeking (length lent) (get_or boxes i d)) w.1 at
          (rw e at w.2)))
      | inr w ↦ inr (record {
        number = w.0;
        box = get_or boxes i d;
        next = rw (so_far (omega arith)) (slice_get-get_or boxes i d lt);
        unordered = w.1;
        left = view meaning x;
        led = at.led;
      })
    ];
  }

  pub seek_more : i < length boxes → (y : Index S O) (after : List Find) (g : Found) (f' r' : ℕ) → length before ≡ length lent → f' ≡ capped (f + g.count) → r' ≡ capped (r + g.reads)
      → Seeks meaning order_of x (get_or boxes i d) before (Ok g) y after → y.order ≡ x.order
      → (events' : List Event) × Sought lent (take (i + 1) boxes) events' f' r' after × StandsAt meaning order_of store order (onward events' (opened charge)) y
  seek_more lt y after g f' r' e p q t o =
      let step = rw e at t.0 in (
        _,
        more s (get_or boxes i d) g after (take_more boxes i d lt) refl t.1 p q t.2,
        rw (onward_more events _ (opened charge)) (further meaning order_of store order x y (onward events (opened charge)) _ _ at step o),
      )

  pub all_sought : i ≡ length boxes → (b : Searched) → b.done ≡ i → b.refusal ≡ 0 → b.finds ≡ f → b.reads ≡ r → SearchBatch (order_of order) (meaning store) charge boxes lent before b
  all_sought e b p q u v = record {
    few = omega (arith, p);
    events = events;
    sought = rw (p, u, v) s;
    ended = inl (whole q (omega (arith, so_far (omega arith), length-map boxes (seeking (length lent)))) at.led);
  }
