-- An index that stands somewhere goes on by a step.
use Rattle.std.proofs.Common.{ap₂, ◌+◌, ◌<◌, length, map, take, get_or, Some, arith, ◌≡◌, ℕ, List, [], ◌∷◌, ◌++◌, refl, sym, ap, ◌∙◌, subst}
use Rattle.std.specs.List.{slice_get}
use Rattle.std.proofs.lemmas.List.{take_more, length-take-le, length-map, map-append}
use Rattle.std.proofs.lemmas.Option.{slice_get-map, slice_get-get_or}
use Rattle.std.specs.Prelude.{option_map}
use Rattle.pages.specs.Image.{Image}
use Rattle.orders.specs.Orders.{Order}
use Rattle.index.specs.declared.index.Index.{Index}
use Rattle.faults.specs.declared.fault.Fault.{Fault}
use Rattle.faults.specs.Refusals.{number_of, values_of}
use Rattle.index.specs.Model.{Call, Answer, State, state, refusal}
use Rattle.index.specs.Model.Answer.{refused}
use Rattle.index.specs.Model.Known.{shut}
use Rattle.index.specs.Steps.{Step}
use Rattle.index.specs.View.{view}
use Rattle.index.specs.Histories.{Event, History, Led, event}
use Rattle.index.specs.Histories.Led.{begun, goes_on}
use Rattle.orders.specs.declared.space.Space.{Space}
use Rattle.orders.specs.Interleaved.{order_of}
use Rattle.orders.specs.Rules.{z_turn}
use Rattle.pages.specs.Cut.{held}
use Rattle.exports.specs.Batches.{onward, z_order}
use Rattle.exports.specs.Standing.{StandsAt}

module _ {S O : Type 0} (meaning : S → Image) (order_of : O → Order) (store : S) (order : O) where
  pub made : (x : Index S O) → view meaning x ≡ state (meaning store) shut → x.order ≡ order → StandsAt meaning order_of store order [] x
  made x e o = record { led = subst (Led (order_of order) (meaning store) []) (sym e) begun; same = o }

  -- also by a refusal
  pub led_on : (x : Index S O) (h : History) (a : Answer) (u : State) (call : Call) → StandsAt meaning order_of store order h x → Step (order_of x.order) (view meaning x) a u call
      → Led (order_of order) (meaning store) (event call a ∷ h) u
  led_on x h a u call s t = goes_on s.led (subst (λ (o : Order). Step o (view meaning x) a u call) (ap order_of s.same) t)

  pub further : (x y : Index S O) (h : History) (a : Answer) (call : Call) → StandsAt meaning order_of store order h x → Step (order_of x.order) (view meaning x) a (view meaning y) call → y.order ≡ x.order
      → StandsAt meaning order_of store order (event call a ∷ h) y
  further x y h a call s t o = record { led = led_on x h a (view meaning y) call s t; same = o ∙ s.same }

-- one event more at the end
pub onward_more : (es : List Event) (e : Event) (h : History) → onward (es ++ e ∷ []) h ≡ e ∷ onward es h
onward_more [] e h = refl
onward_more (d ∷ es) e h = onward_more es e (d ∷ h)

-- a refusal is told by its number
pub refused_on : {S O : Type 0} (meaning : S → Image) (order_of : O → Order) (store : S) (order : O) (x : Index S O) (h : History) (f : Fault) (n : ℕ) (u : State) (call : Call) →
    n ≡ number_of f → StandsAt meaning order_of store order h x → Step (order_of x.order) (view meaning x) (refusal f) u call → Led (order_of order) (meaning store) (event call (refused n (values_of f)) ∷ h) u
refused_on meaning order_of store order x h f n u call e s t =
    subst (λ (k : ℕ). Led (order_of order) (meaning store) (event call (refused k (values_of f)) ∷ h) u) (sym e) (led_on meaning order_of store order x h (refusal f) u call s t)

-- the next of the calls
module _ {X : Type 0} (happening : X → Event) (xs : List X) (i : ℕ) (d : X) (lt : i < length xs) where
  pub onward_next : (h : History) → onward (map happening (take (i + 1) xs)) h ≡ happening (get_or xs i d) ∷ onward (map happening (take i xs)) h
  onward_next h =
      ap (λ (ys : List X). onward (map happening ys) h) (take_more xs i d lt) ∙ ap (λ (es : List Event). onward es h) (map-append happening (take i xs) (get_or xs i d ∷ []))
      ∙ onward_more (map happening (take i xs)) (happening (get_or xs i d)) h

  pub happened : length (map happening (take i xs)) ≡ i
  happened = length-map (take i xs) happening ∙ length-take-le i xs (omega arith)

  pub next_call : (naming : X → Call) → slice_get (map naming xs) (length (map happening (take i xs))) ≡ Some (naming (get_or xs i d))
  next_call naming = rw happened (slice_get-map naming xs i ∙ ap (option_map naming) (slice_get-get_or xs i d lt))

pub all_happened : {X : Type 0} (happening : X → Event) (naming : X → Call) (xs : List X) → length (map happening (take (length xs) xs)) ≡ length (map naming xs)
all_happened happening naming xs = omega (arith, length-map (take (length xs) xs) happening, length-take-le (length xs) xs (omega arith), length-map xs naming)

-- the order that an export makes, over the memory that it is lent
pub lent_so : (P : Order → Image → Type 0) (sp sp' : Space) (n p k : ℕ) (bytes bytes' : List ℕ) → sp ≡ sp' → sp'.n ≡ n → sp'.p ≡ p → bytes ≡ bytes' → k ≡ 0 →
    P (order_of 1 sp (z_turn sp.n)) (held bytes k) → P (z_order n p) (held bytes' 0)
lent_so P sp sp' n p k bytes bytes' e a b c z t =
    subst (λ (o : Order). P o (held bytes' 0)) (ap₂ z_order (ap (λ (s : Space). s.n) e ∙ a) (ap (λ (s : Space). s.p) e ∙ b))
    (subst (λ (m : Image). P (order_of 1 sp (z_turn sp.n)) m) (ap₂ held c z) t)
