-- The calls that words write.
use Rattle.std.proofs.Common.{◌≡◌, ℕ, ◌-◌, ◌^◌, List, [], ◌∷◌, refl, inl, inr, codes}
use Rattle.script.specs.Words.{IsOneOf, NoPoint}
use Rattle.script.specs.Calling.{index_verbs, Given, NoSearch, CallsIndex, NoIndexCall}
use Rattle.script.specs.declared.trouble.Trouble.{Trouble}
use Rattle.script.specs.declared.trouble.Trouble.TheVariants.{Refused, Unclear, Memory}
use Rattle.script.specs.declared.call.IndexCall.{IndexCall}
use Rattle.script.specs.declared.call.IndexCall.TheVariants.{Grant, Format, Open, Shut, Lodge, Withdraw, Tally, Search}
use Rattle.script.proofs.Verbs.{apart, outside}

-- `open` with work records that are not written opens nothing
pub open_unwritten : (verb : List ℕ) (ts : List (List ℕ)) → verb ≡ codes "open" → ((r : ℕ) → Given (codes "work") 64 (2 ^ 32 - 1) ts r → ⊥) → (n : ℕ) (c : IndexCall) → CallsIndex n verb ts c → ⊥
open_unwritten verb ts is never n (Grant charge) calls = apart (codes "open") (codes "grant") verb refl is calls.0
open_unwritten verb ts is never n Format calls = apart (codes "open") (codes "format") verb refl is calls.0
open_unwritten verb ts is never n (Open records) calls = never records calls.1
open_unwritten verb ts is never n Shut calls = apart (codes "open") (codes "shut") verb refl is calls.0
open_unwritten verb ts is never n (Lodge x) calls = apart (codes "open") (codes "lodge") verb refl is calls.0
open_unwritten verb ts is never n (Withdraw x) calls = apart (codes "open") (codes "withdraw") verb refl is calls.0
open_unwritten verb ts is never n (Tally x) calls = apart (codes "open") (codes "tally") verb refl is calls.0
open_unwritten verb ts is never n (Search s) calls = apart (codes "open") (codes "search") verb refl is calls.0

abbrev pub point_verbs : List (List ℕ)
point_verbs = codes "lodge" ∷ codes "withdraw" ∷ codes "tally" ∷ []

of_index : (verb : List ℕ) → IsOneOf point_verbs verb → IsOneOf index_verbs verb
of_index verb (inl is) = inl is
of_index verb (inr (inl is)) = inr (inl is)
of_index verb (inr (inr (inl is))) = inr (inr (inl is))
of_index verb (inr (inr (inr never))) = absurd never

-- a call with a point that is not written calls nothing
pub point_unwritten : (n : ℕ) (verb : List ℕ) (ts : List (List ℕ)) (e : Trouble) → IsOneOf point_verbs verb → NoPoint n ts e → NoIndexCall n verb ts e
point_unwritten n verb ts (Unclear r) is none = (of_index verb is, never, λ search crossed. outside point_verbs (codes "search") verb refl search is)
  where
    never : (c : IndexCall) → CallsIndex n verb ts c → ⊥
    never (Grant charge) calls = outside point_verbs (codes "grant") verb refl calls.0 is
    never Format calls = outside point_verbs (codes "format") verb refl calls.0 is
    never (Open records) calls = outside point_verbs (codes "open") verb refl calls.0 is
    never Shut calls = outside point_verbs (codes "shut") verb refl calls.0 is
    never (Lodge x) calls = none x calls.1
    never (Withdraw x) calls = none x calls.1
    never (Tally x) calls = none x calls.1
    never (Search s) calls = outside point_verbs (codes "search") verb refl calls.0 is
point_unwritten n verb ts (Refused f) is none = absurd none
point_unwritten n verb ts Memory is none = tt

pub search_unwritten : (n : ℕ) (verb : List ℕ) (ts : List (List ℕ)) (e : Trouble) → verb ≡ codes "search" → NoSearch n ts e → NoIndexCall n verb ts e
search_unwritten n verb ts (Unclear r) is none =
    (inr (inr (inr (inl is))), never, λ again crossed. none crossed.0 crossed.1 crossed.2 crossed.3 crossed.4)
  where
    never : (c : IndexCall) → CallsIndex n verb ts c → ⊥
    never (Grant charge) calls = apart (codes "search") (codes "grant") verb refl is calls.0
    never Format calls = apart (codes "search") (codes "format") verb refl is calls.0
    never (Open records) calls = apart (codes "search") (codes "open") verb refl is calls.0
    never Shut calls = apart (codes "search") (codes "shut") verb refl is calls.0
    never (Lodge x) calls = apart (codes "search") (codes "lodge") verb refl is calls.0
    never (Withdraw x) calls = apart (codes "search") (codes "withdraw") verb refl is calls.0
    never (Tally x) calls = apart (codes "search") (codes "tally") verb refl is calls.0
    never (Search s) calls = none s.query.low s.query.high s.start s.room calls.1
search_unwritten n verb ts (Refused f) is none = (none.0, is, none.1)
search_unwritten n verb ts Memory is none = tt
