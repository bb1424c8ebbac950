-- An opening is a step: where a tree is on file it opens, or the charge is short.
use Rattle.std.proofs.Common.{◌≡◌, ℕ, ◌+◌, ◌-◌, ◌<◌, ◌≤◌, ◌⊎◌, List, [], ◌∷◌, length, get_or, sym, refl, ap, ◌∙◌, subst, inl, inr, zero-add, arith}
use Rattle.std.proofs.lemmas.Bool.{cases_lt}
use Rattle.pages.specs.Image.{Image, granted}
use Rattle.layout.specs.declared.header.Header.{Header}
use Rattle.orders.specs.Orders.{Order, Lawful}
use Rattle.layout.specs.declared.visit.Rule.{Rule}
use Rattle.tree.specs.Tree.{Node, Held, Contents, counts}
use Rattle.tree.specs.Tree.Held.{none, held}
use Rattle.tree.specs.CopyLaws.{SoundOf, root_of, pages_of, usable, unused}
use Rattle.tree.specs.CopyWrites.{times}
use Rattle.tree.specs.Scan.{opened}
use Rattle.tree.specs.Scan.{accepted as sound, refused as unsound, uncharged as short}
use Rattle.tree.specs.ScanRules.{SoundHeld, marked, pages_held, events_held}
use Rattle.tree.proofs.CopyKept.{opened_law}
use Rattle.tree.proofs.ScanWhole.{sound_is_accepted}
use Rattle.tree.proofs.ScanEndings.{short_is_uncharged, refused_is_unsound}
use Rattle.faults.specs.Accesses.{contents}
use Rattle.index.specs.Model.{Call, Answer, State, Known, state, limit}
use Rattle.index.specs.Model.Answer.{accepted, refused}
use Rattle.index.specs.Model.Known.{shut, knows}
use Rattle.index.specs.Model.Call.{opens}
use Rattle.index.specs.Keeping.{Content, Filed, Kept, Holds, Agrees, header_for, top}
use Rattle.index.specs.Keeping.Content.{blank, filed}
use Rattle.index.specs.Opening.{Opening, ReadsOurs, scan_of}
use Rattle.index.specs.Opening.Opening.{few_records, absent, uncharged, no_header, other_order, unread, breaks, opens_on}
use Rattle.index.specs.Steps.{Step, Goes, Does}
use Rattle.index.specs.Steps.Does.{open_few, open_absent, open_uncharged, open_no_header, open_other, open_short, open_tree}
use Rattle.index.proofs.Keeps.{recharged, forgotten}
use Rattle.index.proofs.Headers.{file_proper, same_header}

-- the two parts of the theory say the same of a tree that may be empty
held_sound : (m : Contents) (l h total end : ℕ) (t : Held Node) → SoundOf m l h total end t → SoundHeld m l h (root_of t) total end t
held_sound m l h total end none s = s
held_sound m l h total end (held n) s = s

held_pages : (t : Held Node) → pages_held t ≡ pages_of t
held_pages none = refl
held_pages (held n) = refl

-- marking pages in their order turns them round, and no more
times_marked : (p : ℕ) (ms ps : List ℕ) → times p (marked ms ps) ≡ times p ps + times p ms
times_marked p ms [] = sym (zero-add (times p ms))
times_marked p ms (x ∷ ps) = omega (arith, times_marked p (x ∷ ms) ps)

unused_same : (ps qs : List ℕ) (xs : List ℕ) → ((p : ℕ) → times p ps ≡ times p qs) → unused ps xs ≡ unused qs xs
unused_same ps qs [] e = refl
unused_same ps qs (x ∷ xs) e = rw (e x, unused_same ps qs xs e)

unused_marked : (ps xs : List ℕ) → unused (marked [] ps) xs ≡ unused ps xs
unused_marked ps xs = unused_same (marked [] ps) ps xs (λ p. omega (arith, times_marked p [] ps))

unused_none : (xs : List ℕ) → unused [] xs ≡ xs
unused_none [] = refl
unused_none (x ∷ xs) = ap (λ (ys : List ℕ). x ∷ ys) (unused_none xs)

-- an index that opens on a tree agrees with it
opened_agrees : (o : Order) (m : Contents) (l h total : ℕ) (t : Held Node) → SoundOf m l h total (top o) t →
    Agrees l (record { tree = t; height = h; total = total }) (knows h (root_of t) total (unused (pages_of t) (usable l)))
opened_agrees o m l h total none s = (refl, refl, refl, λ p. zero-add _ ∙ ap (times p) (unused_none (usable l)))
opened_agrees o m l h total (held n) s = (refl, refl, refl, (opened_law m l h _ total (top o) n s).shared)

-- the ways that a scan of a tree on file can end
ends : (m : Contents) (l charge h total end : ℕ) (t : Held Node) → SoundOf m l h total end t →
    ((length (pages_of t) ≤ charge) × (opened m l charge h (root_of t) total end ≡ sound (marked [] (pages_of t)) (counts (events_held t)) (charge - length (pages_of t))))
    ⊎ ((charge < length (pages_of t)) × ((level : ℕ) × (opened m l charge h (root_of t) total end ≡ short (get_or (pages_of t) charge 0) level)))
ends m l charge h total end t s =
    let e = held_pages t in
    let s' = held_sound m l h total end t s in
    elim (cases_lt charge (length (pages_of t))) [
      | inl lt ↦ inr (lt, rw e at (short_is_uncharged m l charge h (root_of t) total end t s' (rw e lt)))
      | inr le ↦ inl (le, rw e at (sound_is_accepted m l charge h (root_of t) total end t s' (rw e le)))
    ]

-- the header that was read is that of the tree on file
its_header : (o : Order) → Lawful o → (m : Image) (k : Known) (f : Filed) (work : ℕ) (h : Header) → Holds o (state m k) f → ReadsOurs o m work h → h ≡ header_for o f
its_header o law m k f work h holds got =
    same_header h (header_for o f) got.proper (file_proper o law (contents m) (limit m) (omega arith) f holds.sound holds.low holds.counts)
    (sym got.says ∙ holds.header)

module _ (o : Order) (law : Lawful o) (m : Image) (k : Known) (work : ℕ) where
  -- the memory is left as it was, but for the charge, and the index shut
  shut_kept : (x : ℕ) (c : Content) → Kept o (state m k) c → Kept o (state (granted m x) shut) c
  shut_kept x c h = recharged o m x shut c (forgotten o m k c h)

  shut_goes : (x : ℕ) (a : Answer) (c : Content) → Kept o (state m k) c → Does o c (state m k) a (state (granted m x) shut) c (opens work) → Goes o c (state m k) a (state (granted m x) shut) (opens work)
  shut_goes x a c h does = record { next = c; kept = shut_kept x c h; does = does }

  read_on : (c : Content) (h : Header) (charge : ℕ) (a : Answer) (u : State) → Kept o (state m k) c → ReadsOurs o m work h →
      ((f : Filed) → c ≡ filed f → h ≡ header_for o f → Holds o (state m k) f → Goes o (filed f) (state m k) a u (opens work)) → Goes o c (state m k) a u (opens work)
  read_on blank h charge a u kept got go = absurd (kept.1 h got.proper got.ours got.says)
  read_on (filed f) h charge a u kept got go = go f refl (its_header o law m k f work h kept got) kept

  -- a scan that ends for want of charge
  on_short : (f : Filed) (p level : ℕ) → Holds o (state m k) f → 64 ≤ work → 0 < m.charge → scan_of o m (header_for o f) ≡ short p level →
      Goes o (filed f) (state m k) (refused 9 (p ∷ level ∷ 2 ∷ [])) (state (granted m 0) shut) (opens work)
  on_short f p level holds records charged e =
      elim (ends (contents m) (limit m) (m.charge - 1) f.height f.total (top o) f.tree holds.sound) [
        | inl enough ↦ absurd (cc (e, enough.1))
        | inr less ↦
            let ep : p ≡ get_or (pages_of f.tree) (m.charge - 1) 0 = cc (e, less.1.1) in
            let el : level ≡ less.1.0 = cc (e, less.1.1) in
            shut_goes 0 (refused 9 (p ∷ level ∷ 2 ∷ [])) (filed f) holds
            (open_short f less.1.0 refl records charged less.0 less.1.1 (λ i. refused 9 (ep i ∷ el i ∷ 2 ∷ [])) refl refl)
      ]

  -- a tree on file breaks no rule
  on_broken : (f : Filed) (p : ℕ) (r : Rule) (left : ℕ) (a : Answer) (u : State) → Holds o (state m k) f → scan_of o m (header_for o f) ≡ unsound p r left →
      Goes o (filed f) (state m k) a u (opens work)
  on_broken f p r left a u holds e =
      absurd (refused_is_unsound (contents m) (limit m) (m.charge - 1) f.height (root_of f.tree) f.total (top o) p r left e f.tree
      (held_sound (contents m) (limit m) f.height f.total (top o) f.tree holds.sound))

  opened_holds : (f : Filed) (x : ℕ) → Holds o (state m k) f →
      Holds o (state (granted m x) (knows f.height (root_of f.tree) f.total (unused (pages_of f.tree) (usable (limit m))))) f
  opened_holds f x holds = record {
    there = holds.there;
    header = holds.header;
    sound = holds.sound;
    low = holds.low;
    counts = holds.counts;
    agrees = opened_agrees o (contents m) (limit m) f.height f.total f.tree holds.sound;
  }

  -- a scan that ends well
  on_sound : (f : Filed) (seen : List ℕ) (sum left : ℕ) → Holds o (state m k) f → 64 ≤ work → 0 < m.charge → scan_of o m (header_for o f) ≡ sound seen sum left →
      Goes o (filed f) (state m k) accepted (state (granted m left) (knows f.height (root_of f.tree) f.total (unused seen (usable (limit m))))) (opens work)
  on_sound f seen sum left holds records charged e =
      elim (ends (contents m) (limit m) (m.charge - 1) f.height f.total (top o) f.tree holds.sound) [
        | inr less ↦ absurd (cc (e, less.1.1))
        | inl enough ↦
            let free : List ℕ = unused (pages_of f.tree) (usable (limit m)) in
            let es : seen ≡ marked [] (pages_of f.tree) = cc (e, enough.1) in
            let el : m.charge - 1 - length (pages_of f.tree) ≡ left = cc (e, enough.1) in
            let ef : free ≡ unused seen (usable (limit m)) = sym (ap (λ (ps : List ℕ). unused ps (usable (limit m))) es ∙ unused_marked (pages_of f.tree) (usable (limit m))) in
            let u : ℕ → List ℕ → State = λ x fs. state (granted m x) (knows f.height (root_of f.tree) f.total fs) in
            subst (λ (x : ℕ). Goes o (filed f) (state m k) accepted (u x (unused seen (usable (limit m)))) (opens work)) el
            (subst (λ (fs : List ℕ). Goes o (filed f) (state m k) accepted (u (m.charge - 1 - length (pages_of f.tree)) fs) (opens work)) ef
            (record { next = filed f; kept = opened_holds f (m.charge - 1 - length (pages_of f.tree)) holds; does = open_tree f refl records charged enough.0 refl refl refl }))
      ]

moved : (o : Order) (s : State) (a a' : Answer) (u u' : State) (call : Call) → a ≡ a' → u ≡ u' → Step o s a' u' call → Step o s a u call
moved o s a a' u u' call ea eu step = subst (λ (x : Answer). Step o s x u call) (sym ea) (subst (λ (y : State). Step o s a' y call) (sym eu) step)

pub opening_steps : (o : Order) → Lawful o → (m : Image) (k : Known) (work : ℕ) (a : Answer) (u : State) → Opening o (state m k) work a u → Step o (state m k) a u (opens work)
opening_steps o law m k work a u (few_records lt ea eu) =
    moved o (state m k) a _ u _ (opens work) ea eu
    (record { size = refl; exact = λ c h. shut_goes o law m k work m.charge _ c h (open_few lt refl refl refl) })
opening_steps o law m k work a u (absent records gone ea eu) =
    moved o (state m k) a _ u _ (opens work) ea eu
    (record { size = refl; exact = λ c h. shut_goes o law m k work m.charge _ c h (open_absent records gone refl refl refl) })
opening_steps o law m k work a u (uncharged records there empty ea eu) =
    moved o (state m k) a _ u _ (opens work) ea eu
    (record { size = refl; exact = λ c h. shut_goes o law m k work m.charge _ c h (open_uncharged records there empty refl refl refl) })
opening_steps o law m k work a u (no_header records there paid never ea eu) =
    moved o (state m k) a _ u _ (opens work) ea eu
    (record { size = refl; exact = λ c h. shut_goes o law m k work (m.charge - 1) _ c h (open_no_header records there paid never refl refl refl) })
opening_steps o law m k work a u (other_order h records there paid proper says other ea eu) =
    moved o (state m k) a _ u _ (opens work) ea eu
    (record { size = refl; exact = λ c kept. shut_goes o law m k work (m.charge - 1) _ c kept (open_other h records there paid proper says other refl refl refl) })
opening_steps o law m k work a u (unread h p level got e ea eu) =
    moved o (state m k) a _ u _ (opens work) ea eu
    (record {
      size = refl;
      exact = λ c kept. read_on o law m k work c h 0 _ _ kept got (λ f ec eh holds.
          on_short o law m k work f p level holds got.records got.charged (subst (λ (x : Header). scan_of o m x ≡ short p level) eh e));
    })
opening_steps o law m k work a u (breaks h p r left got e ea eu) =
    moved o (state m k) a _ u _ (opens work) ea eu
    (record {
      size = refl;
      exact = λ c kept. read_on o law m k work c h 0 _ _ kept got (λ f ec eh holds.
          on_broken o law m k work f p r left _ _ holds (subst (λ (x : Header). scan_of o m x ≡ unsound p r left) eh e));
    })
opening_steps o law m k work a u (opens_on h seen sum left got e ea eu) =
    moved o (state m k) a _ u _ (opens work) ea eu
    (record {
      size = refl;
      exact = λ c kept. read_on o law m k work c h 0 _ _ kept got (λ f ec eh holds.
          subst (λ (x : Header). Goes o (filed f) (state m k) accepted (state (granted m left) (knows x.height x.root x.total (unused seen (usable (limit m))))) (opens work)) (sym eh)
          (on_sound o law m k work f seen sum left holds got.records got.charged (subst (λ (x : Header). scan_of o m x ≡ sound seen sum left) eh e)));
    })
