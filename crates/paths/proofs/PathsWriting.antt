-- Lists of writes, one after another.
use Rattle.std.proofs.Common.{◌≡◌, ℕ, suc, ◌-◌, ◌≤◌, List, [], ◌∷◌, ◌++◌, length, sym, refl, ap, ◌∙◌, subst, append_assoc, arith}
use Rattle.pages.specs.Image.{Image, written, spent}
use Rattle.tree.specs.CopyWrites.{Write}
use Rattle.faults.specs.declared.fault.Access.{Access}
use Rattle.faults.specs.declared.fault.Fault.{Fault}
use Rattle.paths.specs.PathsWrites.{stored, encoded, Accepts, after_reads, Wrote, Cut, Unwrites}

stored_append : (xs ys : List Write) (m : Image) → stored (xs ++ ys) m ≡ stored ys (stored xs m)
stored_append [] ys m = refl
stored_append (x ∷ xs) ys m = stored_append xs ys (written m x.page (encoded x.says))

accepts_append : (xs ys : List Write) (m : Image) → Accepts xs m → Accepts ys (stored xs m) → Accepts (xs ++ ys) m
accepts_append [] ys m a b = b
accepts_append (x ∷ xs) ys m a b = (a.0, a.1, a.2, accepts_append xs ys (written m x.page (encoded x.says)) a.3 b)

pub wrote_none : (m m' : Image) → m' ≡ m → Wrote [] m m'
wrote_none m m' e = record { accepts = tt; image = e }

pub wrote_more : (xs ys : List Write) (m m₁ m₂ : Image) → Wrote xs m m₁ → Wrote ys m₁ m₂ → Wrote (xs ++ ys) m m₂
wrote_more xs ys m m₁ m₂ w v = record {
  accepts = accepts_append xs ys m w.accepts (subst (Accepts ys) w.image v.accepts);
  image = v.image ∙ ap (stored ys) w.image ∙ sym (stored_append xs ys m);
}

cut_more : (xs ys : List Write) (m m₁ m₂ : Image) (x : Access) → Wrote xs m m₁ → Cut ys m₁ x m₂ → Cut (xs ++ ys) m x m₂
cut_more xs ys m m₁ m₂ x w c = record {
  done = xs ++ c.done;
  next = c.next;
  rest = c.rest;
  writes = ap (λ (z : List Write). xs ++ z) c.writes ∙ sym (append_assoc xs c.done (c.next ∷ c.rest));
  page = c.page;
  level = c.level;
  began = wrote_more xs c.done m m₁ m₂ w c.began;
  refused = c.refused;
}

cut_less : (xs ys : List Write) (m m₂ : Image) (x : Access) → Cut xs m x m₂ → Cut (xs ++ ys) m x m₂
cut_less xs ys m m₂ x c = record {
  done = c.done;
  next = c.next;
  rest = c.rest ++ ys;
  writes = ap (λ (z : List Write). z ++ ys) c.writes ∙ append_assoc c.done (c.next ∷ c.rest) ys;
  page = c.page;
  level = c.level;
  began = c.began;
  refused = c.refused;
}

-- some were written, and then the next ones break off
pub unwrites_more : (xs ys : List Write) (m m₁ m₂ : Image) (f : Fault) → Wrote xs m m₁ → Unwrites ys m₁ f m₂ → Unwrites (xs ++ ys) m f m₂
unwrites_more xs ys m m₁ m₂ f w u = record { access = u.access; told = u.told; cut = cut_more xs ys m m₁ m₂ u.access w u.cut }

-- the first ones break off, so others that would follow are not written
pub unwrites_less : (xs ys : List Write) (m m₂ : Image) (f : Fault) → Unwrites xs m f m₂ → Unwrites (xs ++ ys) m f m₂
unwrites_less xs ys m m₂ f u = record { access = u.access; told = u.told; cut = cut_less xs ys m m₂ u.access u.cut }

pub after_none : (m : Image) → m ≡ after_reads m 0
after_none m = let e : m.charge ≡ m.charge - 0 = omega arith in λ i. record { pages = m.pages; charge = e i }

pub after_more : (m : Image) (d : ℕ) → after_reads (spent m) d ≡ after_reads m (suc d)
after_more m d = let e : m.charge - 1 - d ≡ m.charge - suc d = omega arith in λ i. record { pages = m.pages; charge = e i }

-- each write costs one
pub accepts_charge : (ws : List Write) (m : Image) → Accepts ws m → length ws ≤ m.charge
accepts_charge [] m a = omega arith
accepts_charge (w ∷ ws) m a = omega (arith, a.1, accepts_charge ws (written m w.page (encoded w.says)) a.3)

pub stored_charge : (ws : List Write) (m : Image) → (stored ws m).charge ≡ m.charge - length ws
stored_charge [] m = omega arith
stored_charge (w ∷ ws) m = omega (arith, stored_charge ws (written m w.page (encoded w.says)))
