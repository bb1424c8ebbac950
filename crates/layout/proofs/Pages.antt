-- A page that is written entry by entry.
use Rattle.std.proofs.Common.{◌≡◌, ℕ, ◌+◌, ◌-◌, ◌*◌, ◌<◌, List, [], ◌∷◌, ◌++◌, length, get_or, take, drop, replicate, refl, append_assoc, arith, length-append}
use borrow.Rule.Slice.PartMut.{put_mid}
use Rattle.std.specs.List.{flat_map}
use Rattle.std.proofs.lemmas.List.{take_at, drop_at, drop-replicate, flat_map_more, length_push, length-take-le, take_more}
use Rattle.layout.specs.declared.entry.Entry.{Entry}
use Rattle.layout.specs.Bytes.{entry_bytes, front_bytes, begun_bytes}

pub length_joined : (es : List Entry) → length (flat_map entry_bytes es) ≡ 12 * length es
length_joined [] = refl
length_joined (e ∷ es) = simp length-append (omega (arith, length_joined es))

-- a part that is lent and comes back as y
lent : (H J R y J' R' : List ℕ) (a k : ℕ) → length (H ++ J) ≡ a → drop k R ≡ R' → J ++ y ≡ J' → put_mid a k ((H ++ J) ++ R) y ≡ H ++ (J' ++ R')
lent H J R y J' R' a k la r j =
    rw (take_at (H ++ J) R a la, drop_at (H ++ J) R a la, r, ← j) (simp append_assoc)

-- what one loan of twelve bytes does to the page
begun_more : (level n number : ℕ) (es : List Entry) (e : Entry) (a k : ℕ) → a ≡ 8 + 12 * length es → k ≡ 12
    → put_mid a k (begun_bytes level n number es) (entry_bytes e) ≡ begun_bytes level n number (es ++ e ∷ [])
begun_more level n number es e a k p q =
    let la : length (front_bytes level n number ++ flat_map entry_bytes es) ≡ a = simp length-append (omega (arith, length_joined es)) in
    let z : 120 - 12 * length es - k ≡ 120 - 12 * length (es ++ e ∷ []) = omega (arith, length_push es e) in
    let r : drop k (replicate (120 - 12 * length es) 0) ≡ replicate (120 - 12 * length (es ++ e ∷ [])) 0 = rw (drop-replicate, z) in
    lent (front_bytes level n number) (flat_map entry_bytes es) (replicate (120 - 12 * length es) 0) (entry_bytes e) (flat_map entry_bytes (es ++ e ∷ [])) (replicate (120 - 12 * length (es ++ e ∷ [])) 0) a k la
    r (flat_map_more entry_bytes [] es e)

-- one turn of the loop
pub write_more : (level n number : ℕ) (es : List Entry) (page part : List ℕ) (i a k : ℕ) (d : Entry) → i < length es → a ≡ 8 + 12 * i → k ≡ 12
    → page ≡ begun_bytes level n number (take i es) → part ≡ entry_bytes (get_or es i d) → put_mid a k page part ≡ begun_bytes level n number (take (i + 1) es)
write_more level n number es page part i a k d h pa pk p q =
    let l = length-take-le i es (omega arith) in
    rw (p, q) (rw (take_more es i d h) (begun_more level n number (take i es) (get_or es i d) a k (omega (arith, l)) pk))
