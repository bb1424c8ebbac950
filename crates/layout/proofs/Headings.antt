-- A proper header is read back from its bytes.
use Rattle.std.proofs.Common.{◌≡◌, ℕ, List, ◌∷◌, ◌++◌, replicate, sym, refl, ap, ◌∙◌, subst}
use Rattle.layout.specs.declared.header.Header.{Header}
use Rattle.layout.specs.Bytes.{little, number_at}
use Rattle.layout.specs.Heads.{header_bytes, header_of, Proper}
use Rattle.layout.proofs.Numbers.{number_there}

pub header_back : (h : Header) → Proper h → header_of (header_bytes h) ≡ h
header_back h p =
    let r : number_at 2 (header_bytes h) 8 ≡ h.root = number_there 1 h.root 8 (header_bytes h) (0 ∷ 0 ∷ (little 4 h.total ++ replicate 112 0)) refl p.root_high in
    let t : number_at 4 (header_bytes h) 12 ≡ h.total = number_there 3 h.total 12 (header_bytes h) (replicate 112 0) refl p.total_high in
    rw (r, t)

-- a page that is a proper header's encoding passes both tests
pub passes : (bs again : List ℕ) (h g : Header) → h ≡ header_of bs → again ≡ header_bytes h → Proper g → bs ≡ header_bytes g → Proper h × (again ≡ bs)
passes bs again h g e a p q =
    let s : h ≡ g = e ∙ ap header_of q ∙ header_back g p in
    (subst Proper (sym s) p, a ∙ ap header_bytes s ∙ sym q)
