-- The pages that lie in a row of bytes.
use Rattle.std.specs.Prelude.{◌≡◌, ℕ, zero, suc, ◌-◌, ◌*◌, ◌/◌, min, List, [], ◌∷◌, ◌++◌, length, take, drop, Ok, Err, Result}
use Rattle.pages.specs.declared.fault.StoreFault.{StoreFault}
use Rattle.pages.specs.Image.{Image}

-- the first n pages of a row
unfoldable pub cut : ℕ → List ℕ → List (List ℕ)
cut zero bytes = []
cut (suc n) bytes = take 128 bytes ∷ cut n (drop 128 bytes)

-- how many pages a row of that length has: the whole ones, 65,535 at most
abbrev pub number : ℕ → ℕ
number len = min (len / 128) 65535

-- what a store over a row of bytes means
abbrev pub held : List ℕ → ℕ → Image
held bytes charge = record { pages = cut (number (length bytes)) bytes; charge = charge }

-- a row with the bytes of its page p replaced and every other byte as it was, also those past the last page
abbrev pub overwritten : List ℕ → ℕ → List ℕ → List ℕ
overwritten bytes p page = take ((p - 1) * 128) bytes ++ (page ++ drop 128 (drop ((p - 1) * 128) bytes))

-- what a write to the page p that was answered with r leaves of a row
abbrev pub Overwrites : List ℕ → ℕ → List ℕ → Result (Unit {0}) StoreFault → List ℕ → Type 0
Overwrites bytes p page (Ok _) bytes' = bytes' ≡ overwritten bytes p page
Overwrites bytes p page (Err _) bytes' = bytes' ≡ bytes
