-- What a tree page says, without its bytes, and the rules that one page can show by itself.
use Rattle.std.specs.Prelude.{◌≡◌, ℕ, suc, ◌<◌, ◌≤◌, Bool, true, List, [], ◌∷◌, length}
use Rattle.layout.specs.declared.entry.Entry.{Entry}

-- level 1 is a leaf, a higher one an inner page; `number` is the page's own number;
-- `clean` says that the unused bytes and the named zeros are zero
pub record Content : Type 0 where
  pub level : ℕ
  pub number : ℕ
  pub clean : Bool
  pub entries : List Entry

-- what a page that we write says
abbrev pub page : ℕ → ℕ → List Entry → Content
page level number es = record { level = level; number = number; clean = true; entries = es }

-- B: own number and level are right
abbrev pub Own : ℕ → ℕ → Content → Type 0
Own number level c = (c.number ≡ number) × (c.level ≡ level)

-- C: there are 1 to 10 entries; unused bytes and the named zeros are zero
abbrev pub Sized : List Entry → Type 0
Sized es = (1 ≤ length es) × (length es ≤ 10)

abbrev pub Filled : Content → Type 0
Filled c = Sized c.entries × (c.clean ≡ true)

-- D: a leaf's keys rise strictly inside the region from `start` to `end`, and counts are at least 1
abbrev pub LeafKeys : ℕ → ℕ → List Entry → Type 0
LeafKeys start end [] = Unit {0}
LeafKeys start end (e ∷ es) = (start ≤ e.key) × (e.key ≤ end) × (1 ≤ e.value) × LeafKeys (suc e.key) end es

-- E: an inner page's keys but the last rise strictly, at or above the region's start and below its end; the last is 0
abbrev pub InnerKeys : ℕ → ℕ → List Entry → Type 0
InnerKeys start end [] = ⊥
InnerKeys start end (e ∷ []) = e.key ≡ 0
InnerKeys start end (e ∷ (f ∷ es)) = (start ≤ e.key) × (e.key < end) × InnerKeys (suc e.key) end (f ∷ es)
