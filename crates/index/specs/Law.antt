-- The law over whole runs. An index is made, shut, over factory-blank memory with any charge; any of the eight calls are carried out, in any order and with any
-- arguments, each on what the last one left; then a box is searched from address 0. It holds for every order and every store.
use Rattle.std.specs.Prelude.{◌≡◌, ℕ, suc, ◌+◌, ◌<◌, ◌≤◌, List, [], ◌∷◌, ◌++◌, map, length, filter}
use Rattle.std.specs.List.{ContainsAt as Has, AllByRecursion}
use Rattle.pages.specs.Image.{Image, Blank, at, granted}
use Rattle.layout.specs.Heads.{header_bytes}
use Rattle.orders.specs.Orders.{Order, Lawful, InSpaceOf, Meets}
use Rattle.orders.specs.Spaces.{Within}
use Rattle.tree.specs.Tree.{Node, Held}
use Rattle.tree.specs.Tree.Held.{none, held}
use Rattle.tree.specs.CopyLaws.{SoundOf, events_of}
use Rattle.tree.specs.SearchSteps.{Region, regions}
use Rattle.tree.specs.SearchRuns.{Ending}
use Rattle.tree.specs.SearchRuns.Ending.{done, cut}
use Rattle.faults.specs.Accesses.{contents}
use Rattle.searches.specs.declared.find.Find.{Find}
use Rattle.searches.specs.Inside.{inside}
use Rattle.searches.specs.Finds.{find_of}
use Rattle.index.specs.Model.{Answer, State, state, limit}
use Rattle.index.specs.Model.Call.{searches}
use Rattle.index.specs.Model.Answer.{found}
use Rattle.index.specs.Keeping.{Filed, header_for, top}
use Rattle.index.specs.Steps.{Step}
use Rattle.index.specs.Histories.{History, Led, held as holds_after}

-- 1. What stands under page 1, by the layout

-- page 1 is the header of a tree, and the tree's pages say it, level by level
pub record UnderPage1 (o : Order) (m : Image) (f : Filed) : Type 0 where
  pub header : at m 1 ≡ header_bytes (header_for o f)
  pub tree : SoundOf (contents m) (limit m) f.height f.total (top o) f.tree

-- the events in its leaves that lie in the box from lo to hi, as finds: address, point and count
abbrev pub in_leaves : Order → List ℕ → List ℕ → Filed → List Find
in_leaves o lo hi f = map (find_of o) (filter (λ e. inside o lo hi e.key) (events_of f.tree))

-- its pages, each with its region
abbrev pub regions_of : Order → Held Node → List Region
regions_of o none = []
regions_of o (held n) = regions n 0 (top o)

-- n of the regions have the property P
pub data NumberOf (P : Region → Type 0) : List Region → ℕ → Type 0 where
  nothing : NumberOf P [] 0
  one_more : {r : Region} {rs : List Region} {n : ℕ} → P r → NumberOf P rs n → NumberOf P (r ∷ rs) (suc n)
  passed : {r : Region} {rs : List Region} {n : ℕ} → (P r → ⊥) → NumberOf P rs n → NumberOf P (r ∷ rs) n

-- 2. What the history says

-- A find is right after the history h: its point is one of the box, the address is that point's, and the count is what the point holds, its accepted
-- lodgings less its accepted withdrawals since the last accepted format, which is above 0.
pub record Right (o : Order) (h : History) (lo hi : List ℕ) (x : Find) : Type 0 where
  pub in_space : InSpaceOf o x.point.coords
  pub in_box : Within lo hi x.point.coords
  pub address : x.address ≡ o.address x.point.coords
  pub count : x.count ≡ holds_after h x.point.coords
  pub some : 0 < x.count

-- by strictly rising address, so each at most once
abbrev pub Rising : List Find → Type 0
Rising [] = Unit {0}
Rising (x ∷ xs) = AllByRecursion (λ y. x.address < y.address) xs × Rising xs

-- exactly the points of the box that hold events
pub record Exactly (o : Order) (h : History) (lo hi : List ℕ) (finds : List Find) : Type 0 where
  pub rising : Rising finds
  pub right : AllByRecursion (Right o h lo hi) finds
  pub every : (x : List ℕ) → InSpaceOf o x → Within lo hi x → 0 < holds_after h x → (y : Find) × Has finds y × (y.point.coords ≡ x)

-- What a search of the box has to find, and how many pages it has to read: the tree pages whose region holds the address of a point in the box.
pub record Due (o : Order) (h : History) (s : State) (lo hi : List ℕ) (finds : List Find) (pages : ℕ) : Type 0 where
  pub file : Filed
  pub under : UnderPage1 o s.image file
  pub leaves : finds ≡ in_leaves o lo hi file
  pub exact : Exactly o h lo hi finds
  pub meet : NumberOf (λ r. Meets o lo hi r.lo r.hi) (regions_of o file.tree) pages

-- 3. The same search with another charge and other room

-- the same index over the same pages, with another charge
abbrev pub with_charge : State → ℕ → State
with_charge s charge = state (granted s.image charge) s.known

-- the same search, from an address on, with this charge and room for so many finds: it is answered so, and not otherwise
pub record Answered (o : Order) (s : State) (lo hi : List ℕ) (start charge room : ℕ) (a : Answer) : Type 0 where
  pub so : (u : State) × Step o (with_charge s charge) a u (searches lo hi start room)
  pub only : (b : Answer) (u : State) → Step o (with_charge s charge) b u (searches lo hi start room) → b ≡ a

-- It is cut, with a beginning of the finds; resumed at the address that the cut named, with the charge for all pages and room enough, it finds exactly the rest.
pub record CutAndResumed (o : Order) (s : State) (lo hi : List ℕ) (finds : List Find) (pages charge room : ℕ) : Type 0 where
  pub first : List Find
  pub rest : List Find
  pub page : ℕ
  pub address : ℕ
  pub beginning : finds ≡ first ++ rest
  pub is_cut : Answered o s lo hi 0 charge room (found first charge (cut page address))
  pub resumed : (charge' room' : ℕ) → pages ≤ charge' → length rest ≤ room' → (reads : ℕ) × Answered o s lo hi address charge' room' (found rest reads done)

-- 4. The law

-- a search that ended done
pub record EndedDone (o : Order) (s u : State) (lo hi : List ℕ) (finds : List Find) (pages : ℕ) (got : List Find) (reads : ℕ) : Type 0 where
  -- a: it found just what is due
  pub all_found : got ≡ finds
  -- b: its reads and the fall in charge are each the number of pages that meet the box; with that charge and room for these finds the same search ends done
  pub those_read : reads ≡ pages
  pub fall : s.image.charge ≡ u.image.charge + pages
  pub again : (charge room : ℕ) → pages ≤ charge → length finds ≤ room → Answered o s lo hi 0 charge room (found finds pages done)
  -- c: with any smaller charge and as much room it is cut with a beginning, and resumed it finds the rest
  pub less : (charge room : ℕ) → charge < pages → length finds ≤ room → CutAndResumed o s lo hi finds pages charge room

-- The history h led to the state s; there the box was searched from address 0 with room for so many finds, was accepted, and was answered `found got reads ending`; u is
-- the state after it.
pub record Law (o : Order) (h : History) (s u : State) (lo hi : List ℕ) (room : ℕ) (got : List Find) (reads : ℕ) (ending : Ending) : Type 0 where
  pub finds : List Find
  pub pages : ℕ
  pub due : Due o h s lo hi finds pages
  -- the reads made are the charge before less the charge after
  pub spent : s.image.charge ≡ u.image.charge + reads
  pub when_done : ending ≡ done → EndedDone o s u lo hi finds pages got reads
  -- with a charge of at least that number, and room for these finds, it did not end cut or more
  pub enough : pages ≤ s.image.charge → length finds ≤ room → ending ≡ done

-- On the contract of a search from the address start, with the answer a: for every history over factory-blank memory that led there
abbrev pub RunLaw : Order → State → Answer → State → List ℕ → List ℕ → ℕ → ℕ → Type 0
RunLaw o s a u lo hi start room = (memory : Image) → Blank memory → (h : History) → Led o memory h s → start ≡ 0 →
    (got : List Find) (reads : ℕ) (ending : Ending) → a ≡ found got reads ending → Law o h s u lo hi room got reads ending

-- and of every search in every history
abbrev pub SearchLaw : Type 0
SearchLaw = (o : Order) → Lawful o → (s u : State) (a : Answer) (lo hi : List ℕ) (start room : ℕ) → Step o s a u (searches lo hi start room) → RunLaw o s a u lo hi start room
