-- What is told of a refusal: its number and the values that go with it, case by case.
use Rattle.std.specs.Prelude.{ℕ, List, [], ◌∷◌, codes}
use Rattle.pages.specs.declared.fault.StoreFault.{StoreFault}
use Rattle.pages.specs.declared.fault.StoreFault.TheVariants.{Absent as is_absent, Uncharged as is_uncharged}
use Rattle.layout.specs.declared.visit.Rule.TheVariants.{A, B, C, D, E, F}
pub use Rattle.layout.specs.Rules.{letter}
use Rattle.faults.specs.declared.fault.Access.{Access}
use Rattle.faults.specs.declared.fault.Fault.{Fault}
use Rattle.faults.specs.declared.fault.Fault.TheVariants.{Shut, Outside, Work, Absent, Unread, NoHeader, OtherOrder, Unsound, NoEvent, CountFull, HeightFull, Room, Unwritten}

abbrev pub number_of : Fault → ℕ
number_of Shut = 5
number_of Outside = 6
number_of Work = 7
number_of (Absent a) = 8
number_of (Unread a) = 9
number_of NoHeader = 10
number_of OtherOrder = 11
number_of (Unsound p r) = 12
number_of NoEvent = 13
number_of CountFull = 14
number_of HeightFull = 15
number_of Room = 16
number_of (Unwritten a) = 17

-- a store's fault as a number: 1 absent, 2 uncharged; a rule's is its letter's, from 1 to 6
abbrev pub fault_number : StoreFault → ℕ
fault_number is_absent = 1
fault_number is_uncharged = 2

-- page, level and the store's own fault
abbrev pub access_values : Access → List ℕ
access_values a = a.at.page ∷ a.at.level ∷ fault_number a.fault ∷ []

abbrev pub values_of : Fault → List ℕ
values_of Shut = []
values_of Outside = []
values_of Work = []
values_of (Absent a) = access_values a
values_of (Unread a) = access_values a
values_of NoHeader = []
values_of OtherOrder = []
values_of (Unsound p r) = p ∷ letter r ∷ []
values_of NoEvent = []
values_of CountFull = []
values_of HeightFull = []
values_of Room = []
values_of (Unwritten a) = access_values a

-- what is told of it in plain words
abbrev pub words : Fault → List ℕ
words Shut = codes "the index is shut"
words Outside = codes "the point lies outside the space"
words Work = codes "an opening needs 64 work records"
words (Absent a) = codes "the store has no such page"
words (Unread a) = codes "the charge does not carry the read"
words NoHeader = codes "page 1 is no header"
words OtherOrder = codes "the header is of another order"
words (Unsound p A) = codes "a page number is no usable page, or is reached twice"
words (Unsound p B) = codes "a page does not say its own number or level"
words (Unsound p C) = codes "a page has not 1 to 10 entries, or bytes that should be zero are not"
words (Unsound p D) = codes "a leaf's keys do not rise inside its region, or a count is 0"
words (Unsound p E) = codes "an inner page's keys do not rise inside its region, or the last is not 0"
words (Unsound p F) = codes "the counts do not sum to the total, or fewer than 6 pages are free"
words NoEvent = codes "the point has no event"
words CountFull = codes "the count is at its greatest"
words HeightFull = codes "the tree would rise above 6 levels"
words Room = codes "too few free pages"
words (Unwritten a) = codes "the charge does not carry the write"

-- a read or a write that the store refused, as a fault: absent pages are 8, want of charge is 9 at a read and 17 at a write
abbrev pub by_fault : StoreFault → Fault → Fault → Fault
by_fault is_absent x y = x
by_fault is_uncharged x y = y

abbrev pub unread : Access → Fault
unread a = by_fault a.fault (Absent a) (Unread a)

abbrev pub unwritten : Access → Fault
unwritten a = by_fault a.fault (Absent a) (Unwritten a)
