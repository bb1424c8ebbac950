-- What is printed of an answer.
use Rattle.std.specs.Prelude.{ℕ, ◌+◌, List, [], ◌∷◌, ◌++◌, take, codes, Option, Some, None}
use Rattle.std.specs.Fmt.{decimal}
use Rattle.std.specs.List.{flat_map}
use Rattle.hex.specs.Hex.{encode_lower}
use Rattle.orders.specs.declared.point.Point.{Point}
use Rattle.orders.specs.Refusals.{number_of as number_of_refusal, words as refusal_text}
use Rattle.layout.specs.Rules.{letter}
use Rattle.pages.specs.Text.{fault_text, making_text}
use Rattle.pages.specs.Making.{refusal as number_of_making}
use Rattle.faults.specs.declared.fault.Access.{Access}
use Rattle.faults.specs.declared.fault.Fault.{Fault}
use Rattle.faults.specs.declared.fault.Fault.TheVariants.{Shut, Outside, Work, Absent, Unread, NoHeader, OtherOrder, Unsound, NoEvent, CountFull, HeightFull, Room, Unwritten}
use Rattle.faults.specs.Refusals.{number_of, words}
use Rattle.searches.specs.declared.find.Ending.{Ending}
use Rattle.searches.specs.declared.find.Ending.TheVariants.{Done, More, Cut}
use Rattle.searches.specs.declared.find.Find.{Find}
use Rattle.searches.specs.declared.find.Found.{Found as FoundRecord}
use Rattle.script.specs.Reasons.{reason_text}
use Rattle.script.specs.declared.question.Answer.{Answer as OrderAnswer}
use Rattle.script.specs.declared.question.Answer.TheVariants.{Address, At}
use Rattle.answers.specs.declared.answer.Answer.{Answer}
use Rattle.answers.specs.declared.answer.Answer.TheVariants.{Ok, Count, Found, Asked, Page, Denied, Impossible, Unmade, Refused, Unclear}

-- texts one after another
abbrev pub joined : List (List ℕ) → List ℕ
joined [] = []
joined (a ∷ []) = a
joined (a ∷ b ∷ rest) = a ++ joined (b ∷ rest)

-- ---- a point

-- a number behind a comma
abbrev pub after_comma : ℕ → List ℕ
after_comma c = codes ", " ++ decimal c

-- numbers with commas between them
abbrev pub with_commas : List ℕ → List ℕ
with_commas [] = []
with_commas (c ∷ rest) = decimal c ++ flat_map after_comma rest

-- the first n coordinates of a point, as (C0, C1, ..)
abbrev pub point_text : ℕ → Point → List ℕ
point_text n x = joined (codes "(" ∷ with_commas (take n x.coords) ∷ codes ")" ∷ [])

-- ---- a search

abbrev pub ending_text : Ending → List ℕ
ending_text Done = codes "done"
ending_text (More a) = codes "more at " ++ decimal a
ending_text (Cut p a) = joined (codes "cut at " ∷ decimal a ∷ codes " page " ∷ decimal p ∷ [])

-- how a search ended, how many pages it read and how many finds it made
abbrev pub found_text : FoundRecord → List ℕ
found_text r = joined (ending_text r.ending ∷ codes ", " ∷ decimal r.reads ∷ codes " reads, " ∷ decimal r.count ∷ codes " finds" ∷ [])

-- a find on a line of its own, four spaces in: address, point and count
abbrev pub find_text : ℕ → Find → List ℕ
find_text n x = joined (codes "\n    " ∷ decimal x.address ∷ codes " " ∷ point_text n x.point ∷ codes " x" ∷ decimal x.count ∷ [])

-- ---- a refusal

-- the values that go with it: page, level and the store's own fault, or page and rule
abbrev pub access_text : Access → List ℕ
access_text a = joined (codes " page " ∷ decimal a.at.page ∷ codes " level " ∷ decimal a.at.level ∷ codes " " ∷ fault_text a.fault ∷ [])

abbrev pub values_text : Fault → List ℕ
values_text Shut = []
values_text Outside = []
values_text Work = []
values_text (Absent a) = access_text a
values_text (Unread a) = access_text a
values_text NoHeader = []
values_text OtherOrder = []
values_text (Unsound p r) = joined (codes " page " ∷ decimal p ∷ codes " rule " ∷ ((64 + letter r) ∷ []) ∷ [])
values_text NoEvent = []
values_text CountFull = []
values_text HeightFull = []
values_text Room = []
values_text (Unwritten a) = access_text a

-- its number, its values, and why
abbrev pub refused_text : ℕ → List ℕ → List ℕ → List ℕ
refused_text number values why = joined (codes "refused " ∷ decimal number ∷ values ∷ codes ": " ∷ why ∷ [])

-- ---- an answer

-- what an order is asked, in a space of n coordinates
abbrev pub asked_text : ℕ → Option OrderAnswer → List ℕ
asked_text n None = codes "none"
asked_text n (Some (Address a)) = decimal a
asked_text n (Some (At x)) = point_text n x

abbrev pub text_of : Answer → List ℕ
text_of Ok = codes "ok"
text_of (Count k) = codes "count " ++ decimal k
text_of (Found r finds n) = found_text r ++ flat_map (find_text n) finds.items
text_of (Asked a n) = asked_text n a
text_of (Page bytes) = encode_lower bytes
text_of (Denied f) = fault_text f
text_of (Impossible r) = refused_text (number_of_refusal r) [] (refusal_text r)
text_of (Unmade f) = refused_text (number_of_making f) [] (making_text f)
text_of (Refused f) = refused_text (number_of f) (values_text f) (words f)
text_of (Unclear r) = codes "not understood: " ++ reason_text r
