use Rattle.std.proofs.Common.{rules}
use Rattle.std.proofs.iter.runs.Made.{chains}
use native.Mathlib.Nat.{div-eq_of_lt}
use Rattle.std.proofs.lemmas.List.{get_or_past}
use Rattle.std.proofs.lemmas.Bool.{cases_lt}
use Rattle.orders.proofs.space.Space.contains.Goals as goal

pub returns : goal.returns
returns c = search (rules, chains, div-eq_of_lt, get_or_past, cases_lt)
