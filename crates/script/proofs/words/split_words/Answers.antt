use Rattle.std.proofs.Common.{length, nat_lt, lit<, rules}
use Rattle.std.proofs.lemmas.Iterator.Consumers.{map_from_collect, YieldsList-from_filter}
use Rattle.std.proofs.lemmas.Iterator.Splits.{YieldsList-from_str_split}
use borrow.Author.Tests.{tests}
use Rattle.script.proofs.words.split_words.Goals as goal

pub returns-clause-words : goal.returns-clause-words
returns-clause-words c =
    map_from_collect _ c.collect.ensures.ran
    (YieldsList-from_filter _ (λ piece. nat_lt 0 (length piece)) (YieldsList-from_str_split 32 c.args.line.now (lit< tt) (cc) (cc) (cc)) c.filter.ensures.closure
    (λ x b q k. search (rules, tests)))
