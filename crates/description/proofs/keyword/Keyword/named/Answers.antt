-- A word that matches is the keyword's name.
use Rattle.std.proofs.Common.{codes, sym, ap, arith, rules}
use Rattle.std.proofs.lemmas.Slice.Eq.{text_from_reads}
use Rattle.description.specs.Entries.{keyword_of}
use Rattle.description.proofs.keyword.Keyword.named.Goals as goal

pub returns-in-117 : goal.returns-in-117
returns-in-117 c = sym (ap keyword_of (text_from_reads c.args.word.now (codes "up-bid") (omega arith) (search rules)))

pub returns-in-100 : goal.returns-in-100
returns-in-100 c = sym (ap keyword_of (text_from_reads c.args.word.now (codes "down-bid") (omega arith) (search rules)))

pub returns-in-internal : goal.returns-in-internal
returns-in-internal c = sym (ap keyword_of (text_from_reads c.args.word.now (codes "internal") (omega arith) (search rules)))

pub returns-in-producer : goal.returns-in-producer
returns-in-producer c = sym (ap keyword_of (text_from_reads c.args.word.now (codes "producer") (omega arith) (search rules)))

pub returns-in-consumer : goal.returns-in-consumer
returns-in-consumer c = sym (ap keyword_of (text_from_reads c.args.word.now (codes "consumer") (omega arith) (search rules)))

pub returns-in-imbalance : goal.returns-in-imbalance
returns-in-imbalance c = sym (ap keyword_of (text_from_reads c.args.word.now (codes "imbalance") (omega arith) (search rules)))
