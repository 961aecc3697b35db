-- What is read keeps the laws, since the bytes are bytes.
use Rattle.std.proofs.Common.{◌≡◌, ◌+◌, Ok, Err, Result, arith}
use Rattle.std.proofs.lemmas.Grind.{common_steps}
use Rattle.refusal.specs.declared.refused.Refusal.{Refusal}
use Rattle.posting.specs.declared.reader.Record.{Record}
use Rattle.posting.specs.Reading.{record_in}
use Rattle.posting.proofs.Lawful.{lawful}
use Rattle.posting.proofs.reader.read_record.Goals as goal

pub returns-in_default-posting_of-clause-lawful : goal.returns-in_default-posting_of-clause-lawful
returns-in_default-posting_of-clause-lawful c =
    let is : ◌≡◌ {A = Result Record Refusal} (record_in c.args.bytes.now) (Err c.naming_nobody-in_default-posting_of.result) = grind (arith, common_steps) in
    lawful c.args.bytes.now (λ i. (c.type_inv.bytes i).fits) _ is

pub returns-clause-lawful : goal.returns-clause-lawful
returns-clause-lawful c =
    let is : ◌≡◌ {A = Result Record Refusal} (record_in c.args.bytes.now) (Ok (record { posting = c.in-Some-posting_of.posting; size = 2 + c.from-length.result })) = grind (arith, common_steps) in
    lawful c.args.bytes.now (λ i. (c.type_inv.bytes i).fits) _ is
