-- What is written reads back, since its fields fit.
use Rattle.std.proofs.Common.{rules}
use Rattle.posting.proofs.Writing.{reads_back}
use Rattle.posting.proofs.writer.write_record.Goals as goal

pub returns-clause-reads_back : goal.returns-clause-reads_back
returns-clause-reads_back c =
    reads_back c.args.posting.now c.args.out.now c.write_framed.new.out c.write_framed.result c.put.ensures.fits (search rules) (search rules)
