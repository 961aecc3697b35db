-- Of a run, settling and then reopening a period leaves the ledger as it was.
use Rattle.std.proofs.Common.{ℕ, subst}
use Rattle.energy.specs.Meaning.{Meaning, Lawful}
use Rattle.ledger.specs.Answers.{Answer}
use Rattle.ledger.specs.Calls.{Reopens}
use Rattle.ledger.specs.Energies.{Sharing, LawfulRule}
use Rattle.ledger.specs.Judgement.{Held}
use Rattle.ledger.proofs.Undoing.{reopening_accepted, reopening_gives_back}
use Rattle.posting.specs.declared.posting.Opening.{Opening}
use Rattle.settlement.specs.Promises.{Undoes}
use Rattle.settlement.specs.Runs.{settled}
use Rattle.settlement.proofs.Adding.{run_stands}
use Rattle.settlement.proofs.Ranges.{sound}

pub undoes : (o : Opening) (rule : Sharing) → LawfulRule rule → (m : Meaning) → Lawful m → (p : ℕ) (r : Answer) (between after : Held) → Reopens o rule m p r between after → Undoes o rule m p r between after
undoes o rule law m lawful p r between after second t L run first =
    let long = (run_stands o rule run).a_mark_each in
    let passes = (sound o rule law lawful (settled p run first)).in_range in
    let accepted = reopening_accepted o rule m p L between long first r after passes.lengths passes.range passes.figures second in
    record {
      accepted = accepted;
      back = reopening_gives_back o rule m p L between long first after (subst (λ q. Reopens o rule m p q between after) accepted second);
    }
