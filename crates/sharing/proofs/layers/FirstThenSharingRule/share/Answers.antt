-- What the first rule leaves is accepted by the second, which works on it.
use Rattle.std.proofs.Common.{◌≡◌, Ok, ◌∙◌, rules}
use Rattle.sharing.specs.Verdict.{verdict, outcome}
use Rattle.sharing.specs.Kept.Keeping.{lawful_accepted}
use Rattle.sharing.proofs.Keeping.{then_after, then_answer}
use Rattle.sharing.proofs.layers.FirstThenSharingRule.share.Goals as goal

pub returns : goal.returns
returns g c =
    let xs = c.args.rests.now in
    let s = c.args.set in
    let rule = c.args.self.now in
    let f = g.F.SharingRule.meaning rule.first s in
    let h = g.S.SharingRule.meaning rule.second s in
    let first : c.share.new.rests ≡ outcome f xs = search rules in
    let second : c.share-2.new.rests ≡ outcome h c.share.new.rests = search rules in
    let ok : verdict xs ≡ Ok tt = search rules in
    let ok' = lawful_accepted s xs (f xs) (g.met.F.SharingRule.lawful rule.first s xs ok) ok in
    record {
      answer = c.share-2.ensures.answer ∙ then_answer f h xs _ _ first second ok ok';
      after = then_after f h xs _ _ first second ok ok';
    }
