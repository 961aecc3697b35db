-- One step along the chain, and its end.
use Rattle.std.proofs.Common.{◌≡◌, ◌+◌, ◌<◌, false, true, None, sym, ap, ◌∙◌, arith}
use Rattle.std.proofs.lemmas.Bool.{cond-true}
use Rattle.keyed.specs.Contents.{fits_list}
use Rattle.keyed.specs.Memory.{chained, is_of, older_at, place_of}
use Rattle.keyed.proofs.Chains.{chained_here, chained_on}
use Rattle.keyed.proofs.Fields.{field}
use Rattle.keyed.proofs.Lookups.{key_at}
use Rattle.keyed.proofs.list.KeyedList.search.Goals as goal

pub loop-memory-preserved : goal.loop-memory-preserved
loop-memory-preserved g c =
    let es = c.args.self.now.memory.now in
    let test = is_of es g.K.Key.same c.args.key.now in
    let place = c.loop-memory.place in
    let within = c.loop-memory.invariant.0 in
    let other : test place ≡ false =
    sym (key_at g.K.Key.same g.K.Key.spread es c.args.self.now.used c.args.key.now place _ within) ∙ sym c.loop-memory-test.ensures in
    let older : c.from-older.result ≡ older_at es place = c.from-older.ensures ∙ field (λ e. e.older) es place _ 0 within in
    let lower : older_at es place < place = omega (arith, older) in (
      omega (arith, within),
      ap (λ n. chained test (older_at es) (n + 1) n) older ∙ chained_on test (older_at es) place other lower ∙ c.loop-memory.invariant.1,
    )

pub returns-clause-is : goal.returns-clause-is
returns-clause-is g c =
    let es = c.args.self.now.memory.now in
    let test = is_of es g.K.Key.same c.args.key.now in
    let place = c.loop-memory.place in
    let here : test place ≡ true =
    sym (key_at g.K.Key.same g.K.Key.spread es c.args.self.now.used c.args.key.now place _ c.loop-memory.invariant.0) ∙ sym c.loop-memory-test.ensures in
    chained_here test (older_at es) place here
    ∙ c.loop-memory.invariant.1
    ∙ sym (cond-true _ (place_of es g.K.Key.same g.K.Key.spread c.args.self.now.used c.args.key.now) None (ap fits_list (sym c.entries.ensures) ∙ sym c.if-not-fits.ensures))
