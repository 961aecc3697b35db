-- Netting in proportion is netting by weight.
use Rattle.std.proofs.Common.{◌≡◌, ℕ, ◌≤◌, List, ℤ, Ok, sum}
use Rattle.sharing.specs.Netting.{nettable}
use Rattle.sharing.specs.Proportional.{shares_in_proportion, proportional, ByWeight}
use Rattle.sharing.specs.Rests.{energies, energy_of_set}
use Rattle.sharing.specs.Verdict.{verdict}
use Rattle.sharing.specs.Ways.{Modest}
use Rattle.sharing.proofs.Netted.{netting_nets, netting_nets_all}
use Rattle.sharing.specs.Kept.Proportions.{proportion_shared_out}
use Rattle.sharing.proofs.Proportions.{shares_near}

pub proportional_by_weight : (s : ℕ) (xs : List ℤ) → verdict xs ≡ Ok tt → ByWeight s xs (proportional s xs)
proportional_by_weight s xs ok =
    let shared_out = λ (n : ℕ) (ys : List ℕ) (m : Modest ys) (h : n ≤ sum ys). proportion_shared_out n ys h in
    record {
      near_share = λ d i h. rw (netting_nets shares_in_proportion shared_out s xs ok d) (shares_near (nettable s xs) (energy_of_set d s xs) 0 (energies d s xs) h i);
      nets_all = netting_nets_all shares_in_proportion shared_out s xs ok;
    }
