-- The texts of what can be wrong with a description.
use Rattle.std.specs.Prelude.{ℕ, List, ◌++◌, codes, decimal}
use Rattle.description.specs.declared.problem.Fault.{Fault}
use Rattle.description.specs.declared.problem.Fault.TheVariants.{UnknownKeyword, NumberMissing, NotNumber, NotEnergy, TooMuch, Repeated}
use Rattle.description.specs.declared.problem.Problem.{Problem}
use Rattle.description.specs.declared.problem.Problem.TheVariants.{Line, NoImbalance, NoIndex, NoInternalPrice}

abbrev pub fault_text : Fault → List ℕ
fault_text UnknownKeyword = codes "unknown keyword"
fault_text NumberMissing = codes "a number is missing"
fault_text NotNumber = codes "not a whole number of at most nine digits"
fault_text NotEnergy = codes "not an energy: at most nine digits and no sign"
fault_text TooMuch = codes "more than the keyword takes"
fault_text Repeated = codes "given once too often"

abbrev pub problem_text : Problem → List ℕ
problem_text (Line number fault) = codes "line " ++ (decimal number ++ (codes ": " ++ fault_text fault))
problem_text NoImbalance = codes "no imbalance line"
problem_text NoIndex = codes "no index line"
problem_text NoInternalPrice = codes "no internal price line"
