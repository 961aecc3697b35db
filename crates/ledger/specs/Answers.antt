-- What a call of the run answers, and whom its refusals name.
use Rattle.std.specs.Prelude.{Bool, true, false, Ok, Err, Result}
use Rattle.std.specs.Result.{result_and}
use Rattle.refusal.specs.declared.concern.Concern.{Concern}
use Rattle.refusal.specs.declared.layer.Layer.TheVariants.{Run}
use Rattle.refusal.specs.declared.reason.Reason.{Reason}
use Rattle.refusal.specs.declared.refused.Refusal.{Refusal}
use Rattle.refusal.specs.Numbers.{refused as refused_by}

abbrev pub Answer : Type 0
Answer = Result Unit Refusal

-- the answer of a call that hands something out where it accepts
abbrev pub answered : {X : Type 0} → Result X Refusal → Answer
answered (Ok x) = Ok tt
answered (Err e) = Err e

-- the run refuses a call, and names whom the call concerns
abbrev pub refused : Concern → Reason → Refusal
refused who why = refused_by who why Run

-- a test that a call has to pass
abbrev pub unless : Bool → Refusal → Answer
unless true e = Ok tt
unless false e = Err e

-- one test after another: the first that fails gives the answer
infixr 10 ◌then◌
abbrev pub ◌then◌ : {X Y : Type 0} → Result X Refusal → Result Y Refusal → Result Y Refusal
first then second = result_and first second
