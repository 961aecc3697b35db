-- What is said of the text that describes a quarter of an hour.
use Rattle.std.specs.Prelude.{ℕ, List, ◌++◌, length, drop, replicate, ℤ, pos, IfSome, Some, None, Ok, Err, Option, Result}
use Rattle.refusal.specs.declared.layer.Layer.TheVariants.{Run}
use Rattle.refusal.specs.declared.reason.Reason.{Reason}
use Rattle.refusal.specs.declared.refused.Refusal.{Refusal}
use Rattle.refusal.specs.Numbers.{naming_nobody}
use Rattle.refusal.specs.Text.{refusal_text}
use Rattle.pricing.specs.declared.derivation.Derivation.{Derivation}
use Rattle.pricing.specs.Prices.{derivation_of, price_in}
use Rattle.sharing.specs.Proportional.{proportional}
use Rattle.sharing.specs.Verdict.{most_members}
use Rattle.sheet.specs.declared.line.SheetLine.{SheetLine}
use Rattle.sheet.specs.Balance.{AddsUp}
use Rattle.sheet.specs.Lines.{sheet_of}
use Rattle.sheet.specs.Verdict.{sheet_verdict}
use Rattle.description.specs.declared.draft.Quarter.{Quarter}
use Rattle.description.specs.declared.group.Group.{Group}
use Rattle.description.specs.declared.problem.Problem.{Problem}
use Rattle.description.specs.Figures.{quarter_described}
use Rattle.description.specs.Group.{listed}
use Rattle.description.specs.Texts.{problem_text}
use Rattle.explanation.specs.declared.failure.Failure.{Failure}
use Rattle.explanation.specs.declared.failure.Failure.TheVariants.{Unreadable, Refused}
use Rattle.explanation.specs.declared.group.GroupSheet.{GroupSheet}
use Rattle.explanation.specs.declared.report.Report.{Report}
use Rattle.explanation.specs.Words.{drawn_lines}

-- ---- the group

-- lines, and blank ones up to the room for the largest group
abbrev pub blank : SheetLine
blank = record { imbalance_kwh = pos 0; netted_kwh = pos 0; outside_kwh = pos 0; money = pos 0 }

abbrev pub padded : List SheetLine → List SheetLine
padded lines = lines ++ drop (length lines) (replicate most_members blank)

-- what the group nets in proportion, drawn as a sheet
abbrev pub drawn : Group → ℤ → GroupSheet
drawn group price = record {
  internal_price = group.internal_price;
  lines = padded (sheet_of proportional group.internal_price price (listed group.members));
  members = length (listed group.members);
}

abbrev pub drawn_if : Result (Unit {0}) Refusal → GroupSheet → Result GroupSheet Refusal
drawn_if (Ok accepted) sheet = Ok sheet
drawn_if (Err refusal) sheet = Err refusal

abbrev pub group_sheet : Group → ℤ → Result GroupSheet Refusal
group_sheet group price =
    drawn_if (sheet_verdict group.internal_price price (listed group.members) (length (listed group.members))) (drawn group price)

abbrev pub present : Result GroupSheet Refusal → Result (Option GroupSheet) Refusal
present (Ok sheet) = Ok (Some sheet)
present (Err refusal) = Err refusal

-- no group, no sheet
abbrev pub sheet_if_any : Option Group → ℤ → Result (Option GroupSheet) Refusal
sheet_if_any None price = Ok None
sheet_if_any (Some group) price = present (group_sheet group price)

-- ---- the whole

abbrev pub with_sheet : Derivation → Result (Option GroupSheet) Refusal → Result Report Failure
with_sheet derivation (Ok sheet) = Ok (record { derivation = derivation; sheet = sheet })
with_sheet derivation (Err refusal) = Err (Refused refusal)

-- a price is refused by the reason alone; it concerns nobody in the group
abbrev pub with_price : Option Group → Result Derivation Reason → Result Report Failure
with_price group (Ok derivation) = with_sheet derivation (sheet_if_any group (price_in derivation))
with_price group (Err reason) = Err (Refused (naming_nobody reason Run))

abbrev pub as_read : Result Quarter Problem → Result Report Failure
as_read (Ok quarter) = with_price quarter.group (derivation_of quarter.figures)
as_read (Err problem) = Err (Unreadable problem)

abbrev pub explanation_of : List ℕ → Result Report Failure
explanation_of text = as_read (quarter_described text)

-- ---- what holds of every sheet that is reported

-- inside the group it comes to nothing, and outside to the operator's bill at this price
abbrev pub SheetAddsUp : ℤ → GroupSheet → Type 0
SheetAddsUp price sheet = AddsUp price (drawn_lines sheet)

abbrev pub ReportAddsUp : Report → Type 0
ReportAddsUp report = IfSome report.sheet (SheetAddsUp (price_in report.derivation))

-- ---- what is told of a failure

-- as in 'line 3: unknown keyword' and 'refused 10: no base for a price (run)'
abbrev pub failure_text : Failure → List ℕ
failure_text (Unreadable problem) = problem_text problem
failure_text (Refused refusal) = refusal_text refusal
