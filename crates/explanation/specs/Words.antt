-- The report on a quarter of an hour. Of its price: the side that the system is on, each candidate, the one that decided.
-- Of its group: what each member nets, is left with and is paid.
use Rattle.std.specs.Prelude.{ℕ, ◌+◌, min, List, [], ◌∷◌, ◌++◌, take, ℤ, Some, None, codes, decimal, Option}
use Rattle.std.specs.Fmt.{signed_decimal}
use Rattle.rounding.specs.Nearest.{rounded}
use Rattle.pricing.specs.declared.fraction.Fraction.{Fraction}
use Rattle.pricing.specs.declared.derivation.Side.{Side}
use Rattle.pricing.specs.declared.derivation.Side.TheVariants.{Surplus, Shortage}
use Rattle.pricing.specs.declared.derivation.Origin.{Origin}
use Rattle.pricing.specs.declared.derivation.Origin.TheVariants.{Mean, Bid}
use Rattle.pricing.specs.declared.derivation.Base.{Base}
use Rattle.pricing.specs.declared.derivation.Stage.{Stage}
use Rattle.pricing.specs.declared.derivation.Stage.TheVariants.{First, Second, Third}
use Rattle.pricing.specs.declared.derivation.Derivation.{Derivation}
use Rattle.pricing.specs.declared.derivation.Derivation.TheVariants.{Balanced, Decided}
use Rattle.sharing.specs.Verdict.{most_members}
use Rattle.sheet.specs.declared.line.SheetLine.{SheetLine}
use Rattle.sheet.specs.declared.line.Totals.{Totals}
use Rattle.sheet.specs.Sums.{totals_of, widened}
use Rattle.explanation.specs.declared.group.GroupSheet.{GroupSheet}
use Rattle.explanation.specs.declared.report.Report.{Report}

-- what is not there has no text
abbrev pub if_any : {X : Type 0} → (X → List ℕ) → Option X → List ℕ
if_any text None = []
if_any text (Some x) = text x

-- the same of a text that may not be known
abbrev pub text_if_any : {X : Type 0} → (X → Option (List ℕ)) → Option X → Option (List ℕ)
text_if_any text None = Some []
text_if_any text (Some x) = text x

-- exactly, and to the nearest whole stotinka, as in '27000/4, rounded 6750'
abbrev pub rounding_text : ℤ → List ℕ
rounding_text whole = codes ", rounded " ++ signed_decimal whole

abbrev pub rounded_text : Option ℤ → List ℕ
rounded_text rounded = if_any rounding_text rounded

abbrev pub fraction_text : Fraction → List ℕ
fraction_text p =
    signed_decimal p.numerator ++ (codes "/" ++ (decimal p.denominator ++ rounded_text (rounded p.numerator p.denominator)))

abbrev pub side_line : Side → ℕ → List ℕ
side_line Surplus kwh = codes "The system has a surplus of " ++ (decimal kwh ++ codes " kWh: the price is the least candidate.\n")
side_line Shortage kwh = codes "The system has a shortage of " ++ (decimal kwh ++ codes " kWh: the price is the greatest candidate.\n")

abbrev pub origin_words : Side → Origin → List ℕ
origin_words Surplus Mean = codes "the mean price of the downward activations"
origin_words Surplus Bid = codes "the downward bid"
origin_words Shortage Mean = codes "the mean price of the upward activations"
origin_words Shortage Bid = codes "the upward bid"

abbrev pub base_line : Side → Base → List ℕ
base_line side base =
    codes "Base, " ++ (origin_words side base.origin ++ (codes ": " ++ (fraction_text base.value ++ codes "\n")))

abbrev pub index_line : Side → Fraction → List ℕ
index_line Surplus p = codes "Index less its margin: " ++ (fraction_text p ++ codes "\n")
index_line Shortage p = codes "Index plus its margin: " ++ (fraction_text p ++ codes "\n")

abbrev pub scaling_text : Fraction → List ℕ
scaling_text p = codes "Base scaled by the imbalance: " ++ (fraction_text p ++ codes "\n")

-- a candidate that did not apply has no line
abbrev pub scaled_line : Option Fraction → List ℕ
scaled_line scaled = if_any scaling_text scaled

abbrev pub stage_words : Stage → List ℕ
stage_words First = codes "the base"
stage_words Second = codes "the index"
stage_words Third = codes "the scaled base"

abbrev pub stage_line : Stage → List ℕ
stage_line stage = codes "Decided by " ++ (stage_words stage ++ codes ".\n")

abbrev pub price_line : ℤ → List ℕ
price_line price = codes "Price: " ++ (signed_decimal price ++ codes " stotinki per MWh\n")

-- ---- the price

abbrev pub derivation_text : Derivation → List ℕ
derivation_text (Balanced price) = codes "The system is in balance: the price is the index.\n" ++ price_line price
derivation_text (Decided side kwh c stage price) =
    side_line side kwh ++ (base_line side c.base ++ (index_line side c.index ++ (scaled_line c.scaled
    ++ (stage_line stage ++ price_line price))))

-- ---- the group

abbrev pub amounts : Totals → List ℕ
amounts t =
    codes ": imbalance " ++ (signed_decimal t.imbalance_kwh ++ (codes ", netted " ++ (signed_decimal t.netted_kwh
    ++ (codes ", outside " ++ (signed_decimal t.outside_kwh ++ (codes ", money " ++ (signed_decimal t.money ++ codes "\n")))))))

abbrev pub member_line : ℕ → SheetLine → List ℕ
member_line i l = codes "Member " ++ (decimal i ++ amounts (widened l))

-- of members that are numbered from i on
abbrev pub member_lines : ℕ → List SheetLine → List ℕ
member_lines i [] = []
member_lines i (l ∷ more) = member_line i l ++ member_lines (i + 1) more

abbrev pub total_line : Totals → List ℕ
total_line t = codes "Total" ++ amounts t

abbrev pub internal_line : ℤ → List ℕ
internal_line price =
    codes "Netted in proportion, at an internal price of " ++ (signed_decimal price
    ++ codes " stotinki per MWh. Energy in kWh, money in thousandths of a stotinka.\n")

abbrev pub drawn_lines : GroupSheet → List SheetLine
drawn_lines sheet = take (min sheet.members most_members) sheet.lines

abbrev pub sheet_text : GroupSheet → List ℕ
sheet_text sheet =
    internal_line sheet.internal_price ++ (member_lines 0 (drawn_lines sheet) ++ total_line (totals_of (drawn_lines sheet)))

abbrev pub sheet_text_if_any : Option GroupSheet → List ℕ
sheet_text_if_any sheet = if_any sheet_text sheet

-- ---- the whole

abbrev pub report_text : Report → List ℕ
report_text report = derivation_text report.derivation ++ sheet_text_if_any report.sheet
