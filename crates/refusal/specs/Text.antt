-- How a refusal is told to a person.
use Rattle.std.specs.Prelude.{ℕ, List, [], ◌++◌, Some, None, codes, decimal, Option}
use Rattle.std.specs.Option.{option_map}
use Rattle.refusal.specs.declared.layer.Layer.{Layer}
use Rattle.refusal.specs.declared.layer.Layer.TheVariants.{File, Run, Rule, Ceiling, Seal, Book, Directory}
use Rattle.refusal.specs.declared.reason.Reason.{Reason}
use Rattle.refusal.specs.declared.reason.Reason.TheVariants.{WrongLength, LedgerOutOfRange, BookTooSmall, OutsideLimits, NoSuchMember, NoSuchPeriod, PeriodSettled, PeriodNotSettled, FigureOutOfRange, NoBase, NoPrice, EnergyMissing, NoSuchLine, Sealed, AboveCeiling, Full, UnknownVersion, CutShort, BadRecord, OutputTooShort}
use Rattle.refusal.specs.declared.refused.Refusal.{Refusal}
use Rattle.refusal.specs.Numbers.{number_of}

abbrev pub layer_name : Layer → List ℕ
layer_name File = codes "file"
layer_name Run = codes "run"
layer_name Rule = codes "rule"
layer_name Ceiling = codes "ceiling"
layer_name Seal = codes "seal"
layer_name Book = codes "book"
layer_name Directory = codes "directory"

abbrev pub reason_words : Reason → List ℕ
reason_words WrongLength = codes "memory of the wrong length"
reason_words LedgerOutOfRange = codes "ledger out of range"
reason_words BookTooSmall = codes "book too small"
reason_words OutsideLimits = codes "opening or book figures outside the limits"
reason_words NoSuchMember = codes "no such member"
reason_words NoSuchPeriod = codes "no such period"
reason_words PeriodSettled = codes "period settled"
reason_words PeriodNotSettled = codes "period not settled"
reason_words FigureOutOfRange = codes "a figure out of range"
reason_words NoBase = codes "no base for a price"
reason_words NoPrice = codes "no price yet"
reason_words EnergyMissing = codes "an energy missing"
reason_words NoSuchLine = codes "no such line"
reason_words Sealed = codes "sealed"
reason_words AboveCeiling = codes "above the ceiling"
reason_words Full = codes "full"
reason_words UnknownVersion = codes "version absent or unknown"
reason_words CutShort = codes "cut short"
reason_words BadRecord = codes "bad record"
reason_words OutputTooShort = codes "output too short"

-- what a refusal tells of a member, a period or a place, by what it is and the text of its number
abbrev pub told_of : List ℕ → List ℕ → List ℕ
told_of what number = codes ", " ++ (what ++ (codes " " ++ number))

-- nothing is told where there is none
abbrev pub told : List ℕ → Option ℕ → List ℕ
told what None = []
told what (Some number) = told_of what (decimal number)

-- the same of a number of any type, by how its text is written
abbrev pub told_if_any : {N : Type 0} → (N → Option (List ℕ)) → List ℕ → Option N → Option (List ℕ)
told_if_any written what None = Some []
told_if_any written what (Some number) = option_map (told_of what) (written number)

-- as in 'refused 12: an energy missing (run, member 3, period 17)'
abbrev pub refusal_text : Refusal → List ℕ
refusal_text r =
    codes "refused " ++ (decimal (number_of r.reason) ++ (codes ": " ++ (reason_words r.reason
    ++ (codes " (" ++ (layer_name r.layer ++ (told (codes "member") r.concern.member ++ (told (codes "period") r.concern.period
    ++ (told (codes "byte") r.place ++ codes ")"))))))))
