-- What a book says of the members in a period, and what comes of it under a sharing rule.
use Rattle.std.specs.Prelude.{◌≡◌, ℕ, zero, suc, ◌+◌, ◌*◌, cond, ◌&&◌, List, map, ℤ, pos, ◌-ℤ◌, is_some, Ok, Option, Result, slice_index_or}
use Rattle.std.specs.List.{range_with_len}
use Rattle.std.specs.Option.{unwrap_or}
use Rattle.refusal.specs.declared.reason.Reason.TheVariants.{EnergyMissing}
use Rattle.refusal.specs.declared.refused.Refusal.{Refusal}
use Rattle.charging.specs.declared.imbalance.Position.{Position}
use Rattle.charging.specs.declared.imbalance.Role.{Role}
use Rattle.charging.specs.declared.imbalance.Role.TheVariants.{Producer, Consumer}
use Rattle.charging.specs.Charge.{charge}
use Rattle.posting.specs.declared.posting.Opening.{Opening}
use Rattle.sharing.specs.Law.{Lawful}
use Rattle.sharing.specs.Rests.{in_set}
use Rattle.sharing.specs.Verdict.{verdict}
use Rattle.sheet.specs.Lines.{everybody, imbalance_of, imbalances_of}
use Rattle.ledger.specs.declared.entries.Account.{Account}
use Rattle.refusal.specs.Numbers.{concern}
use Rattle.ledger.specs.Answers.{Answer, refused, unless, ◌then◌}

-- the kWh of a line in a period, if any
abbrev pub Energies : Type 0
Energies = ℕ → ℕ → Option ℕ

-- where a book has what was scheduled for a member, and what was read of his meter
abbrev pub schedule_line : ℕ → ℕ
schedule_line i = 2 * i

abbrev pub reading_line : ℕ → ℕ
reading_line i = 2 * i + 1

-- ---- which energies are there

abbrev pub known : Energies → ℕ → ℕ → Answer
known E p i = unless (is_some (E (schedule_line i) p) && is_some (E (reading_line i) p)) (refused (concern i p) EnergyMissing)

-- of members 0 to n - 1: the lowest who lacks an energy is named
abbrev pub all_known : ℕ → Energies → ℕ → Answer
all_known zero E p = Ok tt
all_known (suc n) E p = all_known n E p then known E p n

-- ---- imbalances and rests

abbrev pub role_of : ℕ → ℕ → Role
role_of consumers i = cond (in_set consumers i) Consumer Producer

-- an energy that is absent counts for 0
abbrev pub position_of : Opening → Energies → ℕ → ℕ → Position
position_of o E p i = record {
  role = role_of o.consumers i;
  schedule_kwh = unwrap_or (E (schedule_line i) p) 0;
  reading_kwh = unwrap_or (E (reading_line i) p) 0;
}

-- the position of a member whose two energies have to be there
abbrev pub position_answer : Opening → Energies → ℕ → ℕ → Result Position Refusal
position_answer o E p i = known E p i then Ok (position_of o E p i)

abbrev pub positions_of : Opening → Energies → ℕ → List Position
positions_of o E p = map (position_of o E p) (range_with_len 0 o.members)

-- x: the imbalance of member i in period p
abbrev pub x_of : Opening → Energies → ℕ → ℕ → ℤ
x_of o E p i = imbalance_of (position_of o E p i)

-- what a rule makes of a set and a list of rests
abbrev pub Sharing : Type 0
Sharing = ℕ → List ℤ → List ℤ

-- what every sharing rule owes
abbrev pub LawfulRule : Sharing → Type 0
LawfulRule rule = (s : ℕ) (xs : List ℤ) → verdict xs ≡ Ok tt → Lawful s xs (rule s xs)

-- y: what the rule, with everybody in the set, leaves of it
abbrev pub y_of : Opening → Sharing → Energies → ℕ → ℕ → ℤ
y_of o rule E p i = slice_index_or (rule everybody (imbalances_of (positions_of o E p))) i (pos 0)

-- what a period at this price brings member i: x - y inside, y outside, and the money for both
abbrev pub gain : Opening → Sharing → Energies → ℕ → ℤ → ℕ → Account
gain o rule E p price i = record {
  inside_kwh = x_of o E p i -ℤ y_of o rule E p i;
  outside_kwh = y_of o rule E p i;
  money = charge o.internal_price price (x_of o E p i -ℤ y_of o rule E p i) (y_of o rule E p i);
}
