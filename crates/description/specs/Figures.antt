-- The quarter of an hour that a text describes.
use Rattle.std.specs.Prelude.{ℕ, ◌+◌, cond, List, [], ◌∷◌, ◌++◌, length, pos, Some, None, Ok, Err, Option, Result, nat_lt, slice_index_or}
use Rattle.std.specs.Option.{ok_or}
use Rattle.pricing.specs.declared.figures.Activation.{Activation}
use Rattle.pricing.specs.declared.figures.Activations.{Activations}
use Rattle.pricing.specs.declared.figures.SystemFigures.{SystemFigures}
use Rattle.description.specs.declared.draft.Draft.{Draft}
use Rattle.description.specs.declared.draft.Direction.{Direction}
use Rattle.description.specs.declared.draft.Quarter.{Quarter}
use Rattle.description.specs.declared.entry.Entry.{Entry}
use Rattle.description.specs.declared.entry.Entry.TheVariants.{ImbalanceKwh, IndexPrice, Downward, Upward, OfGroup}
use Rattle.description.specs.declared.entry.DirectionEntry.{DirectionEntry}
use Rattle.description.specs.declared.entry.DirectionEntry.TheVariants.{Bid, Activated}
use Rattle.description.specs.declared.problem.Fault.{Fault}
use Rattle.description.specs.declared.problem.Fault.TheVariants.{Repeated}
use Rattle.description.specs.declared.problem.Problem.{Problem}
use Rattle.description.specs.declared.problem.Problem.TheVariants.{Line, NoImbalance, NoIndex}
use Rattle.description.specs.Words.{lines_of}
use Rattle.description.specs.Entries.{and_then, entry_of}
use Rattle.description.specs.Group.{given_once, no_group, group_after, group_from}

-- activations in one direction, which may be given three times
abbrev pub one_more : List Activation → Activation → Result (List Activation) Fault
one_more given next = cond (nat_lt (length given) 3) (Ok (given ++ (next ∷ []))) (Err Repeated)

-- what is known of a direction after an entry for it
abbrev pub direction_after : Direction → DirectionEntry → Result Direction Fault
direction_after known (Bid price) = and_then (given_once known.bid price) (λ bid. Ok (record { bid = bid; reserves = known.reserves }))
direction_after known (Activated next) =
    and_then (one_more known.reserves.items next) (λ given. Ok (record { bid = known.bid; reserves = record { items = given } }))

-- what is known after an entry
abbrev pub draft_after : Draft → Entry → Result Draft Fault
draft_after draft (ImbalanceKwh number) =
    and_then (given_once draft.imbalance_kwh number)
    (λ kwh. Ok (record { imbalance_kwh = kwh; index = draft.index; downward = draft.downward; upward = draft.upward; group = draft.group }))
draft_after draft (IndexPrice number) =
    and_then (given_once draft.index number)
    (λ price. Ok (record { imbalance_kwh = draft.imbalance_kwh; index = price; downward = draft.downward; upward = draft.upward; group = draft.group }))
draft_after draft (Downward entry) =
    and_then (direction_after draft.downward entry)
    (λ known. Ok (record { imbalance_kwh = draft.imbalance_kwh; index = draft.index; downward = known; upward = draft.upward; group = draft.group }))
draft_after draft (Upward entry) =
    and_then (direction_after draft.upward entry)
    (λ known. Ok (record { imbalance_kwh = draft.imbalance_kwh; index = draft.index; downward = draft.downward; upward = known; group = draft.group }))
draft_after draft (OfGroup entry) =
    and_then (group_after draft.group entry)
    (λ known. Ok (record { imbalance_kwh = draft.imbalance_kwh; index = draft.index; downward = draft.downward; upward = draft.upward; group = known }))

-- what is known after a line: an ignored one adds nothing
abbrev pub draft_with : Draft → Option Entry → Result Draft Fault
draft_with draft None = Ok draft
draft_with draft (Some entry) = draft_after draft entry

abbrev pub draft_after_line : Draft → List ℕ → Result Draft Fault
draft_after_line draft line = and_then (entry_of line) (λ entry. draft_with draft entry)

-- before the first line nothing is known
abbrev pub nothing_given : Direction
nothing_given = record { bid = None; reserves = record { items = [] } }

abbrev pub nothing_known : Draft
nothing_known = record { imbalance_kwh = None; index = None; downward = nothing_given; upward = nothing_given; group = no_group }

-- the activations of a direction: the first given is automatic, the second manual, the third of the replacement reserve.
-- One that is not given is 0 kWh at price 0
abbrev pub not_activated : Activation
not_activated = record { kwh = 0; price = pos 0 }

abbrev pub given_at : List Activation → ℕ → Activation
given_at given number = slice_index_or given number not_activated

abbrev pub activations_of : List Activation → Activations
activations_of given = record { automatic = given_at given 0; manual = given_at given 1; replacement = given_at given 2 }

-- the figures, once there are no more lines
abbrev pub figures_from : Draft → Result SystemFigures Problem
figures_from draft =
    and_then (ok_or draft.imbalance_kwh NoImbalance) (λ kwh.
    and_then (ok_or draft.index NoIndex) (λ index.
    Ok (record {
      imbalance_kwh = kwh;
      downward = activations_of draft.downward.reserves.items;
      upward = activations_of draft.upward.reserves.items;
      downward_bid = draft.downward.bid;
      upward_bid = draft.upward.bid;
      index = index;
    })))

abbrev pub quarter_from : Draft → Result Quarter Problem
quarter_from draft =
    and_then (figures_from draft) (λ figures.
    and_then (group_from draft.group) (λ group.
    Ok (record { figures = figures; group = group })))

-- a fault, with the number of its line
abbrev pub at_line : ℕ → Result Draft Fault → Result Draft Problem
at_line number (Ok draft) = Ok draft
at_line number (Err fault) = Err (Line number fault)

-- what lines describe, of which the first has this number, after what is known before them
abbrev pub quarter_after : ℕ → Draft → List (List ℕ) → Result Quarter Problem
quarter_after number draft [] = quarter_from draft
quarter_after number draft (line ∷ more) = and_then (at_line number (draft_after_line draft line)) (λ next. quarter_after (number + 1) next more)

-- what a text describes
abbrev pub quarter_described : List ℕ → Result Quarter Problem
quarter_described text = quarter_after 1 nothing_known (lines_of text)
