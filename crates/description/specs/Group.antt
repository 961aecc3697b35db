-- The group that a description may list.
use Rattle.std.specs.Prelude.{◌+◌, min, cond, List, take, replicate, ℤ, Some, None, Ok, Err, Option, Result, ◌==◌, nat_lt, slice_set}
use Rattle.std.specs.Option.{ok_or}
use Rattle.charging.specs.declared.imbalance.Position.{Position}
use Rattle.charging.specs.declared.imbalance.Role.TheVariants.{Producer}
use Rattle.sharing.specs.Verdict.{most_members}
use Rattle.description.specs.declared.entry.GroupEntry.{GroupEntry}
use Rattle.description.specs.declared.entry.GroupEntry.TheVariants.{InternalPrice, Member}
use Rattle.description.specs.declared.group.Group.{Group}
use Rattle.description.specs.declared.group.GroupDraft.{GroupDraft}
use Rattle.description.specs.declared.group.Members.{Members}
use Rattle.description.specs.declared.problem.Fault.{Fault}
use Rattle.description.specs.declared.problem.Fault.TheVariants.{Repeated}
use Rattle.description.specs.declared.problem.Problem.{Problem}
use Rattle.description.specs.declared.problem.Problem.TheVariants.{NoInternalPrice}
use Rattle.description.specs.Entries.{and_then}

-- a number that may be given once
abbrev pub given_once : Option ℤ → ℤ → Result (Option ℤ) Fault
given_once None number = Ok (Some number)
given_once (Some before) number = Err Repeated

-- room for the members of the largest group, filled in the order in which they come
abbrev pub nobody : Position
nobody = record { role = Producer; schedule_kwh = 0; reading_kwh = 0 }

abbrev pub no_members : Members
no_members = record { positions = replicate most_members nobody; count = 0 }

abbrev pub one_member_more : Members → Position → Result Members Fault
one_member_more members next =
    cond (nat_lt members.count most_members)
    (Ok (record { positions = slice_set members.positions members.count next; count = members.count + 1 }))
    (Err Repeated)

-- the members, by their numbers
abbrev pub listed : Members → List Position
listed members = take (min members.count most_members) members.positions

-- what is known of the group before the first line, and after an entry for it
abbrev pub no_group : GroupDraft
no_group = record { internal_price = None; members = no_members }

abbrev pub group_after : GroupDraft → GroupEntry → Result GroupDraft Fault
group_after known (InternalPrice price) =
    and_then (given_once known.internal_price price) (λ given. Ok (record { internal_price = given; members = known.members }))
group_after known (Member next) =
    and_then (one_member_more known.members next) (λ members. Ok (record { internal_price = known.internal_price; members = members }))

-- the group, once there are no more lines: none where no member is listed, and else its internal price has to be known
abbrev pub group_from : GroupDraft → Result (Option Group) Problem
group_from known =
    cond (known.members.count == 0) (Ok None)
    (and_then (ok_or known.internal_price NoInternalPrice) (λ price.
    Ok (Some (record { internal_price = price; members = known.members }))))
