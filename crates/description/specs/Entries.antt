-- What a line enters.
use Rattle.std.specs.Prelude.{ℕ, Bool, true, cond, List, [], ◌∷◌, length, ℤ, Some, None, Ok, Err, codes, Option, Result, ◌==◌}
use Rattle.std.specs.Option.{ok_or}
use Rattle.std.specs.Str.{bytes_eq}
use Rattle.charging.specs.declared.imbalance.Position.{Position}
use Rattle.charging.specs.declared.imbalance.Role.{Role}
use Rattle.charging.specs.declared.imbalance.Role.TheVariants as roles
use Rattle.pricing.specs.declared.figures.Activation.{Activation}
use Rattle.description.specs.declared.entry.Entry.{Entry}
use Rattle.description.specs.declared.entry.Entry.TheVariants.{ImbalanceKwh, IndexPrice, Downward, Upward, OfGroup}
use Rattle.description.specs.declared.entry.GroupEntry.TheVariants.{InternalPrice, Member}
use Rattle.description.specs.declared.entry.DirectionEntry.TheVariants.{Bid, Activated}
use Rattle.description.specs.declared.keyword.Keyword.{Keyword}
use Rattle.description.specs.declared.keyword.Keyword.TheVariants.{Imbalance, Index, DownBid, UpBid, Down, Up, Internal, Producer, Consumer}
use Rattle.description.specs.declared.problem.Fault.{Fault}
use Rattle.description.specs.declared.problem.Fault.TheVariants.{UnknownKeyword, NumberMissing, NotNumber, NotEnergy, TooMuch}
use Rattle.description.specs.Words.{first_word, after_word}
use Rattle.description.specs.Numbers.{unsigned_number, signed_number}

-- one answer after another: the first fault is the whole's
abbrev pub and_then : {X Y E : Type 0} → Result X E → (X → Result Y E) → Result Y E
and_then (Ok x) next = next x
and_then (Err e) next = Err e

-- what is known after an entry, or its fault
abbrev pub left : {X E : Type 0} → Result (Unit {0}) E → X → Result X E
left (Ok done) known = Ok known
left (Err e) known = Err e

abbrev pub is_empty : List ℕ → Bool
is_empty bytes = length bytes == 0

-- the keyword that a word is; `codes` are the bytes of a text, and `bytes_eq` says whether two lists are the same
abbrev pub keyword_of : List ℕ → Option Keyword
keyword_of word =
    cond (bytes_eq word (codes "imbalance")) (Some Imbalance)
    (cond (bytes_eq word (codes "index")) (Some Index)
    (cond (bytes_eq word (codes "down-bid")) (Some DownBid)
    (cond (bytes_eq word (codes "up-bid")) (Some UpBid)
    (cond (bytes_eq word (codes "down")) (Some Down)
    (cond (bytes_eq word (codes "up")) (Some Up)
    (cond (bytes_eq word (codes "internal")) (Some Internal)
    (cond (bytes_eq word (codes "producer")) (Some Producer)
    (cond (bytes_eq word (codes "consumer")) (Some Consumer)
    None))))))))

-- the number that was read of a word: an empty word is a missing one, and of any other this is the fault
abbrev pub expected : {N : Type 0} → List ℕ → Option N → Fault → Result N Fault
expected word number fault = cond (is_empty word) (Err NumberMissing) (ok_or number fault)

-- the signed number and the energy that a word should be
abbrev pub number_in : List ℕ → Result ℤ Fault
number_in word = expected word (signed_number word) NotNumber

abbrev pub energy_in : List ℕ → Result ℕ Fault
energy_in word = expected word (unsigned_number word) NotEnergy

-- x, where no word is left
abbrev pub at_end : {X : Type 0} → List ℕ → X → Result X Fault
at_end rest x = cond (is_empty (first_word rest)) (Ok x) (Err TooMuch)

-- one number, and no more
abbrev pub lone_number : List ℕ → Result ℤ Fault
lone_number rest = and_then (number_in (first_word rest)) (λ number. at_end (after_word rest) number)

-- an energy and its price, and no more
abbrev pub activation_in : List ℕ → Result Activation Fault
activation_in rest =
    and_then (energy_in (first_word rest)) (λ kwh.
    and_then (number_in (first_word (after_word rest))) (λ price.
    at_end (after_word (after_word rest)) (record { kwh = kwh; price = price })))

-- a member's schedule and his reading, and no more
abbrev pub position_in : Role → List ℕ → Result Position Fault
position_in role rest =
    and_then (energy_in (first_word rest)) (λ schedule.
    and_then (energy_in (first_word (after_word rest))) (λ reading.
    at_end (after_word (after_word rest)) (record { role = role; schedule_kwh = schedule; reading_kwh = reading })))

-- what a keyword enters, from the words that follow it
abbrev pub entry_for : Keyword → List ℕ → Result Entry Fault
entry_for Imbalance rest = and_then (lone_number rest) (λ kwh. Ok (ImbalanceKwh kwh))
entry_for Index rest = and_then (lone_number rest) (λ price. Ok (IndexPrice price))
entry_for DownBid rest = and_then (lone_number rest) (λ price. Ok (Downward (Bid price)))
entry_for UpBid rest = and_then (lone_number rest) (λ price. Ok (Upward (Bid price)))
entry_for Down rest = and_then (activation_in rest) (λ activation. Ok (Downward (Activated activation)))
entry_for Up rest = and_then (activation_in rest) (λ activation. Ok (Upward (Activated activation)))
entry_for Internal rest = and_then (lone_number rest) (λ price. Ok (OfGroup (InternalPrice price)))
entry_for Producer rest = and_then (position_in roles.Producer rest) (λ position. Ok (OfGroup (Member position)))
entry_for Consumer rest = and_then (position_in roles.Consumer rest) (λ position. Ok (OfGroup (Member position)))

-- a line is ignored if it has no word, or if its first begins with `#`, byte 35
abbrev pub is_ignored : List ℕ → Bool
is_ignored [] = true
is_ignored (byte ∷ more) = byte == 35

-- what a line enters, if it is not ignored
abbrev pub entry_of : List ℕ → Result (Option Entry) Fault
entry_of line =
    cond (is_ignored (first_word line)) (Ok None)
    (and_then (ok_or (keyword_of (first_word line)) UnknownKeyword) (λ keyword.
    and_then (entry_for keyword (after_word line)) (λ entry. Ok (Some entry))))
