-- Lists of postings to a book, and what the book holds after them.
use Rattle.std.specs.Prelude.{◌≡◌, ℕ, Bool, false, cond, ◌&&◌, List, [], ◌∷◌, ◌++◌, is_ok, Some, Result, ◌==◌}
use Rattle.std.specs.List.{AllByRecursion}
use Rattle.refusal.specs.declared.refused.Refusal.{Refusal}
use Rattle.energy.specs.declared.bookings.Booking.{Booking}
use Rattle.energy.specs.Meaning.{Meaning, book_verdict, book_outcome}

abbrev pub verdict_on : Meaning → Booking → Result (Unit {0}) Refusal
verdict_on m b = book_verdict m b.line b.period b.kwh

abbrev pub after_one : Meaning → Booking → Meaning
after_one m b = book_outcome m b.line b.period b.kwh

abbrev pub after_all : Meaning → List Booking → Meaning
after_all m [] = m
after_all m (b ∷ bookings) = after_all (after_one m b) bookings

-- the answer to each
abbrev pub answers : Meaning → List Booking → List (Result (Unit {0}) Refusal)
answers m [] = []
answers m (b ∷ bookings) = verdict_on m b ∷ answers (after_one m b) bookings

-- those that were accepted
abbrev pub accepted : Meaning → List Booking → List Booking
accepted m [] = []
accepted m (b ∷ bookings) = cond (is_ok (verdict_on m b)) (b ∷ accepted (after_one m b) bookings) (accepted (after_one m b) bookings)

abbrev pub is_at : ℕ → ℕ → Booking → Bool
is_at line period b = line == b.line && period == b.period

-- no posting of the list is of that cell
abbrev pub Elsewhere : ℕ → ℕ → List Booking → Type 0
Elsewhere line period bookings = AllByRecursion (λ b. is_at line period b ≡ false) bookings

-- The last accepted posting of a cell is what a reading of it gives, however many came before and whatever was posted elsewhere.
pub record KeepsTheLast (before : Meaning) (posted : List Booking) (after : Meaning) : Type 0 where
  pub latest : (earlier later : List Booking) (b : Booking) → posted ≡ earlier ++ b ∷ later → Elsewhere b.line b.period later
      → after.cell b.line b.period ≡ Some b.kwh
  pub untouched : (line period : ℕ) → Elsewhere line period posted → after.cell line period ≡ before.cell line period

-- Two books that mean the same answer the same to any further postings, and mean the same after them.
pub record Alike (one other one_after other_after : Meaning) (bookings : List Booking) : Type 0 where
  pub same_answers : answers one bookings ≡ answers other bookings
  pub same_after : one_after ≡ other_after
