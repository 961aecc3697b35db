-- What a book holds after a list of postings.
use Rattle.std.proofs.Common.{◌≡◌, ℕ, Bool, true, false, cond, ◌&&◌, eqb, List, [], ◌∷◌, ◌++◌, is_ok, Some, sym, refl, ap, ◌∙◌, subst, arith}
use Rattle.std.proofs.lemmas.Bool.{cond-true, cond-false, eq-eqb, and_from}
use Rattle.energy.specs.declared.bookings.Booking.{Booking}
use Rattle.energy.specs.Meaning.{Meaning, posted, with_cell}
use Rattle.energy.specs.Bookings.{verdict_on, after_one, after_all, accepted, is_at, Elsewhere, KeepsTheLast}

-- a posting that is accepted, and one that is refused
module _ (m : Meaning) (b : Booking) where
  cell_accepted : is_ok (verdict_on m b) ≡ true → (line period : ℕ) → (after_one m b).cell line period ≡ with_cell m.cell b.line b.period b.kwh line period
  cell_accepted ok line period = ap (λ (n : Meaning). n.cell line period) (cond-true (is_ok (verdict_on m b)) (posted m b.line b.period b.kwh) m ok)

  cell_here : is_ok (verdict_on m b) ≡ true → (after_one m b).cell b.line b.period ≡ Some b.kwh
  cell_here ok =
      cell_accepted ok b.line b.period
      ∙ cond-true (eqb b.line b.line && eqb b.period b.period) (Some b.kwh) _
      (and_from (eqb b.line b.line) (eqb b.period b.period) (eq-eqb b.line b.line refl) (eq-eqb b.period b.period refl))

  cell_elsewhere : is_ok (verdict_on m b) ≡ true → (line period : ℕ) → is_at line period b ≡ false → (after_one m b).cell line period ≡ m.cell line period
  cell_elsewhere ok line period apart = cell_accepted ok line period ∙ cond-false (is_at line period b) (Some b.kwh) (m.cell line period) apart

  same_refused : is_ok (verdict_on m b) ≡ false → after_one m b ≡ m
  same_refused refused = cond-false (is_ok (verdict_on m b)) (posted m b.line b.period b.kwh) m refused

untouched_by : (m : Meaning) (bookings : List Booking) (line period : ℕ) → Elsewhere line period (accepted m bookings) → (after_all m bookings).cell line period ≡ m.cell line period
untouched_by m [] line period apart = refl
untouched_by m (b ∷ bookings) line period apart = by (is_ok (verdict_on m b)) refl apart (untouched_by (after_one m b) bookings line period)
  where
    by : (t : Bool) → is_ok (verdict_on m b) ≡ t
        → Elsewhere line period (cond t (b ∷ accepted (after_one m b) bookings) (accepted (after_one m b) bookings))
        → (Elsewhere line period (accepted (after_one m b) bookings) → (after_all (after_one m b) bookings).cell line period ≡ (after_one m b).cell line period)
        → (after_all (after_one m b) bookings).cell line period ≡ m.cell line period
    by true ok apart rest = rest apart.1 ∙ cell_elsewhere m b ok line period apart.0
    by false refused apart rest = rest apart ∙ ap (λ (n : Meaning). n.cell line period) (same_refused m b refused)

latest_of : (m : Meaning) (bookings earlier later : List Booking) (b : Booking) → accepted m bookings ≡ earlier ++ b ∷ later → Elsewhere b.line b.period later
    → (after_all m bookings).cell b.line b.period ≡ Some b.kwh
latest_of m [] [] later b e apart = let z : ◌≡◌ {A = ℕ} 0 1 = cc in absurd (omega arith)
latest_of m [] (x ∷ earlier) later b e apart = let z : ◌≡◌ {A = ℕ} 0 1 = cc in absurd (omega arith)
latest_of m (first ∷ bookings) earlier later b e apart =
    by (is_ok (verdict_on m first)) refl earlier e (λ es e. latest_of (after_one m first) bookings es later b e apart)
  where
    by : (t : Bool) → is_ok (verdict_on m first) ≡ t → (es : List Booking)
        → cond t (first ∷ accepted (after_one m first) bookings) (accepted (after_one m first) bookings) ≡ es ++ b ∷ later
        → ((es : List Booking) → accepted (after_one m first) bookings ≡ es ++ b ∷ later → (after_all (after_one m first) bookings).cell b.line b.period ≡ Some b.kwh)
        → (after_all (after_one m first) bookings).cell b.line b.period ≡ Some b.kwh
    by true ok [] e rest =
        let same : first ≡ b = cc in
        let tail : accepted (after_one m first) bookings ≡ later = cc in
        untouched_by (after_one m first) bookings b.line b.period (subst (Elsewhere b.line b.period) (sym tail) apart)
        ∙ ap (λ (x : Booking). (after_one m first).cell x.line x.period) (sym same)
        ∙ cell_here m first ok
        ∙ ap (λ (x : Booking). Some x.kwh) same
    by true ok (x ∷ es) e rest = let tail : accepted (after_one m first) bookings ≡ es ++ b ∷ later = cc in rest es tail
    by false refused es e rest = rest es e

pub keeps_the_last : (m : Meaning) (bookings : List Booking) → KeepsTheLast m (accepted m bookings) (after_all m bookings)
keeps_the_last m bookings = record {
  latest = λ earlier later b e apart. latest_of m bookings earlier later b e apart;
  untouched = λ line period apart. untouched_by m bookings line period apart;
}
