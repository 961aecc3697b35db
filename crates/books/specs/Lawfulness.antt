-- Proofs that the books here are lawful. They stand with the definitions, since the code of a book hands them out.
use Rattle.std.specs.Prelude.{◌≡◌, ℕ, ◌+◌, ◌*◌, ◌≤◌, Bool, true, false, cond, ◌&&◌, List, length, Some, None, Option, ◌==◌, nat_le, nat_lt, slice_index_or, refl}
use Rattle.std.proofs.Common.{arith, ltb-false, leb-true}
use Rattle.std.specs.Option.{unwrap_or}
use Rattle.std.proofs.lemmas.Bool.{true≢false, and_parts}
use Rattle.charging.specs.Limits.{energy_limit}
use Rattle.keyed.specs.Contents.{Contents, fits_list}
use Rattle.energy.specs.Limits.{WithinLimits, most_lines, most_periods, within_limits}
use Rattle.energy.specs.Meaning.{Meaning, Lawful}
use Rattle.books.specs.Plain.{plain, no_book, sized}
use Rattle.books.specs.declared.cell.Cell.{Cell}
use Rattle.books.specs.declared.size.Size.{Size}
use Rattle.books.specs.Listed.{cut, listed, listed_in, fits_listed}
use Rattle.books.specs.Table.{vacant, kwh_in, table, table_in, fits_table, empty_mark}

pub limits_kept : (lines periods : ℕ) → within_limits lines periods ≡ true → WithinLimits lines periods
limits_kept lines periods e =
    let both = and_parts (nat_le 1 lines && nat_le lines most_lines) (nat_le 1 periods && nat_le periods most_periods) e in
    let l = and_parts (nat_le 1 lines) (nat_le lines most_lines) both.0 in
    let p = and_parts (nat_le 1 periods) (nat_le periods most_periods) both.1 in
    record {
      a_line = leb-true 1 lines l.0;
      few_lines = leb-true lines most_lines l.1;
      a_period = leb-true 1 periods p.0;
      few_periods = leb-true periods most_periods p.1;
    }

small_inside : (b : Bool) (o : Option ℕ) → unwrap_or o 0 ≤ energy_limit → unwrap_or (cond b o None) 0 ≤ energy_limit
small_inside true o small = small
small_inside false o small = omega arith

none_outside : (b : Bool) (o : Option ℕ) → b ≡ false → cond b o None ≡ None
none_outside true o e = absurd (true≢false e)
none_outside false o e = refl

-- a book with no layer, whose cells are cut to its size
pub plain_lawful : (lines periods spare : ℕ) (cells : ℕ → ℕ → Option ℕ) → within_limits lines periods ≡ true → ((line period : ℕ) → unwrap_or (cells line period) 0 ≤ energy_limit)
    → Lawful (plain lines periods spare (λ line period. cond (nat_lt line lines && nat_lt period periods) (cells line period) None))
plain_lawful lines periods spare cells within small = record {
  size = limits_kept lines periods within;
  small_cells = λ line period. small_inside (nat_lt line lines && nat_lt period periods) (cells line period) (small line period);
  empty_outside = λ line period e. none_outside (nat_lt line lines && nat_lt period periods) (cells line period) e;
  low_ceilings = λ line. omega arith;
}

pub no_book_lawful : Lawful no_book
no_book_lawful = record {
  size = record { a_line = omega arith; few_lines = omega arith; a_period = omega arith; few_periods = omega arith };
  small_cells = λ line period. omega arith;
  empty_outside = λ line period e. refl;
  low_ceilings = λ line. omega arith;
}

pub sized_lawful : (book : ℕ → ℕ → Meaning) → ((lines periods : ℕ) → Lawful (book lines periods)) → (size : Option Size) → Lawful (sized book size)
sized_lawful book lawful None = no_book_lawful
sized_lawful book lawful (Some size) = lawful size.lines size.periods

small_kwh : (number : ℕ) (b : Bool) → vacant number ≡ b → unwrap_or (cond b None (Some number)) 0 ≤ energy_limit
small_kwh number true e = omega arith
small_kwh number false e = omega (arith, ltb-false)

pub table_lawful : (lines periods : ℕ) (memory : List ℕ) → Lawful (table lines periods memory)
table_lawful lines periods memory = by (fits_table lines periods (length memory)) refl
  where
    by : (b : Bool) → fits_table lines periods (length memory) ≡ b → Lawful (cond b (table_in lines periods memory) no_book)
    by true e =
        plain_lawful lines periods _ (λ line period. kwh_in (slice_index_or memory (line * periods + period) empty_mark))
        (and_parts (within_limits lines periods) (length memory == lines * periods) e).0
        (λ line period. small_kwh (slice_index_or memory (line * periods + period) empty_mark) _ refl)
    by false e = no_book_lawful

small_cut : (o : Option ℕ) → unwrap_or (cut o) 0 ≤ energy_limit
small_cut (Some kwh) = omega arith
small_cut None = omega arith

pub listed_lawful : (lines periods size : ℕ) (held : Contents Cell ℕ) → Lawful (listed lines periods size held)
listed_lawful lines periods size held = by (fits_listed lines periods size) refl
  where
    by : (b : Bool) → fits_listed lines periods size ≡ b → Lawful (cond b (listed_in lines periods held) no_book)
    by true e =
        plain_lawful lines periods held.spare (λ line period. cut (held.under (record { line = line; period = period })))
        (and_parts (within_limits lines periods) (fits_list size) e).0
        (λ line period. small_cut (held.under (record { line = line; period = period })))
    by false e = no_book_lawful
