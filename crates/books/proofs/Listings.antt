-- What an entry to the list of a listed book does to the book.
use Rattle.std.proofs.Common.{◌≡◌, ℕ, ◌-◌, ◌<◌, ◌≤◌, true, cond, not, ◌&&◌, eqb, ltb, is_some, Some, None, Ok, Err, Option, sym, refl, ap, ◌∙◌, ap₂, ⊎_elim, arith}
use mathlib.Core.Path.{fun_ext}
use Rattle.std.proofs.lemmas.Bool.{cond-true, cond-false, and_from, lt-ltb, cases_Bool, false≢true}
use Rattle.std.proofs.lemmas.Bool.Decides.{nat_tests}
use Rattle.charging.specs.Limits.{energy_limit}
use Rattle.keyed.specs.Contents.{Contents, lacks_room, entered, put_verdict, put_outcome}
use Rattle.books.specs.declared.cell.Cell.{Cell}
use Rattle.refusal.specs.declared.layer.Layer.TheVariants.{Book}
use Rattle.refusal.specs.declared.reason.Reason.TheVariants.{Full}
use Rattle.refusal.specs.Numbers.{at_cell}
use Rattle.energy.specs.Meaning.{Meaning, book_verdict, book_outcome, with_cell}
use Rattle.books.specs.declared.size.Size.{Size}
use Rattle.books.specs.Plain.{plain, no_book, sized, fits_if_any, plain_check}
use Rattle.books.specs.Cells.{same_cell}
use Rattle.books.specs.Listed.{cut, listed_cell, listed_in, listed, fits_listed}
use Rattle.books.proofs.Postings.{plain_verdict, plain_posted, plain_full, plain_passed}

some_cut : (o : Option ℕ) → is_some (cut o) ≡ is_some o
some_cut (Some kwh) = refl
some_cut None = refl

-- a cell of the book
module _ (lines periods line period : ℕ) (in_lines : line < lines) (in_periods : period < periods) (held : Contents Cell ℕ) where
  listed_here : listed_cell lines periods held.under line period ≡ cut (held.under (record { line = line; period = period }))
  listed_here = cond-true (ltb line lines && ltb period periods) _ None (and_from (ltb line lines) (ltb period periods) (lt-ltb line lines in_lines) (lt-ltb period periods in_periods))

  lacks : (not (is_some (listed_cell lines periods held.under line period)) && eqb held.spare 0) ≡ lacks_room same_cell held (record { line = line; period = period })
  lacks = ap (λ b. not b && eqb held.spare 0) (ap is_some listed_here ∙ some_cut (held.under (record { line = line; period = period })))

  -- an entry for it
  module _ (kwh : ℕ) (small : kwh ≤ energy_limit) where
    listed_verdict : put_verdict same_cell held (record { line = line; period = period }) (at_cell Full Book line period) ≡ book_verdict (listed_in lines periods held) line period kwh
    listed_verdict =
        ap (λ b. cond b (Err (at_cell Full Book line period)) (Ok tt)) (sym lacks)
        ∙ sym (plain_verdict lines periods held.spare (listed_cell lines periods held.under) line period kwh in_lines in_periods small)

    cell_entered : (l p : ℕ) → listed_cell lines periods (entered same_cell held (record { line = line; period = period }) kwh).under l p
        ≡ with_cell (listed_cell lines periods held.under) line period kwh l p
    cell_entered l p = grind (arith, nat_tests)

    spare_entered : (entered same_cell held (record { line = line; period = period }) kwh).spare
        ≡ cond (is_some (listed_cell lines periods held.under line period)) held.spare (held.spare - 1)
    spare_entered = ap (λ b. cond b held.spare (held.spare - 1)) (sym (ap is_some listed_here ∙ some_cut (held.under (record { line = line; period = period }))))

    listed_outcome : listed_in lines periods (put_outcome same_cell held (record { line = line; period = period }) kwh) ≡ book_outcome (listed_in lines periods held) line period kwh
    listed_outcome =
        ⊎_elim
        (λ none.
        ap (listed_in lines periods) (cond-true (lacks_room same_cell held (record { line = line; period = period })) held _ none)
        ∙ sym (plain_full lines periods held.spare (listed_cell lines periods held.under) line period kwh in_lines in_periods small (lacks ∙ none)))
        (λ room.
        ap (listed_in lines periods) (cond-false (lacks_room same_cell held (record { line = line; period = period })) held _ room)
        ∙ ap₂ (plain lines periods) spare_entered (fun_ext (λ l. fun_ext (λ p. cell_entered l p)))
        ∙ sym (plain_posted lines periods held.spare (listed_cell lines periods held.under) line period kwh in_lines in_periods small (lacks ∙ room)))
        (cases_Bool (lacks_room same_cell held (record { line = line; period = period })))

-- what the list answers and holds then is what the book does
module _ (memory : ℕ) (held : Contents Cell ℕ) (line period kwh : ℕ) where
  abbrev listed_of : Option Size → Contents Cell ℕ → Meaning
  listed_of size h = sized (λ lines periods. listed lines periods memory h) size

  pub listed_posted : (size : Option Size) → fits_if_any (λ lines periods. fits_listed lines periods memory) size ≡ true → is_some size ≡ true
      → plain_check (listed_of size held).lines (listed_of size held).periods line period kwh ≡ Ok tt
      → (put_verdict same_cell held (record { line = line; period = period }) (at_cell Full Book line period) ≡ book_verdict (listed_of size held) line period kwh)
      × (listed_of size (put_outcome same_cell held (record { line = line; period = period }) kwh) ≡ book_outcome (listed_of size held) line period kwh)
  listed_posted None fits some checked = absurd (false≢true some)
  listed_posted (Some size) fits some checked =
      let is_open : (h : Contents Cell ℕ) → listed size.lines size.periods memory h ≡ listed_in size.lines size.periods h = λ h. cond-true _ (listed_in size.lines size.periods h) no_book fits in
      let passed = plain_passed size.lines size.periods line period kwh (ap (λ (m : Meaning). plain_check m.lines m.periods line period kwh) (sym (is_open held)) ∙ checked) in (
        listed_verdict size.lines size.periods line period passed.in_lines passed.in_periods held kwh passed.small
            ∙ ap (λ m. book_verdict m line period kwh) (sym (is_open held)),
        is_open (put_outcome same_cell held (record { line = line; period = period }) kwh)
            ∙ listed_outcome size.lines size.periods line period passed.in_lines passed.in_periods held kwh passed.small
            ∙ ap (λ m. book_outcome m line period kwh) (sym (is_open held)),
      )
