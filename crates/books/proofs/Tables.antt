-- What a table's memory means after a write to it.
use Rattle.std.proofs.Common.{◌≡◌, ℕ, ◌+◌, ◌-◌, ◌*◌, ◌/◌, ◌%◌, ◌<◌, ◌≤◌, true, false, cond, not, ◌&&◌, eqb, ltb, List, length, get_or, set, is_some, None, count_by, sym, ap, ◌∙◌, ap₂, ⊎_elim, arith}
use mathlib.Core.Path.{fun_ext}
use Rattle.std.proofs.lemmas.Nat.{div-mul-add, mod-mul-add, mul-add-lt}
use Rattle.std.proofs.lemmas.List.{get_or-set_same, get_or-set_other, length-set}
use Rattle.std.proofs.lemmas.List.Sums.{sum_by-set, get_or-le-sum_by}
use Rattle.std.proofs.lemmas.Bool.{cases_eq, cases_lt, cond-true, and_parts, eqb-true, lt-ltb, and_from}
use Rattle.std.proofs.lemmas.Bool.Decides.{nat_tests}
use Rattle.charging.specs.Limits.{energy_limit}
use Rattle.energy.specs.Limits.{within_limits}
use Rattle.energy.specs.Meaning.{book_outcome, with_cell}
use Rattle.books.specs.Plain.{plain, no_book}
use Rattle.books.specs.Table.{empty_mark, vacant, kwh_in, table, table_in, table_cell, fits_table}
use Rattle.books.proofs.Postings.{plain_posted}

-- one cell of a table that fits
module _ (lines periods : ℕ) (memory : List ℕ) (line period : ℕ) (in_lines : line < lines) (in_periods : period < periods) (fits : fits_table lines periods (length memory) ≡ true) where
  place : ℕ
  place = line * periods + period

  within : place < length memory
  unfolding place
  within =
      let whole = eqb-true (length memory) (lines * periods) (and_parts (within_limits lines periods) (eqb (length memory) (lines * periods)) fits).1 in
      omega (arith, mul-add-lt line periods period lines in_lines in_periods)

  is_open : table lines periods memory ≡ table_in lines periods memory
  is_open = cond-true _ (table_in lines periods memory) no_book fits

  in_book : table_cell lines periods memory line period ≡ kwh_in (get_or memory place empty_mark)
  unfolding place
  in_book = cond-true (ltb line lines && ltb period periods) _ None (and_from (ltb line lines) (ltb period periods) (lt-ltb line lines in_lines) (lt-ltb period periods in_periods))

  -- a write to it
  module _ (kwh : ℕ) (small : kwh ≤ energy_limit) where
    -- two cells of one place are one cell
    elsewhere : (l p : ℕ) → p < periods → (l ≡ line → p ≡ period → ⊥) → get_or (set memory place kwh) (l * periods + p) empty_mark ≡ get_or memory (l * periods + p) empty_mark
    unfolding place
    elsewhere l p h apart =
        get_or-set_other memory place (l * periods + p) kwh empty_mark
        (λ e. apart
        (sym (div-mul-add l periods p h) ∙ ap (λ n. n / periods) e ∙ div-mul-add line periods period in_periods)
        (sym (mod-mul-add l periods p h) ∙ ap (λ n. n % periods) e ∙ mod-mul-add line periods period in_periods))

    here : get_or (set memory place kwh) (line * periods + period) empty_mark ≡ kwh
    unfolding place
    here = get_or-set_same memory place kwh empty_mark within

    cell_written : (l p : ℕ) → table_cell lines periods (set memory place kwh) l p ≡ with_cell (table_cell lines periods memory) line period kwh l p
    cell_written l p =
        ⊎_elim
        (λ hp. ⊎_elim
        (λ el. ⊎_elim
        (λ ep. let h = here in grind (arith, nat_tests))
        (λ np. let h = elsewhere l p hp (λ _ e. np e) in grind (arith, nat_tests))
        (cases_eq p period))
        (λ nl. let h = elsewhere l p hp (λ e _. nl e) in grind (arith, nat_tests))
        (cases_eq l line))
        (λ hp. grind (arith, nat_tests))
        (cases_lt p periods)

    -- the empty cells are counted on, and there is room for this one
    counted : (count_by vacant (set memory place kwh) ≡ cond (is_some (kwh_in (get_or memory place empty_mark))) (count_by vacant memory) (count_by vacant memory - 1))
        × ((not (is_some (kwh_in (get_or memory place empty_mark))) && eqb (count_by vacant memory) 0) ≡ false)
    counted =
        let sums = sum_by-set (λ n. cond (vacant n) 1 0) memory place kwh empty_mark within in
        let one = get_or-le-sum_by (λ n. cond (vacant n) 1 0) memory place empty_mark within in
        (grind (arith, nat_tests), grind (arith, nat_tests))

    room : (not (is_some (table_cell lines periods memory line period)) && eqb (count_by vacant memory) 0) ≡ false
    room = ap (λ o. not (is_some o) && eqb (count_by vacant memory) 0) in_book ∙ counted.1

    pub table_posted : table lines periods (set memory (line * periods + period) kwh) ≡ book_outcome (table lines periods memory) line period kwh
    unfolding place
    table_posted =
        cond-true _ (table_in lines periods (set memory place kwh)) no_book (ap (fits_table lines periods) (length-set memory place kwh) ∙ fits)
        ∙ ap₂ (plain lines periods)
        (counted.0 ∙ ap (λ o. cond (is_some o) (count_by vacant memory) (count_by vacant memory - 1)) (sym in_book))
        (fun_ext (λ l. fun_ext (λ p. cell_written l p)))
        ∙ sym (plain_posted lines periods (count_by vacant memory) (table_cell lines periods memory) line period kwh in_lines in_periods small room)
        ∙ ap (λ m. book_outcome m line period kwh) (sym is_open)
