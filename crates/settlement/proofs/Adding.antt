-- The accounts of every run add up, its sheets balance, and they do not depend on the book.
use Rattle.std.proofs.Common.{◌≡◌, ℕ, ◌<◌, ◌≤◌, true, false, cond, List, length, get_or, ℤ, pos, ◌-ℤ◌, is_ok, Some, Ok, Err, unwrap_or, sym, ap, ◌∙◌, subst, ap₂, inl, inr, arith}
use Rattle.std.specs.Result.{result_ok}
use Rattle.std.proofs.lemmas.List.{ext_get_or}
use Rattle.std.proofs.lemmas.Int.{ints}
use Rattle.charging.specs.declared.imbalance.Position.{Position}
use Rattle.charging.specs.Charge.{charge}
use Rattle.charging.specs.Limits.{energy_limit}
use Rattle.energy.specs.Meaning.{Meaning, Lawful}
use Rattle.ledger.specs.declared.entries.Account.{Account}
use Rattle.ledger.specs.Answers.{Answer}
use Rattle.ledger.specs.Calls.{Posts, Prices, Settles, Reopens, Draws, Lists}
use Rattle.ledger.specs.Energies.{Energies, Sharing, gain, position_of, positions_of, role_of, schedule_line, reading_line, x_of, y_of, LawfulRule}
use Rattle.ledger.specs.Invoices.{sum_below}
use Rattle.ledger.specs.Judgement.{Held, nothing, periods_of}
use Rattle.ledger.specs.Marks.{published}
use Rattle.ledger.proofs.Accounts.{same_account}
use Rattle.ledger.proofs.Gains.{lawful_period, xs_long, xs_at, y_toward}
use Rattle.ledger.proofs.Judging.{fitting}
use Rattle.ledger.proofs.Known.{no_position, positions_long, positions_at}
use Rattle.ledger.proofs.Steps.{Figure, inside, outside, money, figure, settle_done, reopen_done, published_is, figures_small}
use Rattle.posting.specs.declared.posting.MemberEnergy.{MemberEnergy}
use Rattle.posting.specs.declared.posting.Opening.{Opening}
use Rattle.pricing.specs.declared.figures.SystemFigures.{SystemFigures}
use Rattle.pricing.specs.Prices.{price_of}
use Rattle.sharing.specs.Law.{FromZeroTo}
use Rattle.sharing.specs.Rests.{total}
use Rattle.sharing.specs.Verdict.{most_members}
use Rattle.sheet.specs.Lines.{everybody, imbalance_of, imbalances_of}
use Rattle.settlement.specs.Accounts.{AddsUp, Balanced, SameSettled, AccountsAddUp, price_in}
use Rattle.settlement.specs.Runs.{Run, opened, scheduled, metered, priced, figured, settled, reopened, drawn, changed}
use Rattle.settlement.specs.Tally.{Tally, fed, post_schedule, post_reading, post_price, post_figures, settle, reopen, draw_sheet}
use Rattle.settlement.proofs.Stands.{Stands, due, figure_sum, same_gain, turn_stands, price_stands, post_stands, opening_stands, changed_stands}
use Rattle.settlement.proofs.Sums.{same_less, cond_agree, sum_same, sum_swap, sum_cond, sum_sub, total_by_places, charges_make_bill}

-- ---- by induction over the steps of a run

module _ (o : Opening) (rule : Sharing) where
  same_ledger : (t : Tally) (L K : Held) (m : Meaning) → K ≡ L → Stands o rule t L m → Stands o rule t K m
  same_ledger t L K m e st = subst (λ H. Stands o rule t H m) (sym e) st

  settle_step : (t : Tally) (L K : Held) (m : Meaning) (p : ℕ) (r : Answer) → Stands o rule t L m → Settles o rule m p r L K → Stands o rule (fed t (settle p) (is_ok r)) K m
  settle_step t L K m p (Ok tt) st turns = turn_stands o rule t L K m p true st (settle_done o rule m p L K turns)
  settle_step t L K m p (Err e) st turns = same_ledger t L K m turns.outcome st

  reopen_step : (t : Tally) (L K : Held) (m : Meaning) (p : ℕ) (r : Answer) → Stands o rule t L m → Reopens o rule m p r L K → Stands o rule (fed t (reopen p) (is_ok r)) K m
  reopen_step t L K m p (Ok tt) st turns = turn_stands o rule t L K m p false st (reopen_done o rule m p L K turns)
  reopen_step t L K m p (Err e) st turns = same_ledger t L K m turns.outcome st

  price_step : (t : Tally) (L K : Held) (m : Meaning) (p : ℕ) (v : ℤ) (r : Answer) → Stands o rule t L m → Prices o p (published v) r L K → Stands o rule (fed t (post_price p v) (is_ok r)) K m
  price_step t L K m p v (Ok tt) st prices =
      price_stands o rule t L K m p (published v) (λ w e. (published_is v w e).1) st prices (Some v) (λ w e. ap Some (sym (published_is v w e).0))
  price_step t L K m p v (Err e) st prices = same_ledger t L K m prices.outcome st

  figures_step : (t : Tally) (L K : Held) (m : Meaning) (p : ℕ) (f : SystemFigures) (r : Answer) → Stands o rule t L m → Prices o p (price_of f) r L K → Stands o rule (fed t (post_figures p f) (is_ok r)) K m
  figures_step t L K m p f (Ok tt) st prices = price_stands o rule t L K m p (price_of f) (figures_small f) st prices (result_ok (price_of f)) (λ w e. ap result_ok e)
  figures_step t L K m p f (Err e) st prices = same_ledger t L K m prices.outcome st

  same_book : (t : Tally) (L : Held) (m n : Meaning) → n ≡ m → Stands o rule t L m → Stands o rule t L n
  same_book t L m n e st = subst (λ b. Stands o rule t L b) (sym e) st

  schedule_step : (t : Tally) (L : Held) (m n : Meaning) (e : MemberEnergy) (r : Answer) → Stands o rule t L m → Posts o L e (schedule_line e.member) r m n → Stands o rule (fed t (post_schedule e) (is_ok r)) L n
  schedule_step t L m n e (Ok tt) st posts = post_stands o rule t L m n e (schedule_line e.member) st posts
  schedule_step t L m n e (Err q) st posts = same_book t L m n posts.outcome st

  reading_step : (t : Tally) (L : Held) (m n : Meaning) (e : MemberEnergy) (r : Answer) → Stands o rule t L m → Posts o L e (reading_line e.member) r m n → Stands o rule (fed t (post_reading e) (is_ok r)) L n
  reading_step t L m n e (Ok tt) st posts = post_stands o rule t L m n e (reading_line e.member) st posts
  reading_step t L m n e (Err q) st posts = same_book t L m n posts.outcome st

  sheet_step : (t : Tally) (L : Held) (m : Meaning) (p : ℕ) (r : Answer) → Stands o rule t L m → Stands o rule (fed t (draw_sheet p) (is_ok r)) L m
  sheet_step t L m p (Ok tt) st = st
  sheet_step t L m p (Err e) st = st

pub run_stands : (o : Opening) (rule : Sharing) {t : Tally} {L : Held} {m : Meaning} → Run o rule t L m → Stands o rule t L m
run_stands o rule (opened opens no_cells) = opening_stands o rule _ _ _ opens no_cells
run_stands o rule (scheduled e run posts) = schedule_step o rule _ _ _ _ e _ (run_stands o rule run) posts
run_stands o rule (metered e run posts) = reading_step o rule _ _ _ _ e _ (run_stands o rule run) posts
run_stands o rule (priced p v run prices) = price_step o rule _ _ _ _ p v _ (run_stands o rule run) prices
run_stands o rule (figured p f run prices) = figures_step o rule _ _ _ _ p f _ (run_stands o rule run) prices
run_stands o rule (settled p run turns) = settle_step o rule _ _ _ _ p _ (run_stands o rule run) turns
run_stands o rule (reopened p run turns) = reopen_step o rule _ _ _ _ p _ (run_stands o rule run) turns
run_stands o rule (drawn {r = r} p run draws) = sheet_step o rule _ _ _ p r (run_stands o rule run)
run_stands o rule (changed run same) = changed_stands o rule _ _ _ _ (run_stands o rule run) same

-- ---- what the rule leaves in a period sums to the imbalances

module _ (o : Opening) (rule : Sharing) (law : LawfulRule rule) (E : Energies) (p : ℕ) (few : o.members ≤ most_members) (small : (line period : ℕ) → unwrap_or (E line period) 0 ≤ energy_limit) where
  pub rests_sum : sum_below o.members (y_of o rule E p) ≡ sum_below o.members (x_of o E p)
  rests_sum =
      let xs = imbalances_of (positions_of o E p) in
      let lawful = lawful_period o E p few small rule law in
      let n : length xs ≡ o.members = xs_long o E p in
      let left : total (rule everybody xs) ≡ sum_below o.members (y_of o rule E p) =
      total_by_places (rule everybody xs) ∙ ap (λ k. sum_below k (λ i. get_or (rule everybody xs) i (pos 0))) (lawful.same_length ∙ n) in
      let whole : total xs ≡ sum_below o.members (λ i. get_or xs i (pos 0)) = total_by_places xs ∙ ap (λ k. sum_below k (λ i. get_or xs i (pos 0))) n in
      sym left ∙ lawful.same_total ∙ whole ∙ sum_same o.members _ _ (λ i h. xs_at o E p i h)

-- ---- accounts

module _ (o : Opening) (rule : Sharing) (law : LawfulRule rule) (t : Tally) (L : Held) (m : Meaning) (lawful : Lawful m) (st : Stands o rule t L m) where
  pub small_energies : (line period : ℕ) → unwrap_or (t.energies line period) 0 ≤ energy_limit
  small_energies l p = subst (λ c. unwrap_or c 0 ≤ energy_limit) (st.cells l p) (lawful.small_cells l p)

  pub adds_up : AddsUp o rule t L.accounts
  adds_up =
      let few = (fitting o st.figures).few_members in
      let pay : ℕ → ℕ → ℤ = λ p i. figure money (due o rule t p i) in
      record {
        one_each = st.an_account_each;
        inside = λ i h. st.sums i h inside;
        outside = λ i h. st.sums i h outside;
        money = λ i h. st.sums i h money;
        bill =
            sum_same o.members _ _ (λ i h. st.sums i h money)
            ∙ sum_swap o.members (periods_of o) (λ i p. cond (t.settled p) (pay p i) (pos 0))
            ∙ sum_same (periods_of o) _ _ (λ p h. sum_cond o.members (t.settled p) (pay p)
            ∙ ap (λ z. cond (t.settled p) z (pos 0)) (charges_make_bill o.internal_price (price_in o rule t p) o.members (x_of o t.energies p) (y_of o rule t.energies p) (rests_sum o rule law t.energies p few small_energies)));
      }

  -- ---- sheets

  remainder : (x y : ℤ) → FromZeroTo x y → FromZeroTo x (x -ℤ y)
  remainder x y (inl h) = inl (omega (arith, ints, h))
  remainder x y (inr h) = inr (omega (arith, ints, h))

  pub sheet_balances : (p : ℕ) (out done : Lists) → Draws o rule L m p (Ok tt) out done → Balanced o rule t p done
  sheet_balances p out done draws =
      let few = (fitting o st.figures).few_members in
      let E = t.energies in
      let same : (i : ℕ) → gain o rule m.cell p (pos 0) i ≡ gain o rule E p (pos 0) i = λ i. same_gain o rule m.cell E p (pos 0) i (λ l. st.cells l p) in
      let outside_is : (i : ℕ) → i < o.members → get_or done.outside i (pos 0) ≡ y_of o rule E p i = λ i h. draws.outcome.outside_is.entries i h ∙ ap (figure outside) (same i) in
      let inside_is : (i : ℕ) → i < o.members → get_or done.inside i (pos 0) ≡ x_of o E p i -ℤ y_of o rule E p i = λ i h. draws.outcome.inside_is.entries i h ∙ ap (figure inside) (same i) in
      let toward : (i : ℕ) → i < o.members → FromZeroTo (x_of o E p i) (y_of o rule E p i) = y_toward o E p few small_energies rule law in
      record {
        nets_to_zero = sum_same o.members _ _ inside_is ∙ sum_sub o.members (x_of o E p) (y_of o rule E p) ∙ same_less _ _ (rests_sum o rule law E p few small_energies);
        outside_is = outside_is;
        inside_is = inside_is;
        outside_fits = λ i h. subst (FromZeroTo (x_of o E p i)) (sym (outside_is i h)) (toward i h);
        inside_fits = λ i h. subst (FromZeroTo (x_of o E p i)) (sym (inside_is i h)) (remainder _ _ (toward i h));
      }

-- ---- two runs

-- what a period brings depends on the members' energies in it and on its price
same_due : (o : Opening) (rule : Sharing) (t u : Tally) (p i : ℕ) → i < o.members → t.prices p ≡ u.prices p
    → ((k : ℕ) → k < o.members → position_of o t.energies p k ≡ position_of o u.energies p k) → due o rule t p i ≡ due o rule u p i
same_due o rule t u p i h price one =
    let all : positions_of o t.energies p ≡ positions_of o u.energies p =
    ext_get_or no_position _ _ (positions_long o t.energies p ∙ sym (positions_long o u.energies p))
    (λ k l. let m : k < o.members = omega (arith, positions_long o t.energies p) in
    positions_at o t.energies p k m ∙ one k m ∙ sym (positions_at o u.energies p k m)) in
    let brings : Position → List Position → Account = λ own ps.
    let rest = get_or (rule everybody (imbalances_of ps)) i (pos 0) in
    record { inside_kwh = imbalance_of own -ℤ rest; outside_kwh = rest; money = charge o.internal_price (price_in o rule t p) (imbalance_of own -ℤ rest) rest } in
    ap₂ brings (one i h) all ∙ ap (λ v. gain o rule u.energies p (unwrap_or v (pos 0)) i) price

same_sums : (o : Opening) (rule : Sharing) (t u : Tally) → SameSettled o t u → (i : ℕ) → i < o.members → (f : Figure) → figure_sum o rule t f i ≡ figure_sum o rule u f i
same_sums o rule t u s i h f =
    sum_same (periods_of o) _ _ (λ p l. cond_agree (t.settled p) (u.settled p) _ _ (s.same_periods p l) (λ e. ap (figure f) (same_due o rule t u p i h (s.same_prices p l e)
    (λ k m. ap₂ (λ a b. record { role = role_of o.consumers k; schedule_kwh = unwrap_or a 0; reading_kwh = unwrap_or b 0 }) (s.same_schedules p k l m e) (s.same_readings p k l m e)))))

same_accounts : (o : Opening) (rule : Sharing) (t u : Tally) (L K : Held) (m n : Meaning) → Stands o rule t L m → Stands o rule u K n → SameSettled o t u → L.accounts ≡ K.accounts
same_accounts o rule t u L K m n st su same =
    ext_get_or nothing L.accounts K.accounts (st.an_account_each ∙ sym su.an_account_each)
    (λ i h. let l : i < o.members = omega (arith, st.an_account_each) in
    let each : (f : Figure) → figure f (get_or L.accounts i nothing) ≡ figure f (get_or K.accounts i nothing) = λ f. st.sums i l f ∙ same_sums o rule t u same i l f ∙ sym (su.sums i l f) in
    same_account (each inside) (each outside) (each money))

pub accounts_add_up : (rule : Sharing) → LawfulRule rule → (m n : Meaning) → Lawful m → AccountsAddUp rule m n
accounts_add_up rule law m n lawful =
    record {
      accounts = λ o t L run. adds_up o rule law t L m lawful (run_stands o rule run);
      sheets = λ o t L run. sheet_balances o rule law t L m lawful (run_stands o rule run);
      same_postings = λ o t u L K first second. same_accounts o rule t u L K m n (run_stands o rule first) (run_stands o rule second);
    }
