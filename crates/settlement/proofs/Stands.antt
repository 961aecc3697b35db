-- What every step of a run keeps: ledger and book agree with the tally, and each account is the sum of what its periods brought.
use Rattle.std.proofs.Common.{◌≡◌, ℕ, ◌<◌, Bool, true, false, cond, not, ◌&&◌, eqb, ◌≢◌, ◌⊎◌, List, map, length, get_or, set, replicate, ℤ, pos, ◌+ℤ◌, ◌-ℤ◌, Some, Ok, Option, unwrap_or, sym, refl, ap, ◌∙◌, ap₂, inl, inr, arith}
use mathlib.Core.Path.{fun_ext}
use Rattle.std.specs.List.{range_with_len}
use Rattle.std.proofs.lemmas.List.{get_or-set_same, get_or-set_other, length-set, length-replicate, get_or-replicate}
use Rattle.std.proofs.lemmas.Int.{ints}
use Rattle.std.proofs.lemmas.Bool.{cases_eq, eq-eqb, ne_eqb, le-leb}
use Rattle.charging.specs.declared.imbalance.Position.{Position}
use Rattle.charging.specs.Charge.{charge}
use Rattle.energy.specs.Meaning.{Meaning, with_cell}
use Rattle.ledger.specs.declared.entries.Account.{Account}
use Rattle.ledger.specs.declared.entries.Mark.{Mark}
use Rattle.ledger.specs.declared.entries.Mark.TheVariants.{Unpriced, Priced}
use Rattle.refusal.specs.Numbers.{nobody}
use Rattle.ledger.specs.Calls.{Opens, Posts, Prices}
use Rattle.ledger.specs.Energies.{Energies, Sharing, gain, position_of, role_of, schedule_line, reading_line}
use Rattle.ledger.specs.Judgement.{Held, nothing, periods_of, figures_fit, figures_verdict, mark_in_range}
use Rattle.ledger.specs.Marks.{Offer, price_at}
use Rattle.ledger.proofs.Judging.{then_parts, unless_passed}
use Rattle.ledger.proofs.Steps.{Figure, inside, outside, money, figure, signed, is_settled, mark_small, TurnDone, SmallOffer, price_accepted, energy_accepted}
use Rattle.posting.specs.declared.posting.MemberEnergy.{MemberEnergy}
use Rattle.posting.specs.declared.posting.Opening.{Opening}
use Rattle.sheet.specs.Lines.{everybody, imbalance_of, imbalances_of}
use Rattle.settlement.specs.Accounts.{price_in}
use Rattle.settlement.specs.Runs.{EmptyBook, SameCells}
use Rattle.settlement.specs.Tally.{Tally, empty, updated, with_energy, with_price, with_settled, over_settled}
use Rattle.settlement.proofs.Sums.{cond_agree, sum_same, sum_change, sum_zero}

figure_nothing : (f : Figure) → figure f nothing ≡ pos 0
figure_nothing inside = refl
figure_nothing outside = refl
figure_nothing money = refl

-- a term that enters a sum, or leaves it
signed_is : (b : Bool) (s d : ℤ) → s +ℤ (cond b d (pos 0) -ℤ cond (not b) d (pos 0)) ≡ signed b s d
signed_is true s d = omega (arith, ints)
signed_is false s d = omega (arith, ints)

-- ---- one place changed

updated_at : {X : Type 0} (p : ℕ) (x : X) (f : ℕ → X) → updated p x f p ≡ x
updated_at p x f = ap (λ b. cond b x (f p)) (eq-eqb p p refl)

updated_off : {X : Type 0} (p : ℕ) (x : X) (f : ℕ → X) (q : ℕ) → q ≢ p → updated p x f q ≡ f q
updated_off p x f q ne = ap (λ b. cond b x (f q)) (ne_eqb q p ne)

cell_off : (E : Energies) (line p kwh l q : ℕ) → q ≢ p → with_cell E line p kwh l q ≡ E l q
cell_off E line p kwh l q ne =
    ap (λ b. cond (eqb l line && b) (Some kwh) (E l q)) (ne_eqb q p ne) ∙ ap (λ b. cond b (Some kwh) (E l q)) (and_false (eqb l line))
  where
    and_false : (b : Bool) → (b && false) ≡ false
    and_false true = refl
    and_false false = refl

-- marks of which one was written, seen through g
marks_agree : {X : Type 0} (g : Mark → X) (k : ℕ → X) (marks : List Mark) (p : ℕ) (m : Mark) → p < length marks → g m ≡ k p → (q : ℕ) → (q ≢ p → g (get_or marks q Unpriced) ≡ k q) → g (get_or (set marks p m) q Unpriced) ≡ k q
marks_agree g k marks p m l here q off = go (cases_eq q p)
  where
    go : (q ≡ p) ⊎ (q ≡ p → ⊥) → g (get_or (set marks p m) q Unpriced) ≡ k q
    go (inl e) = ap (λ z. g (get_or (set marks p m) z Unpriced)) e ∙ ap g (get_or-set_same marks p m Unpriced l) ∙ here ∙ ap k (sym e)
    go (inr ne) = ap g (get_or-set_other marks p q m Unpriced ne) ∙ off ne

-- energies alike in a period bring the same there
pub same_gain : (o : Opening) (rule : Sharing) (E F : Energies) (p : ℕ) (v : ℤ) (i : ℕ) → ((l : ℕ) → E l p ≡ F l p) → gain o rule E p v i ≡ gain o rule F p v i
same_gain o rule E F p v i e =
    let same : position_of o E p ≡ position_of o F p =
    fun_ext (λ k. ap₂ (λ a b. record { role = role_of o.consumers k; schedule_kwh = unwrap_or a 0; reading_kwh = unwrap_or b 0 }) (e (schedule_line k)) (e (reading_line k))) in
    let brings : (ℕ → Position) → Account = λ h.
    let rest = get_or (rule everybody (imbalances_of (map h (range_with_len 0 o.members)))) i (pos 0) in
    record { inside_kwh = imbalance_of (h i) -ℤ rest; outside_kwh = rest; money = charge o.internal_price v (imbalance_of (h i) -ℤ rest) rest } in
    ap brings same

-- a settled period is another than one that is not
other_period : (t : Tally) (p q : ℕ) → t.settled p ≡ false → t.settled q ≡ true → q ≢ p
other_period t p q a b e = let c : true ≡ false = sym b ∙ ap t.settled e ∙ a in let z : ◌≡◌ {A = ℕ} 0 1 = cc in omega arith

module _ (o : Opening) (rule : Sharing) where
  -- what period p brings member i, by the tally
  abbrev pub due : Tally → ℕ → ℕ → Account
  due t p i = gain o rule t.energies p (price_in o rule t p) i

  abbrev pub figure_sum : Tally → Figure → ℕ → ℤ
  figure_sum t f i = over_settled o t (λ p. figure f (due t p i))

  pub record Stands (t : Tally) (L : Held) (m : Meaning) : Type 0 where
    pub a_mark_each : length L.marks ≡ periods_of o
    pub an_account_each : length L.accounts ≡ o.members
    pub prices : (p : ℕ) → p < periods_of o → price_at (get_or L.marks p Unpriced) ≡ t.prices p
    pub settled : (p : ℕ) → p < periods_of o → is_settled (get_or L.marks p Unpriced) ≡ t.settled p
    pub cells : (l p : ℕ) → m.cell l p ≡ t.energies l p
    pub figures : figures_fit o ≡ true
    pub small_prices : (p : ℕ) → p < periods_of o → mark_in_range (get_or L.marks p Unpriced) ≡ true
    pub sums : (i : ℕ) → i < o.members → (f : Figure) → figure f (get_or L.accounts i nothing) ≡ figure_sum t f i

  -- ---- a period settled or reopened

  sum_turned : (t : Tally) (p : ℕ) (b : Bool) (F : ℕ → ℤ) → p < periods_of o → t.settled p ≡ not b → over_settled o (with_settled t p b) F ≡ signed b (over_settled o t F) (F p)
  sum_turned t p b F h e =
      sum_change (periods_of o) (λ q. cond (t.settled q) (F q) (pos 0)) (λ q. cond (updated p b t.settled q) (F q) (pos 0)) p h
      (λ k ne. ap (λ c. cond c (F k) (pos 0)) (updated_off p b t.settled k ne))
      ∙ ap₂ (λ a c. over_settled o t F +ℤ (cond a (F p) (pos 0) -ℤ cond c (F p) (pos 0))) (updated_at p b t.settled) e
      ∙ signed_is b (over_settled o t F) (F p)

  pub turn_stands : (t : Tally) (L K : Held) (m : Meaning) (p : ℕ) (b : Bool) → Stands t L m → TurnDone o rule m.cell p b L K → Stands (with_settled t p b) K m
  turn_stands t L K m p b st d =
      let n = d.mark in
      let h = d.there in
      let l : p < length L.marks = omega (arith, st.a_mark_each, h) in
      let small = mark_small (get_or L.marks p Unpriced) d.price d.at_price (st.small_prices p h) in
      let priced : t.prices p ≡ Some d.price = sym (st.prices p h) ∙ d.at_price in
      record {
        a_mark_each = ap length d.marks_after ∙ length-set L.marks p n ∙ st.a_mark_each;
        an_account_each = d.same_length ∙ st.an_account_each;
        prices = λ q k. ap (λ ms. price_at (get_or ms q Unpriced)) d.marks_after ∙ marks_agree price_at t.prices L.marks p n l (d.mark_stands.price ∙ sym priced) q (λ _. st.prices q k);
        settled = λ q k. ap (λ ms. is_settled (get_or ms q Unpriced)) d.marks_after
            ∙ marks_agree is_settled (updated p b t.settled) L.marks p n l (d.mark_stands.settled ∙ sym (updated_at p b t.settled)) q (λ ne. st.settled q k ∙ sym (updated_off p b t.settled q ne));
        cells = st.cells;
        figures = st.figures;
        small_prices = λ q k. ap (λ ms. mark_in_range (get_or ms q Unpriced)) d.marks_after ∙ marks_agree mark_in_range (λ _. true) L.marks p n l (d.mark_stands.small small) q (λ _. st.small_prices q k);
        sums = λ i k f.
            let c : i < length L.accounts = omega (arith, st.an_account_each) in
            let brings : gain o rule m.cell p d.price i ≡ due t p i =
            same_gain o rule m.cell t.energies p d.price i (λ l. st.cells l p) ∙ ap (λ v. gain o rule t.energies p v i) (ap (λ v. unwrap_or v (pos 0)) (sym priced)) in
            d.each i c f ∙ ap₂ (signed b) (st.sums i k f) (ap (figure f) brings)
            ∙ sym (sum_turned t p b (λ q. figure f (due t q i)) h (sym (st.settled p h) ∙ d.stood));
      }

  -- ---- postings to a period that is not settled

  -- settled periods bring what they brought
  sum_kept : (t u : Tally) (i : ℕ) (f : Figure) → ((q : ℕ) → u.settled q ≡ t.settled q) → ((q : ℕ) → t.settled q ≡ true → due u q i ≡ due t q i) → figure_sum t f i ≡ figure_sum u f i
  sum_kept t u i f same d =
      sum_same (periods_of o) _ _ (λ q h. cond_agree (t.settled q) (u.settled q) _ _ (sym (same q)) (λ e. ap (figure f) (sym (d q e))))

  pub price_stands : (t : Tally) (L K : Held) (m : Meaning) (p : ℕ) (offer : Offer) → SmallOffer offer → Stands t L m → Prices o p offer (Ok tt) L K → (price : Option ℤ) → ((v : ℤ) → offer ≡ Ok v → price ≡ Some v) → Stands (with_price t p price) K m
  price_stands t L K m p offer small_offer st prices price is =
      let a = price_accepted o L p offer prices.answer in
      let d = prices.outcome in
      let n = Priced d.price in
      let h = a.there in
      let l : p < length L.marks = omega (arith, st.a_mark_each, h) in
      let told : price ≡ Some d.price = is d.price d.offered in
      let open_still : t.settled p ≡ false = sym (st.settled p h) ∙ a.open_still in
      record {
        a_mark_each = ap length d.marks_after ∙ length-set L.marks p n ∙ st.a_mark_each;
        an_account_each = ap length d.accounts_after ∙ st.an_account_each;
        prices = λ q k. ap (λ ms. price_at (get_or ms q Unpriced)) d.marks_after
            ∙ marks_agree price_at (updated p price t.prices) L.marks p n l (sym (updated_at p price t.prices ∙ told)) q (λ ne. st.prices q k ∙ sym (updated_off p price t.prices q ne));
        settled = λ q k. ap (λ ms. is_settled (get_or ms q Unpriced)) d.marks_after ∙ marks_agree is_settled t.settled L.marks p n l (sym open_still) q (λ _. st.settled q k);
        cells = st.cells;
        figures = st.figures;
        small_prices = λ q k. ap (λ ms. mark_in_range (get_or ms q Unpriced)) d.marks_after ∙ marks_agree mark_in_range (λ _. true) L.marks p n l (le-leb _ _ (small_offer d.price d.offered)) q (λ _. st.small_prices q k);
        sums = λ i k f. ap (λ xs. figure f (get_or xs i nothing)) d.accounts_after ∙ st.sums i k f
            ∙ sum_kept t (with_price t p price) i f (λ q. refl) (λ q e. ap (λ v. gain o rule t.energies q (unwrap_or v (pos 0)) i) (updated_off p price t.prices q (other_period t p q open_still e)));
      }

  pub post_stands : (t : Tally) (L : Held) (m n : Meaning) (e : MemberEnergy) (line : ℕ) → Stands t L m → Posts o L e line (Ok tt) m n → Stands (with_energy t line e) L n
  post_stands t L m n e line st posts =
      let a = energy_accepted o L m e line posts.answer in
      let open_still : t.settled e.period ≡ false = sym (st.settled e.period a.there) ∙ a.open_still in
      record {
        a_mark_each = st.a_mark_each;
        an_account_each = st.an_account_each;
        prices = st.prices;
        settled = st.settled;
        cells = λ l q. ap (λ b. b.cell l q) posts.outcome ∙ ap (λ c. cond (eqb l line && eqb q e.period) (Some e.kwh) c) (st.cells l q);
        figures = st.figures;
        small_prices = st.small_prices;
        sums = λ i k f. st.sums i k f
            ∙ sum_kept t (with_energy t line e) i f (λ q. refl)
            (λ q s. same_gain o rule (with_cell t.energies line e.period e.kwh) t.energies q (price_in o rule t q) i (λ l. cell_off t.energies line e.period e.kwh l q (other_period t e.period q open_still s)));
      }

  -- ---- opening, and a change of the book that keeps its cells

  pub opening_stands : (lent L : Held) (m : Meaning) → Opens o (Ok tt) lent L → EmptyBook m → Stands empty L m
  opening_stands lent L m opens no_cells =
      let fits = then_parts (figures_verdict nobody o) _ tt (sym opens.answer) in
      let marks : L.marks ≡ replicate (periods_of o) Unpriced = ap (λ K. K.marks) opens.outcome in
      let accounts : L.accounts ≡ replicate o.members nothing = ap (λ K. K.accounts) opens.outcome in
      let mark : (p : ℕ) → p < periods_of o → get_or L.marks p Unpriced ≡ Unpriced = λ p h. ap (λ ms. get_or ms p Unpriced) marks ∙ get_or-replicate (periods_of o) p Unpriced Unpriced h in
      record {
        a_mark_each = ap length marks ∙ length-replicate (periods_of o) Unpriced;
        an_account_each = ap length accounts ∙ length-replicate o.members nothing;
        prices = λ p h. ap price_at (mark p h);
        settled = λ p h. ap is_settled (mark p h);
        cells = no_cells;
        figures = unless_passed (figures_fit o) _ fits.1;
        small_prices = λ p h. ap mark_in_range (mark p h);
        sums = λ i h f. ap (λ xs. figure f (get_or xs i nothing)) accounts ∙ ap (figure f) (get_or-replicate o.members i nothing nothing h) ∙ figure_nothing f ∙ sym (sum_zero (periods_of o));
      }

  pub changed_stands : (t : Tally) (L : Held) (m n : Meaning) → Stands t L m → SameCells m n → Stands t L n
  changed_stands t L m n st same =
      record {
        a_mark_each = st.a_mark_each;
        an_account_each = st.an_account_each;
        prices = st.prices;
        settled = st.settled;
        cells = λ l p. same.cells l p ∙ st.cells l p;
        figures = st.figures;
        small_prices = st.small_prices;
        sums = st.sums;
      }
