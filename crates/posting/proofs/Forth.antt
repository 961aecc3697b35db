-- Bytes that are read as a posting are its record.
use Rattle.std.proofs.Common.{◌≡◌, ℕ, zero, suc, ◌+◌, ◌/◌, ◌%◌, ◌^◌, ◌<◌, ◌≤◌, Bool, true, false, cond, eqb, leb, List, [], ◌∷◌, ◌++◌, length, ℤ, pos, negsuc, Some, None, Option, unwrap_or, sym, refl, ap, ◌∙◌, subst, arith, w32, SFits}
use Rattle.std.specs.Option.{option_map, option_and_then}
use Rattle.posting.specs.declared.kind.Kind.{Kind}
use Rattle.posting.specs.declared.kind.Kind.TheVariants as kinds
use Rattle.std.proofs.lemmas.Bool.{eqb-true, leb-true, cond_both}
use Rattle.std.proofs.lemmas.Bool.Decides.{nat_tests}
use Rattle.posting.specs.declared.posting.MemberEnergy.{MemberEnergy}
use Rattle.posting.specs.declared.posting.Posting.{Posting}
use Rattle.posting.specs.declared.posting.Posting.TheVariants.{Opening, Schedule, Reading, Price, Figures, Settle, Reopen}
use Rattle.posting.specs.Bytes.{byte_at, two, two_at, signed_at, signed_four}
use Rattle.posting.specs.Kinds.{kind_byte, kind_told}
use Rattle.posting.specs.Encoding.{energy_fields, flag_of, bid_or_zero, body_of}
use Rattle.posting.specs.Reading.{if_long, opening_at, opening_in, energy_at, energy_in, price_in, period_in, activation_at, activations_at, bid_in, both, bids_in, figures_at, figures_in, fields_in, posting_in}
use Rattle.posting.specs.Laws.{ProperEnergy, ProperActivation, ProperActivations, ProperBid, Proper}
use Rattle.posting.proofs.Numbers.{Bytes, spelled, two_small, four_small, eight_small, signed_small, two_of, four_of, eight_of, signed_of}

pub same_some : {X : Type 0} (x y : X) → Some x ≡ Some y → x ≡ y
same_some x y e = ap (λ o. unwrap_or o x) e

-- what is written of a posting is this body, and each field fits
abbrev pub Writes : List ℕ → Posting → Type 0
Writes body p = (body_of p ≡ body) × Proper p

from_long : {X : Type 0} (size : ℕ) (fields : List ℕ) (x y : X) → if_long size fields x ≡ Some y → (length fields ≡ size) × (x ≡ y)
from_long size fields x y =
    cond_both (eqb (length fields) size) (Some x) None (λ o. o ≡ Some y → (length fields ≡ size) × (x ≡ y))
    (λ e h. (eqb-true (length fields) size e, same_some x y h))
    (λ e h. cc)

-- the same of a value that a posting is made of
from_mapped : {X : Type 0} (make : X → Posting) (size : ℕ) (fields : List ℕ) (x : X) (p : Posting) → option_map make (if_long size fields x) ≡ Some p → (length fields ≡ size) × (make x ≡ p)
from_mapped make size fields x p =
    cond_both (eqb (length fields) size) (Some x) None (λ o. option_map make o ≡ Some p → (length fields ≡ size) × (make x ≡ p))
    (λ e h. (eqb-true (length fields) size e, same_some (make x) p h))
    (λ e h. cc)

module _ (fields : List ℕ) (bytes : Bytes fields) where
  opening_forth : length fields ≡ 14 → Writes (0 ∷ fields) (Opening (opening_at fields))
  opening_forth long =
      let consumers = eight_of fields bytes 2 in
      let price = signed_of fields bytes 10 in (
        (λ i. 0 ∷ byte_at fields 0 ∷ byte_at fields 1 ∷ (consumers i ++ price i)) ∙ ap (λ xs. 0 ∷ xs) (spelled 14 fields long),
        record {
          members = bytes 0;
          days = bytes 1;
          consumers = eight_small fields bytes 2;
          price = signed_small fields bytes 10;
        },
      )

  energy_forth : length fields ≡ 7 → (energy_fields (energy_at fields) ≡ fields) × ProperEnergy (energy_at fields)
  energy_forth long =
      let period = two_of fields bytes 1 in
      let kwh = four_of fields bytes 3 in (
        (λ i. byte_at fields 0 ∷ (period i ++ kwh i)) ∙ spelled 7 fields long,
        record { member = bytes 0; period = two_small fields bytes 1; kwh = four_small fields bytes 3 },
      )

  price_forth : length fields ≡ 6 → Writes (3 ∷ fields) (Price (two_at fields 0) (signed_at fields 2))
  price_forth long =
      let period = two_of fields bytes 0 in
      let price = signed_of fields bytes 2 in
      ((λ i. 3 ∷ (period i ++ price i)) ∙ ap (λ xs. 3 ∷ xs) (spelled 6 fields long), (two_small fields bytes 0, signed_small fields bytes 2))

  period_forth : length fields ≡ 2 → (two (two_at fields 0) ≡ fields) × (two_at fields 0 < 2 ^ 16)
  period_forth long = (two_of fields bytes 0 ∙ spelled 2 fields long, two_small fields bytes 0)

  activation_proper : (k : ℕ) → ProperActivation (activation_at fields k)
  activation_proper k = record { kwh = four_small fields bytes k; price = signed_small fields bytes (k + 4) }

  activations_proper : (k : ℕ) → ProperActivations (activations_at fields k)
  activations_proper k =
      record { automatic = activation_proper k; manual = activation_proper (k + 8); replacement = activation_proper (k + 16) }

-- a bid as it stands, and its part of the flags
abbrev Stands : Bool → ℤ → ℕ → Option ℤ → Type 0
Stands flagged price weight bid = (bid_or_zero bid ≡ price) × (flag_of weight bid ≡ cond flagged weight 0) × ProperBid bid

bid_forth : (flagged : Bool) (price : ℤ) (weight : ℕ) (bid : Option ℤ) → SFits w32 price → bid_in flagged price ≡ Some bid → Stands flagged price weight bid
bid_forth true price weight bid fits e = subst (Stands true price weight) (same_some (Some price) bid e) (refl, refl, fits)
bid_forth false (pos zero) weight bid fits e = subst (Stands false (pos 0) weight) (same_some None bid e) (refl, refl, tt)
bid_forth false (pos (suc n)) weight bid fits e = cc
bid_forth false (negsuc n) weight bid fits e = cc

mapped_some : {X Y : Type 0} (make : X → Y) (o : Option X) (y : Y) → option_map make o ≡ Some y → (x : X) × (o ≡ Some x) × (make x ≡ y)
mapped_some make None y e = cc
mapped_some make (Some x) y e = (x, refl, same_some (make x) y e)

both_some : {X Y : Type 0} (a : Option X) (b : Option Y) (p : X × Y) → both a b ≡ Some p → (a ≡ Some p.0) × (b ≡ Some p.1)
both_some None b p e = cc
both_some (Some x) None p e = cc
both_some (Some x) (Some y) p e =
    let is = same_some (x, y) p e in
    (ap (λ q. Some q.0) is, ap (λ q. Some q.1) is)

bids_forth : (flags : ℕ) (downward upward : ℤ) (bids : Option ℤ × Option ℤ) → SFits w32 downward → SFits w32 upward → bids_in flags downward upward ≡ Some bids → (flags ≤ 3) × Stands (eqb (flags % 2) 1) downward 1 bids.0 × Stands (eqb (flags / 2) 1) upward 2 bids.1
bids_forth flags downward upward bids down up =
    cond_both (leb flags 3) _ None (λ o. o ≡ Some bids → (flags ≤ 3) × Stands (eqb (flags % 2) 1) downward 1 bids.0 × Stands (eqb (flags / 2) 1) upward 2 bids.1)
    (λ e h.
    let found = both_some (bid_in (eqb (flags % 2) 1) downward) (bid_in (eqb (flags / 2) 1) upward) bids h in (
      leb-true flags 3 e,
      bid_forth _ downward 1 bids.0 down found.0,
      bid_forth _ upward 2 bids.1 up found.1,
    ))
    (λ e h. cc)

flags_join : (flags : ℕ) → flags ≤ 3 → cond (eqb (flags % 2) 1) 1 0 + cond (eqb (flags / 2) 1) 2 0 ≡ flags
flags_join flags few = grind (arith, nat_tests)

module _ (fields : List ℕ) (bytes : Bytes fields) where
  figures_forth : length fields ≡ 67 → byte_at fields 54 ≤ 3 → (down up : Option ℤ) → Stands (eqb (byte_at fields 54 % 2) 1) (signed_at fields 55) 1 down → Stands (eqb (byte_at fields 54 / 2) 1) (signed_at fields 59) 2 up → Writes (4 ∷ fields) (Figures (two_at fields 0) (figures_at fields down up))
  figures_forth long few down up is_down is_up =
      let period = two_of fields bytes 0 in
      let imbalance = signed_of fields bytes 2 in
      let kwh0 = four_of fields bytes 6 in
      let price0 = signed_of fields bytes 10 in
      let kwh1 = four_of fields bytes 14 in
      let price1 = signed_of fields bytes 18 in
      let kwh2 = four_of fields bytes 22 in
      let price2 = signed_of fields bytes 26 in
      let kwh3 = four_of fields bytes 30 in
      let price3 = signed_of fields bytes 34 in
      let kwh4 = four_of fields bytes 38 in
      let price4 = signed_of fields bytes 42 in
      let kwh5 = four_of fields bytes 46 in
      let price5 = signed_of fields bytes 50 in
      let flags = (λ i. is_down.1 i + is_up.1 i) ∙ flags_join (byte_at fields 54) few in
      let downward_bid = ap signed_four is_down.0 ∙ signed_of fields bytes 55 in
      let upward_bid = ap signed_four is_up.0 ∙ signed_of fields bytes 59 in
      let index = signed_of fields bytes 63 in (
        (λ i. 4 ∷ (period i ++ (imbalance i
            ++ ((kwh0 i ++ price0 i) ++ ((kwh1 i ++ price1 i) ++ (kwh2 i ++ price2 i))
            ++ (((kwh3 i ++ price3 i) ++ ((kwh4 i ++ price4 i) ++ (kwh5 i ++ price5 i)))
            ++ ((flags i ∷ (downward_bid i ++ upward_bid i)) ++ index i))))))
            ∙ ap (λ xs. 4 ∷ xs) (spelled 67 fields long),
        (
          two_small fields bytes 0,
          record {
            imbalance = signed_small fields bytes 2;
            downward = activations_proper fields bytes 6;
            upward = activations_proper fields bytes 30;
            downward_bid = is_down.2;
            upward_bid = is_up.2;
            index = signed_small fields bytes 63;
          },
        ),
      )

  figures_in_forth : (p : Posting) → figures_in fields ≡ Some p → Writes (4 ∷ fields) p
  figures_in_forth p =
      let make : Option ℤ × Option ℤ → Posting = λ bids. Figures (two_at fields 0) (figures_at fields bids.0 bids.1) in
      cond_both (eqb (length fields) 67) _ None (λ o. o ≡ Some p → Writes (4 ∷ fields) p)
      (λ e h.
      let found = mapped_some make (bids_in (byte_at fields 54) (signed_at fields 55) (signed_at fields 59)) p h in
      let stand = bids_forth (byte_at fields 54) (signed_at fields 55) (signed_at fields 59) found.0 (signed_small fields bytes 55) (signed_small fields bytes 59) found.1 in
      subst (Writes (4 ∷ fields)) found.2
      (figures_forth (eqb-true (length fields) 67 e) stand.0 found.0.0 found.0.1 stand.1 stand.2))
      (λ e h. cc)

  energy_in_forth : (kind : ℕ) (make : MemberEnergy → Posting) (p : Posting) → ((e : MemberEnergy) → body_of (make e) ≡ kind ∷ energy_fields e) → ((e : MemberEnergy) → ProperEnergy e → Proper (make e)) → option_map make (energy_in fields) ≡ Some p → Writes (kind ∷ fields) p
  energy_in_forth kind make p body proper h =
      let found = from_mapped make 7 fields (energy_at fields) p h in
      let forth = energy_forth fields bytes found.0 in
      subst (Writes (kind ∷ fields)) found.1
      (body (energy_at fields) ∙ ap (λ xs. kind ∷ xs) forth.0, proper (energy_at fields) forth.1)

  period_in_forth : (kind : ℕ) (make : ℕ → Posting) (p : Posting) → ((n : ℕ) → body_of (make n) ≡ kind ∷ two n) → ((n : ℕ) → n < 2 ^ 16 → Proper (make n)) → option_map make (period_in fields) ≡ Some p → Writes (kind ∷ fields) p
  period_in_forth kind make p body proper h =
      let found = from_mapped make 2 fields (two_at fields 0) p h in
      let forth = period_forth fields bytes found.0 in
      subst (Writes (kind ∷ fields)) found.1
      (body (two_at fields 0) ∙ ap (λ xs. kind ∷ xs) forth.0, proper (two_at fields 0) forth.1)

  opening_in_forth : (p : Posting) → option_map Opening (opening_in fields) ≡ Some p → Writes (0 ∷ fields) p
  opening_in_forth p h =
      let found = from_mapped Opening 14 fields (opening_at fields) p h in
      subst (Writes (0 ∷ fields)) found.1 (opening_forth fields bytes found.0)

  price_in_forth : (p : Posting) → price_in fields ≡ Some p → Writes (3 ∷ fields) p
  price_in_forth p h =
      let found = from_long 6 fields (Price (two_at fields 0) (signed_at fields 2)) p h in
      subst (Writes (3 ∷ fields)) found.1 (price_forth fields bytes found.0)

  kind_forth : (kind : Kind) (p : Posting) → fields_in kind fields ≡ Some p → Writes (kind_byte kind ∷ fields) p
  kind_forth kinds.Opening p h = opening_in_forth p h
  kind_forth kinds.Schedule p h = energy_in_forth 1 Schedule p (λ _. refl) (λ _ w. w) h
  kind_forth kinds.Reading p h = energy_in_forth 2 Reading p (λ _. refl) (λ _ w. w) h
  kind_forth kinds.Price p h = price_in_forth p h
  kind_forth kinds.Figures p h = figures_in_forth p h
  kind_forth kinds.Settle p h = period_in_forth 5 Settle p (λ _. refl) (λ _ w. w) h
  kind_forth kinds.Reopen p h = period_in_forth 6 Reopen p (λ _. refl) (λ _ w. w) h

-- the byte that tells a kind is its own
told_back : (byte : ℕ) (kind : Kind) → kind_told byte ≡ Some kind → byte ≡ kind_byte kind
told_back byte kind e = grind (arith, nat_tests)

from_told : (fields : List ℕ) → Bytes fields → (byte : ℕ) (told : Option Kind) → kind_told byte ≡ told → (p : Posting) → option_and_then (λ kind. fields_in kind fields) told ≡ Some p → Writes (byte ∷ fields) p
from_told fields bytes byte None e p h = cc
from_told fields bytes byte (Some kind) e p h =
    subst (λ n. Writes (n ∷ fields) p) (sym (told_back byte kind e)) (kind_forth fields bytes kind p h)

pub body_forth : (body : List ℕ) → Bytes body → (p : Posting) → posting_in body ≡ Some p → Writes body p
body_forth [] bytes p e = cc
body_forth (byte ∷ fields) bytes p e = from_told fields (λ i. bytes (suc i)) byte (kind_told byte) refl p e
