-- A posting is read back from its own record.
use Rattle.std.proofs.Common.{◌≡◌, ℕ, ◌+◌, ◌^◌, ◌<◌, List, ◌++◌, length, take, ℤ, Some, None, Ok, Err, Option, refl, ap, ◌∙◌, arith, length-append}
use Rattle.pricing.specs.declared.figures.Activation.{Activation}
use Rattle.pricing.specs.declared.figures.Activations.{Activations}
use Rattle.pricing.specs.declared.figures.SystemFigures.{SystemFigures}
use Rattle.std.proofs.lemmas.List.{take_at}
use Rattle.std.proofs.lemmas.Bool.{le-leb, cond-true}
use Rattle.posting.specs.declared.posting.Posting.{Posting}
use Rattle.posting.specs.declared.posting.Posting.TheVariants.{Opening, Schedule, Reading, Price, Figures, Settle, Reopen}
use Rattle.posting.specs.Bytes.{two, signed_four, two_at, signed_at}
use Rattle.posting.specs.Encoding.{activation_fields, activations_fields, body_of, encoded}
use Rattle.posting.specs.Reading.{activation_at, activations_at, posting_in, cut_short, sized, record_in}
use Rattle.posting.specs.Laws.{ProperActivation, ProperActivations, ProperFigures, Proper}
use Rattle.posting.proofs.Numbers.{two_back, four_back, eight_back, signed_back}

-- a body behind its length is read as the body
framed : (body rest : List ℕ) → length body < 2 ^ 16 → record_in ((two (length body) ++ body) ++ rest) ≡ sized (2 + length body) (posting_in body)
framed body rest small =
    let n : ℕ = length body in
    let all : List ℕ = (two n ++ body) ++ rest in
    let told : two_at all 0 ≡ n = two_back n small in
    let whole = take_at body rest n refl in
    cond-true _ _ (Err cut_short) (le-leb (2 + two_at all 0) (length all) (omega (arith, length-append body rest)))
    ∙ ap (λ m. sized (2 + m) (posting_in (take m (body ++ rest)))) told
    ∙ ap (λ b. sized (2 + n) (posting_in b)) whole

activation_back : (a : Activation) → ProperActivation a → activation_at (activation_fields a) 0 ≡ a
activation_back a h =
    let x = four_back a.kwh h.kwh in
    let y = signed_back a.price h.price in
    λ i. record { kwh = x i; price = y i }

activations_back : (a : Activations) → ProperActivations a → activations_at (activations_fields a) 0 ≡ a
activations_back a h =
    let x = activation_back a.automatic h.automatic in
    let y = activation_back a.manual h.manual in
    let z = activation_back a.replacement h.replacement in
    λ i. record { automatic = x i; manual = y i; replacement = z i }

-- figures with these bids
abbrev with_bids : SystemFigures → Option ℤ → Option ℤ → SystemFigures
with_bids f downward upward = record {
  imbalance_kwh = f.imbalance_kwh;
  downward = f.downward;
  upward = f.upward;
  downward_bid = downward;
  upward_bid = upward;
  index = f.index;
}

module _ (period : ℕ) (f : SystemFigures) (small : period < 2 ^ 16) where
  rest_back : (down downward up upward : Option ℤ) → down ≡ downward → up ≡ upward → ProperFigures (with_bids f downward upward) → Some (Figures (two_at (two period) 0) (record {
    imbalance_kwh = signed_at (signed_four f.imbalance_kwh) 0;
    downward = activations_at (activations_fields f.downward) 0;
    upward = activations_at (activations_fields f.upward) 0;
    downward_bid = down;
    upward_bid = up;
    index = signed_at (signed_four f.index) 0;
  })) ≡ Some (Figures period (with_bids f downward upward))
  rest_back down downward up upward is_down is_up h =
      let p = two_back period small in
      let g = signed_back f.imbalance_kwh h.imbalance in
      let d = activations_back f.downward h.downward in
      let u = activations_back f.upward h.upward in
      let x = signed_back f.index h.index in
      λ i. Some (Figures (p i) (record {
        imbalance_kwh = g i;
        downward = d i;
        upward = u i;
        downward_bid = is_down i;
        upward_bid = is_up i;
        index = x i;
      }))

  -- the flags tell which bids are there
  figures_back : (downward upward : Option ℤ) → ProperFigures (with_bids f downward upward) → posting_in (body_of (Figures period (with_bids f downward upward))) ≡ Some (Figures period (with_bids f downward upward))
  figures_back None None h = rest_back None None None None refl refl h
  figures_back None (Some up) h = rest_back None None _ (Some up) refl (ap Some (signed_back up h.upward_bid)) h
  figures_back (Some down) None h = rest_back _ (Some down) None None (ap Some (signed_back down h.downward_bid)) refl h
  figures_back (Some down) (Some up) h =
      rest_back _ (Some down) _ (Some up) (ap Some (signed_back down h.downward_bid)) (ap Some (signed_back up h.upward_bid)) h

body_back : (p : Posting) → Proper p → posting_in (body_of p) ≡ Some p
body_back (Opening o) h =
    let x = eight_back o.consumers h.consumers in
    let y = signed_back o.internal_price h.price in
    λ i. Some (Opening (record { members = o.members; days = o.days; consumers = x i; internal_price = y i }))
body_back (Schedule e) h =
    let x = two_back e.period h.period in
    let y = four_back e.kwh h.kwh in
    λ i. Some (Schedule (record { member = e.member; period = x i; kwh = y i }))
body_back (Reading e) h =
    let x = two_back e.period h.period in
    let y = four_back e.kwh h.kwh in
    λ i. Some (Reading (record { member = e.member; period = x i; kwh = y i }))
body_back (Price period price) h =
    let x = two_back period h.0 in
    let y = signed_back price h.1 in
    λ i. Some (Price (x i) (y i))
body_back (Figures period f) h = figures_back period f h.0 f.downward_bid f.upward_bid h.1
body_back (Settle period) h = ap (λ n. Some (Settle n)) (two_back period h)
body_back (Reopen period) h = ap (λ n. Some (Reopen n)) (two_back period h)

body_small : (p : Posting) → length (body_of p) < 2 ^ 16
body_small (Opening o) = omega arith
body_small (Schedule e) = omega arith
body_small (Reading e) = omega arith
body_small (Price period price) = omega arith
body_small (Figures period f) = omega arith
body_small (Settle period) = omega arith
body_small (Reopen period) = omega arith

pub back : (p : Posting) (rest : List ℕ) → Proper p → record_in (encoded p ++ rest) ≡ Ok (record { posting = p; size = length (encoded p) })
back p rest h =
    let long : 2 + length (body_of p) ≡ length (encoded p) = omega arith in
    framed (body_of p) rest (body_small p) ∙ (λ i. sized (long i) (body_back p h i))
