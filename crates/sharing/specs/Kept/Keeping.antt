-- What follows from the law of rules: a second rule, a cut set, and that what a rule leaves is accepted again.
use Rattle.std.specs.Prelude.{◌≡◌, ℕ, ◌/◌, ◌%◌, ◌^◌, ◌<◌, ◌≤◌, false, List, length, ℤ, pos, negsuc, Ok, bit_and, nat_eq, unsigned_abs}
use Rattle.std.proofs.Common.{ap, ◌∙◌, inl, inr, arith}
use Rattle.std.proofs.lemmas.Nat.{and_shr, and_mod}
use Rattle.std.proofs.lemmas.Int.{ints}
use Rattle.std.proofs.lemmas.Bool.{eqb-false}
use Rattle.sharing.specs.Law.{FromZeroTo, Lawful}
use Rattle.sharing.specs.Rests.{in_set}
use Rattle.sharing.specs.Verdict.{verdict}
use Rattle.sharing.specs.Kept.Accepting.{accepts, accepted_parts, in_range_at, in_range_from}

toward_trans : (x y z : ℤ) → FromZeroTo x y → FromZeroTo y z → FromZeroTo x z
toward_trans x y z (inl a) (inl b) = inl (omega (arith, ints))
toward_trans x y z (inl a) (inr b) = inl (omega (arith, ints))
toward_trans x y z (inr a) (inl b) = inr (omega (arith, ints))
toward_trans x y z (inr a) (inr b) = inr (omega (arith, ints))

pub lawful_then : (s : ℕ) (xs ys zs : List ℤ) → Lawful s xs ys → Lawful s ys zs → Lawful s xs zs
lawful_then s xs ys zs p q = record {
  same_length = q.same_length ∙ p.same_length;
  outside_kept = λ i h m. q.outside_kept i (omega (arith, p.same_length)) m ∙ p.outside_kept i h m;
  toward_zero = λ i h. toward_trans _ _ _ (p.toward_zero i h) (q.toward_zero i (omega (arith, p.same_length)));
  same_total = q.same_total ∙ p.same_total;
}

outside_cut : (s t i : ℕ) → in_set s i ≡ false → in_set (bit_and s t) i ≡ false
outside_cut s t i h =
    let n = eqb-false (s / 2 ^ i % 2) 1 h in
    let z : s / 2 ^ i % 2 ≡ 0 = omega arith in
    let e : bit_and s t / 2 ^ i % 2 ≡ 0 = rw (and_shr s t i) (and_mod (s / 2 ^ i) (t / 2 ^ i) 1 ∙ ap (λ k. bit_and k (t / 2 ^ i % 2)) z) in
    ap (λ k. nat_eq k 1) e

pub lawful_cut : (s t : ℕ) (xs ys : List ℤ) → Lawful (bit_and s t) xs ys → Lawful s xs ys
lawful_cut s t xs ys p = record {
  same_length = p.same_length;
  outside_kept = λ i h m. p.outside_kept i h (outside_cut s t i m);
  toward_zero = p.toward_zero;
  same_total = p.same_total;
}

toward_abs : (x y : ℤ) → FromZeroTo x y → unsigned_abs y ≤ unsigned_abs x
toward_abs (pos a) (pos b) (inl h) = omega (arith, ints)
toward_abs (pos a) (pos b) (inr h) = omega (arith, ints)
toward_abs (pos a) (negsuc b) (inl h) = omega (arith, ints)
toward_abs (pos a) (negsuc b) (inr h) = omega (arith, ints)
toward_abs (negsuc a) (pos b) (inl h) = omega (arith, ints)
toward_abs (negsuc a) (pos b) (inr h) = omega (arith, ints)
toward_abs (negsuc a) (negsuc b) (inl h) = omega (arith, ints)
toward_abs (negsuc a) (negsuc b) (inr h) = omega (arith, ints)

pub lawful_accepted : (s : ℕ) (xs ys : List ℤ) → Lawful s xs ys → verdict xs ≡ Ok tt → verdict ys ≡ Ok tt
lawful_accepted s xs ys p ok =
    let a = accepted_parts xs ok in
    let l = p.same_length in
    accepts ys (omega arith)
    (in_range_from ys (λ i h. let k : i < length xs = omega arith in omega (arith, toward_abs _ _ (p.toward_zero i k), in_range_at xs i k a.1)))
