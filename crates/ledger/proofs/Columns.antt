-- The two columns of a sheet, written line by line.
use Rattle.std.proofs.Common.{◌≡◌, ℕ, ◌<◌, ◌≤◌, true, List, length, get_or, ℤ, is_some, Some, Ok, unwrap_or, sym, ap, ◌∙◌, arith}
use Rattle.std.proofs.lemmas.Bool.{and_from, lt-ltb, le-leb}
use Rattle.charging.specs.Limits.{energy_limit}
use Rattle.posting.specs.declared.posting.Opening.{Opening}
use Rattle.sharing.specs.Verdict.{most_members}
use Rattle.sheet.specs.declared.line.SheetLine.{SheetLine}
use Rattle.sheet.specs.Lines.{sheet_of}
use Rattle.ledger.specs.declared.entries.Mark.TheVariants.{Unpriced}
use Rattle.ledger.specs.Booking.{brought, no_line}
use Rattle.ledger.specs.Calls.{Does, Drawn, Lists, Written, draw_verdict}
use Rattle.ledger.specs.Energies.{Energies, LawfulRule, Sharing, all_known, gain, positions_of}
use Rattle.ledger.specs.Judgement.{Held, periods_of}
use Rattle.ledger.specs.Marks.{price_at}
use Rattle.ledger.proofs.Gains.{sheet_long, line_brings}

-- the same entries, told otherwise
written_same : (m n : ℕ) (f g : ℕ → ℤ) (before after : List ℤ) → m ≡ n → ((i : ℕ) → i < n → f i ≡ g i) → Written m f before after → Written n g before after
written_same m n f g before after e same w =
    record {
      same_length = w.same_length;
      entries = λ i h. w.entries i (omega arith) ∙ same i h;
      others = λ i h. w.others i (omega arith);
    }

module _ (o : Opening) (E : Energies) (p : ℕ) (L : Held) (out : Lists) where
  sheet_accepted : (price : ℤ) → p < periods_of o → Some price ≡ price_at (get_or L.marks p Unpriced) → all_known o.members E p ≡ Ok tt → o.members ≤ length out.inside → o.members ≤ length out.outside → Ok tt ≡ draw_verdict o L E p out
  sheet_accepted price h v known inside outside =
      let a = lt-ltb p (periods_of o) h in
      let b : is_some (price_at (get_or L.marks p Unpriced)) ≡ true = ap is_some (sym v) in
      let d = and_from _ _ (le-leb o.members (length out.inside) inside) (le-leb o.members (length out.outside) outside) in
      cc

  pub drawn_sheet : (few : o.members ≤ most_members) (small : (line period : ℕ) → unwrap_or (E line period) 0 ≤ energy_limit) (rule : Sharing) (law : LawfulRule rule)
      (price at : ℤ) (lines : List SheetLine) (ins outs : List ℤ) → lines ≡ sheet_of rule o.internal_price at (positions_of o E p)
      → p < periods_of o → Some price ≡ price_at (get_or L.marks p Unpriced) → all_known o.members E p ≡ Ok tt → o.members ≤ length out.inside → o.members ≤ length out.outside
      → Written (length lines) (λ i. (get_or lines i no_line).netted_kwh) out.inside ins → Written (length lines) (λ i. (get_or lines i no_line).outside_kwh) out.outside outs
      → Does (draw_verdict o L E p out) (Drawn o rule E p) (Ok tt) out (record { inside = ins; outside = outs })
  drawn_sheet few small rule law price at lines ins outs is h v known inside outside one two =
      let long : length lines ≡ o.members = ap length is ∙ sheet_long o E p few small rule law at in
      let brings : (i : ℕ) → i < o.members → brought (get_or lines i no_line) ≡ gain o rule E p at i = λ i k. ap (λ l. brought (get_or l i no_line)) is ∙ line_brings o E p few small rule law at i k in
      record {
        answer = sheet_accepted price h v known inside outside;
        outcome = record {
          inside_is = written_same (length lines) o.members _ _ out.inside ins long (λ i k. ap (λ a. a.inside_kwh) (brings i k)) one;
          outside_is = written_same (length lines) o.members _ _ out.outside outs long (λ i k. ap (λ a. a.outside_kwh) (brings i k)) two;
        };
      }
