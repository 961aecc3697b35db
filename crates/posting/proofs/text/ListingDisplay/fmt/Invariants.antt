use Rattle.std.proofs.Common.{◌≡◌, ℕ, List, ◌++◌}
use Rattle.std.specs.Fmt.{IsPlainFormatter, HasWritten}
use Rattle.posting.specs.File.{contents_left}
use Rattle.posting.specs.Text.{contents_text, listing_text}
use Rattle.posting.proofs.text.ListingDisplay.fmt.Given as goal

-- what is written so far, and the text of what is left, are the listing
abbrev pub invariant-loop-step : goal.invariant-loop-step
invariant-loop-step g l =
    IsPlainFormatter l.initial.f
    → (so_far : List ℕ) × HasWritten g.W.Write.write_str_gives l.initial.f so_far l.f × (so_far ++ contents_text (contents_left l.step-iterator) ≡ listing_text l.self.0.now)
