-- After i digits the number is below 10 to the i, and what follows makes of it what the word writes.
use Rattle.std.proofs.Common.{◌≡◌, ◌^◌, ◌<◌, drop}
use Rattle.description.specs.Numbers.{digits_after}
use Rattle.description.proofs.numbers.unsigned.Given as goal

abbrev pub invariant-loop-byte : goal.invariant-loop-byte
invariant-loop-byte l = (l.number < 10 ^ l.byte-index) × (digits_after l.number (drop l.byte-index l.word) ≡ digits_after 0 l.word)
