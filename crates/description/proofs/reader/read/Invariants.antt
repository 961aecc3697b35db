-- The parts that are left describe, from the draft on, what the text describes.
use Rattle.std.proofs.Common.{◌≡◌, ◌+◌, length, drop}
use Rattle.std.specs.List.{slice_split}
use Rattle.description.specs.Words.{ends_line}
use Rattle.description.specs.Figures.{quarter_after, quarter_described}
use Rattle.description.proofs.reader.read.Given as goal

abbrev pub invariant-loop-index : goal.invariant-loop-index
invariant-loop-index l =
    quarter_after (length l.yielded + 1) l.draft (drop (length l.yielded) (slice_split ends_line l.text)) ≡ quarter_described l.text
