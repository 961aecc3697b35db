-- What is left of the chain comes to what the whole chain comes to.
use Rattle.std.proofs.Common.{◌≡◌, ◌+◌, ◌<◌, length}
use Rattle.keyed.specs.Memory.{chained, is_of, older_at, place_of}
use Rattle.keyed.proofs.list.KeyedList.search.Given as goal

abbrev pub invariant-loop-memory : goal.invariant-loop-memory
invariant-loop-memory g l =
    (l.place < length l.memory)
    × (chained (is_of l.memory g.K.Key.same l.key) (older_at l.memory) (l.place + 1) l.place
    ≡ place_of l.memory g.K.Key.same g.K.Key.spread l.self.used l.key)

abbrev pub decreases-loop-memory : goal.decreases-loop-memory
decreases-loop-memory g l = l.place
