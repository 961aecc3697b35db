-- What a keyed list holds, by its memory.
use Rattle.std.specs.Prelude.{ℕ, Bool, cond, length, None, Option}
use Rattle.keyed.specs.declared.list.KeyedList.{KeyedList}
use Rattle.keyed.specs.Contents.{Contents, fits_list}
use Rattle.keyed.specs.Memory.{held, place_of}

module _ {K X : Type 0} (same : K → K → Bool) (spread : K → ℕ) (list : KeyedList K X) where
  abbrev pub contents : Contents K X
  contents = held list.memory.now same spread list.used

  -- the place of a key's entry
  abbrev pub place_in : K → Option ℕ
  place_in key = cond (fits_list (length list.memory.now)) (place_of list.memory.now same spread list.used key) None
