-- How the memory of a keyed list holds its entries, and how one is found in it.
use Rattle.std.specs.Prelude.{ℕ, zero, suc, ◌+◌, ◌-◌, ◌%◌, Bool, false, cond, ◌&&◌, List, map, length, Some, None, Option, ◌==◌, nat_lt, slice_index, slice_index_or}
use Rattle.std.specs.List.{slice_get}
use Rattle.keyed.specs.declared.entry.Entry.{Entry}
use Rattle.keyed.specs.Contents.{Contents, fits_list, nothing_under}

-- A chain of entries leads from a place to ever lower ones. Where on it the test holds first: n is how many entries to look at.
abbrev pub chained : (ℕ → Bool) → (ℕ → ℕ) → ℕ → ℕ → Option ℕ
chained test older zero place = None
chained test older (suc n) place =
    cond (test place) (Some place)
    (cond (nat_lt (older place) place) (chained test older n (older place)) None)

abbrev pub chained_from : (ℕ → Bool) → (ℕ → ℕ) → Option ℕ → Option ℕ
chained_from test older None = None
chained_from test older (Some place) = chained test older (place + 1) place

-- Where the chain that starts at a place begins: at its newest entry, if that is among the first `used` and is of a key that starts there.
abbrev pub beginning : (ℕ → ℕ) → (ℕ → ℕ) → ℕ → ℕ → Option ℕ
beginning newest start used place =
    cond (nat_lt (newest place) used && start (newest place) == place) (Some (newest place)) None

module _ {K X : Type 0} (memory : List (Entry K X)) where
  -- what an entry says: whether it is a key's, at which place that key's search starts, and which entry of the chain is older
  abbrev pub is_of : (K → K → Bool) → K → ℕ → Bool
  is_of same key place = slice_index_or (map (λ e. same key e.key) memory) place false

  abbrev pub start_at : ℕ → ℕ
  start_at place = slice_index (map (λ e. e.start) memory) place

  abbrev pub older_at : ℕ → ℕ
  older_at place = slice_index (map (λ e. e.older) memory) place

  -- the newest entry of the keys whose search starts at a place
  abbrev pub newest_at : ℕ → ℕ
  newest_at place = slice_index (map (λ e. e.newest) memory) place

  abbrev pub content_at : Option ℕ → Option X
  content_at None = None
  content_at (Some place) = slice_get (map (λ e. e.content) memory) place

  -- the first `used` entries are the list
  abbrev pub newest_from : ℕ → ℕ → Option ℕ
  newest_from used start = beginning newest_at start_at used start

  abbrev pub found_from : (K → K → Bool) → ℕ → K → ℕ → Option ℕ
  found_from same used key start = chained_from (is_of same key) older_at (newest_from used start)

  abbrev pub place_of : (K → K → Bool) → (K → ℕ) → ℕ → K → Option ℕ
  place_of same spread used key = found_from same used key (spread key % length memory)

  abbrev pub held_in : (K → K → Bool) → (K → ℕ) → ℕ → Contents K X
  held_in same spread used = record { under = λ key. content_at (place_of same spread used key); spare = length memory - used }

  -- what the list holds
  abbrev pub held : (K → K → Bool) → (K → ℕ) → ℕ → Contents K X
  held same spread used = cond (fits_list (length memory)) (held_in same spread used) (nothing_under 0)

-- an entry with another link to the newest of the chain that starts at its place
abbrev pub with_newest : {K X : Type 0} → Entry K X → ℕ → Entry K X
with_newest e newest = record { key = e.key; content = e.content; start = e.start; older = e.older; newest = newest }
