-- What a keyed list holds, and what entering does to it.
use Rattle.std.specs.Prelude.{ℕ, ◌-◌, Bool, cond, not, ◌&&◌, is_some, Some, None, Ok, Err, Option, Result, ◌==◌, nat_le}

pub record Contents (K X : Type 0) : Type 0 where
  -- the content that was entered last under a key
  pub under : K → Option X
  -- how many new keys may still be entered
  pub spare : ℕ

-- how many entries the memory of a list may have
abbrev pub most_entries : ℕ
most_entries = 65535

abbrev pub fits_list : ℕ → Bool
fits_list size = nat_le 1 size && nat_le size most_entries

abbrev pub nothing_under : {K X : Type 0} → ℕ → Contents K X
nothing_under spare = record { under = λ _. None; spare = spare }

-- a new list over memory of some size: memory that does not fit gives no room
abbrev pub new_list : {K X : Type 0} → ℕ → Contents K X
new_list size = nothing_under (cond (fits_list size) size 0)

module _ {K X : Type 0} (same : K → K → Bool) (held : Contents K X) (key : K) where
  -- every entry is used, and the key is a new one
  abbrev pub lacks_room : Bool
  lacks_room = not (is_some (held.under key)) && held.spare == 0

  -- the key's content is replaced, and no other's; a new key takes one from spare
  abbrev pub entered : X → Contents K X
  entered content = record {
    under = λ k. cond (same k key) (Some content) (held.under k);
    spare = cond (is_some (held.under key)) held.spare (held.spare - 1);
  }

  -- the answer to an entry, by what is to be answered where there is no room
  abbrev pub put_verdict : {E : Type 0} → E → Result (Unit {0}) E
  put_verdict full = cond lacks_room (Err full) (Ok tt)

  -- a refused entry changes nothing
  abbrev pub put_outcome : X → Contents K X
  put_outcome content = cond lacks_room held (entered content)
