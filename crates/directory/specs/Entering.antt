-- What a member directory holds, and what an entry does to it.
use Rattle.std.specs.Prelude.{ℕ, cond, Ok, Err, Result, nat_eq, nat_le}
use Rattle.refusal.specs.declared.layer.Layer.TheVariants.{Directory}
use Rattle.refusal.specs.declared.reason.Reason.TheVariants.{WrongLength, NoSuchMember, Full}
use Rattle.refusal.specs.declared.refused.Refusal.{Refusal}
use Rattle.refusal.specs.Numbers.{naming_nobody, no_member, of_member, refused}
use Rattle.keyed.specs.Contents.{Contents, fits_list, put_verdict, put_outcome}
use Rattle.keyed.specs.Lists.{contents}
use Rattle.directory.specs.declared.Directory.{Directory as MemberDirectory}

-- the members by their contract numbers
abbrev pub entries_of : MemberDirectory → Contents ℕ ℕ
entries_of directory = contents nat_eq (λ number. number) directory.members

-- the check before a directory is made in memory of some size
abbrev pub directory_check : ℕ → Result (Unit {0}) Refusal
directory_check size = cond (fits_list size) (Ok tt) (Err (naming_nobody WrongLength Directory))

-- the answer to an entry, by the lowest number that holds
abbrev pub enter_verdict : Contents ℕ ℕ → ℕ → ℕ → Result (Unit {0}) Refusal
enter_verdict held contract member =
    cond (nat_le no_member member) (Err (refused (of_member member) NoSuchMember Directory))
    (put_verdict nat_eq held contract (refused (of_member member) Full Directory))

-- the directory after an entry: a contract number's second entry replaces its first, and a refused one changes nothing
abbrev pub enter_outcome : Contents ℕ ℕ → ℕ → ℕ → Contents ℕ ℕ
enter_outcome held contract member = cond (nat_le no_member member) held (put_outcome nat_eq held contract member)
