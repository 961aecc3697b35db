-- The lines of a text, and the words of a line. A text is a list of bytes.
use Rattle.std.specs.Prelude.{ℕ, Bool, cond, not, ◌||◌, List, [], ◌∷◌, take, drop, ◌==◌}
use Rattle.std.specs.List.{position_or_len, onto_first}

-- a space, a tab or a carriage return
abbrev pub is_blank : ℕ → Bool
is_blank byte = byte == 32 || byte == 9 || byte == 13

-- byte 10 ends a line
abbrev pub ends_line : ℕ → Bool
ends_line byte = byte == 10

-- the lines of a text, without the bytes that end them; the last may lack its end. `onto_first` puts a byte at the front of the first
abbrev pub lines_of : List ℕ → List (List ℕ)
lines_of [] = []
lines_of (byte ∷ more) = cond (ends_line byte) ([] ∷ lines_of more) (onto_first byte (lines_of more))

-- what is left once the blanks at the front are gone; `position_or_len` counts the bytes before the first that passes its test
abbrev pub trimmed : List ℕ → List ℕ
trimmed bytes = drop (position_or_len (λ byte. not (is_blank byte)) bytes) bytes

-- the first word: empty where there is none
abbrev pub first_word : List ℕ → List ℕ
first_word bytes = take (position_or_len is_blank (trimmed bytes)) (trimmed bytes)

-- what follows the first word
abbrev pub after_word : List ℕ → List ℕ
after_word bytes = drop (position_or_len is_blank (trimmed bytes)) (trimmed bytes)
