-- Joint marks: one bit for each entry, 64 to a word.
use Rattle.std.specs.Prelude.{ℕ, ◌+◌, ◌/◌, ◌%◌, ◌^◌, Bool, cond, ◌||◌, List, map, ◌==◌, nat_lt, slice_index}
use Rattle.std.specs.List.{range_with_len}

-- the mark of entry n: bit n % 64 of word n / 64
abbrev pub marked : List ℕ → ℕ → Bool
marked joint n = slice_index joint (n / 64) / 2 ^ (n % 64) % 2 == 1

-- the marks of the first `len` entries
abbrev pub marks : List ℕ → ℕ → List Bool
marks joint len = map (marked joint) (range_with_len 0 len)

-- how many words the marks of `len` entries take
abbrev pub words : ℕ → ℕ
words len = (len + 63) / 64

-- no bit is set past the last entry's in the last word
abbrev pub clear : List ℕ → ℕ → Bool
clear joint len = len % 64 == 0 || nat_lt (slice_index joint (len / 64)) (2 ^ (len % 64))

-- the word with bit k set
abbrev pub raised : ℕ → ℕ → ℕ
raised word k = cond (word / 2 ^ k % 2 == 1) word (word + 2 ^ k)
