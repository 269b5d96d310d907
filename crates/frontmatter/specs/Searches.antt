-- Searches over places: the first that passes a test, and the last.
use Rattle.std.specs.Prelude.{ℕ, zero, suc, ◌+◌, ◌-◌, Bool, cond}

-- the first of the n places from p on that passes; the place after them where none does
abbrev pub seek : (ℕ → Bool) → ℕ → ℕ → ℕ
seek t p zero = p
seek t p (suc n) = cond (t p) p (seek t (p + 1) n)

-- the place after the last of the n places from p on that passes; p where none does
abbrev pub seek_back : (ℕ → Bool) → ℕ → ℕ → ℕ
seek_back t p zero = p
seek_back t p (suc n) = cond (t (p + n)) (p + n + 1) (seek_back t p n)

-- the first place from p on, before e, that passes; e where none does
abbrev pub first : (ℕ → Bool) → ℕ → ℕ → ℕ
first t p e = seek t p (e - p)

-- the place after the last one from p on, before e, that passes; p where none does
abbrev pub past_last : (ℕ → Bool) → ℕ → ℕ → ℕ
past_last t p e = seek_back t p (e - p)
