-- What a source answers at a place, and the number and the words of each refusal.
use Rattle.std.specs.Prelude.{ℕ, zero, suc, Bool, cond, ◌&&◌, List, [], ◌∷◌, length, Ok, Err, Result, nat_lt, codes}
use Rattle.script.specs.Places.{boundary}
use Rattle.script.specs.Sequences.{sequence}
use Rattle.script.specs.Utf8Table.{utf8}
use Rattle.raw.specs.declared.Refusal.{Refusal}
use Rattle.raw.specs.declared.Refusal.TheVariants.{NoToken, NoFault}
use Rattle.raw.specs.declared.kinds.RawKind.{RawKind}
use Rattle.raw.specs.declared.kinds.RawToken.{RawToken}
use Rattle.raw.specs.declared.kinds.EscapeError.{EscapeError}

-- the number of each refusal
abbrev pub number : Refusal → ℕ
number NoToken = 21
number NoFault = 21

-- the words of each refusal
abbrev pub refusal_text : Refusal → List ℕ
refusal_text NoToken = codes "no token begins there"
refusal_text NoFault = codes "the token has no fault of that number"

-- a token begins at the place: a character boundary before the end
abbrev pub begins : List ℕ → ℕ → Bool
begins bs p = nat_lt p (length bs) && boundary bs p

abbrev pub token_answer : List ℕ → (ℕ → RawToken) → ℕ → Result RawToken Refusal
token_answer bs token p = cond (begins bs p) (Ok (token p)) (Err NoToken)

-- the character at a place, as a token of a kind
abbrev pub character : List ℕ → RawKind → ℕ → RawToken
character bs kind p = record { kind = kind; len = sequence utf8 bs p }

-- the fault with the number n in a list, from 0
abbrev pub fault : List EscapeError → ℕ → Result EscapeError Refusal
fault [] n = Err NoFault
fault (e ∷ es) zero = Ok e
fault (e ∷ es) (suc n) = fault es n

abbrev pub fault_answer : List ℕ → (ℕ → List EscapeError) → ℕ → ℕ → Result EscapeError Refusal
fault_answer bs faults p n = cond (begins bs p) (fault (faults p) n) (Err NoToken)
