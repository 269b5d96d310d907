-- The faults of a token, asked for one by one.
use Rattle.std.proofs.Common.{◌≡◌, ℕ, zero, suc, ◌+◌, ◌≤◌, true, cond, List, [], ◌∷◌, length, drop, Err, Option, Result, sym, refl, ap, ◌∙◌, subst, arith, add-one}
use Rattle.std.specs.Prelude.{MatchOption}
use Rattle.std.specs.Result.{result_ok}
use Rattle.raw.specs.Answers.{begins, fault, fault_answer}
use Rattle.raw.specs.declared.Refusal.{Refusal}
use Rattle.raw.specs.declared.Refusal.TheVariants.{NoToken}
use Rattle.raw.specs.declared.kinds.EscapeError.{EscapeError}
use Rattle.raw.specs.declared.kinds.EscapeError.TheVariants.{ZeroChars, MoreThanOneChar, LoneSlash, InvalidEscape, BareCarriageReturn, BareCarriageReturnInRawString, EscapeOnlyChar, TooShortHexEscape, InvalidCharInHexEscape, OutOfRangeHexEscape, NoBraceInUnicodeEscape, InvalidCharInUnicodeEscape, EmptyUnicodeEscape, UnclosedUnicodeEscape, LeadingUnderscoreUnicodeEscape, OverlongUnicodeEscape, LoneSurrogateUnicodeEscape, OutOfRangeUnicodeEscape, UnicodeEscapeInByte, NonAsciiCharInByte, NulInCStr, UnskippedWhitespaceWarning, MultipleSkippedLinesWarning}
use Rattle.converter.specs.declared.messages.Mode.{Mode}
use Rattle.converter.specs.Messages.{message}

-- at a place where a token begins, the list alone decides
pub asked : (bs : List ℕ) (faults : ℕ → List EscapeError) (p n : ℕ) (r : Result EscapeError Refusal) → begins bs p ≡ true → r ≡ fault_answer bs faults p n → fault (faults p) n ≡ r
asked bs faults p n r on e = sym (e ∙ ap (λ b. cond b (fault (faults p) n) (Err NoToken)) on)

-- asked for the fault with the number n: the first of those from there on, or none where none is left
taken : (es : List EscapeError) (n : ℕ) → MatchOption (result_ok (fault es n)) (drop n es ≡ []) (λ e. drop n es ≡ e ∷ drop (suc n) es)
taken [] zero = refl
taken [] (suc n) = refl
taken (e ∷ es) zero = refl
taken (e ∷ es) (suc n) = taken es n

pub given : (bs : List ℕ) (faults : ℕ → List EscapeError) (p n : ℕ) (r : Result EscapeError Refusal) (o : Option EscapeError)
    → begins bs p ≡ true → r ≡ fault_answer bs faults p n → o ≡ result_ok r
    → MatchOption o (drop n (faults p) ≡ []) (λ e. drop n (faults p) ≡ e ∷ drop (n + 1) (faults p))
given bs faults p n r o on is ok =
    simp add-one (subst (λ x. MatchOption x (drop n (faults p) ≡ []) (λ e. drop n (faults p) ≡ e ∷ drop (suc n) (faults p)))
    (sym (ok ∙ ap result_ok (sym (asked bs faults p n r on is)))) (taken (faults p) n))

-- no fault has more than one message
pub message_few : (m : Mode) (e : EscapeError) → length (message m e) ≤ 1
message_few m ZeroChars = omega arith
message_few m MoreThanOneChar = omega arith
message_few m LoneSlash = omega arith
message_few m InvalidEscape = omega arith
message_few m BareCarriageReturn = omega arith
message_few m BareCarriageReturnInRawString = omega arith
message_few m EscapeOnlyChar = omega arith
message_few m TooShortHexEscape = omega arith
message_few m InvalidCharInHexEscape = omega arith
message_few m OutOfRangeHexEscape = omega arith
message_few m NoBraceInUnicodeEscape = omega arith
message_few m InvalidCharInUnicodeEscape = omega arith
message_few m EmptyUnicodeEscape = omega arith
message_few m UnclosedUnicodeEscape = omega arith
message_few m LeadingUnderscoreUnicodeEscape = omega arith
message_few m OverlongUnicodeEscape = omega arith
message_few m LoneSurrogateUnicodeEscape = omega arith
message_few m OutOfRangeUnicodeEscape = omega arith
message_few m UnicodeEscapeInByte = omega arith
message_few m NonAsciiCharInByte = omega arith
message_few m NulInCStr = omega arith
message_few m UnskippedWhitespaceWarning = omega arith
message_few m MultipleSkippedLinesWarning = omega arith
