-- What is read of a list at a number, and the faults so. Assumes nothing.
use Rattle.std.proofs.Common.{◌≡◌, ℕ, zero, suc, List, [], ◌∷◌, length, Some, None, Option, Bor, sym, refl, ap, ◌∙◌}
use Rattle.std.specs.List.{slice_get}
use Rattle.std.specs.Option.{ok_or, option_copied}
use Rattle.std.specs.Slice.{IsItemAt}
use Rattle.std.proofs.lemmas.Bool.{ltb-true, ltb-false}
use Rattle.std.proofs.lemmas.Option.{slice_get_past, slice_get_read}
use Rattle.raw.specs.Answers.{fault}
use Rattle.raw.specs.declared.Refusal.TheVariants.{NoFault}
use Rattle.raw.specs.declared.kinds.EscapeError.{EscapeError}

pub item_read : {X : Type 0} (xs : List X) (n : ℕ) (r : Option (Bor X)) → IsItemAt xs n r → option_copied r ≡ slice_get xs n
item_read xs n None h = sym (slice_get_past xs n (ltb-false n (length xs) (sym h.0)))
item_read xs n (Some b) h = sym (slice_get_read xs (length xs) n b.now refl (ltb-true n (length xs) (sym h.0)) h.1)

fault_get : (es : List EscapeError) (n : ℕ) → ok_or (slice_get es n) NoFault ≡ fault es n
fault_get [] n = refl
fault_get (e ∷ es) zero = refl
fault_get (e ∷ es) (suc n) = fault_get es n

pub fault_read : (es : List EscapeError) (n : ℕ) (r : Option (Bor EscapeError)) → IsItemAt es n r → ok_or (option_copied r) NoFault ≡ fault es n
fault_read es n r h = ap (λ o. ok_or o NoFault) (item_read es n r h) ∙ fault_get es n
