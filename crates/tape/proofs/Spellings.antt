-- A text is spelled as its place in the script is. Assumes nothing.
use Rattle.std.proofs.Common.{◌≡◌, ℕ, ◌+◌, ◌<◌, List, length, get_or, arith}
use Rattle.std.specs.List.{between}
use Rattle.std.proofs.lemmas.List.Edits.{get_or-between}
use Rattle.std.proofs.lemmas.Bool.Decides.{nat_tests}
use Rattle.raw.specs.Forms.{Form, guarded_prefix, c_string, raw_c_string, raw_lifetime, unknown_prefix, unknown_lifetime, end_of_file, ordinary}
use Rattle.raw.specs.Laws.{spelled}

spelled_alike : (s t : List ℕ) (p q n : ℕ) (f : Form) → get_or s p 0 ≡ get_or t q 0 → (1 < n → get_or s (p + 1) 0 ≡ get_or t (q + 1) 0) → spelled s p n f ≡ spelled t q n f
spelled_alike s t p q n guarded_prefix e h = grind (arith, nat_tests)
spelled_alike s t p q n c_string e h = grind (arith, nat_tests)
spelled_alike s t p q n raw_c_string e h = grind (arith, nat_tests)
spelled_alike s t p q n raw_lifetime e h = grind (arith, nat_tests)
spelled_alike s t p q n unknown_prefix e h = grind (arith, nat_tests)
spelled_alike s t p q n unknown_lifetime e h = grind (arith, nat_tests)
spelled_alike s t p q n end_of_file e h = grind (arith, nat_tests)
spelled_alike s t p q n ordinary e h = grind (arith, nat_tests)

pub spelled_text : (bs t : List ℕ) (p n : ℕ) (f : Form) → t ≡ between p (p + n) bs → length t + p ≡ p + n → 0 < n → spelled t 0 (length t) f ≡ spelled bs p n f
spelled_text bs t p n f is long some =
    let first : get_or t 0 0 ≡ get_or bs p 0 = grind (arith, get_or-between bs p (p + n) 0 0) in
    let same : length t ≡ n = omega arith in
    rw same (spelled_alike t bs 0 p n f first (λ two. grind (arith, get_or-between bs p (p + n) 1 0)))
