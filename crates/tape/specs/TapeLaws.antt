-- A tape keeps the laws of a source. Assumes nothing.
use Rattle.std.specs.Prelude.{◌≡◌, ℕ, suc, ◌+◌, Bool, true, false, cond, ◌&&◌, List, [], ◌∷◌, length, drop, Some, None, Option, ◌==◌, nat_le, refl}
use Rattle.std.proofs.Common.{sym, ap, subst, ◌∙◌, arith}
use Rattle.std.proofs.lemmas.List.{length-take-le, length-drop}
use Rattle.std.proofs.lemmas.Bool.{and_parts, eqb-true, leb-true}
use Rattle.script.specs.Admission.{admits}
use Rattle.raw.specs.Answers.{begins}
use Rattle.raw.specs.Laws.{Laws, keeps, shebang_keeps}
use Rattle.raw.specs.declared.kinds.EscapeError.{EscapeError}
use Rattle.raw.proofs.Characters.{character_keeps}
use Rattle.tape.specs.declared.mark.Mark.{Mark}
use Rattle.tape.specs.declared.tape.Tape.{Tape}
use Rattle.tape.specs.Rules.{token_of, fault_count, has_part, lawful, lawful_from, lawful_count}
use Rattle.tape.specs.Meaning.{mark_at, token_by, faults_by, token_at, faults_at}

-- a mark that is found at a place keeps the rules there
abbrev pub FoundAt : List ℕ → ℕ → ℕ → Mark → Type 0
FoundAt bs column p m = (least : ℕ) × (lawful bs column least m ≡ true) × (m.place ≡ p)

found_here : (bs : List ℕ) (column least p : ℕ) (x : Mark) (xs : List Mark) (m : Mark) (b : Bool) → (x.place == p) ≡ b → lawful bs column least x ≡ true → (mark_at p xs ≡ Some m → FoundAt bs column p m) → cond b (Some x) (mark_at p xs) ≡ Some m → FoundAt bs column p m
found_here bs column least p x xs m true e h ih s =
    let same : x ≡ m = cc in
    subst (FoundAt bs column p) same (least, h, eqb-true x.place p e)
found_here bs column least p x xs m false e h ih s = ih s

found_step : (bs : List ℕ) (column least p : ℕ) (x : Mark) (xs : List Mark) (m : Mark) (b : Bool) → lawful bs column least x ≡ b → (lawful_from bs column (x.place + 1) xs ≡ length xs → mark_at p xs ≡ Some m → FoundAt bs column p m) → cond b (suc (lawful_from bs column (x.place + 1) xs)) 0 ≡ suc (length xs) → cond (x.place == p) (Some x) (mark_at p xs) ≡ Some m → FoundAt bs column p m
found_step bs column least p x xs m true e ih all s = found_here bs column least p x xs m (x.place == p) refl e (ih (omega arith)) s
found_step bs column least p x xs m false e ih all s = absurd (omega arith)

pub found : (bs : List ℕ) (column least p : ℕ) (ms : List Mark) (m : Mark) → lawful_from bs column least ms ≡ length ms → mark_at p ms ≡ Some m → FoundAt bs column p m
found bs column least p [] m all s = cc
found bs column least p (x ∷ xs) m all s = found_step bs column least p x xs m (lawful bs column least x) refl (found bs column (x.place + 1) p xs m) all s

-- what a lawful mark says of its place, with the faults that its part of the column has
marked_keeps : (bs : List ℕ) (fs : List EscapeError) (p : ℕ) (m : Mark) → FoundAt bs (length fs) p m → keeps bs p (token_of m) (length (faults_by fs (Some m))) ≡ true
marked_keeps bs fs p m f =
    let least = f.0 in
    let parts = (and_parts (begins bs m.place && nat_le least m.place) (has_part (length fs) m && keeps bs m.place (token_of m) (fault_count m)) f.1).1 in
    let both = and_parts (has_part (length fs) m) (keeps bs m.place (token_of m) (fault_count m)) parts in
    let part = and_parts (nat_le m.faults_from m.faults_to) (nat_le m.faults_to (length fs)) both.0 in
    let low = leb-true m.faults_from m.faults_to part.0 in
    let high = leb-true m.faults_to (length fs) part.1 in
    let many : length (faults_by fs (Some m)) ≡ fault_count m = length-take-le (fault_count m) (drop m.faults_from fs) (omega (arith, length-drop m.faults_from fs)) in
    ap (keeps bs p (token_of m)) many ∙ (ap (λ q. keeps bs q (token_of m) (fault_count m)) (sym f.2) ∙ both.1)

token_keeps : (bs : List ℕ) (ms : List Mark) (fs : List EscapeError) (p : ℕ) (o : Option Mark) → admits bs ≡ true → lawful_count bs (length fs) ms ≡ length ms → begins bs p ≡ true → mark_at p ms ≡ o → keeps bs p (token_by bs p o) (length (faults_by fs o)) ≡ true
token_keeps bs ms fs p None a all b e = character_keeps bs p a b
token_keeps bs ms fs p (Some m) a all b e = marked_keeps bs fs p m (found bs (length fs) 0 p ms m all e)

pub tape_laws : Laws {S = Tape} (λ t. t.script.bytes.now) (λ t. token_at t.script.bytes.now t.marks.now) (λ t. faults_at t.marks.now t.faults.now) (λ t. t.shebang)
tape_laws = record {
  admitted = λ t. t.script.fits;
  tokens = λ t p b.
      let bs = t.script.bytes.now in
      let ms = t.marks.now in
      let fs = t.faults.now in
      let all = (and_parts (lawful_count bs (length fs) ms == length ms) (shebang_keeps bs t.shebang) t.fits).0 in
      token_keeps bs ms fs p (mark_at p ms) t.script.fits (eqb-true (lawful_count bs (length fs) ms) (length ms) all) b refl;
  shebangs = λ t.
      let bs = t.script.bytes.now in
      let ms = t.marks.now in
      let fs = t.faults.now in
      (and_parts (lawful_count bs (length fs) ms == length ms) (shebang_keeps bs t.shebang) t.fits).1;
}
