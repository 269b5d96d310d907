-- One character as a token: it keeps the laws of a source wherever a token begins. Assumes nothing.
use Rattle.std.proofs.Common.{◌≡◌, ℕ, ◌+◌, ◌-◌, ◌<◌, ◌≤◌, Bool, true, false, cond, ltb, Ok, Err, List, [], ◌∷◌, ◌++◌, length, take, drop, sym, refl, ap, ◌∙◌, arith, take-add}
use Rattle.std.specs.List.{between, flat_map}
use Rattle.std.proofs.lemmas.List.{flat_map_more}
use Rattle.std.proofs.ByRecursion.{All-push}
use Rattle.std.proofs.lemmas.Bool.{and_parts, ltb-true, lt-ltb, le-leb}
use Rattle.script.specs.Admission.{most, admits}
use Rattle.script.specs.Sequences.{sequence, Sequence}
use Rattle.script.specs.Utf8Table.{utf8}
use Rattle.script.specs.Places.{boundary}
use Rattle.script.proofs.Runs.{sequence_within}
use Rattle.script.proofs.Bounds.{admitted_short, admitted_well, begins_there, boundary_cuts, boundaries, character}
use Rattle.raw.specs.declared.kinds.RawKind.TheVariants.{Unknown}
use Rattle.raw.specs.Answers.{begins}
use Rattle.raw.specs.Laws.{keeps}

-- a character has a byte or more, lies within the script and ends at a boundary
module _ (bs : List ℕ) (p : ℕ) (a : admits bs ≡ true) (l : p < length bs) (b : boundary bs p ≡ true) where
  pub some_bytes : 0 < sequence utf8 bs p
  some_bytes = let w = admitted_well bs a in begins_there bs p w l (boundary_cuts bs p w (omega arith) b)

  pub ends_within : p + sequence utf8 bs p ≤ length bs
  ends_within = sequence_within utf8 bs p some_bytes

  pub ends_at_boundary : boundary bs (p + sequence utf8 bs p) ≡ true
  ends_at_boundary =
      let n = sequence utf8 bs p in
      let q = between p (p + n) bs in
      let before = ((boundaries bs p a).0 b).1 in
      let width : p + n - p ≡ n = omega arith in
      let joins : flat_map (λ z. z) (before.0 ++ q ∷ []) ≡ take (p + n) bs =
      sym (flat_map_more (λ (z : List ℕ). z) [] before.0 q) ∙ (ap (λ z. z ++ q) before.2 ∙ (ap (λ k. take p bs ++ take k (drop p bs)) width ∙ sym (take-add p n bs))) in
      (boundaries bs (p + n) a).1 (ends_within, (before.0 ++ q ∷ [], All-push (Sequence utf8) before.0 q before.1 (character bs p a l b), joins))

pub character_keeps : (bs : List ℕ) (p : ℕ) → admits bs ≡ true → begins bs p ≡ true → keeps bs p (record { kind = Unknown; len = sequence utf8 bs p }) 0 ≡ true
character_keeps bs p a e =
    let both = and_parts (ltb p (length bs)) (boundary bs p) e in
    let l = ltb-true p (length bs) both.0 in
    let n = sequence utf8 bs p in
    let some = lt-ltb 0 n (some_bytes bs p a l both.1) in
    let within = le-leb (p + n) (length bs) (ends_within bs p a l both.1) in
    rw (some, within, ends_at_boundary bs p a l both.1, le-leb 0 n (omega arith))

-- the length of a character that is answered fits 32 bits
short_by : {E : Type 0} (bs : List ℕ) (p n : ℕ) (why : E) (b : Bool) → admits bs ≡ true → begins bs p ≡ b → cond b (Ok (sequence utf8 bs p)) (Err why) ≡ Ok n → n ≤ most
short_by bs p n why true a e s =
    let both = and_parts (ltb p (length bs)) (boundary bs p) e in
    let same : sequence utf8 bs p ≡ n = cc in
    omega (arith, admitted_short bs a, ends_within bs p a (ltb-true p (length bs) both.0) both.1)
short_by bs p n why false a e s = cc

pub character_short : {E : Type 0} (bs : List ℕ) (p n : ℕ) (why : E) → admits bs ≡ true → cond (begins bs p) (Ok (sequence utf8 bs p)) (Err why) ≡ Ok n → n ≤ most
character_short bs p n why a s = short_by bs p n why (begins bs p) a refl s
