-- The last code of a token, and scripts that are one token.
use Rattle.std.proofs.Common.{◌≡◌, ℕ, ◌+◌, ◌<◌, Bool, true, false, cond, ◌&&◌, eqb, ltb, List, [], ◌∷◌, map, length, Some, None, Option, sym, refl, ap, ◌∙◌, arith, ltb-true, lt-ltb, eq-eqb, eqb-true}
use Rattle.std.proofs.lemmas.Bool.{and_parts, both_ways}
use Rattle.script.specs.Admission.{admits}
use Rattle.script.proofs.Bounds.{boundary_start}
use Rattle.raw.specs.Answers.{begins}
use Rattle.lexed_str.specs.declared.error.LexError.{LexError}
use Rattle.std.specs.Iterator.{YieldsFirstBy, Yields, Drains}
use Rattle.std.specs.List.{last_or}
use Rattle.std.specs.Option.{option_map}
use Rattle.converter.specs.declared.message.Message.{Message}
use Rattle.converter.specs.Message.{message_code}
use Rattle.std.specs.List.{between}
use Rattle.raw.specs.declared.kinds.RawToken.{RawToken}
use Rattle.converter.specs.declared.complaint.Complaint.{Complaint}
use Rattle.converter.specs.declared.complaint.Complaint.TheVariants.{Silent, Says, First, Every, Prefix}
use Rattle.converter.specs.Codes.{complaint_of, settled, said}
use Rattle.converter.specs.Hints.{hint}
use Rattle.converter.specs.Kinds.{kind_of}
use Rattle.converter.specs.Lexing.{lex_error, cut_at, kind_at, codes_at}
use Rattle.converter.specs.Meaning.{Meaning}
use Rattle.converter.specs.Single.{last_from, last_of, whole, single, Alone, Single}
use Rattle.converter.proofs.Extending.{begins_there}

-- the last message that comes, where those with these codes are to come
last_from_lem : (before : Option Message) (codes : List ℕ) (ms : List Message) (t : List ℕ) → Yields (YieldsFirstBy message_code (λ cs. cs)) codes ms t → t ≡ []
    → option_map message_code (last_or before ms) ≡ last_from (option_map message_code before) codes
last_from_lem before codes [] t y none = sym (ap (last_from (option_map message_code before)) (y ∙ none))
last_from_lem before codes (m ∷ ms) t (codes', first, y) none = last_from_lem (Some m) codes' ms t y none ∙ sym (ap (last_from (option_map message_code before)) first)

pub last_told : (codes : List ℕ) (r : Option Message) → ((ms : List Message) × Drains (YieldsFirstBy message_code (λ cs. cs)) codes ms × (r ≡ last_or None ms)) → option_map message_code r ≡ last_of codes
last_told codes r (ms, (u, (t, y, step)), is) = ap (option_map message_code) is ∙ last_from_lem None codes ms t y step.0

codes_of_lem : (n : ℕ) (cs : List ℕ) → map (λ (e : LexError). e.code) (map (lex_error n) cs) ≡ cs
codes_of_lem n [] = refl
codes_of_lem n (c ∷ cs) = ap (λ x. c ∷ x) (codes_of_lem n cs)

alone_of : (m : Meaning) (edition : ℕ) → whole m edition ≡ true → Alone m edition
alone_of m edition e =
    let n = length m.script in
    let x = and_parts (ltb 0 n) (eqb (m.token 0).len n && eqb (cut_at m edition 0).len n) e in
    let y = and_parts (eqb (m.token 0).len n) (eqb (cut_at m edition 0).len n) x.1 in
    let raw = eqb-true (m.token 0).len n y.0 in
    let cut = eqb-true (cut_at m edition 0).len n y.1 in
    record { some = ltb-true 0 n x.0; all = omega (arith, cut); uncut = cut ∙ sym raw }

whole_of : (m : Meaning) (edition : ℕ) → Alone m edition → whole m edition ≡ true
whole_of m edition h =
    let n = length m.script in
    let cut : (cut_at m edition 0).len ≡ n = omega (arith, h.all) in
    let raw : (m.token 0).len ≡ n = sym h.uncut ∙ cut in
    rw (lt-ltb 0 n h.some, eq-eqb (m.token 0).len n raw, eq-eqb (cut_at m edition 0).len n cut) refl

single_by : (m : Meaning) (edition : ℕ) (b : Bool) → whole m edition ≡ b → Single m edition (cond b (Some (kind_at m edition 0, last_of (codes_at m edition [] [] 0 0))) None)
single_by m edition true e = (alone_of m edition e, refl, ap last_of (sym (codes_of_lem 0 (codes_at m edition [] [] 0 0))))
single_by m edition false e = λ h. both_ways (whole m edition) e (whole_of m edition h)

pub single_is : (m : Meaning) (edition : ℕ) → Single m edition (single m edition)
single_is m edition = single_by m edition (whole m edition) refl

-- a script that is not empty begins with a token
pub begins_first : (bs xs : List ℕ) → admits bs ≡ true → xs ≡ bs → 0 < length xs → begins bs 0 ≡ true
begins_first bs xs a same some = begins_there bs 0 (omega (arith, ap length same)) (boundary_start bs a)

pub whole_by : (m : Meaning) (edition : ℕ) (xs : List ℕ) (raw cut : RawToken) → xs ≡ m.script → 0 < length xs → raw ≡ m.token 0 → cut ≡ cut_at m edition 0 → raw.len ≡ length xs → eqb cut.len (length xs) ≡ whole m edition
whole_by m edition xs raw cut same some is is' all =
    let n = length m.script in
    let long : length xs ≡ n = ap length same in
    let r : (m.token 0).len ≡ n = ap (λ (t : RawToken). t.len) (sym is) ∙ all ∙ long in
    let c : eqb cut.len (length xs) ≡ eqb (cut_at m edition 0).len n = ap (λ k. eqb cut.len k) long ∙ ap (λ (t : RawToken). eqb t.len n) is' in
    c ∙ sym (ap (λ b. b && (eqb (m.token 0).len n && eqb (cut_at m edition 0).len n)) (lt-ltb 0 n (omega arith)) ∙ ap (λ b. b && eqb (cut_at m edition 0).len n) (eq-eqb (m.token 0).len n r))

-- as the code has it: from the bytes xs that were asked for, and the token t
pub single_some : (m : Meaning) (edition : ℕ) (xs : List ℕ) (t : RawToken) (kind : ℕ) (code : Option ℕ) (first last : Complaint)
    → whole m edition ≡ true → xs ≡ m.script → t ≡ cut_at m edition 0
    → kind ≡ kind_of edition (between 0 t.len xs) t.kind
    → first ≡ complaint_of t.kind
    → last ≡ settled (hint xs [] [] 5 0 0) (between 0 t.len xs) first
    → code ≡ last_of (said (m.faults 0) last)
    → Some (kind, code) ≡ single m edition
single_some m edition xs t kind code first last w same is of c₁ c₂ c₃ =
    let bs = m.script in
    let zero_first : t.len ≡ 0 + t.len = omega arith in
    let text : between 0 t.len xs ≡ between 0 (0 + t.len) bs = ap (λ b. between 0 t.len b) same ∙ ap (λ k. between 0 k bs) zero_first in
    let k : kind ≡ kind_at m edition 0 = of ∙ ap (λ x. kind_of edition x t.kind) text ∙ ap (λ (y : RawToken). kind_of edition (between 0 (0 + y.len) bs) y.kind) is in
    let said_last : last ≡ settled false (between 0 (0 + t.len) bs) (complaint_of t.kind) = c₂ ∙ ap (settled false (between 0 t.len xs)) c₁ ∙ ap (λ x. settled false x (complaint_of t.kind)) text in
    let c : code ≡ last_of (codes_at m edition [] [] 0 0) = c₃ ∙ ap (λ x. last_of (said (m.faults 0) x)) said_last ∙ ap (λ (y : RawToken). last_of (said (m.faults 0) (settled false (between 0 (0 + y.len) bs) (complaint_of y.kind)))) is in
    ap (λ x. Some (x, code)) k ∙ ap (λ x. Some (kind_at m edition 0, x)) c ∙ sym (ap (λ b. cond b (Some (kind_at m edition 0, last_of (codes_at m edition [] [] 0 0))) None) w)

-- but for an unknown prefix, there is nothing to settle
pub unsettled : (hint : Bool) (text : List ℕ) (c : Complaint) → (c ≡ Prefix → ⊥) → c ≡ settled hint text c
unsettled hint text Silent h = refl
unsettled hint text (Says m) h = refl
unsettled hint text (First m) h = refl
unsettled hint text (Every m) h = refl
unsettled hint text Prefix h = absurd (h refl)
