-- Each answer to an offer says what it should, and no other answer does. Assumes nothing.
use Rattle.std.proofs.Common.{◌≡◌, ℕ, Bool, true, false, cond, leb, List, length, Some, None, Option, sym, refl, ap, ◌∙◌, subst, arith}
use Rattle.std.proofs.lemmas.Bool.{leb-false, lt-leb}
use Rattle.std.proofs.lemmas.Grind.{common_steps}
use Rattle.script.specs.Admission.{refusal as script_refusal, Judged as ScriptJudged}
use Rattle.script.specs.declared.refusal.Refusal.TheVariants as script
use Rattle.script.proofs.Judges.{judged_only as script_only}
use Rattle.lexed_str.specs.declared.error.LexError.{LexError}
use Rattle.lexed_str.specs.declared.refusal.Refusal.{Refusal}
use Rattle.lexed_str.specs.declared.refusal.Refusal.TheVariants as why
use Rattle.lexed_str.specs.Columns.{last_kind, kind_at}
use Rattle.lexed_str.specs.Offering.{kinds_known, columns_fit, columns_refusal, after, bytes_refusal}
use Rattle.lexed_str.specs.Judging.{Unknown, Judged, JudgedBytes}
use Rattle.lexed_str.proofs.Below.{below_found, below_fails}
use Rattle.lexed_str.proofs.Accepted.{known_each, each_known, columns_from, columns_fit_lem}

unknown_found : (ks : List ℕ) → kinds_known ks ≡ false → Unknown ks
unknown_found ks e =
    let found = below_found (λ j. leb (kind_at ks j) last_kind) (length ks) e in
    (found.0, found.1, leb-false (kind_at ks found.0) last_kind found.2)

found_unknown : (ks : List ℕ) → Unknown ks → kinds_known ks ≡ false
found_unknown ks u = below_fails (λ j. leb (kind_at ks j) last_kind) (length ks) u.0 u.1 (lt-leb (kind_at ks u.0) last_kind u.2)

judged_by :
    (bs ks ss : List ℕ) (es : List LexError) (known fit : Bool) → kinds_known ks ≡ known → columns_fit bs ks ss es ≡ fit
    → Judged bs ks ss es (cond known (cond fit None (Some why.Columns)) (Some why.Kind))
judged_by bs ks ss es false fit k f = unknown_found ks k
judged_by bs ks ss es true true k f = columns_from bs ks ss es (known_each ks k) f
judged_by bs ks ss es true false k f = (known_each ks k, λ c. let z : ◌≡◌ {A = ℕ} 0 1 = cc (columns_fit_lem bs ks ss es c) in omega arith)

pub judged : (bs ks ss : List ℕ) (es : List LexError) (o : Option Refusal) → o ≡ columns_refusal bs ks ss es → Judged bs ks ss es o
judged bs ks ss es o e = subst (Judged bs ks ss es) (sym e) (judged_by bs ks ss es (kinds_known ks) (columns_fit bs ks ss es) refl refl)

pub judged_only : (bs ks ss : List ℕ) (es : List LexError) (o : Option Refusal) → Judged bs ks ss es o → o ≡ columns_refusal bs ks ss es
judged_only bs ks ss es None c =
    let known = each_known ks c.known in
    let fit = columns_fit_lem bs ks ss es c in
    grind (arith, common_steps)
judged_only bs ks ss es (Some why.Kind) u =
    let unknown = found_unknown ks u in
    grind (arith, common_steps)
judged_only bs ks ss es (Some why.Columns) h =
    let known = each_known ks h.0 in
    let unfit = λ (fit : columns_fit bs ks ss es ≡ true). h.1 (columns_from bs ks ss es h.0 fit) in
    grind (arith, common_steps)
judged_only bs ks ss es (Some why.TooLong) h = absurd h
judged_only bs ks ss es (Some (why.NotUtf8 at)) h = absurd h
judged_only bs ks ss es (Some why.NoToken) h = absurd h

-- where the bytes are a script, the answer is that for its columns
of_script : (bs ks ss : List ℕ) (es : List LexError) (o : Option Refusal) → ScriptJudged bs None → Judged bs ks ss es o → o ≡ bytes_refusal bs ks ss es
of_script bs ks ss es o s j =
    let free : None ≡ script_refusal bs = script_only bs None s in
    judged_only bs ks ss es o j ∙ ap (λ z. after z (columns_refusal bs ks ss es)) free

pub bytes_only : (bs ks ss : List ℕ) (es : List LexError) (o : Option Refusal) → JudgedBytes bs ks ss es o → o ≡ bytes_refusal bs ks ss es
bytes_only bs ks ss es None h = of_script bs ks ss es None h.0 h.1
bytes_only bs ks ss es (Some why.Kind) h = of_script bs ks ss es (Some why.Kind) h.0 h.1
bytes_only bs ks ss es (Some why.Columns) h = of_script bs ks ss es (Some why.Columns) h.0 h.1
bytes_only bs ks ss es (Some why.TooLong) h = ap (λ z. after z (columns_refusal bs ks ss es)) (script_only bs (Some script.TooLong) h)
bytes_only bs ks ss es (Some (why.NotUtf8 at)) h = ap (λ z. after z (columns_refusal bs ks ss es)) (script_only bs (Some (script.NotUtf8 at)) h)
bytes_only bs ks ss es (Some why.NoToken) h = absurd h
