-- One token more in the columns is one token more of the definition.
use Rattle.std.proofs.Common.{◌≡◌, ℕ, zero, suc, ◌+◌, ◌<◌, ◌≤◌, true, cond, ◌||◌, List, [], ◌∷◌, ◌++◌, map, length, get_or, take, set, Ok, Err, Result, sym, refl, ap, ◌∙◌, arith}
use Rattle.std.specs.List.{between}
use Rattle.std.proofs.lemmas.Bool.Decides.{nat_tests}
use Rattle.script.specs.Places.{boundary}
use Rattle.std.proofs.lemmas.List.{take_more_set, length-take-le, get_or-take, length-map}
use Rattle.raw.specs.Answers.{begins, token_answer}
use Rattle.raw.specs.declared.Refusal.{Refusal}
use Rattle.raw.specs.declared.Refusal.TheVariants.{NoToken}
use Rattle.raw.specs.declared.kinds.RawToken.{RawToken}
use Rattle.raw.specs.declared.kinds.EscapeError.{EscapeError}
use Rattle.lexed_str.specs.declared.error.LexError.{LexError}
use Rattle.converter.specs.declared.progress.Progress.{Progress}
use Rattle.converter.specs.declared.complaint.Complaint.{Complaint}
use Rattle.converter.specs.Codes.{codes_of, complaint_of, settled, said}
use Rattle.converter.specs.Columns.{put, held}
use Rattle.converter.specs.Cuts.{cut}
use Rattle.converter.specs.Meaning.{meaning}
use Rattle.converter.specs.Hints.{suspect, hint}
use Rattle.converter.specs.Kinds.{kind_of}
use Rattle.converter.specs.Lexing.{Lexed, lex_error, add, extend}
use Rattle.converter.proofs.Cutting.{Stands, codes_few}
use Rattle.converter.proofs.Puts.{take_put}

pub answered : (bs : List ℕ) (token : ℕ → RawToken) (p : ℕ) (t : RawToken) (r : Result RawToken Refusal) → begins bs p ≡ true → r ≡ Ok t → r ≡ token_answer bs token p → t ≡ token p
answered bs token p t r on is e =
    let there : r ≡ Ok (token p) = e ∙ ap (λ b. cond b (Ok (token p)) (Err NoToken)) on in
    cc

-- the hint looks only at tokens that are there
pub hint_take : (bs ks ss : List ℕ) (n looks m end : ℕ) → m ≤ n → hint bs (take n ks) (take n ss) looks m end ≡ hint bs ks ss looks m end
hint_take bs ks ss n zero m end l = refl
hint_take bs ks ss n (suc looks) zero end l = refl
hint_take bs ks ss n (suc looks) (suc m) end l =
    let k : get_or (take n ks) m 0 ≡ get_or ks m 0 = get_or-take n ks m 0 (omega arith) in
    let s : get_or (take n ss) m 0 ≡ get_or ss m 0 = get_or-take n ss m 0 (omega arith) in
    ap (λ x. suspect bs x (get_or (take n ss) m 0) end || hint bs (take n ks) (take n ss) looks m (get_or (take n ss) m 0)) k
    ∙ ap (λ x. suspect bs (get_or ks m 0) x end || hint bs (take n ks) (take n ss) looks m x) s
    ∙ ap (λ x. suspect bs (get_or ks m 0) (get_or ss m 0) end || x) (hint_take bs ks ss n looks m (get_or ss m 0) (omega arith))

same_lexed : (a a' b b' : List ℕ) (c c' : List LexError) (p p' : ℕ) → a ≡ a' → b ≡ b' → c ≡ c' → p ≡ p'
    → ◌≡◌ {A = Lexed} (record { kinds = a; starts = b; errors = c; place = p }) (record { kinds = a'; starts = b'; errors = c'; place = p' })
same_lexed a a' b b' c c' p p' ea eb ec ep = cc

pub same_held : (ks ks' ss ss' : List ℕ) (es es' : List LexError) (p p' : Progress) → ks ≡ ks' → ss ≡ ss' → es ≡ es' → p ≡ p' → held ks ss es p ≡ held ks' ss' es' p'
same_held ks ks' ss ss' es es' p p' a b c d = cc

-- where a token t, of its kind and with its codes, has been written
pub extended : (bs ks ss : List ℕ) (es es' : List LexError) (faults : List EscapeError) (edition : ℕ) (n e p kind written : ℕ) (t : RawToken)
    → n < length ks → n < length ss → e ≤ length es
    → kind ≡ kind_of edition (between p (p + t.len) bs) t.kind
    → written ≡ e + length (codes_of (hint bs ks ss 5 n p) (between p (p + t.len) bs) t.kind faults)
    → es' ≡ put e (map (lex_error n) (codes_of (hint bs ks ss 5 n p) (between p (p + t.len) bs) t.kind faults)) es
    → held (set ks n kind) (set ss n p) es' (record { tokens = n + 1; errors = written; place = p + t.len })
    ≡ add (kind_of edition (between p (p + t.len) bs) t.kind) (p + t.len)
    (codes_of (hint bs (take n ks) (take n ss) 5 (length (take n ks)) p) (between p (p + t.len) bs) t.kind faults)
    (held ks ss es (record { tokens = n; errors = e; place = p }))
extended bs ks ss es es' faults edition n e p kind written t lk ls le is to put_there =
    let text = between p (p + t.len) bs in
    let codes = codes_of (hint bs ks ss 5 n p) text t.kind faults in
    let long : length (take n ks) ≡ n = length-take-le n ks (omega arith) in
    let hinted : hint bs (take n ks) (take n ss) 5 (length (take n ks)) p ≡ hint bs ks ss 5 n p =
    ap (λ m. hint bs (take n ks) (take n ss) 5 m p) long ∙ hint_take bs ks ss n 5 n p (omega arith) in
    let mapped : written ≡ e + length (map (lex_error n) codes) = omega (arith, length-map codes (lex_error n)) in
    let errors : take written es' ≡ take e es ++ map (lex_error n) codes =
    ap (λ k. take k es') mapped ∙ ap (take (e + length (map (lex_error n) codes))) put_there ∙ take_put e (map (lex_error n) codes) es le in
    same_lexed _ _ _ _ _ _ _ _
    (take_more_set ks n kind lk ∙ ap (λ k. take n ks ++ k ∷ []) is)
    (take_more_set ss n p ls)
    (errors ∙ ap (λ h. take e es ++ map (lex_error n) (codes_of h text t.kind faults)) (sym hinted) ∙ ap (λ k. take e es ++ map (lex_error k) (codes_of (hint bs (take n ks) (take n ss) 5 (length (take n ks)) p) text t.kind faults)) (sym long))
    refl

-- as the code has it: from the bytes xs that were asked for, the token t that was given, and what is said of it
pub written_out : (bs xs ks ss : List ℕ) (es es' : List LexError) (tokens : ℕ → RawToken) (faults : ℕ → List EscapeError) (shebang edition : ℕ) (sf : Progress) (kind written : ℕ) (t : RawToken) (first last : Complaint)
    → sf.tokens < length ks → sf.tokens < length ss → sf.errors ≤ length es
    → xs ≡ bs → t ≡ cut edition (tokens sf.place)
    → kind ≡ kind_of edition (between sf.place (sf.place + t.len) xs) t.kind
    → first ≡ complaint_of t.kind
    → last ≡ settled (hint bs ks ss 5 sf.tokens sf.place) (between sf.place (sf.place + t.len) xs) first
    → written ≡ sf.errors + length (said (faults sf.place) last)
    → es' ≡ put sf.errors (map (lex_error sf.tokens) (said (faults sf.place) last)) es
    → held (set ks sf.tokens kind) (set ss sf.tokens sf.place) es' (record { tokens = sf.tokens + 1; errors = written; place = sf.place + t.len })
    ≡ extend (meaning bs tokens faults shebang) edition (held ks ss es sf)
written_out bs xs ks ss es es' tokens faults shebang edition sf kind written t first last lk ls le same is of c₁ c₂ to put_there =
    let n = sf.tokens in
    let p = sf.place in
    let e = sf.errors in
    let codes : last ≡ settled (hint bs ks ss 5 n p) (between p (p + t.len) bs) (complaint_of t.kind) =
    c₂ ∙ ap (λ x. settled (hint bs ks ss 5 n p) (between p (p + t.len) xs) x) c₁ ∙ ap (λ b. settled (hint bs ks ss 5 n p) (between p (p + t.len) b) (complaint_of t.kind)) same in
    extended bs ks ss es es' (faults p) edition n e p kind written t lk ls le
    (of ∙ ap (λ b. kind_of edition (between p (p + t.len) b) t.kind) same)
    (to ∙ ap (λ x. e + length (said (faults p) x)) codes)
    (put_there ∙ ap (λ x. put e (map (lex_error n) (said (faults p) x)) es) codes)
    ∙ ap (λ (y : RawToken). add (kind_of edition (between p (p + y.len) bs) y.kind) (p + y.len) (codes_of (hint bs (take n ks) (take n ss) 5 (length (take n ks)) p) (between p (p + y.len) bs) y.kind (faults p)) (held ks ss es sf)) is

-- what is said of a token fits its bytes
pub said_few : (bs xs ks ss : List ℕ) (faults : List EscapeError) (sf : Progress) (t : RawToken) (first last : Complaint)
    → Stands bs sf.place t (length faults)
    → first ≡ complaint_of t.kind
    → last ≡ settled (hint bs ks ss 5 sf.tokens sf.place) (between sf.place (sf.place + t.len) xs) first
    → length (said faults last) ≤ t.len
said_few bs xs ks ss faults sf t first last s c₁ c₂ =
    let h = hint bs ks ss 5 sf.tokens sf.place in
    let text = between sf.place (sf.place + t.len) xs in
    omega (arith, codes_few bs sf.place t h text faults s, ap (λ c. length (said faults c)) (c₂ ∙ ap (settled h text) c₁))

pub begins_there : (bs : List ℕ) (p : ℕ) → p < length bs → boundary bs p ≡ true → begins bs p ≡ true
begins_there bs p l on = grind (arith, nat_tests)
