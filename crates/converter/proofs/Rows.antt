-- What lexing gives keeps the law of lexing.
use Rattle.std.proofs.Common.{◌≡◌, ℕ, zero, suc, ◌+◌, ◌<◌, ◌≤◌, true, false, cond, ◌||◌, ltb, List, [], ◌∷◌, ◌++◌, map, length, get_or, take, sym, refl, ap, ◌∙◌, subst, ⊎_elim, arith, le-ltb}
use Rattle.std.proofs.lemmas.List.{append-nil, length-append, get_or_append_left, get_or-append-add, take-append-le}
use Rattle.std.proofs.lemmas.Bool.{cases_lt}
use Rattle.raw.specs.Answers.{begins}
use Rattle.converter.specs.Hints.{suspect, hint}
use Rattle.converter.specs.Codes.{codes_of}
use Rattle.converter.specs.Lexing.{Lexed, lex_error, kind_at, end_at, text_at, cut_at, codes_at, extend, head_of}
use Rattle.converter.specs.Lexes.{Given, errors_at, errors_up_to}
use Rattle.converter.specs.Meaning.{Meaning}

-- an entry more changes nothing before it
pub hint_more : (bs ks ss ks' ss' : List ℕ) (looks m end : ℕ) → m ≤ length ks → m ≤ length ss → hint bs (ks ++ ks') (ss ++ ss') looks m end ≡ hint bs ks ss looks m end
hint_more bs ks ss ks' ss' zero m end lk ls = refl
hint_more bs ks ss ks' ss' (suc looks) zero end lk ls = refl
hint_more bs ks ss ks' ss' (suc looks) (suc m) end lk ls =
    let k = get_or_append_left ks ks' 0 m (omega arith) in
    let s = get_or_append_left ss ss' 0 m (omega arith) in
    ap (λ x. suspect bs x (get_or (ss ++ ss') m 0) end || hint bs (ks ++ ks') (ss ++ ss') looks m (get_or (ss ++ ss') m 0)) k
    ∙ ap (λ x. suspect bs (get_or ks m 0) x end || hint bs (ks ++ ks') (ss ++ ss') looks m x) s
    ∙ ap (λ x. suspect bs (get_or ks m 0) (get_or ss m 0) end || x) (hint_more bs ks ss ks' ss' looks m (get_or ss m 0) (omega arith) (omega arith))

module _ (m : Meaning) (edition : ℕ) where
  codes_more : (ks ss ks' ss' : List ℕ) (n p : ℕ) → n ≤ length ks → n ≤ length ss → codes_at m edition (ks ++ ks') (ss ++ ss') n p ≡ codes_at m edition ks ss n p
  codes_more ks ss ks' ss' n p lk ls = ap (λ h. codes_of h (text_at m edition p) (cut_at m edition p).kind (m.faults p)) (hint_more m.script ks ss ks' ss' 5 n p lk ls)

  pub errors_at_more : (h : ℕ) (ks ss ks' ss' : List ℕ) (i : ℕ) → i < length ks → i < length ss → errors_at m edition h (ks ++ ks') (ss ++ ss') i ≡ errors_at m edition h ks ss i
  errors_at_more h ks ss ks' ss' i lk ls =
      ap (λ p. cond (ltb i h) [] (map (lex_error i) (codes_at m edition (ks ++ ks') (ss ++ ss') i p))) (get_or_append_left ss ss' 0 i ls)
      ∙ ap (λ cs. cond (ltb i h) [] (map (lex_error i) cs)) (codes_more ks ss ks' ss' i (get_or ss i 0) (omega arith) (omega arith))

  pub errors_more : (h : ℕ) (ks ss ks' ss' : List ℕ) (n : ℕ) → n ≤ length ks → n ≤ length ss → errors_up_to m edition h (ks ++ ks') (ss ++ ss') n ≡ errors_up_to m edition h ks ss n
  errors_more h ks ss ks' ss' zero lk ls = refl
  errors_more h ks ss ks' ss' (suc n) lk ls =
      ap (λ x. x ++ errors_at m edition h (ks ++ ks') (ss ++ ss') n) (errors_more h ks ss ks' ss' n (omega arith) (omega arith))
      ∙ ap (λ x. errors_up_to m edition h ks ss n ++ x) (errors_at_more h ks ss ks' ss' n (omega arith) (omega arith))

  pub given_more : (ks ss ks' ss' : List ℕ) (i : ℕ) → i < length ks → i + 1 < length ss → Given m edition ks ss i → Given m edition (ks ++ ks') (ss ++ ss') i
  given_more ks ss ks' ss' i lk ls g =
      let s = get_or_append_left ss ss' 0 i (omega arith) in
      record {
        there = ap (begins m.script) s ∙ g.there;
        kind = get_or_append_left ks ks' 0 i lk ∙ g.kind ∙ ap (kind_at m edition) (sym s);
        next = get_or_append_left ss ss' 0 (i + 1) ls ∙ g.next ∙ ap (end_at m edition) (sym s);
      }

  pub last_of : {X : Type 0} (xs : List X) (x d : X) (n : ℕ) → length xs ≡ n → get_or (xs ++ x ∷ []) n d ≡ x
  last_of xs x d n e =
      let z : n ≡ length xs + 0 = omega arith in
      ap (λ k. get_or (xs ++ x ∷ []) k d) z ∙ get_or-append-add xs (x ∷ []) 0 d

  -- what holds of columns that have come up to a place
  pub record Rows (l : Lexed) : Type 0 where
    pub same : length l.starts ≡ length l.kinds
    pub head_kinds : take (length (head_of m).kinds) l.kinds ≡ (head_of m).kinds
    pub head_starts : take (length (head_of m).kinds + 1) (l.starts ++ l.place ∷ []) ≡ (head_of m).starts ++ (head_of m).place ∷ []
    pub head_within : length (head_of m).kinds ≤ length l.kinds
    pub each : (i : ℕ) → length (head_of m).kinds ≤ i → i < length l.kinds → Given m edition l.kinds (l.starts ++ l.place ∷ []) i
    pub errors : l.errors ≡ errors_up_to m edition (length (head_of m).kinds) l.kinds (l.starts ++ l.place ∷ []) (length l.kinds)

  -- the token that is added
  given_last : (l : Lexed) → length l.starts ≡ length l.kinds → begins m.script l.place ≡ true → Given m edition (extend m edition l).kinds ((extend m edition l).starts ++ (extend m edition l).place ∷ []) (length l.kinds)
  given_last l same on =
      let n = length l.kinds in
      let p = l.place in
      let e = end_at m edition p in
      let long : length (l.starts ++ p ∷ []) ≡ n + 1 = omega (arith, length-append l.starts (p ∷ [])) in
      let s : get_or ((l.starts ++ p ∷ []) ++ e ∷ []) n 0 ≡ p = get_or_append_left (l.starts ++ p ∷ []) (e ∷ []) 0 n (omega arith) ∙ last_of l.starts p 0 n same in
      record {
        there = ap (begins m.script) s ∙ on;
        kind = last_of l.kinds (kind_at m edition p) 0 n refl ∙ ap (kind_at m edition) (sym s);
        next = last_of (l.starts ++ p ∷ []) e 0 (n + 1) long ∙ ap (end_at m edition) (sym s);
      }

  pub rows_more : (l : Lexed) → Rows l → begins m.script l.place ≡ true → Rows (extend m edition l)
  rows_more l r on =
      let h = length (head_of m).kinds in
      let n = length l.kinds in
      let p = l.place in
      let ks = l.kinds in
      let ss = l.starts ++ p ∷ [] in
      let k = kind_at m edition p in
      let e = end_at m edition p in
      let long : length (ks ++ k ∷ []) ≡ n + 1 = length-append ks (k ∷ []) in
      let slong : length ss ≡ n + 1 = omega (arith, length-append l.starts (p ∷ []), r.same) in
      let s : get_or (ss ++ e ∷ []) n 0 ≡ p = get_or_append_left ss (e ∷ []) 0 n (omega arith) ∙ last_of l.starts p 0 n r.same in
      let no_head : ltb n h ≡ false = le-ltb n h r.head_within in
      let codes : codes_at m edition (ks ++ k ∷ []) (ss ++ e ∷ []) n p ≡ codes_at m edition ks l.starts n p =
      codes_more ks ss (k ∷ []) (e ∷ []) n p (omega arith) (omega arith) ∙ (let z = codes_more ks l.starts [] (p ∷ []) n p (omega arith) (omega (arith, r.same)) in ap (λ x. codes_at m edition x ss n p) (sym (append-nil ks)) ∙ z) in
      let at : errors_at m edition h (ks ++ k ∷ []) (ss ++ e ∷ []) n ≡ map (lex_error n) (codes_at m edition ks l.starts n p) =
      ap (λ b. cond b [] (map (lex_error n) (codes_at m edition (ks ++ k ∷ []) (ss ++ e ∷ []) n (get_or (ss ++ e ∷ []) n 0)))) no_head
      ∙ ap (λ q. map (lex_error n) (codes_at m edition (ks ++ k ∷ []) (ss ++ e ∷ []) n q)) s
      ∙ ap (map (lex_error n)) codes in
      let up : errors_up_to m edition h (ks ++ k ∷ []) (ss ++ e ∷ []) (suc n) ≡ l.errors ++ map (lex_error n) (codes_at m edition ks l.starts n p) =
      ap (λ x. x ++ errors_at m edition h (ks ++ k ∷ []) (ss ++ e ∷ []) n) (errors_more h ks ss (k ∷ []) (e ∷ []) n (omega arith) (omega arith) ∙ sym r.errors)
      ∙ ap (λ x. l.errors ++ x) at in
      let one : suc n ≡ length (ks ++ k ∷ []) = omega (arith, long) in
      record {
        same = omega (arith, slong, long);
        head_kinds = take-append-le h ks (k ∷ []) r.head_within ∙ r.head_kinds;
        head_starts = take-append-le (h + 1) ss (e ∷ []) (omega (arith, r.head_within)) ∙ r.head_starts;
        head_within = omega (arith, long, r.head_within);
        each = λ i lo hi. ⊎_elim (λ lt. given_more ks ss (k ∷ []) (e ∷ []) i lt (omega arith) (r.each i lo lt)) (λ ge. let at_n : n ≡ i = omega (arith, long) in subst (Given m edition (ks ++ k ∷ []) (ss ++ e ∷ [])) at_n (given_last l r.same on)) (cases_lt i n);
        errors = sym up ∙ ap (errors_up_to m edition h (ks ++ k ∷ []) (ss ++ e ∷ [])) one;
      }
