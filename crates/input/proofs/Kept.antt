-- The columns still fit after an entry is put in or marked, and what became of them.
use Rattle.std.proofs.Common.{◌≡◌, ℕ, ◌+◌, ◌-◌, ◌/◌, ◌%◌, ◌<◌, Bool, true, false, eqb, List, [], length, get_or, drop, set, sym, refl, ap, ◌∙◌, subst, arith, length-set}
use Rattle.std.proofs.lemmas.List.FromFn.{length-map-range_with_len}
use Rattle.std.proofs.lemmas.List.{take_more_set, drop-set-lt, set_at}
use Rattle.std.proofs.lemmas.Bool.{cond_both}
use Rattle.std.proofs.lemmas.Bool.Decides.{nat_tests}
use Rattle.input.specs.Marks.{marked, marks, words, clear, raised}
use Rattle.input.specs.Fitting.{fitting}
use Rattle.input.specs.Columns.{Columns}
use Rattle.input.specs.Pushes.{roomy, pushed, joined, Longer, Grown, LastMarked}
use Rattle.input.proofs.Marked.{begun, begun_clear, begun_marks, with_mark, mark_clear, mark_marks}

-- the columns pass the test that an input carries
abbrev pub fits : Columns → Bool
fits c = fitting c.kinds c.joint c.contextual c.editions c.len

fit_clear : (c : Columns) → fits c ≡ true → clear c.joint c.len ≡ true
fit_clear c h = grind (arith, nat_tests)

-- there is a word for the mark of each entry, and of one more where there is room
fit_word : (c : Columns) (n : ℕ) → n < c.len → fits c ≡ true → n / 64 < length c.joint
fit_word c n l h = grind (arith, nat_tests)

room_word : (c : Columns) → roomy c ≡ true → c.len / 64 < length c.joint
room_word c r = grind (arith, nat_tests)

begun_length : (js : List ℕ) (n : ℕ) → length (begun js n) ≡ length js
begun_length js n =
    cond_both (eqb (n % 64) 0) (set js (n / 64) 0) js (λ xs. length xs ≡ length js) (λ _. length-set js (n / 64) 0) (λ _. refl)

pub pushed_fits : (c : Columns) (k x e : ℕ) → fits c ≡ true → roomy c ≡ true → fits (pushed k x e c) ≡ true
pushed_fits c k x e h r =
    let next = begun_clear c.joint c.len (room_word c r) (fit_clear c h) in
    grind (arith, nat_tests, length-set c.kinds c.len k, length-set c.contextual c.len x, length-set c.editions c.len e, begun_length c.joint c.len)

longer : (v n : ℕ) (xs : List ℕ) → n < length xs → Longer v n xs (set xs n v)
longer v n xs l =
    record { front = take_more_set xs n v l; rest = drop-set-lt (n + 1) xs n v (omega arith); long = length-set xs n v }

begun_rest : (js : List ℕ) (n : ℕ) → drop (words (n + 1)) (begun js n) ≡ drop (words (n + 1)) js
begun_rest js n =
    cond_both (eqb (n % 64) 0) (set js (n / 64) 0) js (λ xs. drop (words (n + 1)) xs ≡ drop (words (n + 1)) js)
    (λ _. drop-set-lt (words (n + 1)) js (n / 64) 0 (omega arith)) (λ _. refl)

pub pushed_grown : (c : Columns) (k x e : ℕ) → fits c ≡ true → roomy c ≡ true → Grown k x e false c (pushed k x e c)
pushed_grown c k x e h r =
    record {
      len = refl;
      kinds = longer k c.len c.kinds (grind (arith, nat_tests));
      contextual = longer x c.len c.contextual (grind (arith, nat_tests));
      editions = longer e c.len c.editions (grind (arith, nat_tests));
      marks = begun_marks c.joint c.len (room_word c r) (fit_clear c h);
      rest = begun_rest c.joint c.len;
      long = begun_length c.joint c.len;
    }

-- the last of m + 1 entries is marked
pub joined_fits : (c : Columns) (m : ℕ) → m + 1 ≡ c.len → fits c ≡ true → fits (joined m c) ≡ true
joined_fits c m e h =
    let l = fit_word c m (omega arith) h in
    let before : clear c.joint (m + 1) ≡ true = subst (λ n. clear c.joint n ≡ true) (sym e) (fit_clear c h) in
    let after : clear (with_mark c.joint m) c.len ≡ true = subst (λ n. clear (with_mark c.joint m) n ≡ true) e (mark_clear c.joint m l before) in
    grind (arith, nat_tests, length-set c.joint (m / 64) (raised (get_or c.joint (m / 64) 0) (m % 64)))

pub joined_marks : (c : Columns) (m : ℕ) → m + 1 ≡ c.len → fits c ≡ true → LastMarked c (joined m c)
joined_marks c m e h =
    let l = fit_word c m (omega arith) h in
    let last : m ≡ c.len - 1 = omega arith in
    let M : ℕ → Type 0 = λ n. marks (joined m c).joint n ≡ set (marks c.joint n) (c.len - 1) true in
    subst M e (mark_marks c.joint m l ∙ ap (λ i. set (marks c.joint (m + 1)) i true) last)

-- one entry more, and then its mark
pub grown_marked : (c d : Columns) (k x e : ℕ) → Grown k x e false c d → LastMarked d (joined (d.len - 1) d) → Grown k x e true c (joined (d.len - 1) d)
grown_marked c d k x e g h =
    let m = d.len - 1 in
    let at : c.len ≡ m = omega (arith, g.len) in
    record {
      len = g.len;
      kinds = g.kinds;
      contextual = g.contextual;
      editions = g.editions;
      marks =
          h
          ∙ ap (λ xs. set xs m true) g.marks
          ∙ set_at (marks c.joint c.len) false [] true m (length-map-range_with_len (marked c.joint) 0 c.len ∙ at);
      rest =
          drop-set-lt (words d.len) d.joint (m / 64) (raised (get_or d.joint (m / 64) 0) (m % 64)) (omega (arith, g.len))
          ∙ g.rest;
      long = length-set d.joint (m / 64) (raised (get_or d.joint (m / 64) 0) (m % 64)) ∙ g.long;
    }
