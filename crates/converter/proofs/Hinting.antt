-- The hint, token by token.
use Rattle.std.proofs.Common.{◌≡◌, ℕ, zero, suc, ◌-◌, ◌<◌, ◌≤◌, Bool, true, false, ◌||◌, List, get_or, sym, refl, ap, ◌∙◌, ⊎_elim, arith}
use Rattle.std.proofs.lemmas.Bool.{cases_lt}
use Rattle.converter.specs.Hints.{suspect, hint}

-- no looks are left
pub hint_end : (bs ks ss : List ℕ) (looks n end : ℕ) (all : Bool) → looks ≡ 0 → hint bs ks ss looks n end ≡ all → false ≡ all
hint_end bs ks ss looks n end all none is = sym (ap (λ k. hint bs ks ss k n end) none) ∙ is

-- as many looks as there are tokens are enough
hint_enough : (bs ks ss : List ℕ) (looks n end : ℕ) → n ≤ looks → hint bs ks ss n n end ≡ hint bs ks ss looks n end
hint_enough bs ks ss zero zero end l = refl
hint_enough bs ks ss zero (suc n) end l = absurd (omega arith)
hint_enough bs ks ss (suc looks) zero end l = refl
hint_enough bs ks ss (suc looks) (suc n) end l = ap (λ b. suspect bs (get_or ks n 0) (get_or ss n 0) end || b) (hint_enough bs ks ss looks n (get_or ss n 0) (omega arith))

pub hint_all : (bs ks ss : List ℕ) (n end : ℕ) → hint bs ks ss (n - (n - 5)) n end ≡ hint bs ks ss 5 n end
hint_all bs ks ss n end =
    ⊎_elim (λ lt. let e : n - (n - 5) ≡ n = omega arith in ap (λ k. hint bs ks ss k n end) e ∙ hint_enough bs ks ss 5 n end (omega arith))
    (λ ge. let e : n - (n - 5) ≡ 5 = omega arith in ap (λ k. hint bs ks ss k n end) e) (cases_lt n 5)

hint_step : (bs ks ss : List ℕ) (looks n end : ℕ) → 0 < looks → 0 < n
    → (suspect bs (get_or ks (n - 1) 0) (get_or ss (n - 1) 0) end || hint bs ks ss (looks - 1) (n - 1) (get_or ss (n - 1) 0)) ≡ hint bs ks ss looks n end
hint_step bs ks ss looks n end a b =
    let l : looks ≡ suc (looks - 1) = omega arith in
    let m : n ≡ suc (n - 1) = omega arith in
    sym (ap (λ x. hint bs ks ss x n end) l ∙ ap (λ y. hint bs ks ss (suc (looks - 1)) y end) m)

pub hint_here : (bs ks ss : List ℕ) (looks n end : ℕ) → 0 < looks → 0 < n → suspect bs (get_or ks (n - 1) 0) (get_or ss (n - 1) 0) end ≡ true → true ≡ hint bs ks ss looks n end
hint_here bs ks ss looks n end a b e = ap (λ x. x || hint bs ks ss (looks - 1) (n - 1) (get_or ss (n - 1) 0)) (sym e) ∙ hint_step bs ks ss looks n end a b

pub hint_later : (bs ks ss : List ℕ) (looks n end : ℕ) → 0 < looks → 0 < n → suspect bs (get_or ks (n - 1) 0) (get_or ss (n - 1) 0) end ≡ false → hint bs ks ss (looks - 1) (n - 1) (get_or ss (n - 1) 0) ≡ hint bs ks ss looks n end
hint_later bs ks ss looks n end a b e = ap (λ x. x || hint bs ks ss (looks - 1) (n - 1) (get_or ss (n - 1) 0)) (sym e) ∙ hint_step bs ks ss looks n end a b
