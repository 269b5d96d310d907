-- What the search finds among ascending numbers: the first that is sought. Assumes nothing.
use Rattle.std.proofs.Common.{◌≡◌, ℕ, zero, suc, ◌<◌, ◌≤◌, false, ◌&&◌, eqb, ltb, List, [], ◌∷◌, map, length, get_or, Some, None, sym, refl, ◌∙◌, ⊎_elim, arith}
use lib.ListN.{length-map}
use Rattle.std.proofs.lemmas.Bool.{ltb-true, ltb-false, lt-ltb, eqb-true, eqb-false, eq-eqb, ne_eqb, and_parts, and_cases, cond_both, cases_lt}
use Rattle.records.specs.Cuts.{bisect, Partitioned, Cuts}
use Rattle.records.specs.Keys.{Ascending, first, standing, searched}
use Rattle.records.proofs.Halves.{cuts}

none_here : (n : ℕ) (keys : List ℕ) → ((i : ℕ) → i < length keys → get_or keys i 0 ≡ n → ⊥) → first n keys ≡ None
none_here n [] h = refl
none_here n (k ∷ keys) h =
    let no_head : eqb k n ≡ false = ne_eqb k n (h 0 (omega arith)) in
    rw (no_head, none_here n keys (λ i l. h (suc i) (omega arith)))

some_here : (n : ℕ) (keys : List ℕ) (i : ℕ) → i < length keys → get_or keys i 0 ≡ n → ((j : ℕ) → j < i → get_or keys j 0 ≡ n → ⊥) → first n keys ≡ Some i
some_here n [] i l e h = absurd (omega arith)
some_here n (k ∷ keys) zero l e h = rw (eq-eqb k n e)
some_here n (k ∷ keys) (suc i) l e h =
    let no_head : eqb k n ≡ false = ne_eqb k n (h 0 (omega arith)) in
    rw (no_head, some_here n keys i (omega arith) e (λ j m. h (suc j) (omega arith)))

-- the number of a record, and what it says of its place
below_at : {R : Type 0} (key : R → ℕ) (n : ℕ) (rs : List R) (i : ℕ) → i < length rs → get_or (map (λ r. ltb (key r) n) rs) i false ≡ ltb (get_or (map key rs) i 0) n
below_at key n [] i l = absurd (omega arith)
below_at key n (r ∷ rs) zero l = refl
below_at key n (r ∷ rs) (suc i) l = below_at key n rs i (omega arith)

module _ {R : Type 0} (key : R → ℕ) (n : ℕ) (rs : List R) (ascending : Ascending (map key rs)) where
  parted : Partitioned (map (λ r. ltb (key r) n) rs)
  parted i j l h e =
      let long = length-map rs key in
      let width = length-map rs (λ r. ltb (key r) n) in
      let below = ltb-true (get_or (map key rs) j 0) n (sym (below_at key n rs j (omega arith)) ∙ e) in
      below_at key n rs i (omega arith) ∙ lt-ltb (get_or (map key rs) i 0) n (omega (arith, ascending i j (omega arith) (omega arith)))

  found_by : (at : ℕ) → Cuts (map (λ r. ltb (key r) n) rs) at → standing n (map key rs) at ≡ first n (map key rs)
  found_by at cut =
      let long = length-map rs key in
      let width = length-map rs (λ r. ltb (key r) n) in
      let before : (i : ℕ) → i < at → get_or (map key rs) i 0 < n = λ i l. ltb-true (get_or (map key rs) i 0) n (sym (below_at key n rs i (omega (arith, cut.within))) ∙ cut.front i l) in
      let after : (i : ℕ) → at ≤ i → i < length rs → n ≤ get_or (map key rs) i 0 = λ i h l. ltb-false (get_or (map key rs) i 0) n (sym (below_at key n rs i l) ∙ cut.rest i h (omega arith)) in
      cond_both (ltb at (length (map key rs)) && eqb (get_or (map key rs) at 0) n) (Some at) None (λ o. o ≡ first n (map key rs))
      (λ e.
      let both = and_parts (ltb at (length (map key rs))) (eqb (get_or (map key rs) at 0) n) e in
      sym (some_here n (map key rs) at (ltb-true at (length (map key rs)) both.0) (eqb-true (get_or (map key rs) at 0) n both.1) (λ j l same. omega (arith, before j l))))
      (λ e. sym (none_here n (map key rs) (λ i l same.
      ⊎_elim
      (λ (low : i < at). omega (arith, before i low))
      (λ (high : at ≤ i).
      ⊎_elim
      (λ (off : ltb at (length (map key rs)) ≡ false). omega (arith, ltb-false at (length (map key rs)) off))
      (λ (other : eqb (get_or (map key rs) at 0) n ≡ false).
      eqb-false (get_or (map key rs) at 0) n other (omega (arith, after at (omega arith) (omega arith), ascending at i high l)))
      (and_cases (ltb at (length (map key rs))) (eqb (get_or (map key rs) at 0) n) e))
      (cases_lt i at))))

  pub searched_first : searched key n rs ≡ first n (map key rs)
  searched_first = found_by (bisect (λ r. ltb (key r) n) rs) (cuts (λ r. ltb (key r) n) rs parted)
