-- What the answer of a table means, where no two of its entries overlap.
use Rattle.std.proofs.Common.{◌≡◌, ℕ, ◌≤◌, Bool, true, false, cond, leb, List, Some, None, Ok, Err, Option, refl, sym, ap, ◌∙◌, arith, subst}
use Rattle.std.proofs.lemmas.Bool.{leb-true, leb-false}
use Rattle.std.proofs.lemmas.Bool.Decides.{nat_tests}
use Rattle.syntax_kind.specs.declared.Refusal.TheVariants as refused
use Rattle.syntax_kind.specs.declared.editions.Edition.{Edition}
use Rattle.syntax_kind.specs.declared.editions.Edition.TheVariants.{Edition2015, Edition2018, Edition2021, Edition2024}
use Rattle.syntax_kind.specs.Editions.{edition_number}
use Rattle.syntax_kind.specs.Keywords.{Entry, Answer, look_up, answer_of}
use Rattle.syntax_kind.specs.Named.{Named, Free}
use Rattle.syntax_kind.proofs.Entries.{apart, disjoint, found_stands, standing_found, claimed_free}

edition_known : (e : Edition) → edition_number e ≤ 3
edition_known Edition2015 = omega arith
edition_known Edition2018 = omega arith
edition_known Edition2021 = omega arith
edition_known Edition2024 = omega arith

-- nothing is looked up where no entry names the text
free : (table : List Entry) (text : List ℕ) (edition : ℕ) → Free table text edition
    → (o : Option ℕ) → look_up table text edition ≡ o → o ≡ None
free table text edition f (Some kind) h = let s = found_stands table text edition kind h in absurd (f s.0 s.1 s.2)
free table text edition f None h = refl

-- what is looked up is right
looked : (table : List Entry) → apart table ≡ true → (text : List ℕ) (edition : ℕ) → edition ≤ 3
    → (o : Option ℕ) → look_up table text edition ≡ o → Named table text edition (Ok o)
looked table t text edition l (Some kind) h = (l, found_stands table text edition kind h)
looked table t text edition l None h = (l, λ e m n. let s = standing_found table t text edition e m n in cc)

-- the answer of the table is right
right_by : (table : List Entry) → apart table ≡ true → (text : List ℕ) (edition : ℕ) (b : Bool) → leb edition 3 ≡ b
    → Named table text edition (cond b (Ok (look_up table text edition)) (Err refused.Edition))
right_by table t text edition true h = looked table t text edition (leb-true edition 3 h) (look_up table text edition) refl
right_by table t text edition false h = leb-false edition 3 h

pub right : (table : List Entry) → apart table ≡ true → (text : List ℕ) (edition : ℕ)
    → (a : Answer) → a ≡ answer_of table text edition → Named table text edition a
right table t text edition a e = subst (Named table text edition) (sym e) (right_by table t text edition (leb edition 3) refl)

-- an answer that is right is the answer of the table
pub alone : (table : List Entry) → apart table ≡ true → (text : List ℕ) (edition : ℕ)
    → (a : Answer) → Named table text edition a → a ≡ answer_of table text edition
alone table t text edition (Ok (Some kind)) n =
    let s = standing_found table t text edition n.1.0 n.1.1 n.1.2 in
    let k = n.1.3 in
    let l = n.0 in
    grind (arith, nat_tests)
alone table t text edition (Ok None) n =
    let s = free table text edition n.1 (look_up table text edition) refl in
    let l = n.0 in
    grind (arith, nat_tests)
alone table t text edition (Err refused.Edition) n = grind (arith, nat_tests)
alone table t text edition (Err refused.Kind) n = absurd n

-- a text that is a keyword of the one table is none of the other
pub other_free : (xs ys : List Entry) → disjoint xs ys ≡ true → (text : List ℕ) (edition kind : ℕ)
    → look_up ys text edition ≡ Some kind → look_up xs text edition ≡ None
other_free xs ys t text edition kind k =
    free xs text edition (claimed_free xs ys t text edition kind (found_stands ys text edition kind k)) (look_up xs text edition) refl

pub other : (xs ys : List Entry) → disjoint xs ys ≡ true → (text : List ℕ) (edition kind : ℕ)
    → answer_of ys text edition ≡ Ok (Some kind) → answer_of xs text edition ≡ Ok None
other xs ys t text edition kind h =
    let f = other_free xs ys t text edition kind in
    elim (leb edition 3) as (λ b. cond b (Ok (look_up ys text edition)) (Err refused.Edition) ≡ Ok (Some kind) → cond b (Ok (look_up xs text edition)) (Err refused.Edition) ≡ Ok None)
    [ true ↦ (λ e. ap Ok (f (cc))) | false ↦ (λ e. cc) ]
    h

-- the same in an edition that there is
module _ (table : List Entry) (t : apart table ≡ true) (text : List ℕ) (e : Edition) (o : Option ℕ) (is : o ≡ look_up table text (edition_number e)) where
  pub right_in : Named table text (edition_number e) (Ok o)
  right_in = looked table t text (edition_number e) (edition_known e) o (sym is)

  pub alone_in : (a : Answer) → Named table text (edition_number e) a → a ≡ Ok o
  alone_in a n = alone table t text (edition_number e) a n ∙ answered (edition_number e) (edition_known e) ∙ ap Ok (sym is)
    where
      answered : (n : ℕ) → n ≤ 3 → answer_of table text n ≡ Ok (look_up table text n)
      answered n l = grind (arith, nat_tests)
