-- What follows from columns that fit a script. Assumes nothing.
use Rattle.std.proofs.Common.{◌≡◌, ℕ, zero, suc, ◌+◌, ◌-◌, ◌<◌, ◌≤◌, true, List, ◌++◌, length, take, drop, sym, ap, ◌∙◌, subst, ⊎_elim, arith, take-add}
use Rattle.std.specs.List.{between}
use Rattle.std.proofs.lemmas.List.{drop-drop, take_all}
use Rattle.std.proofs.lemmas.List.Edits.{length-between}
use Rattle.std.proofs.lemmas.Bool.{cases_lt}
use Rattle.script.specs.Places.{boundary}
use Rattle.script.proofs.Bounds.{boundary_end}
use Rattle.lexed_str.specs.declared.error.LexError.{LexError}
use Rattle.lexed_str.specs.Columns.{Columns, tokens, start_at}
use Rattle.lexed_str.specs.Reading.{texts}

between_join : (xs : List ℕ) (a b c : ℕ) → a ≤ b → b ≤ c → between a b xs ++ between b c xs ≡ between a c xs
between_join xs a b c l h =
    let there : a + (b - a) ≡ b = omega arith in
    let long : (b - a) + (c - b) ≡ c - a = omega arith in
    ap (λ z. between a b xs ++ take (c - b) z) (sym (drop-drop (b - a) a xs ∙ ap (λ n. drop n xs) there))
    ∙ sym (take-add (b - a) (c - b) (drop a xs))
    ∙ ap (λ n. take n (drop a xs)) long

module _ (bs ks ss : List ℕ) (es : List LexError) (c : Columns bs ks ss es) where
  -- starts rise
  rising : (d i : ℕ) → i + d ≤ tokens ks → start_at ss i + d ≤ start_at ss (i + d)
  rising zero i l = let same : i + 0 ≡ i = omega arith in subst (λ j. start_at ss i + 0 ≤ start_at ss j) (sym same) (omega arith)
  rising (suc d) i l =
      let same : i + d + 1 ≡ i + suc d = omega arith in
      let step = subst (λ j. start_at ss (i + d) < start_at ss j) same (c.rises (i + d) (omega arith)) in
      omega (arith, rising d i (omega arith), step)

  pub start_apart : (i j : ℕ) → i ≤ j → j ≤ tokens ks → start_at ss i + (j - i) ≤ start_at ss j
  start_apart i j l h = let same : i + (j - i) ≡ j = omega arith in subst (λ k. start_at ss i + (j - i) ≤ start_at ss k) same (rising (j - i) i (omega arith))

  pub start_le : (i j : ℕ) → i ≤ j → j ≤ tokens ks → start_at ss i ≤ start_at ss j
  start_le i j l h = omega (arith, start_apart i j l h)

  pub start_lt : (i j : ℕ) → i < j → j ≤ tokens ks → start_at ss i < start_at ss j
  start_lt i j l h = omega (arith, start_apart i j (omega arith) h)

  -- no start is past the script's end, nor before its own number
  pub start_before : (i : ℕ) → i ≤ tokens ks → start_at ss i ≤ length bs
  start_before i l = omega (arith, start_le i (tokens ks) l (omega arith), c.ends)

  pub start_past : (i : ℕ) → i ≤ tokens ks → i ≤ start_at ss i
  start_past i l = omega (arith, start_apart 0 i (omega arith) l)

  pub tokens_within : tokens ks ≤ length bs
  tokens_within = omega (arith, start_past (tokens ks) (omega arith), c.ends)

  -- every start is a boundary, the end's too
  pub start_boundary : (i : ℕ) → i ≤ tokens ks → boundary bs (start_at ss i) ≡ true
  start_boundary i l =
      ⊎_elim
      (λ (inside : i < tokens ks). c.whole i inside)
      (λ (end : tokens ks ≤ i). let same : i ≡ tokens ks = omega arith in boundary_end bs (start_at ss i) (ap (start_at ss) same ∙ c.ends))
      (cases_lt i (tokens ks))

  -- a text is as long as its places say, texts in a row join, and all of them are the script
  pub texts_length : (i j : ℕ) → i ≤ j → j ≤ tokens ks → length (texts bs ss i j) ≡ start_at ss j - start_at ss i
  texts_length i j l h = length-between bs (start_at ss i) (start_at ss j) (start_before j h)

  pub texts_join : (i j k : ℕ) → i ≤ j → j ≤ k → k ≤ tokens ks → texts bs ss i j ++ texts bs ss j k ≡ texts bs ss i k
  texts_join i j k l m h = between_join bs (start_at ss i) (start_at ss j) (start_at ss k) (start_le i j l (omega arith)) (start_le j k m h)

  pub texts_all : texts bs ss 0 (tokens ks) ≡ bs
  texts_all = ap (λ a. between a (start_at ss (tokens ks)) bs) c.begins ∙ take_all (start_at ss (tokens ks) - 0) bs (omega (arith, c.ends))
