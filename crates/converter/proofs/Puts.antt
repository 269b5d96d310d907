-- Columns, written piece by piece.
use Rattle.std.proofs.Common.{◌≡◌, ℕ, ◌+◌, ◌≤◌, List, [], ◌++◌, length, take, drop, ap, ◌∙◌, arith}
use Rattle.std.proofs.lemmas.List.{append-nil, take-append-drop, length-append, length-take-le, take_at}
use Rattle.converter.specs.Columns.{put}

module _ {X : Type 0} where
  pub put_none : (n : ℕ) (col : List X) → put n [] col ≡ col
  put_none n col =
      let e : n + 0 ≡ n = omega arith in
      ap (λ x. x ++ drop (n + 0) col) (append-nil (take n col)) ∙ ap (λ k. take n col ++ drop k col) e ∙ take-append-drop n col

  length_front : (n : ℕ) (xs col : List X) → n ≤ length col → length (take n col ++ xs) ≡ n + length xs
  length_front n xs col l = omega (arith, length-append (take n col) xs, length-take-le n col l)

  pub take_put : (n : ℕ) (xs col : List X) → n ≤ length col → take (n + length xs) (put n xs col) ≡ take n col ++ xs
  take_put n xs col l = take_at (take n col ++ xs) (drop (n + length xs) col) (n + length xs) (length_front n xs col l)
