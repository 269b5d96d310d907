-- A search through the code's table, as the look-up of the definition.
use Rattle.std.proofs.Common.{◌≡◌, ℕ, true, false, cond, List, [], ◌∷◌, Some, refl}
use Rattle.std.specs.List.{find}
use Rattle.std.specs.Option.{option_map}
use Rattle.syntax_kind.specs.declared.tables.Keyword.{Keyword}
use Rattle.syntax_kind.specs.Keywords.{fits, look_up}
use Rattle.syntax_kind.specs.Tables.{entry_of, entries_of}

-- the kind of the first keyword that fits is what the entries' look-up gives
pub look_up-find : (ks : List Keyword) (text : List ℕ) (edition : ℕ)
    → option_map (λ k. k.1) (find (λ k. fits (entry_of k) text edition) ks) ≡ look_up (entries_of ks) text edition
look_up-find [] text edition = refl
look_up-find (k ∷ ks) text edition =
    let more = look_up-find ks text edition in
    elim (fits (entry_of k) text edition) as
    (λ b. option_map (λ (k : Keyword). k.1) (cond b (Some k) (find (λ k. fits (entry_of k) text edition) ks))
    ≡ cond b (Some k.1) (look_up (entries_of ks) text edition))
    [ true ↦ refl | false ↦ more ]
