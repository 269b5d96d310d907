-- The code's tables, as the entries that they stand for.
use Rattle.std.specs.Prelude.{List, map}
use Rattle.syntax_kind.specs.declared.tables.Keyword.{Keyword}
use Rattle.syntax_kind.specs.Editions.{edition_number}
use Rattle.syntax_kind.specs.Keywords.{Entry, entry}

-- the entry of one keyword
abbrev pub entry_of : Keyword → Entry
entry_of k = entry k.0.now k.1 (edition_number k.2.first) (edition_number k.2.last)

-- the entries of a table
abbrev pub entries_of : List Keyword → List Entry
entries_of ks = map entry_of ks
