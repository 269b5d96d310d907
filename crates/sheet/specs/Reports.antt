-- The report on any bytes: how many there are, and what parsing them gives.
use Rattle.std.specs.Prelude.{ℕ, List, length}
use Rattle.frontmatter.specs.Parsing.{parsing}
use Rattle.sheet.specs.declared.report.Report.{Report}

abbrev pub report_of : List ℕ → Report
report_of bs = record { len = length bs; found = parsing bs }
