use Rattle.std.proofs.Common.{◌≡◌, Ok, sym, ◌∙◌, rules}
use Rattle.frontmatter.specs.Parsing.{parsing}
use Rattle.frontmatter.proofs.Parses.{parses, parses_only}
use Rattle.frontmatter.proofs.source.ScriptSource.parse.Goals as goal

pub returns-in_err-script-clause-only : goal.returns-in_err-script-clause-only
returns-in_err-script-clause-only c =
    let value : c.from_residual.result ≡ parsing c.args.bytes.now = search rules in
    λ a d. parses_only c.args.bytes.now a d ∙ sym value

pub returns-in_err-of_script-clause-parses : goal.returns-in_err-of_script-clause-parses
returns-in_err-of_script-clause-parses c = parses c.args.bytes.now c.from_residual-in_err-of_script.result (search rules)

pub returns-in_err-of_script-clause-only : goal.returns-in_err-of_script-clause-only
returns-in_err-of_script-clause-only c =
    let value : c.from_residual-in_err-of_script.result ≡ parsing c.args.bytes.now = search rules in
    λ a d. parses_only c.args.bytes.now a d ∙ sym value

pub returns-clause-parses : goal.returns-clause-parses
returns-clause-parses c = parses c.args.bytes.now (Ok c.in_ok-of_script.field-0) (search rules)

pub returns-clause-only : goal.returns-clause-only
returns-clause-only c =
    let value : Ok c.in_ok-of_script.field-0 ≡ parsing c.args.bytes.now = search rules in
    λ a d. parses_only c.args.bytes.now a d ∙ sym value
