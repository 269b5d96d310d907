use Rattle.std.proofs.Common.{◌≡◌, sym, ◌∙◌, subst, rules}
use Rattle.frontmatter.specs.Parsed.{parsed}
use Rattle.frontmatter.specs.Reads.{Reads}
use Rattle.frontmatter.proofs.Right.{sound, only}
use Rattle.frontmatter.proofs.Places.{placed}
use Rattle.frontmatter.proofs.source.ScriptSource.of_script.Goals as goal

pub returns : goal.returns
returns c =
    let s = c.args.script.now.bytes.now in
    let value : c.read_script.result ≡ parsed s = search rules in
    let reads = subst (Reads s) (sym value) (sound s) in
    record {
      value = value;
      reads = reads;
      only = λ a d. only s a d ∙ sym value;
      placed = placed s c.args.script.now.fits c.read_script.result reads;
    }
