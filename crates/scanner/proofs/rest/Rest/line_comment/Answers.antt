use Rattle.std.proofs.Common.{rules, ◌≡◌}
use Rattle.std.specs.List.{prefix_len}
use Rattle.scanner.specs.Comments.{in_line}
use Rattle.scanner.proofs.rest.Rest.line_comment.Goals as goal

pub returns : goal.returns
returns c =
    let len : c.run_len-len.result ≡ prefix_len in_line c.args.self.now.bytes.now = c.run_len-len.ensures.value in_line (λ x b p. search rules) in
    search rules
