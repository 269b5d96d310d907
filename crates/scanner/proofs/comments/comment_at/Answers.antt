use Rattle.std.proofs.Common.{◌≡◌, ◌<◌, length, drop, ap, arith, sym, ◌∙◌}
use Rattle.std.proofs.lemmas.List.{drop_all}
use Rattle.scanner.specs.Comments.{comment}
use Rattle.scanner.proofs.Readings.{read_as, read_only}
use Rattle.scanner.proofs.comments.comment_at.Goals as goal

pub returns-in_err-at : goal.returns-in_err-at
returns-in_err-at c =
    let bs = c.args.script.now.bytes.now in
    let xs = drop c.args.place bs in
    let past : length bs < c.args.place = c.in_err-at.ensures in
    let is : c.from_residual.result ≡ comment xs = c.from_residual.ensures ∙ ap comment (sym (drop_all c.args.place bs (omega arith))) in
    record { value = is; grammar = read_as xs _ is; only = read_only xs _ is }
