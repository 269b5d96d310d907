use Rattle.std.proofs.Common.{◌≡◌, None, sym, ap, ◌∙◌}
use Rattle.std.specs.List.{slice_get}
use Rattle.std.specs.Option.{option_and_then}
use Rattle.tape.specs.Meaning.{mark_at}
use Rattle.tape.proofs.Lookups.{searched, part_within}
use Rattle.tape.proofs.Parts.{item_read}
use Rattle.tape.proofs.tape.Tape.mark_at.Goals as goal

pub returns : goal.returns
returns c =
    let tape = c.args.self.now in
    let ms = tape.marks.now in
    let item = item_read ms c.in_ok-number.number c.get.result c.get.ensures.lookup in
    let was = ap (option_and_then (slice_get ms)) c.in_ok-number.was in
    let e : c.copied.result ≡ mark_at c.args.place ms = c.copied.ensures ∙ item ∙ sym was ∙ searched tape c.args.place c.first_at.result c.first_at.ensures.first in
    record { value = e; part = part_within tape c.args.place _ e }

pub returns-in_err-number : goal.returns-in_err-number
returns-in_err-number c =
    let tape = c.args.self.now in
    let was = ap (option_and_then (slice_get tape.marks.now)) c.in_err-number.was in
    let e : None ≡ mark_at c.args.place tape.marks.now = sym was ∙ searched tape c.args.place c.first_at.result c.first_at.ensures.first in
    rw c.from_residual.ensures (record { value = e; part = tt })
