use Rattle.std.proofs.Common.{◌≤◌, sym, ◌∙◌, rules}
use Rattle.script.specs.Admission.{most}
use Rattle.raw.proofs.Characters.{character_short}
use Rattle.raw.proofs.kinds.RawToken.character.Goals as goal

pub overflow_cast-result : goal.overflow_cast-result
overflow_cast-result c =
    let script = c.args.script.now in
    let short : c.in_ok-len.len ≤ most = character_short script.bytes.now c.args.place _ _ script.fits (sym c.char_len.ensures.value ∙ c.in_ok-len.was) in
    search rules
