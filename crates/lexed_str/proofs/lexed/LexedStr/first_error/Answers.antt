use Rattle.std.proofs.Common.{◌≡◌, ◌<◌, length, IfSome, arith, rules, ◌∙◌}
use Rattle.lexed_str.proofs.Errors.{short, searched_within, code_at, found_code}
use Rattle.lexed_str.proofs.lexed.LexedStr.first_error.Goals as goal

pub overflow_cast-i : goal.overflow_cast-i
overflow_cast-i c =
    let s = c.args.self.now in
    omega (arith, short s.script.bytes.now s.kinds.now s.starts.now s.errors.now c.args.i s.script.fits s.fits c.requires)

pub map-requires : goal.map-requires
map-requires c =
    let s = c.args.self.now in
    let within : IfSome c.first_at.result (λ k. k < length s.errors.now) =
    searched_within c.args.i s.errors.now c.first_at.result c.first_at.ensures.value in
    search rules

pub returns : goal.returns
returns c =
    let s = c.args.self.now in
    let mapped : c.map.result ≡ code_at s.errors.now c.first_at.result = search rules in
    mapped ∙ found_code s.script.bytes.now s.kinds.now s.starts.now s.errors.now s.fits c.args.i c.first_at.result c.first_at.ensures.first
