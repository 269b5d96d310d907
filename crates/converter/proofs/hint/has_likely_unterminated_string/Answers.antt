use Rattle.std.proofs.Common.{◌≡◌, ◌-◌, ◌<◌, get_or, sym, ap, ◌∙◌, arith}
use Rattle.converter.specs.Hints.{hint}
use Rattle.converter.proofs.Hinting.{hint_all, hint_here, hint_later, hint_end}
use Rattle.converter.proofs.hint.has_likely_unterminated_string.Goals as goal

pub loop-i-init : goal.loop-i-init
loop-i-init c = hint_all c.args.script.now c.args.kinds.now c.args.starts.now c.args.count c.args.end

pub returns-then-is_suspect : goal.returns-then-is_suspect
returns-then-is_suspect c =
    let i = c.loop-i.i in
    let left : 0 < i - (c.args.count - 5) = omega (arith, c.saturating_sub-i-start.ensures, c.loop-i-test.true) in
    hint_here c.args.script.now c.args.kinds.now c.args.starts.now (i - (c.args.count - 5)) i c.loop-i.end left (omega arith) (sym c.if-is_suspect.ensures) ∙ c.loop-i.invariant

pub loop-i-preserved : goal.loop-i-preserved
loop-i-preserved c =
    let i = c.loop-i.i in
    let left : 0 < i - (c.args.count - 5) = omega (arith, c.saturating_sub-i-start.ensures, c.loop-i-test.true) in
    let less : i - 1 - (c.args.count - 5) ≡ i - (c.args.count - 5) - 1 = omega arith in
    ap (λ n. hint c.args.script.now c.args.kinds.now c.args.starts.now n (i - 1) (get_or c.args.starts.now (i - 1) 0)) less
    ∙ hint_later c.args.script.now c.args.kinds.now c.args.starts.now (i - (c.args.count - 5)) i c.loop-i.end left (omega arith) (sym c.if-is_suspect.ensures) ∙ c.loop-i.invariant

pub returns : goal.returns
returns c = hint_end c.args.script.now c.args.kinds.now c.args.starts.now _ c.loop-i.i c.loop-i.end _ (omega (arith, c.saturating_sub-i-start.ensures, c.loop-i-test.false)) c.loop-i.invariant
