use Rattle.std.proofs.Common.{arith, ◌≡◌, get_or}
use Rattle.std.proofs.lemmas.List.{take_rest, get_or_past}
use Rattle.scanner.specs.Grammar.{slash, star}
use Rattle.scanner.proofs.Scan.{behind, two_left, begins_yes, begins_no, scan_never, scan_last, scan_close, scan_open, scan_pass}
use Rattle.scanner.proofs.comments.closing.Goals as goal

pub returns-in-42-eq47-clause-value : goal.returns-in-42-eq47-clause-value
returns-in-42-eq47-clause-value c =
    let rest = c.loop-rest.rest.now in
    let next : get_or (behind rest) 0 0 ≡ slash = omega arith in
    scan_last c.args.text.now rest _ c.loop-rest.depth (begins_yes star slash rest c.in-42-eq47.is-0 next) (two_left rest) c.if-depth-eq0.true c.loop-rest.invariant

pub loop-rest-preserved-in-42-eq47-2 : goal.loop-rest-preserved-in-42-eq47-2
loop-rest-preserved-in-42-eq47-2 c =
    let rest = c.loop-rest.rest.now in
    let next : get_or (behind rest) 0 0 ≡ slash = omega arith in
    scan_close c.args.text.now rest _ c.loop-rest.depth (begins_yes star slash rest c.in-42-eq47.is-0 next) (two_left rest) c.if-depth-eq0.false c.loop-rest.invariant

pub loop-rest-preserved-in-47-eq42 : goal.loop-rest-preserved-in-47-eq42
loop-rest-preserved-in-47-eq42 c =
    let rest = c.loop-rest.rest.now in
    let next : get_or (behind rest) 0 0 ≡ star = omega arith in
    scan_open c.args.text.now rest _ c.loop-rest.depth (begins_yes slash star rest c.in-47-eq42.is-0 next) (two_left rest) c.loop-rest.invariant

pub loop-rest-preserved-in_default-2 : goal.loop-rest-preserved-in_default-2
loop-rest-preserved-in_default-2 c =
    let rest = c.loop-rest.rest.now in
    scan_pass c.args.text.now rest _ c.loop-rest.depth
    (begins_no star slash rest (λ e f. omega (arith, get_or_past (behind rest) 0 0 (omega arith))))
    (begins_no slash star rest (λ e f. omega arith))
    c.in-len1-up.len_at_least (take_rest rest 1) c.loop-rest.invariant

pub loop-rest-preserved-in_default-2-2 : goal.loop-rest-preserved-in_default-2-2
loop-rest-preserved-in_default-2-2 c =
    let rest = c.loop-rest.rest.now in
    scan_pass c.args.text.now rest _ c.loop-rest.depth
    (begins_no star slash rest (λ e f. omega arith))
    (begins_no slash star rest (λ e f. omega arith))
    c.in-len1-up.len_at_least (take_rest rest 1) c.loop-rest.invariant

pub loop-rest-preserved-in_default-2-3 : goal.loop-rest-preserved-in_default-2-3
loop-rest-preserved-in_default-2-3 c =
    let rest = c.loop-rest.rest.now in
    scan_pass c.args.text.now rest _ c.loop-rest.depth
    (begins_no star slash rest (λ e f. omega arith))
    (begins_no slash star rest (λ e f. omega (arith, get_or_past (behind rest) 0 0 (omega arith))))
    c.in-len1-up.len_at_least (take_rest rest 1) c.loop-rest.invariant

pub loop-rest-preserved-in_default-2-4 : goal.loop-rest-preserved-in_default-2-4
loop-rest-preserved-in_default-2-4 c =
    let rest = c.loop-rest.rest.now in
    scan_pass c.args.text.now rest _ c.loop-rest.depth
    (begins_no star slash rest (λ e f. omega arith))
    (begins_no slash star rest (λ e f. omega arith))
    c.in-len1-up.len_at_least (take_rest rest 1) c.loop-rest.invariant

pub loop-rest-preserved : goal.loop-rest-preserved
loop-rest-preserved c =
    let rest = c.loop-rest.rest.now in
    scan_pass c.args.text.now rest _ c.loop-rest.depth
    (begins_no star slash rest (λ e f. omega arith))
    (begins_no slash star rest (λ e f. omega arith))
    c.in-len1-up.len_at_least (take_rest rest 1) c.loop-rest.invariant

pub returns-clause-value : goal.returns-clause-value
returns-clause-value c = scan_never c.args.text.now c.loop-rest.rest.now c.loop-rest.depth c.in_default.len_below c.loop-rest.invariant
