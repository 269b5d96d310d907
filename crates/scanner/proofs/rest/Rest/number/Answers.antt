use Rattle.std.proofs.Common.{rules, arith, ◌≡◌, ◌+◌, ◌-◌, true, length, take, drop, ap, ◌∙◌, subst}
use Rattle.std.proofs.lemmas.Grind.{common_steps}
use Rattle.std.proofs.lemmas.List.{take_rest, drop-drop}
use Rattle.std.specs.List.{prefix_len}
use Rattle.scanner.specs.Classes.{digit, run_to}
use Rattle.scanner.specs.Tokens.{point}
use Rattle.scanner.proofs.Places.{float_there}
use Rattle.scanner.proofs.rest.Rest.number.Goals as goal

pub returns-in-Some : goal.returns-in-Some
returns-in-Some c =
    let bs = c.args.self.now.script.bytes.now in
    let p = c.args.self.now.place in
    let text = c.args.self.now.bytes.now in
    let n = c.run_len-len.result in
    let q = run_to digit bs p in
    let len : n ≡ prefix_len digit text = c.run_len-len.ensures.value digit (λ x b p. search rules) in
    let more : c.run_len.result ≡ prefix_len digit c.in-Some.digits.now = c.run_len.ensures.value digit (λ x b p. search rules) in
    let same : n ≡ prefix_len digit (drop p bs) = len ∙ ap (prefix_len digit) c.args.self.now.left in
    let to : p + n ≡ q = omega arith in
    let after : take (length text - n) (drop n text) ≡ drop q bs = take_rest text n ∙ (ap (drop n) c.args.self.now.left ∙ (drop-drop n p bs ∙ ap (λ k. drop k bs) to)) in
    let dot : point (drop q bs) ≡ true = subst (λ z. point z ≡ true) after c.in-Some.ensures.0 in
    let digits : c.in-Some.digits.now ≡ drop (q + 1) bs = c.in-Some.ensures.1 ∙ (ap (drop 1) after ∙ drop-drop 1 q bs) in
    let e : p + (n + 1 + c.run_len.result) ≡ run_to digit bs (q + 1) = omega (arith, more, ap (prefix_len digit) digits) in
    c.span.ensures ∙ float_there bs p q (p + (n + 1 + c.run_len.result)) dot e

pub returns-in-None : goal.returns-in-None
returns-in-None c =
    let len : c.run_len-len.result ≡ prefix_len digit c.args.self.now.bytes.now = c.run_len-len.ensures.value digit (λ x b p. search rules) in
    grind (arith, common_steps)
