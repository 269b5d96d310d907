use Rattle.std.proofs.Common.{◌-◌, Ok, length, ap, ◌∙◌, subst, rules, arith}
use Rattle.syntax_kind.specs.Editions.{edition_number}
use Rattle.converter.specs.Columns.{over, held, Reached, Room}
use Rattle.converter.specs.Lexes.{Keeps, Only, Readable}
use Rattle.converter.specs.Lexing.{head_of, extend_all}
use Rattle.converter.specs.Meaning.{means}
use Rattle.converter.proofs.Converted.{converted, law, only, known_edition, none_refused, answered, written_at, at_end}
use Rattle.converter.proofs.Ends.{Lawful}
use Rattle.converter.proofs.Readable.{readable}
use Rattle.converter.proofs.lexing.lex.Goals as goal

pub returns : goal.returns
returns g c =
    let m = g.S.RawSource in
    let s = c.args.source.now in
    let start = c.new-converter.ensures in
    let head = c.extend_head.ensures in
    let all = c.extend_all.ensures in
    let end = c.finish.ensures in
    let h = c.extend_head.new.self in
    let a = c.extend_all.new.self in
    let f = c.finish.new.self in
    let of_head = head.same.0 ∙ start.same.0 in
    let of_all = all.same.0 ∙ of_head in
    let edition = ap edition_number (head.same.1 ∙ start.same.1) ∙ c.in_ok-edition.ensures in
    let mean = means m s in
    let left = length (m.script s) - h.so_far.tokens in
    let so_far = held h.kinds.now h.starts.now h.errors.now h.so_far in
    let first = head.held ∙ ap (λ x. head_of (means m x)) start.same.0 in
    let second =
    all.held ∙ ap (λ x. extend_all (means m x) (edition_number h.edition) (length (m.script x) - h.so_far.tokens) so_far) of_head
    ∙ ap (λ x. extend_all mean x left so_far) edition in
    let x = converted mean c.args.edition _ _ _ _ _ _ _ _ _ _ _ f.errors.now _ _ c.finish.result
    (subst (λ x. Room (length (m.script x)) h.kinds.now h.starts.now h.errors.now) of_head h.room)
    (subst (λ x. Room (length (m.script x)) a.kinds.now a.starts.now a.errors.now) of_all a.room)
    (subst (λ x. Reached (m.script x) h.so_far) of_head h.reached)
    (subst (λ x. Reached (m.script x) a.so_far) of_all a.reached)
    first head.kept second all.kept all.more end.counts end.kinds end.starts end.errors in
    let w : Lawful mean = record { admitted = g.met.S.RawSource.laws.admitted s; tokens = g.met.S.RawSource.laws.tokens s; shebangs = g.met.S.RawSource.laws.shebangs s } in
    let is = law mean c.args.edition w _ _ _ _ _ _ c.finish.result x in
    let len = ap length (c.bytes-len.ensures ∙ c.script.ensures) in
    let none =
    none_refused c.args.edition (length (m.script s)) (length c.args.kinds.now) (length c.args.starts.now) (length c.args.errors.now) (known_edition _ c.args.edition c.in_ok-edition.ensures)
    (omega (arith, len, c.if-kinds-len.false)) (omega (arith, len, c.if-starts-len.false)) (omega (arith, len, c.if-errors-len.false)) in
    record {
      answer = answered _ _ _ none x.tokens x.errors_count;
      kinds = written_at _ _ _ f.kinds.now _ none (search rules) (x.kinds ∙ ap (over _) start.columns.0);
      starts = written_at _ _ _ f.starts.now _ none (search rules) (x.starts ∙ ap (over _) start.columns.1);
      errors = written_at _ _ _ f.errors.now _ none (search rules) (x.errors ∙ ap (over _) start.columns.2);
      law = at_end (Keeps mean c.args.edition (Ok c.finish.result)) _ _ _ _ _ _ (search rules) (search rules) (search rules) is;
      only = at_end (Only mean c.args.edition (Ok c.finish.result)) _ _ _ _ _ _ (search rules) (search rules) (search rules) (only mean c.args.edition _ _ _ c.finish.result is);
      readable = at_end (Readable mean (Ok c.finish.result)) _ _ _ _ _ _ (search rules) (search rules) (search rules) (readable mean c.args.edition _ _ _ _ w is);
    }
