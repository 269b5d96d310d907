use Rattle.std.proofs.Common.{rules}
use Rattle.converter.proofs.Telling.{found, told, nearer}
use Rattle.converter.proofs.said.SaidIterator.next.Goals as goal

pub returns-in-Every-clause-steps : goal.returns-in-Every-clause-steps
returns-in-Every-clause-steps g c =
    let h = found _ c.in-Every.mode c.self.inside.faults _ c.find_map.result c.find_map.new.self (λ x o q k. search rules) c.find_map.ensures.ran c.find_map.ensures.runs in
    told _ _ _ _ _ _ c.self.view_is c.in-Every.is h

pub returns-in-Every-clause-goes : goal.returns-in-Every-clause-goes
returns-in-Every-clause-goes g c =
    let h = found _ c.in-Every.mode c.self.inside.faults _ c.find_map.result c.find_map.new.self (λ x o q k. search rules) c.find_map.ensures.ran c.find_map.ensures.runs in
    nearer _ _ _ (told _ _ _ _ _ _ c.self.view_is c.in-Every.is h)
