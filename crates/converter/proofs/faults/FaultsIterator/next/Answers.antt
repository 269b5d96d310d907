use Rattle.std.proofs.Common.{length, sym, ap, ◌∙◌, arith}
use Rattle.std.proofs.lemmas.List.{length-drop}
use Rattle.script.proofs.Bounds.{admitted_short}
use Rattle.converter.proofs.Asking.{given}
use Rattle.converter.proofs.Cutting.{faults_within}
use Rattle.converter.proofs.faults.FaultsIterator.next.Goals as goal

pub returns-in_err-fault-clause-steps : goal.returns-in_err-fault-clause-steps
returns-in_err-fault-clause-steps g c =
    let m = g.S.RawSource in
    let s = c.self.inside in
    let h = rw c.in_err-fault.was at (given (m.script s.source.now) (m.faults s.source.now) s.place s.number c.fault_at.result c.ok.result c.self.invariant c.fault_at.ensures c.ok.ensures.value) in
    let all = sym c.self.view_is ∙ h in
    rw c.from_residual.ensures (all, all)

pub overflow_add-self : goal.overflow_add-self
overflow_add-self g c =
    let m = g.S.RawSource in
    let s = c.self.inside in
    let es = m.faults s.source.now s.place in
    let h = rw c.in_ok-fault.was at (given (m.script s.source.now) (m.faults s.source.now) s.place s.number c.fault_at.result c.ok.result c.self.invariant c.fault_at.ensures c.ok.ensures.value) in
    let few = faults_within (m.script s.source.now) s.place (g.met.S.RawSource.laws.admitted s.source.now) (m.token s.source.now s.place) (length es) (g.met.S.RawSource.laws.tokens s.source.now s.place c.self.invariant) in
    let small = admitted_short (m.script s.source.now) (g.met.S.RawSource.laws.admitted s.source.now) in
    omega (arith, ap length h, length-drop s.number es, few, small)

pub returns-clause-steps : goal.returns-clause-steps
returns-clause-steps g c =
    let m = g.S.RawSource in
    let s = c.self.inside in
    sym c.self.view_is ∙ rw c.in_ok-fault.was at (given (m.script s.source.now) (m.faults s.source.now) s.place s.number c.fault_at.result c.ok.result c.self.invariant c.fault_at.ensures c.ok.ensures.value)

pub returns-clause-goes : goal.returns-clause-goes
returns-clause-goes g c =
    let m = g.S.RawSource in
    let s = c.self.inside in
    let h = rw c.in_ok-fault.was at (given (m.script s.source.now) (m.faults s.source.now) s.place s.number c.fault_at.result c.ok.result c.self.invariant c.fault_at.ensures c.ok.ensures.value) in
    record { on = λ _. (tt, tt, omega (arith, ap length h, ap length c.self.view_is)); keeps = tt; rests = λ _. tt }
