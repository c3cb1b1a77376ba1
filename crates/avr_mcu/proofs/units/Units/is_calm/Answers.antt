use Rattle.std.proofs.Common.{◌≡◌, ◌<◌, subst, arith}
use Rattle.avr_unit.specs.UnitMachine.{FirstDue}
use Rattle.avr_mcu.specs.Devices.{Devices, devices}
use Rattle.avr_mcu.specs.Units.{request}
use Rattle.avr_mcu.specs.Touched.{Touched}
use Rattle.std.specs.Prelude.{◌≤◌, ℕ, false, nat_lt}
use Rattle.avr_mcu.proofs.CalmLemmas.{less_so}
use Rattle.avr_mcu.proofs.units.Units.is_calm.Goals as goal

pub returns-clause-before : goal.returns-clause-before
returns-clause-before c = λ e.
    let i = c.self.inside in
    let less : c.args.next < i.calm = less_so c.args.next i.calm e in (
      i.next.due,
      subst (λ (x : Touched Devices). FirstDue devices x.units.devices x.cycle i.next.due) c.self.view_is c.self.invariant.ready.first,
      omega (arith, less, c.self.invariant.calm.before),
    )

pub returns-clause-passes : goal.returns-clause-passes
returns-clause-passes c = λ e.
    let i = c.self.inside in
    let less : c.args.next < i.calm = less_so c.args.next i.calm e in
    let some : 0 < i.calm = omega (arith, less) in
    subst (λ (x : Touched Devices). 26 ≤ request devices x.units x.held) c.self.view_is (subst (λ (n : ℕ). 26 ≤ n) c.self.invariant.ready.request_is (c.self.invariant.calm.passes some))

pub returns-clause-still : goal.returns-clause-still
returns-clause-still c = λ e.
    let i = c.self.inside in
    let less : c.args.next < i.calm = less_so c.args.next i.calm e in
    let some : 0 < i.calm = omega (arith, less) in
    subst (λ (x : Touched Devices). nat_lt x.touched.from x.touched.to ≡ false) c.self.view_is (c.self.invariant.calm.still some)
