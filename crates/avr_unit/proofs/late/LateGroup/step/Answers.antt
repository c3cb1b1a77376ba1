use Rattle.std.proofs.Common.{◌∙◌, ◌+◌, ℕ, Option, ap, subst}
use Rattle.avr_unit.specs.Both.{first_of_two}
use Rattle.avr_unit.specs.UnitMachine.{At}
use Rattle.avr_unit.specs.Placed.{StepMoves}
use Rattle.avr_unit.proofs.HullLemmas.{apart}
use Rattle.avr_unit.proofs.UnitLemmas.{late_here, rest_state, rest_pad, rest_silent, rest_stands}
use Rattle.avr_unit.proofs.late.LateGroup.step.Goals as goal

pub returns-then-rests : goal.returns-then-rests
returns-then-rests g c =
    let m = g.U.Unit.machine in
    let laws = g.met.U.Unit.laws in
    let s = g.U.Unit.shows c.args.self.now.unit in
    let due = c.args.self.now.due in
    let t = c.args.cycle in
    let before = c.args.before.now in
    let now = c.args.now.now in
    let h = c.requires.here in
    let r = c.rests.ensures c.if-rests.true in
    record {
      byte = ap (λ (x : Option ℕ). first_of_two x c.args.others.0) (rest_silent m laws s due t before now h.late r);
      others = λ p out. out;
      pads = λ p less out. rest_pad m laws s due t before now h.late r p;
      state = rest_state m laws s due t before now h.late r;
      stands = rest_stands m s due c.args.self.now.request t before now h r;
    }

pub returns-clause-byte : goal.returns-clause-byte
returns-clause-byte g c =
    c.first_of_two.ensures
    ∙ ap (λ (x : Option ℕ). first_of_two x c.args.others.0) (c.step-byte.ensures.byte ∙ ap (λ (x : At g.U.Unit.State). g.U.Unit.machine.sends x.unit x.cycle) c.catch_up.ensures)

pub returns-clause-others : goal.returns-clause-others
returns-clause-others g c = λ p out. (apart _ _ _ p c.hull.ensures out).0

pub returns-clause-state : goal.returns-clause-state
returns-clause-state g c =
    let m = g.U.Unit.machine in
    late_here m (g.U.Unit.shows c.step-byte.new.self) (c.args.cycle + 1) _
    (c.step-byte.ensures.state ∙ ap (λ (x : At g.U.Unit.State). record { unit = m.step x.unit x.cycle c.args.before.now c.args.now.now; cycle = x.cycle + 1 }) c.catch_up.ensures)

pub returns-clause-pads : goal.returns-clause-pads
returns-clause-pads g c = λ p less out.
    subst (λ (x : At g.U.Unit.State). StepMoves g.U.Unit.machine x.unit x.cycle c.args.before.now c.args.now.now c.step-byte.result.1) c.catch_up.ensures c.step-byte.ensures.pads
    p less (apart _ _ _ p c.hull.ensures out).1
