use Rattle.board_run.proofs.Common.{◌≡◌, ◌+◌, ◌-◌, ◌∙◌, ℕ, ap, subst, arith, true, rules, slice_get, glide, glide_valid}
use Rattle.board_run.proofs.alone.go_alone.Goals as goal

pub go_on-went-requires-clause-valid : goal.go_on-went-requires-clause-valid
go_on-went-requires-clause-valid g c =
    let p = g.P.Part in
    let m = p.machine in
    let x = c.args.part.now in
    let y = c.settle.new.self in
    let t = c.args.t in
    let s = glide m (p.state x) (p.now x) (t - p.now x) in
    let end : p.now x + (t - p.now x) ≡ p.now y = omega (arith, c.requires.may.not_later, c.settle.ensures.now) in
    ap (λ z. m.valid z (p.now y)) c.settle.ensures.state ∙ subst (λ (u : ℕ). m.valid s u ≡ true) end (glide_valid m g.met.P.Part.laws (p.state x) (p.now x) (t - p.now x) c.requires.valid)

pub returns : goal.returns
returns g c =
    let e = c.go_on-went.ensures in
    let s = c.settle.ensures in
    record {
      further = (let far = e.progress (omega (arith, c.settle.ensures.now, c.requires.order)) in omega (arith, far, c.settle.ensures.now));
      within = e.within;
      now_is = e.to;
      state_is = rw (s.state, s.now) at e.state;
      woken_is = rw (s.state, s.now, s.wakes) at e.wakes;
      steps_are = rw (s.state, s.now) at e.steps;
      same = rw (s.state, s.now) at e.same;
      sent_is = rw (s.state, s.now) at e.sent;
      silent = rw (s.state, s.now) at e.silent;
      drives = λ none. e.drives none ∙ ap g.P.Part.machine.drives c.settle.ensures.state;
      contacts = λ none. e.contacts none ∙ ap g.P.Part.machine.contacts c.settle.ensures.state;
      others = λ pin none. e.others pin none ∙ ap (λ s. slice_get (g.P.Part.machine.drives s) pin) c.settle.ensures.state;
      first = search rules;
    }
