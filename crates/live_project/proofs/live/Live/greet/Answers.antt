use Rattle.std.proofs.Common.{◌≡◌, ◌∙◌, refl}
use Rattle.live_model.specs.Talk.{greeting}
use Rattle.live_project.proofs.GoesLemmas.{greeted, ungreeted}
use Rattle.live_project.proofs.live.Live.greet.Goals as goal

pub returns-clause-ok : goal.returns-clause-ok
returns-clause-ok g c = λ is b s said here.
    let outside = g.B.Bench.outside in
    let old = c.args.self.now in
    let line : c.as_slice.result.now ≡ greeting = c.as_slice.ensures ∙ c.ok_line-line.ensures in
    greeted old (record old { talk = c.tell.new.talk }) (outside c.args.start.now.value) (outside c.args.bench.now) c.requires.may refl refl refl c.tell.result (outside c.tell.new.bench) c.as_slice.result.now line is
    c.tell.ensures.says b s said here

pub returns-clause-failed : goal.returns-clause-failed
returns-clause-failed g c = λ is b s said here.
    let outside = g.B.Bench.outside in
    let old = c.args.self.now in
    let line : c.as_slice.result.now ≡ greeting = c.as_slice.ensures ∙ c.ok_line-line.ensures in
    ungreeted old (record old { talk = c.tell.new.talk }) (outside c.args.start.now.value) (outside c.args.bench.now) c.requires.may (λ l n. refl) c.tell.result (outside c.tell.new.bench) c.as_slice.result.now line is
    c.tell.ensures.says b s said here
