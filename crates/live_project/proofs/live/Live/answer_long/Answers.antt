use Rattle.std.proofs.Common.{false, Err, refl}
use Rattle.sim_refusals.specs.Refusals.{RequestLong}
use Rattle.live_project.proofs.GoesLemmas.{asked_long, line_replies}
use Rattle.live_project.proofs.live.Live.answer_long.Goals as goal

pub returns-clause-replies : goal.returns-clause-replies
returns-clause-replies g c = λ line more b s said here.
    let outside = g.B.Bench.outside in
    let old = c.args.self.now in (
      false,
      (line_replies old (record old { talk = c.refuse.new.talk }) (outside c.args.start.now.value) (outside c.args.bench.now) c.requires.may (λ l n. refl) (λ l n. refl) refl refl refl
          (outside c.refuse.new.bench) 0 0 false line (Err RequestLong) c.refuse.result false c.next_of.result (asked_long line more) refl c.next_of.ensures (c.refuse.ensures.answers 0) b s said here).0,
    )
