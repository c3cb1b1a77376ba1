use Rattle.std.proofs.Common.{◌∙◌, ap, sym, []}
use Rattle.vcd_text.specs.Writers.{Tied}
use Rattle.live_leg.specs.Talks.{writer_of}
use Rattle.live_leg.proofs.WroteLemmas.{closed}
use Rattle.live_leg.proofs.talk.close.Goals as goal

pub returns-clause-wrote : goal.returns-clause-wrote
returns-clause-wrote g c = λ said has.
    let outside = g.B.Bench.outside in
    let talk = c.args.talk.now in
    let w = c.again-writer.result in
    let x = c.end.new.self in
    let e = c.again-writer.ensures in
    let a = outside c.args.start.now.value in
    let b = outside c.args.bench.now in
    let start = ap (λ (t : Tied). t.start) e.place in
    let place = c.end.ensures.place in
    let final = c.bench-1.given.1 (sym (ap (λ (t : Tied). t.reference) (place ∙ e.place))) in
    rw final (closed g.P.Part talk.live (writer_of talk) talk.sent talk.from a b c.requires outside w x [] e.state start e.outside place c.end.result c.cycle-n.result talk.live.cycle said c.cycle-n.ensures.value has c.end.ensures.ends)
