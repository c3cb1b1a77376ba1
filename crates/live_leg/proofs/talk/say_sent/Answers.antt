use Rattle.std.proofs.Common.{◌∙◌, ap, sym, refl, List, ℕ, ◌++◌, true, subst}
use Rattle.text_model.specs.Wave.{begun_text}
use Rattle.board_live.specs.LiveView.{rows_by}
use Rattle.vcd_text.specs.Ports.{texts, BreaksOff}
use Rattle.vcd_text.specs.Heads.{HeadState}
use Rattle.vcd_text.specs.Writers.{Tied, state_of}
use Rattle.live_leg.specs.Said.{HasSaid}
use Rattle.live_leg.specs.Talks.{writer_of}
use Rattle.live_leg.proofs.GoingLemmas.{going_as}
use Rattle.live_leg.proofs.WroteLemmas.{wrote_on, said_now, broke_on}
use Rattle.live_leg.proofs.talk.say_sent.Goals as goal

pub returns-in-Ok-clause-talks : goal.returns-in-Ok-clause-talks
returns-in-Ok-clause-talks g c = λ _.
    let outside = g.B.Bench.outside in
    let talk = c.args.talk.now in
    let w = c.again-writer.result in
    let x = c.send.new.self in
    let e = c.again-writer.ensures in
    let a = outside c.args.start.now.value in
    let b = outside c.args.bench.now in
    let start = ap (λ (t : Tied). t.start) e.place in
    let place = c.send.ensures.place in
    let final = c.bench-1.given.1 (sym (ap (λ (t : Tied). t.reference) (place ∙ e.place))) in
    going_as g.P.Part talk.live talk.live _ (state_of x) talk.sent talk.sent talk.from talk.from a (outside c.bench-1.given.0) a (outside x.bench.now) refl c.mark-talk.ensures refl refl refl (ap outside final)
    (wrote_on g.P.Part talk.live (writer_of talk) talk.sent talk.from a b c.requires outside w x c.bytes.result.now e.state start e.outside place (c.in-Ok.ensures.ok refl) (ap (λ (h : HeadState). h.values) c.send.ensures.head) c.send.ensures.last)

pub returns-in-Ok-clause-said : goal.returns-in-Ok-clause-said
returns-in-Ok-clause-said g c = λ _.
    let outside = g.B.Bench.outside in
    let talk = c.args.talk.now in
    let w = c.again-writer.result in
    let x = c.send.new.self in
    let e = c.again-writer.ensures in
    let a = outside c.args.start.now.value in
    let b = outside c.args.bench.now in
    let start = ap (λ (t : Tied). t.start) e.place in
    let place = c.send.ensures.place in
    let final = c.bench-1.given.1 (sym (ap (λ (t : Tied). t.reference) (place ∙ e.place))) in
    rw final (subst (λ (l : List ℕ). HasSaid b (outside x.bench.now) l) c.bytes.ensures (said_now g.P.Part talk.live (writer_of talk) talk.sent talk.from a b c.requires outside w x c.bytes.result.now e.state start e.outside place (c.in-Ok.ensures.ok refl)))

pub returns-in-Failed-clause-broke : goal.returns-in-Failed-clause-broke
returns-in-Failed-clause-broke g c = λ _ said has.
    let outside = g.B.Bench.outside in
    let talk = c.args.talk.now in
    let w = c.again-writer.result in
    let x = c.send.new.self in
    let e = c.again-writer.ensures in
    let a = outside c.args.start.now.value in
    let b = outside c.args.bench.now in
    let start = ap (λ (t : Tied). t.start) e.place in
    let place = c.send.ensures.place in
    let final = c.bench-in-Failed-1.given.1 (sym (ap (λ (t : Tied). t.reference) (place ∙ e.place))) in
    rw final (subst (λ (l : List ℕ). BreaksOff (texts (writer_of talk).wave true (begun_text talk.head.variables (rows_by g.P.Part talk.live talk.live.cycle)) (said ++ l)) a (outside x.bench.now)) c.bytes.ensures (broke_on g.P.Part talk.live (writer_of talk) talk.sent talk.from a b c.requires outside w x c.bytes.result.now e.state start e.outside place (c.in-Failed.ensures.failed refl).1 said has))
