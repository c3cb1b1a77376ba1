use Rattle.std.proofs.Common.{◌∙◌, [], ap, sym, refl}
use Rattle.vcd_text.specs.Heads.{HeadState}
use Rattle.vcd_text.specs.Writers.{Tied, state_of, marked}
use Rattle.live_leg.proofs.GoingLemmas.{going_as, going_first}
use Rattle.live_leg.proofs.SaidLemmas.{stands_said}
use Rattle.live_leg.proofs.talk.begin.Goals as goal

-- The writer still holds the head and the bench that it was lent, so they end as it left them.
pub returns-clause-talks : goal.returns-clause-talks
returns-clause-talks g c =
    let outside = g.B.Bench.outside in
    let s = c.args.live in
    let w = c.new-writer.result in
    let e = c.new-writer.ensures in
    let bench = c.bench-1.given.1 (sym (ap (λ (t : Tied). t.reference) e.place)) in
    let head = c.head-2-1.given.1 (sym (ap (λ (t : Tied). t.keeps) e.place)) in
    let mark = c.mark-mark.result in
    going_as g.P.Part s s (marked c.head-2-1.given.0 mark) (state_of w) c.restart.new.self _ 0 0 (outside c.args.start.now.value) (outside c.bench-1.given.0) (outside w.start.now.value) (outside w.bench.now)
    refl (ap (λ (h : HeadState). marked h mark) head ∙ c.mark-mark.ensures) c.restart.ensures refl (ap outside c.requires.lent ∙ sym (ap (λ (t : Tied). t.start) e.place)) (ap outside bench)
    (going_first g.P.Part s (state_of w) (outside w.start.now.value) (outside w.bench.now) c.requires.cycle c.requires.alive c.requires.few (ap (λ (t : Tied). t.serial) e.place) e.whole e.last e.stands)

pub returns-clause-said : goal.returns-clause-said
returns-clause-said g c =
    let outside = g.B.Bench.outside in
    let w = c.new-writer.result in
    let e = c.new-writer.ensures in
    let bench = c.bench-1.given.1 (sym (ap (λ (t : Tied). t.reference) e.place)) in
    rw (ap outside c.requires.lent ∙ sym (ap (λ (t : Tied). t.start) e.place), bench)
    (stands_said (state_of w) (outside w.start.now.value) (outside w.bench.now) [] [] (ap (λ (t : Tied). t.serial) e.place) e.stands)
