use Rattle.std.proofs.Common.{◌≡◌, ◌<◌, ◌-◌, ◌++◌, ◌∙◌, ℕ, suc, List, [], refl, sym, ap, subst, arith}
use Rattle.sim_base.specs.declared.bench.Port.TheVariants as ports
use Rattle.sim_base.specs.declared.bench.WriteEnd.TheVariants as writes
use Rattle.sim_outcome_model.specs.Work.{Wrote}
use Rattle.sim_outcome_model.proofs.WriteLemmas.{others_more, wrote_start}
use Rattle.wave_decode.specs.Frames.{reading, told}
use Rattle.wave_decode.specs.Listening.{Gathers}
use Rattle.wave_decode.specs.Rising.{first_cycle}
use Rattle.wave_decode.proofs.HearLemmas.{at_first, at_next, none_told, text_last, text_next}
use Rattle.wave_decode.proofs.RisingLemmas.{rising_from}
use Rattle.wave_decode.proofs.listen.listen.Goals as goal

pub returns-then-n-eq0-clause-wrote : goal.returns-then-n-eq0-clause-wrote
returns-then-n-eq0-clause-wrote g c =
    let a = g.B.Bench.outside c.args.bench.now in
    let text : (told c.args.bus c.args.n (reading c.args.of_a.now) (reading c.args.of_b.now) (c.args.n - 1)).1 ≡ [] =
    ap (λ (m : ℕ). (told c.args.bus c.args.n (reading c.args.of_a.now) (reading c.args.of_b.now) (m - 1)).1) c.if-n-eq0.true
    ∙ none_told c.args.bus c.args.n (reading c.args.of_a.now) (reading c.args.of_b.now) in
    subst (λ (t : List ℕ). Wrote writes.Ok ports.Report t a a) (sym text) (wrote_start ports.Report a)

pub loop-next-init : goal.loop-next-init
loop-next-init g c =
    let a = g.B.Bench.outside c.args.bench.now in
    let wa = c.wire_at-a in
    let wb = c.wire_at-b in
    let other = c.if-n-eq0.false in
    let some : 0 < c.args.n = omega (arith, other) in
    record {
      at = (
        0,
        at_first c.args.bus c.args.n c.args.of_a.now c.args.of_b.now c.first_cycle-next.result wa.result.level wa.result.rows.now wb.result.level wb.result.rows.now c.nothing-heard.result
            some (ap (λ (m : ℕ). first_cycle m wb.result.rows.now) (sym c.first_cycle.ensures) ∙ sym c.first_cycle-next.ensures) c.nothing-heard.ensures
            wa.ensures.later wa.ensures.rising wb.ensures.later wb.ensures.rising,
        ([], rw c.new-text.ensures (sym (none_told c.args.bus c.args.n (reading c.args.of_a.now) (reading c.args.of_b.now))), wrote_start ports.Report a),
      );
      named = refl;
      opened = c.requires.opened;
      others = record { files = refl; requests = refl; reads = refl; written = λ q ne. refl; name = λ q ne. refl; opened = λ q ne. refl; faults = λ q ne. refl };
    }

pub hear-step-requires-clause-rising : goal.hear-step-requires-clause-rising
hear-step-requires-clause-rising g c = rising_from _ (suc c.loop-next.next) 0 (omega arith) c.wire_at-a-in-loop-next.ensures.rising

pub loop-next-preserved : goal.loop-next-preserved
loop-next-preserved g c =
    let l = c.loop-next in
    let now : ℕ = l.invariant.at.0 in
    let at = l.invariant.at.1 in
    let wa = c.wire_at-a-in-loop-next in
    let wb = c.wire_at-b-in-loop-next in
    let less : l.next < c.args.n = c.loop-next-test.true in
    let text = text_next c.args.bus c.args.n c.args.of_a.now c.args.of_b.now now l.next l.a.level l.a.rows.now l.b.level l.b.rows.now l.heard at
    wa.result.level wa.result.rows.now wb.result.level wb.result.rows.now c.reads_one.result c.reads_one-in-loop-next.result c.hear-step.result.heard c.hear-step.result.line.items
    less wa.ensures.level wa.ensures.later wa.ensures.rising wb.ensures.level wb.ensures.later wb.ensures.rising
    c.reads_one.ensures c.reads_one-in-loop-next.ensures c.hear-step.ensures.heard c.hear-step.ensures.line in
    record {
      at = (
        l.next,
        at_next c.args.bus c.args.n c.args.of_a.now c.args.of_b.now now l.next l.a.level l.a.rows.now l.b.level l.b.rows.now l.heard at
            wa.result.level wa.result.rows.now wb.result.level wb.result.rows.now c.reads_one.result c.reads_one-in-loop-next.result c.hear-step.result.heard c.hear-step.result.line.items
            less wa.ensures.level wa.ensures.later wa.ensures.rising wb.ensures.level wb.ensures.later wb.ensures.rising
            c.reads_one.ensures c.reads_one-in-loop-next.ensures c.hear-step.ensures.heard c.hear-step.ensures.line
            c.first_cycle-next-in-loop-next.result
            (ap (λ (m : ℕ). first_cycle m wb.result.rows.now) (sym c.first_cycle-in-loop-next.ensures) ∙ sym c.first_cycle-next-in-loop-next.ensures),
        subst (λ (t : List ℕ). Gathers c.gather-end.result c.gather-end.new.text.items t (g.B.Bench.outside c.args.bench.now) (g.B.Bench.outside c.gather-end.new.bench)) (sym text)
            (c.gather-end.ensures.gathers (g.B.Bench.outside c.args.bench.now) _ l.invariant.at.2),
      );
      named = c.gather-end.ensures.named ∙ l.invariant.named;
      opened = c.gather-end.ensures.opened;
      others = others_more ports.Report _ _ _ l.invariant.others c.gather-end.ensures.others;
    }

pub returns-clause-wrote : goal.returns-clause-wrote
returns-clause-wrote g c =
    let l = c.loop-next in
    let past = c.loop-next-test.false in
    let last = text_last c.args.bus c.args.n c.args.of_a.now c.args.of_b.now l.invariant.at.0 l.next l.a.level l.a.rows.now l.b.level l.b.rows.now l.heard l.invariant.at.1 (omega (arith, past)) in
    let a = g.B.Bench.outside c.args.bench.now in
    let b = g.B.Bench.outside c.write_next.new.bench in
    let gathers = l.invariant.at.2 in
    let more : Wrote c.write_next.result ports.Report (gathers.0 ++ l.text.items) a b = rw c.as_slice.ensures.value at c.write_next.ensures.next a gathers.0 gathers.2 in
    subst (λ (t : List ℕ). Wrote c.write_next.result ports.Report t a b) (gathers.1 ∙ last) more

pub returns-clause-named : goal.returns-clause-named
returns-clause-named g c = c.write_next.ensures.named ∙ c.loop-next.invariant.named

pub returns-clause-others : goal.returns-clause-others
returns-clause-others g c = others_more ports.Report _ _ _ c.loop-next.invariant.others c.write_next.ensures.others
