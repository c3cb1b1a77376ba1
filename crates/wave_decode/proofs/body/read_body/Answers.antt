use Rattle.std.proofs.Common.{◌∙◌, ◌++◌, suc, List, [], ◌∷◌, Ok, Err, refl, sym, ap, subst, arith}
use Rattle.sim_base.specs.declared.fault.Refusal.{Refusal}
use Rattle.wave_lines.specs.declared.line.Line.TheVariants as says
use Rattle.wave_lines.specs.Reading.{Change}
use Rattle.wave_lines.proofs.ReadingLemmas.{line_read}
use Rattle.wave_decode.specs.Bodies.{BodyRows, body_rows}
use Rattle.wave_decode.specs.Levels.{at_end, below, last_cycle, level_said}
use Rattle.wave_decode.specs.Rising.{IsRising}
use Rattle.wave_decode.proofs.RisingLemmas.{rising_to}
use Rattle.wave_decode.proofs.BodyLemmas.{body_is, kept_later, kept_more, kept_none, read_badly, read_well}
use Rattle.wave_decode.proofs.body.read_body.Goals as goal
use Rattle.wave_decode.proofs.body.read_body.Goals.{in-Goes, in-Time, in-Value+in_ok-note-in-Value+in_ok-note-in-Value-2}

pub loop-line-init : goal.loop-line-init
loop-line-init c =
    let h = c.args.head.now in
    record {
      number = c.requires.short;
      first_line = c.requires.begun;
      early = omega arith;
      said = (
        [],
        kept_none h.variables c.args.first c.args.second c.in_ok-given.given c.in_ok-of_first.of_first.items c.in_ok-of_second.of_second.items
            c.in_ok-given.ensures c.in_ok-of_first.ensures c.in_ok-of_second.ensures,
        refl,
      );
    }

pub returns-in-Faulty-clause-reads : goal.returns-in-Faulty-clause-reads
returns-in-Faulty-clause-reads c =
    let l = c.loop-line in
    let h = c.args.head.now in
    ap (body_rows c.args.first c.args.second)
    (sym (line_read (below h.variables) last_cycle (at_end h.variables) l.number l.stage l.cycle l.invariant.said.0 l.rest.now c.in-Some.line.now c.in-Some.more.now
    (says.Faulty c.in-Faulty.fault) _ l.invariant.said.2 c.in-Some.ensures.line c.in-Some.ensures.rest c.in-Faulty.ensures.said))
    ∙ ap (λ (r : Refusal). Err r) (sym c.refused.ensures)

pub loop-line-preserved : goal.loop-line-preserved
loop-line-preserved c =
    let l = c.loop-line in
    let h = c.args.head.now in
    let said = l.invariant.said.0 in
    let number = l.invariant.number in
    let shorter = c.in-Some.ensures.shorter in
    elim c.match-read_line.branch [
      | in-Goes w ↦ record {
        number = omega (arith, number, shorter);
        first_line = omega arith;
        early = rw w.cycle-is l.invariant.early;
        said = rw (w.given-is, w.of_first-is, w.of_second-is, w.stage-is, w.cycle-is) (
          said,
          l.invariant.said.1,
          line_read (below h.variables) last_cycle (at_end h.variables) l.number l.stage l.cycle said l.rest.now c.in-Some.line.now c.in-Some.more.now
              (says.Goes w.in-Goes.next) _ l.invariant.said.2 c.in-Some.ensures.line c.in-Some.ensures.rest w.in-Goes.ensures.said,
        );
      }
      | in-Time w ↦ record {
        number = omega (arith, number, shorter);
        first_line = omega arith;
        early = rw w.cycle-is w.in-Time.ensures.fits.1;
        said = rw (w.given-is, w.of_first-is, w.of_second-is, w.stage-is, w.cycle-is) (
          said,
          (let fits = w.in-Time.ensures.fits.0 in kept_later h.variables c.args.first c.args.second l.cycle w.in-Time.next said l.given l.of_first.items l.of_second.items (omega (arith, fits)) l.invariant.said.1),
          line_read (below h.variables) last_cycle (at_end h.variables) l.number l.stage l.cycle said l.rest.now c.in-Some.line.now c.in-Some.more.now
              (says.Time w.in-Time.next) _ l.invariant.said.2 c.in-Some.ensures.line c.in-Some.ensures.rest w.in-Time.ensures.said,
        );
      }
      | in-Value+in_ok-note-in-Value+in_ok-note-in-Value-2 w ↦ (
          let i = w.in-Value.i in
          let value = w.in-Value.value in
          let more : List Change = said ++ record { cycle = l.cycle; variable = i; value = value } ∷ [] in
          record {
            number = omega (arith, number, shorter);
            first_line = omega arith;
            early = rw w.cycle-is l.invariant.early;
            said = rw (w.given-is, w.of_first-is, w.of_second-is, w.stage-is, w.cycle-is, w.note.ensures, w.in_ok-note-in-Value.ensures, w.in_ok-note-in-Value-2.ensures, w.after_value-stage.ensures) (
              more,
              kept_more h.variables c.args.first c.args.second l.cycle i value said l.given l.of_first.items l.of_second.items l.invariant.said.1,
              line_read (below h.variables) last_cycle (at_end h.variables) l.number l.stage l.cycle said l.rest.now c.in-Some.line.now c.in-Some.more.now
                  (says.Value i value) _ l.invariant.said.2 c.in-Some.ensures.line c.in-Some.ensures.rest w.in-Value.ensures.said,
            );
          })
    ]

pub note-requires : goal.note-requires
note-requires c =
    let less = c.in-Value.ensures.fits in
    let many = c.loop-line.invariant.said.1.all_given.many in
    omega (arith, less, many)

pub returns-in-None-clause-reads : goal.returns-in-None-clause-reads
returns-in-None-clause-reads c =
    let l = c.loop-line in
    let h = c.args.head.now in
    let kept = l.invariant.said.1 in
    ap (body_rows c.args.first c.args.second)
    (read_well h.variables l.number l.stage l.cycle l.invariant.said.0 l.rest.now l.given _ c.is_opened.result c.are_all.result c.end_fault.result
    kept.all_given l.invariant.said.2 c.in_default.ensures.none.0 c.in_default.ensures.none.1 c.is_opened.ensures c.are_all.ensures c.end_fault.ensures c.in-None.is)
    ∙ ap (λ (b : BodyRows). Ok b) (sym (body_is l.cycle l.of_first.items l.of_second.items _ _ kept.first_rows kept.second_rows))

pub returns-in-None-clause-early : goal.returns-in-None-clause-early
returns-in-None-clause-early c = c.loop-line.invariant.early

pub returns-in-None-clause-first_rising : goal.returns-in-None-clause-first_rising
returns-in-None-clause-first_rising c =
    let l = c.loop-line in
    subst (IsRising 0) (sym l.invariant.said.1.first_rows) (rising_to (level_said c.args.first l.invariant.said.0) (suc l.cycle))

pub returns-in-None-clause-second_rising : goal.returns-in-None-clause-second_rising
returns-in-None-clause-second_rising c =
    let l = c.loop-line in
    subst (IsRising 0) (sym l.invariant.said.1.second_rows) (rising_to (level_said c.args.second l.invariant.said.0) (suc l.cycle))

pub returns-clause-reads : goal.returns-clause-reads
returns-clause-reads c =
    let l = c.loop-line in
    let h = c.args.head.now in
    let kept = l.invariant.said.1 in
    ap (body_rows c.args.first c.args.second)
    (read_badly h.variables l.number l.stage l.cycle l.invariant.said.0 l.rest.now l.given _ c.is_opened.result c.are_all.result c.end_fault.result
    kept.all_given l.invariant.said.2 c.in_default.ensures.none.0 c.in_default.ensures.none.1 c.is_opened.ensures c.are_all.ensures c.end_fault.ensures c.in-Some-end_fault.refusal c.in-Some-end_fault.is)
