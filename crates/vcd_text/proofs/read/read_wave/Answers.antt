use Rattle.std.proofs.Common.{◌≡◌, ◌<◌, ◌∙◌, ℕ, List, [], ◌∷◌, ◌++◌, length, get_or, replicate, false, Some, Ok, Err, sym, ap, subst}
use Rattle.std.proofs.Common.{arith}
use Rattle.std.specs.Prelude.{slice_get}
use Rattle.std.specs.Option.{option_map}
use Rattle.std.proofs.lemmas.List.{length-map}
use Rattle.std.proofs.lemmas.Option.{slice_get-map, slice_get-get_or}
use Rattle.sim_base.specs.declared.fault.Refusal.{Refusal}
use Rattle.text_model.specs.Wave.{Variable}
use Rattle.wave_lines.specs.declared.line.Line.TheVariants as says
use Rattle.wave_lines.specs.Reading.{Change, behind}
use Rattle.vcd_text.specs.Variables.{variable_of}
use Rattle.vcd_text.specs.Reading.{changes_behind, verdict}
use Rattle.vcd_text.specs.Tracks.{DriveRows, tracks_of}
use Rattle.vcd_text.specs.TrackStates.{TrackStates, AreSaid}
use Rattle.vcd_text.proofs.TrackLemmas.{said_none, said_later, said_more}
use Rattle.vcd_text.proofs.ReadingLemmas.{line_read, read_well, read_badly}
use Rattle.vcd_text.proofs.read.read_wave.Goals as goal
use Rattle.vcd_text.proofs.read.read_wave.Goals.{in-Goes, in-Time, in-Value+in_ok-change-in-Value}

pub loop-line-init : goal.loop-line-init
loop-line-init c =
    let vs = c.variables-variables.result.now in
    let named = c.variables-variables.ensures in
    let many : length vs ≡ length c.args.head.now.variables = sym (length-map vs variable_of) ∙ ap (λ (l : List Variable). length l) named in
    record {
      number = c.in-Ok.ensures.short;
      first = c.in-Ok.ensures.first;
      cycle = omega arith;
      said = (
        [],
        said_none c.args.head.now.variables c.args.pins c.in_ok-tracks.tracks
            (ap (λ (s : TrackStates). s.given) c.in_ok-tracks.ensures ∙ ap (λ (n : ℕ). replicate n false) many)
            (ap (λ (s : TrackStates). s.pins) c.in_ok-tracks.ensures),
        sym (ap (changes_behind c.args.head.now.variables c.args.n) (ap (λ (h : List ℕ). behind 1 h c.args.bytes.now) (sym c.head_bytes.ensures)
            ∙ c.in-Ok.ensures.behind)),
      );
    }

pub returns-in-Faulty-clause-reads : goal.returns-in-Faulty-clause-reads
returns-in-Faulty-clause-reads c =
    let l = c.loop-line in
    let vs = c.args.head.now.variables in
    let is : says.Faulty c.in-Faulty.fault ≡ verdict vs c.args.n l.stage l.cycle c.in-Some.line.now =
    c.in-Faulty.ensures.said ∙ ap (λ (v : List Variable). verdict v c.args.n l.stage l.cycle c.in-Some.line.now) c.variables-variables.ensures in
    ap (tracks_of vs c.args.pins c.args.n)
    (sym (line_read vs c.args.n l.number l.stage l.cycle l.invariant.said.0 l.rest.now c.in-Some.line.now c.in-Some.more.now
    (says.Faulty c.in-Faulty.fault) _
    l.invariant.said.2 c.in-Some.ensures.line c.in-Some.ensures.rest is))
    ∙ ap (λ (r : Refusal). Err r) (sym c.refused.ensures)

pub loop-line-preserved : goal.loop-line-preserved
loop-line-preserved c =
    let l = c.loop-line in
    let vs = c.args.head.now.variables in
    let said = l.invariant.said.0 in
    let number = l.invariant.number in
    let shorter = c.in-Some.ensures.shorter in
    let named = ap (λ (v : List Variable). verdict v c.args.n l.stage l.cycle c.in-Some.line.now) c.variables-variables.ensures in
    elim c.match-read_line.branch [
      | in-Goes w ↦ record {
        number = omega (arith, number, shorter);
        first = omega arith;
        cycle = rw w.cycle-is l.invariant.cycle;
        said = rw (w.tracks-is, w.stage-is, w.cycle-is) (
          said,
          l.invariant.said.1,
          line_read vs c.args.n l.number l.stage l.cycle said l.rest.now c.in-Some.line.now c.in-Some.more.now
              (says.Goes w.in-Goes.next) _ l.invariant.said.2 c.in-Some.ensures.line c.in-Some.ensures.rest (w.in-Goes.ensures.said ∙ named),
        );
      }
      | in-Time w ↦ record {
        number = omega (arith, number, shorter);
        first = omega arith;
        cycle = rw w.cycle-is w.in-Time.ensures.fits.1;
        said = rw (w.tracks-is, w.stage-is, w.cycle-is) (
          said,
          (let fits = w.in-Time.ensures.fits.0 in said_later vs c.args.pins l.cycle w.in-Time.next said l.tracks (omega (arith, fits)) l.invariant.said.1),
          line_read vs c.args.n l.number l.stage l.cycle said l.rest.now c.in-Some.line.now c.in-Some.more.now
              (says.Time w.in-Time.next) _ l.invariant.said.2 c.in-Some.ensures.line c.in-Some.ensures.rest (w.in-Time.ensures.said ∙ named),
        );
      }
      | in-Value+in_ok-change-in-Value w ↦ (
          let i = w.in-Value.i in
          let all = c.variables-variables.result.now in
          let variable = get_or all i w.index-variables-i.result in
          let less = w.in-Value.ensures.fits in
          let inside : i < length all = omega (arith, less, length-map all variable_of) in
          let here : slice_get vs i ≡ Some (variable_of variable) =
          ap (λ (v : List Variable). slice_get v i) (sym c.variables-variables.ensures) ∙ slice_get-map variable_of all i
          ∙ ap (option_map variable_of) (slice_get-get_or all i w.index-variables-i.result inside) in
          let tracks = w.tracks-is ∙ w.in_ok-change-in-Value.ensures in
          let more : List Change = said ++ record { cycle = l.cycle; variable = i; value = w.in-Value.value } ∷ [] in
          record {
            number = omega (arith, number, shorter);
            first = omega arith;
            cycle = rw w.cycle-is l.invariant.cycle;
            said = rw (w.stage-is, w.cycle-is, w.after_value-stage.ensures) (
              more,
              subst (λ (s : TrackStates). AreSaid vs c.args.pins l.cycle more s) (sym tracks)
                  (said_more vs c.args.pins l.cycle w.in-Value.value i said l.tracks (variable_of variable) here l.invariant.said.1),
              line_read vs c.args.n l.number l.stage l.cycle said l.rest.now c.in-Some.line.now c.in-Some.more.now
                  (says.Value i w.in-Value.value) _ l.invariant.said.2 c.in-Some.ensures.line c.in-Some.ensures.rest (w.in-Value.ensures.said ∙ named),
            );
          })
    ]

pub returns-in-None-clause-reads : goal.returns-in-None-clause-reads
returns-in-None-clause-reads c =
    let l = c.loop-line in
    read_well c.args.head.now.variables c.args.n c.args.pins l.number l.stage l.cycle l.invariant.said.0 l.rest.now l.tracks _ c.is_over-over.result
    c.are_given.result c.end_fault.result
    l.invariant.said.1 l.invariant.said.2 c.in_default.ensures.none.0 c.in_default.ensures.none.1 c.is_over-over.ensures c.are_given.ensures
    c.end_fault.ensures c.in-None.is
    ∙ ap (λ (rows : List DriveRows). Ok rows) (sym c.into_rows.ensures)

pub returns-in-Some-end_fault-clause-reads : goal.returns-in-Some-end_fault-clause-reads
returns-in-Some-end_fault-clause-reads c =
    let l = c.loop-line in
    read_badly c.args.head.now.variables c.args.n c.args.pins l.number l.stage l.cycle l.invariant.said.0 l.rest.now l.tracks _ c.is_over-over.result
    c.are_given.result c.end_fault.result
    l.invariant.said.1 l.invariant.said.2 c.in_default.ensures.none.0 c.in_default.ensures.none.1 c.is_over-over.ensures c.are_given.ensures
    c.end_fault.ensures c.in-Some-end_fault.refusal c.in-Some-end_fault.is
