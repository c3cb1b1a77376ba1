use Rattle.std.proofs.Common.{◌≡◌, ◌∙◌, ℕ, List, length, Ok, Err, ap, refl, subst}
use Rattle.sim_base.specs.declared.fault.Fault.{Fault}
use Rattle.sim_base.specs.Reads.{Reads}
use Rattle.text_model.specs.Wave.{Variable}
use Rattle.law_board.specs.Player.{DriveRows}
use Rattle.board_outputs.specs.Variables.{board_variables}
use Rattle.chip_module.specs.declared.source.ChipSource.{ChipSource}
use Rattle.chip_module.specs.Sources.{pins_of}
use Rattle.vcd_text.specs.Tracks.{wave_rows}
use Rattle.sim_io.specs.Outcomes.{outcome_of}
use Rattle.cli_project.specs.Works.{work_of}
use Rattle.cli_replay.specs.Plays.{IsReady}
use Rattle.cli_replay.proofs.OrderLemmas.{rows_ordered}
use Rattle.cli_replay.proofs.ReplayLemmas.{rows_got, rows_stop, said_same}
use Rattle.cli_replay.proofs.RepeatLemmas.{repeats_got, repeats_stop}
use Rattle.cli_replay.proofs.replaying.read_rows.Goals as goal

shown : (c : goal.In-Ok-read_wave) → c.in-Ok.head.variables ≡ board_variables (pins_of c.args.work.chips) c.args.work.plan
shown c = c.in-Ok.ensures ∙ ap (λ (chips : List ChipSource). board_variables (pins_of chips) c.args.work.plan) c.as_slice.ensures

said : (c : goal.In-Ok-read_wave) →
    wave_rows (board_variables (pins_of c.args.work.chips) c.args.work.plan) (length c.args.work.plan.wiring.net_of) c.args.n c.args.work.wave.items ≡ Ok c.in-Ok-read_wave.rows
said c =
    said_same c.in-Ok.head.variables (board_variables (pins_of c.args.work.chips) c.args.work.plan) c.len-pins.result (length c.args.work.plan.wiring.net_of) c.args.n
    c.as_slice-2.result.now c.args.work.wave.items (Ok c.in-Ok-read_wave.rows) (shown c) c.len-pins.ensures c.as_slice-2.ensures.value c.in-Ok-read_wave.ensures.reads

pub returns-in-Ok-read_wave-clause-got : goal.returns-in-Ok-read_wave-clause-got
returns-in-Ok-read_wave-clause-got c = λ a. (rows_got c.args.name.now c.args.n (work_of c.args.work) c.in-Ok-read_wave.rows a (said c), refl)

ready : (c : goal.In-Ok-read_wave) → IsReady c.args.n (record { work = c.args.work; head = c.in-Ok.head; rows = c.in-Ok-read_wave.rows })
ready c = record {
  sound = c.requires.sound;
  head = shown c;
  pins = c.in-Ok-read_wave.ensures.pins ∙ c.len-pins.ensures;
  order = rows_ordered (board_variables (pins_of c.args.work.chips) c.args.work.plan) (length c.args.work.plan.wiring.net_of) c.args.n c.args.work.wave.items c.in-Ok-read_wave.rows (said c);
  said = said c;
}

pub returns-in-Ok-read_wave-clause-ready : goal.returns-in-Ok-read_wave-clause-ready
returns-in-Ok-read_wave-clause-ready c = ready c

pub returns-in-Ok-read_wave-clause-repeated : goal.returns-in-Ok-read_wave-clause-repeated
returns-in-Ok-read_wave-clause-repeated c = λ a. (
  repeats_got c.args.name.now c.args.n c.requires.some c.requires.end _ (ready c) a (rows_got c.args.name.now c.args.n (work_of c.args.work) c.in-Ok-read_wave.rows a (said c)),
  refl,
)

refused : (c : goal.After-stopped) →
    wave_rows (board_variables (pins_of c.args.work.chips) c.args.work.plan) (length c.args.work.plan.wiring.net_of) c.args.n c.args.work.wave.items ≡ Err c.in-Err-Refused.refusal
refused c =
    let variables : List Variable = board_variables (pins_of c.args.work.chips) c.args.work.plan in
    let pins : ℕ = length c.args.work.plan.wiring.net_of in
    let shown : c.in-Ok.head.variables ≡ variables = c.in-Ok.ensures ∙ ap (λ (chips : List ChipSource). board_variables (pins_of chips) c.args.work.plan) c.as_slice.ensures in
    let reads = subst (λ (f : Fault). Reads {X = List DriveRows} {Y = List DriveRows} (λ rows. rows) (Err f) (wave_rows c.in-Ok.head.variables c.len-pins.result c.args.n c.as_slice-2.result.now))
    c.in-Err-Refused.field-0-is c.in-Err-Refused.ensures.reads in
    said_same c.in-Ok.head.variables variables c.len-pins.result pins c.args.n c.as_slice-2.result.now c.args.work.wave.items (Err c.in-Err-Refused.refusal)
    shown c.len-pins.ensures c.as_slice-2.ensures.value reads

pub returns-in-Err-Refused-clause-got : goal.returns-in-Err-Refused-clause-got
returns-in-Err-Refused-clause-got c = λ a. rows_stop c.args.name.now c.args.n (work_of c.args.work) c.in-Err-Refused.refusal (outcome_of c.stopped.result) a (refused c) c.stopped.ensures

pub returns-in-Err-Refused-clause-repeated : goal.returns-in-Err-Refused-clause-repeated
returns-in-Err-Refused-clause-repeated c = λ a.
    repeats_stop c.args.name.now c.args.n c.requires.some c.requires.end c.args.work c.requires.sound c.in-Err-Refused.refusal (outcome_of c.stopped.result) a (refused c) c.stopped.ensures
