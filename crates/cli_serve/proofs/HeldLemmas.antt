-- What `serve` leaves on the ports.
use Rattle.std.proofs.Common.{◌≡◌, ◌∙◌, ◌+◌, ◌≤◌, ℕ, List, [], ◌++◌, length, take, Bool, true, Option, None, Some, Ok, IfSome, ap, sym, subst, arith}
use Rattle.std.specs.Prelude.{is_some}
use Rattle.sim_base.specs.declared.bench.Port.TheVariants as ports
use Rattle.sim_base.specs.declared.bench.WriteEnd.TheVariants as writes
use Rattle.sim_base.specs.Causes.{Rose}
use Rattle.sim_base.specs.Outside.{Outside, SamePorts, Files, IsFront}
use Rattle.board_model.specs.Fits.{AreInputs}
use Rattle.sim_outcome_model.specs.Stop.{Texts}
use Rattle.sim_outcome_model.specs.Outcome.{Outcome, Accepted, NoRequest, Stopped, ReadFailed, RequestFailed, WriteFailed, OutOfMemory, Begin}
use Rattle.sim_outcome_model.specs.Work.{SaidNothing}
use Rattle.sim_outcome_model.specs.Happens.{Answer, TalkEnds, Counts}
use Rattle.sim_outcome_model.proofs.ReadLemmas.{if_some}
use Rattle.sim_outcome_model.proofs.EndLemmas.{begins_after}
use Rattle.vcd_text.specs.Ports as ports_texts
use Rattle.any_part.specs.AnyPart.{AnyState}
use Rattle.any_part.specs.Start.{Contents}
use Rattle.board_build.specs.declared.plan.Plan.{Plan}
use Rattle.board_outputs.specs.Ran.{OpensNamed, Ran}
use Rattle.board_outputs.proofs.RanLemmas.{ran_ends, ran_said, ran_counts}
use Rattle.board_outputs.proofs.StageLemmas.{opened_wave, wave_unopened, played, play_broke}
use Rattle.project_model.specs.Work.{Work, WorkIn}
use Rattle.project_run.specs.Run.{run_wave, run_wakes}
use Rattle.law_isolation.specs.Isolated.{Fact, Isolated}
use Rattle.law_isolation.proofs.Isolation.{isolated}
use Rattle.board_build.specs.IsPlan.{IsPlan}
use Rattle.chip_module.specs.Sources.{pins_of}
use Rattle.live_model.specs.Board.{Setup}
use Rattle.live_model.specs.Standing.{Standing, opened}
use Rattle.live_model.specs.Talk.{greeting, reply, standing_after, talk}
use Rattle.live_project.specs.Start.{setup_of}
use Rattle.cli_serve.specs.Answer.{IsTalk, IsToldTalk, ServeSuch, contents, most_requests, talk_texts, under_given}
use Rattle.cli_serve.specs.Conversed.{HasTalked, Held}
use Rattle.cli_serve.proofs.ConverseLemmas.{may_say, none_read}
use Rattle.law_board.proofs.ScriptLaw.{inputs_more}
use Rattle.cli_serve.proofs.ReplyLemmas.{reply_keeps}
use Rattle.cli_serve.proofs.TalkLemmas.{begun, talk_keeps}
use Rattle.cli_serve.proofs.ServeLemmas.{held_begins, serve_texts, talk_outputs}

-- a conversation over the requests that are told
module _ (IsSo : Fact) (has : Contents) (plan : Plan) (wave : Option (List ℕ)) where
  abbrev board : Setup AnyState
  board = setup_of has plan (is_some wave)

  over_lines : (s : Standing) (said : List ℕ) (lines : List (List ℕ)) (lacks : List Bool) → talk board lacks (opened plan.inputs) (take most_requests lines) ≡ (s, said) → IsSo has (under_given plan s) s.cycle →
      IsTalk IsSo has plan wave (talk_texts has plan wave (s, said)) lines
  over_lines s said lines lacks talked so = (
    lacks,
    (
      ap (λ (e : Standing × List ℕ). talk_texts has plan wave e) (sym talked),
      subst (λ (e : Standing × List ℕ). IsSo has (under_given plan e.0) e.0.cycle) (sym talked) so,
    ),
  )

  pub told_talk : (requests : Option (List (List ℕ))) (s : Standing) (said : List ℕ) → HasTalked board (opened plan.inputs) requests s said → IsSo has (under_given plan s) s.cycle →
      IsToldTalk IsSo has plan wave (talk_texts has plan wave (s, said)) requests
  told_talk None s said talked so = (talked.lines, over_lines s said talked.lines talked.lacks talked.talked so)
  told_talk (Some told) s said talked so = subst (λ (l : List (List ℕ)). IsTalk IsSo has plan wave (talk_texts has plan wave (s, said)) l) (sym talked.told) (over_lines s said talked.lines talked.lacks talked.talked so)

-- The requests are those of before where a wave was opened.
same_requests : (wave : Option (List ℕ)) (m o : Outside) → OpensNamed ports.Wave wave writes.Ok m o → o.requests ≡ m.requests
same_requests None m o opens = ap (λ (x : Outside). x.requests) opens
same_requests (Some name) m o (opens, others) = others.requests

module _ (IsSo : Fact) (folder : List ℕ) (budget : ℕ) (script wave : Option (List ℕ)) (work : Work) (a m : Outside)
    (reads : m.read_faults ≡ a.read_faults) (same : SamePorts a m) (read : IfSome a.files (λ files. WorkIn folder script None files (Ok work))) where
  abbrev has : Contents
  has = contents work budget

  abbrev such : Answer
  such = ServeSuch IsSo a.requests folder budget script wave

  -- what a conversation is answered with that came to this standing
  is_answer : (requests : Option (List (List ℕ))) (s : Standing) (said : List ℕ) → requests ≡ a.requests → HasTalked (board IsSo has work.plan wave) (opened work.plan.inputs) requests s said → IsSo has (under_given work.plan s) s.cycle →
      IfSome a.files (λ files. such files (Ok (talk_texts has work.plan wave (s, said))))
  is_answer requests s said are talked so =
      serve_texts IsSo a.requests folder budget script wave a.files work (talk_texts has work.plan wave (s, said)) read
      (subst (λ (r : Option (List (List ℕ))). IsToldTalk IsSo has work.plan wave (talk_texts has work.plan wave (s, said)) r) are (told_talk IsSo has work.plan wave requests s said talked so))

  -- where the wave could not be opened
  pub unopened_ends : (c : Outside) (s : Standing) (said : List ℕ) → HasTalked (board IsSo has work.plan wave) (opened work.plan.inputs) m.requests s said → IsSo has (under_given work.plan s) s.cycle →
      OpensNamed ports.Wave wave writes.Failed m c → TalkEnds such WriteFailed a c × SaidNothing a c
  unopened_ends c s said talked so opens =
      let t : Texts = talk_texts has work.plan wave (s, said) in
      let ran : Ran WriteFailed t m c = wave_unopened (talk_outputs wave) (run_wave has (under_given work.plan s) s.cycle) (greeting ++ said) [] (run_wakes has (under_given work.plan s) s.cycle) m c opens in
      (ran_ends such t a m c reads same WriteFailed (is_answer m.requests s said same.requests talked so) ran, ran_said such t a m c reads same WriteFailed ran)

  module _ (o c : Outside) (opens : OpensNamed ports.Wave wave writes.Ok m o) where
    requests_are : o.requests ≡ a.requests
    requests_are = same_requests wave m o opens ∙ same.requests

    module _ (s : Standing) (said : List ℕ) (talked : HasTalked (board IsSo has work.plan wave) (opened work.plan.inputs) o.requests s said) (so : IsSo has (under_given work.plan s) s.cycle) where
      abbrev made : Texts
      made = talk_texts has work.plan wave (s, said)

      abbrev text : List ℕ
      text = run_wave has (under_given work.plan s) s.cycle

      abbrev wakes : ℕ
      wakes = run_wakes has (under_given work.plan s) s.cycle

      answer : IfSome a.files (λ files. such files (Ok made))
      answer = is_answer o.requests s said requests_are talked so

      -- all was written
      pub whole_ends : ports_texts.Leaves (ports_texts.texts (is_some wave) true text (greeting ++ said)) o c → TalkEnds such Accepted a c × SaidNothing a c
      whole_ends leaves =
          let ran : Ran Accepted made m c = played (talk_outputs wave) text (greeting ++ said) wakes m o c (opened_wave (talk_outputs wave) wakes m o opens) leaves in
          (ran_ends such made a m c reads same Accepted answer ran, ran_said such made a m c reads same Accepted ran)

      -- a first part was written
      pub broken_ends : ports_texts.BreaksOff (ports_texts.texts (is_some wave) true text (greeting ++ said)) o c → TalkEnds such WriteFailed a c × SaidNothing a c
      broken_ends broke =
          let ran : Ran WriteFailed made m c = play_broke (talk_outputs wave) text (greeting ++ said) [] wakes m o c (opened_wave (talk_outputs wave) wakes m o opens) broke in
          (ran_ends such made a m c reads same WriteFailed answer ran, ran_said such made a m c reads same WriteFailed ran)

      -- a request could not be read
      pub stopped_ends : (x : Outside) (f g : List ℕ) → ports_texts.Leaves (ports_texts.texts (is_some wave) true f g) o x → IsFront f text → IsFront g (greeting ++ said) → Rose x.read_faults c.read_faults → SamePorts (record x { requests = c.requests }) c →
          TalkEnds such RequestFailed a c × SaidNothing a c
      stopped_ends x f g leaves wave_front answers_front rose still =
          let w = played (talk_outputs wave) f g wakes m o x (opened_wave (talk_outputs wave) wakes m o opens) leaves in
          let begun : Begin made m c = held_begins wave wakes m x c still f text g (greeting ++ said) wave_front answers_front w.2 in
          let from : x.read_faults ≡ a.read_faults = w.1.0 ∙ reads in (
            (
              subst (λ (n : ℕ). Rose n c.read_faults) from rose,
              if_some a.files _ _ (λ (files : Files) (e : such files (Ok made)). (
                made,
                e,
                record {
                  serial = rw (← same.written ports.Serial) begun.serial;
                  wave = begins_after a m c same ports.Wave made.wave begun.wave;
                  report = begins_after a m c same ports.Report made.report begun.report;
                },
              )) answer,
            ),
            (
              still.written ports.Complaint ∙ w.0.0 ∙ same.written ports.Complaint,
              still.faults ports.Complaint ∙ w.0.1 ∙ same.faults ports.Complaint,
            ),
          )

  -- what a conversation leaves, by its outcome
  pub held_ends : (so : (s : Standing) (said : List ℕ) (requests : Option (List (List ℕ))) → HasTalked (board IsSo has work.plan wave) (opened work.plan.inputs) requests s said → IsSo has (under_given work.plan s) s.cycle) →
      (o c : Outside) (before after : ℕ) → OpensNamed ports.Wave wave writes.Ok m o → (outcome : Outcome) → Held (board IsSo has work.plan wave) o (opened work.plan.inputs) outcome o c before after → TalkEnds such outcome a c × SaidNothing a c
  held_ends so o c before after opens Accepted held = whole_ends o c opens held.end held.said held.talked (so held.end held.said o.requests held.talked) held.leaves
  held_ends so o c before after opens WriteFailed held = broken_ends o c opens held.end held.said held.talked (so held.end held.said o.requests held.talked) held.broke
  held_ends so o c before after opens RequestFailed held =
      stopped_ends o c opens held.end held.said held.talked (so held.end held.said o.requests held.talked) held.before held.wave held.answers held.leaves held.wave_front held.answers_front held.rose held.ports
  held_ends so o c before after opens NoRequest held = absurd held
  held_ends so o c before after opens (Stopped stop) held = absurd held
  held_ends so o c before after opens (ReadFailed name) held = absurd held
  held_ends so o c before after opens OutOfMemory held = absurd held

  -- and its wakes
  pub held_counts : (so : (s : Standing) (said : List ℕ) (requests : Option (List (List ℕ))) → HasTalked (board IsSo has work.plan wave) (opened work.plan.inputs) requests s said → IsSo has (under_given work.plan s) s.cycle) →
      (o c : Outside) (before after : ℕ) → OpensNamed ports.Wave wave writes.Ok m o → (outcome : Outcome) → Held (board IsSo has work.plan wave) o (opened work.plan.inputs) outcome o c before after → Counts such outcome a before after
  held_counts so o c before after opens Accepted held =
      let t : Texts = talk_texts has work.plan wave (held.end, held.said) in
      let zero_more : after ≡ before + t.wakes = (let counted = held.counted in omega (arith, counted)) in
      ran_counts such t Accepted a before after (is_answer o.requests held.end held.said (requests_are o c opens) held.talked (so held.end held.said o.requests held.talked)) (λ e. zero_more)
  held_counts so o c before after opens WriteFailed held = λ e. absurd (cc)
  held_counts so o c before after opens RequestFailed held = λ e. absurd (cc)
  held_counts so o c before after opens NoRequest held = absurd held
  held_counts so o c before after opens (Stopped stop) held = absurd held
  held_counts so o c before after opens (ReadFailed name) held = absurd held
  held_counts so o c before after opens OutOfMemory held = absurd held

-- the values that are given are for parts of the plan
module _ (has : Contents) (plan : Plan) (wave : Bool) (is : IsPlan (pins_of has.chips) plan) (script : AreInputs (length plan.parts) plan.inputs) where
  keeps : (s : Standing) (lacks : Bool) (line : List ℕ) → AreInputs (length plan.parts) s.inputs → AreInputs (length plan.parts) (standing_after s (reply (setup_of has plan wave) s lacks line)).inputs
  keeps s lacks line inputs =
      reply_keeps (setup_of has plan wave) s (λ (e : Standing). AreInputs (length plan.parts) e.inputs) inputs (λ t le. inputs) (λ x le less. inputs_more (length plan.parts) s.inputs x inputs less) lacks line

  given_inputs : (requests : Option (List (List ℕ))) (s : Standing) (said : List ℕ) → HasTalked (setup_of has plan wave) (opened plan.inputs) requests s said → AreInputs (length plan.parts) s.inputs
  given_inputs requests s said it =
      subst (λ (e : Standing × List ℕ). AreInputs (length plan.parts) e.0.inputs) it.talked
      (talk_keeps (setup_of has plan wave) (λ (e : Standing). AreInputs (length plan.parts) e.inputs) keeps it.lacks (opened plan.inputs) (take most_requests it.lines) script)

  -- so the run under them is isolated
  pub talk_isolated : (requests : Option (List (List ℕ))) (s : Standing) (said : List ℕ) → HasTalked (setup_of has plan wave) (opened plan.inputs) requests s said → Isolated has (under_given plan s) s.cycle
  talk_isolated requests s said it =
      let inputs = given_inputs requests s said it in
      isolated has (under_given plan s) (record {
        few = is.few;
        ready = is.ready;
        one_uno = is.one_uno;
        few_chips = is.few_chips;
        wiring = is.wiring;
        first_pins = is.first_pins;
        chips = is.chips;
        pins = is.pins;
        contacts = is.contacts;
        for_parts = inputs.for_parts;
      }) s.cycle

-- a conversation over any requests that are told
pub some_talk : (b : Setup AnyState) (start : Standing) (requests : Option (List (List ℕ))) → (s : Standing) × (said : List ℕ) × HasTalked b start requests s said
some_talk b start requests =
    let none : 0 ≤ most_requests = omega arith in
    let may = may_say b start requests requests start [] [] (begun b start) (none_read requests) none in
    ((talk b may.lacks start may.rest).0, [] ++ (talk b may.lacks start may.rest).1, may.talked)

-- Nothing changed from n back to m but what a live board that was opened does not touch: the requests are the same.
module _ (b : Setup AnyState) (a : Outside) (start : Standing) (m n c : Outside) (same : n.requests ≡ m.requests) (before after : ℕ) where
  talked_from : (s : Standing) (said : List ℕ) → HasTalked b start n.requests s said → HasTalked b start m.requests s said
  talked_from s said talked = subst (λ (r : Option (List (List ℕ))). HasTalked b start r s said) same talked

  pub held_from : (outcome : Outcome) → Held b a start outcome n c before after → Held b a start outcome m c before after
  held_from Accepted it = record { end = it.end; said = it.said; talked = talked_from it.end it.said it.talked; leaves = it.leaves; counted = it.counted }
  held_from WriteFailed it = record { end = it.end; said = it.said; talked = talked_from it.end it.said it.talked; broke = it.broke }
  held_from RequestFailed it = record {
    end = it.end;
    said = it.said;
    talked = talked_from it.end it.said it.talked;
    before = it.before;
    wave = it.wave;
    answers = it.answers;
    leaves = it.leaves;
    wave_front = it.wave_front;
    answers_front = it.answers_front;
    rose = it.rose;
    ports = it.ports;
  }
  held_from NoRequest it = absurd it
  held_from (Stopped stop) it = absurd it
  held_from (ReadFailed name) it = absurd it
  held_from OutOfMemory it = absurd it
