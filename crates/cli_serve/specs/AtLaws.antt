-- Where the live board of a project stands: what a talker promises (`Talker`).
use Rattle.std.proofs.Common.{◌≡◌, ◌∙◌, ℕ, List, ◌++◌, Bool, true, refl, ap, sym, subst}
use Rattle.sim_base.specs.declared.bench.Port.TheVariants as ports
use Rattle.sim_base.specs.Outside.{Outside, SamePorts, IsFront}
use Rattle.text_model.specs.Wave.{begun_text}
use Rattle.part_law.specs.declared.part.Part.{Ghosts}
use Rattle.vcd_text.specs.Ports.{texts, Leaves}
use Rattle.any_part.specs.AnyPart.{AnyPart, AnyState}
use Rattle.board_live.specs.LiveView.{rows_by}
use Rattle.live_leg.specs.Said.{HasSaid}
use Rattle.live_leg.specs.Talks.{writer_of}
use Rattle.live_leg.proofs.GoingLemmas.{going_read, going_said, stands_with}
use Rattle.live_model.specs.Board.{Setup, rows_to, wave_to}
use Rattle.live_model.specs.Standing.{Standing}
use Rattle.live_talk.specs.Answers.{standing_of}
use Rattle.live_project.specs.Goes.{IsAt, MayAnswer, setup_by}
use Rattle.live_project.specs.declared.live.Live.{Live}

module _ (part : Ghosts AnyPart) where
  -- a request was read, or could not be read
  pub may_read : (live : Live) (a m c : Outside) → MayAnswer part live a m → SamePorts (record m { requests = c.requests }) c → c.read_faults ≡ m.read_faults → MayAnswer part live a c
  may_read live a m c may same reads = record {
    talks = going_read part live.talk.live (writer_of live.talk) live.talk.sent live.talk.from a m may.talks c same reads;
    wanted = may.wanted;
    wiring = may.wiring;
    many = may.many;
  }

  pub at_read : (b : Setup AnyState) (live : Live) (s : Standing) (said : List ℕ) (a m c : Outside) → IsAt part b live s said a m → SamePorts (record m { requests = c.requests }) c → c.read_faults ≡ m.read_faults → IsAt part b live s said a c
  at_read b live s said a m c at same reads = record {
    setup = at.setup;
    standing = at.standing;
    may = may_read live a m c at.may same reads;
    has_said = same.written ports.Serial ∙ at.has_said;
  }

  -- whatever it is and was said
  pub at_any : (live : Live) (a m : Outside) → MayAnswer part live a m → (b : Setup AnyState) × (s : Standing) × (said : List ℕ) × IsAt part b live s said a m
  at_any live a m may = (
    setup_by live,
    standing_of live.talk.live,
    may.talks.text,
    record {
      setup = refl;
      standing = refl;
      may = may;
      has_said = going_said part live.talk.live (writer_of live.talk) live.talk.sent live.talk.from a m may.talks;
    },
  )

  pub at_may : (b : Setup AnyState) (live : Live) (s : Standing) (said : List ℕ) (a m : Outside) → IsAt part b live s said a m → MayAnswer part live a m
  at_may b live s said a m at = at.may

  -- what the ports have got, where its rows are those of its setup
  pub at_front : ((live : Live) (t : ℕ) → rows_by part live.talk.live t ≡ rows_to (setup_by live) live.talk.live.inputs t) →
      (b : Setup AnyState) (live : Live) (s : Standing) (said : List ℕ) (a m : Outside) → IsAt part b live s said a m → (gone : List ℕ) × IsFront gone (wave_to b s.inputs s.cycle) × Leaves (texts b.wave true gone said) a m
  at_front rows b live s said a m at =
      let w = writer_of live.talk in
      let stood = stands_with part live.talk.live w live.talk.sent live.talk.from a m at.may.talks said at.has_said in
      let text : stood.gone ++ w.head.text ≡ wave_to (setup_by live) live.talk.live.inputs live.talk.live.cycle =
      stood.kept ∙ ap (λ r. begun_text live.talk.head.variables r) (rows live live.talk.live.cycle) in
      let here : IsFront stood.gone (wave_to (setup_by live) (standing_of live.talk.live).inputs (standing_of live.talk.live).cycle) = record { rest = w.head.text; whole = text } in
      let heard : Leaves (texts w.wave true stood.gone said) a m = subst (λ (x : Bool). Leaves (texts w.wave x stood.gone said) a m) at.may.talks.serial stood.leaves in
      let leaves : Leaves (texts live.wave true stood.gone said) a m = subst (λ (x : Bool). Leaves (texts x true stood.gone said) a m) (sym at.may.wanted) heard in (
        stood.gone,
        subst (λ (x : Setup AnyState). IsFront stood.gone (wave_to x s.inputs s.cycle)) at.setup (subst (λ (x : Standing). IsFront stood.gone (wave_to (setup_by live) x.inputs x.cycle)) at.standing here),
        subst (λ (x : Setup AnyState). Leaves (texts x.wave true stood.gone said) a m) at.setup leaves,
      )
