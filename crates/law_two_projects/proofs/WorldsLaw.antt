-- Two projects that are accepted, and differ in what their chips are made of alone, are two worlds.
use Rattle.std.proofs.Common.{◌≡◌, ◌≤◌, ◌∙◌, ℕ, List, Option, Ok, ap}
use Rattle.sim_base.specs.Outside.{Files}
use Rattle.board_build.specs.Plan.{plan_of}
use Rattle.chip_module.specs.Sources.{pins_of}
use Rattle.any_part.specs.Start.{Contents}
use Rattle.project_model.specs.Work.{Work, WorkIn}
use Rattle.law_isolation.specs.Worlds.{DifferInChips, DriveAlike, IsOneWorld, SeesDrivesAlone}
use Rattle.law_two_projects.specs.OtherChips.{DifferInMakes}
use Rattle.law_two_projects.proofs.PlanLemmas.{ArePlansOf, plans_alike}
use Rattle.law_two_projects.proofs.ReadLemmas.{IsAccepted, accepted}

-- what the parts of a work are loaded with
abbrev pub contents_by : Work → ℕ → Contents
contents_by work budget = record { flash = work.flash; chips = work.chips; budget = budget }

module _ (folder other : List ℕ) (script lines wave waved : Option (List ℕ)) (files more : Files) (work twin : Work)
    (is : WorkIn folder script wave files (Ok work)) (also : WorkIn other lines waved more (Ok twin)) (differ : DifferInMakes script lines files more work twin) where
  -- their boards differ in chips alone, whatever fuel the calls into these get
  pub differ_in_chips : (budget fuel : ℕ) → DifferInChips (contents_by work budget) (contents_by twin fuel) work.plan twin.plan
  differ_in_chips budget fuel =
      let a : IsAccepted script files work = accepted folder script wave files work is in
      let b : IsAccepted lines more twin = accepted other lines waved more twin also in
      let rows : a.rows ≡ b.rows = differ.scripted a.rows b.rows a.scripted b.scripted in
      let plan : plan_of twin.project b.diagram (pins_of work.chips) a.rows ≡ Ok twin.plan =
      ap (λ l. plan_of twin.project b.diagram l a.rows) differ.pins ∙ ap (plan_of twin.project b.diagram (pins_of twin.chips)) rows ∙ b.planned in
      let alike : ArePlansOf work.plan twin.plan =
      plans_alike work.project twin.project a.diagram b.diagram (pins_of work.chips) a.rows work.plan twin.plan differ.names (differ.drawn a.diagram b.diagram a.drawn b.drawn) a.planned plan in
      record { flash = differ.flash; pins = differ.pins; parts = alike.parts; wiring = alike.wiring; inputs = alike.inputs }

  -- so the rest of the one board sees of its chips what the other sees of its own, as long as they drive the same
  pub one_world : (budget fuel n end : ℕ) → SeesDrivesAlone (contents_by work budget) work.plan n → end ≤ n → DriveAlike (contents_by work budget) (contents_by twin fuel) work.plan twin.plan end →
      IsOneWorld (contents_by work budget) (contents_by twin fuel) work.plan twin.plan end
  one_world budget fuel n end sees within drives = sees (contents_by twin fuel) twin.plan end within (differ_in_chips budget fuel) drives
