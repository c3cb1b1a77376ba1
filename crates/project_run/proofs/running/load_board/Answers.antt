use Rattle.std.proofs.Common.{◌∙◌, ℕ, ap, arith, map, refl, subst, sym}
use Rattle.board_model.specs.Fits.{AreInputs}
use Rattle.board_run.specs.BoardView.{BoardView}
use Rattle.any_part.specs.AnyPart.{AnyPart, state_of}
use Rattle.board_outputs.specs.Start.{IsAtStart}
use Rattle.project_run.proofs.running.load_board.Goals as goal

pub new-requires : goal.new-requires
new-requires c =
    let load = c.in-Ok-load.ensures in
    record {
      few = omega (arith, load.all, c.requires.plan.few);
      wiring = c.requires.plan.wiring;
      fits = load.fits;
      inputs = subst (λ (n : ℕ). AreInputs n c.args.plan.inputs) (sym load.all) c.requires.inputs;
      fresh = load.fresh;
    }

pub returns : goal.returns
returns c =
    let is = c.in-Ok-new.ensures in
    record {
      start = subst IsAtStart (sym is) (record { cycle = refl; alive = refl; before = refl });
      wiring = ap (λ (x : BoardView AnyPart). x.wiring) is;
      inputs = ap (λ (x : BoardView AnyPart). x.inputs) is;
      states = ap (λ (x : BoardView AnyPart). map state_of x.parts) is ∙ c.in-Ok-load.ensures.states;
      parts = refl;
      shown = c.in-Ok.ensures;
    }
