use Rattle.std.proofs.Common.{ℕ, refl, ◌∙◌, List, [], Bor}
use Rattle.sim_outcome_model.proofs.WriteLemmas.{grows_more, part_more, part_within, others_more}
use Rattle.sim_io.proofs.writing.write_parts.Goals as goal

pub returns-in-Failed-clause-wrote : goal.returns-in-Failed-clause-wrote
returns-in-Failed-clause-wrote g c =
    let leaves = c.in-Failed.ensures.leaves in
    let bytes : Bor (List ℕ) → List ℕ = λ p. p.now in
    let none : Bor (List ℕ) = record { ref_ptr = (0, 0); now = [] } in (
      (
        _,
        part_within bytes c.args.parts.now c.loop-part.part-index none leaves.0 c.loop-part-test.true leaves.1,
        grows_more _ _ _ _ _ _ c.loop-part.invariant.grown leaves.2 refl,
      ),
      rw (← c.loop-part.invariant.faults) c.in-Failed.ensures.cause.1,
    )

pub returns-in-Failed-clause-named : goal.returns-in-Failed-clause-named
returns-in-Failed-clause-named g c = c.in-Failed.ensures.named ∙ c.loop-part.invariant.named

pub loop-part-preserved : goal.loop-part-preserved
loop-part-preserved g c =
    let bytes : Bor (List ℕ) → List ℕ = λ p. p.now in
    let none : Bor (List ℕ) = record { ref_ptr = (0, 0); now = [] } in
    record {
      grown = grows_more _ _ _ _ _ _ c.loop-part.invariant.grown c.in-Ok.ensures.leaves (part_more bytes c.args.parts.now c.loop-part.part-index none c.loop-part-test.true);
      faults = c.in-Ok.ensures.cause ∙ c.loop-part.invariant.faults;
      named = c.in-Ok.ensures.named ∙ c.loop-part.invariant.named;
      opened = c.in-Ok.ensures.opened ∙ c.loop-part.invariant.opened;
      others = others_more c.args.port _ _ _ c.loop-part.invariant.others c.in-Ok.ensures.others;
    }
