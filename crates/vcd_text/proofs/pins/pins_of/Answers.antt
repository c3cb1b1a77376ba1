use Rattle.std.proofs.Common.{◌≡◌, ◌∙◌, sym, ap, subst, arith, inl, inr, true}
use Rattle.std.specs.Prelude.{slice_get}
use Rattle.std.proofs.lemmas.Bool.Decides.{eqb_tells}
use Rattle.text_model.specs.Wave.{Source}
use Rattle.vcd_text.specs.Variables.{variables_of}
use Rattle.vcd_text.specs.Chains.{sources}
use Rattle.vcd_text.specs.Pins.{is_among}
use Rattle.vcd_text.proofs.ChainLemmas.{some_is, shown_here, shown_within}
use Rattle.vcd_text.proofs.pins.pins_of.Goals as goal

pub loop-i-preserved : goal.loop-i-preserved
loop-i-preserved c =
    let vs = c.args.variables.now in
    let i = c.loop-i.i in
    let e = c.in_ok-add_shown.ensures in
    record {
      among = λ k s less at. elim (eqb_tells k i) [
        | inl same ↦
            let here = shown_here vs i c.index-variables-i.result c.loop-i-test.true in
            subst (λ (x : Source). is_among c.add_shown.new.pins.items x ≡ true) (some_is (sym here ∙ ap (slice_get (sources (variables_of vs))) (sym same.1) ∙ at)) e.own
        | inr far ↦ let apart = far.1 in e.others s (c.loop-i.invariant.among k s (omega (arith, less, apart)) at)
      ];
      kept = e.kept c.loop-i.invariant.kept;
    }

pub returns-clause-among : goal.returns-clause-among
returns-clause-among c = λ k s at.
    let within = shown_within c.args.variables.now k s at in
    c.loop-i.invariant.among k s (omega (arith, within, c.loop-i-test.false)) at
