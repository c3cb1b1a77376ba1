use Rattle.std.proofs.Common.{◌∙◌, sym, ap, arith, inl, inr, Some}
use Rattle.std.specs.Prelude.{slice_get}
use Rattle.std.proofs.lemmas.Bool.Decides.{eqb_tells}
use Rattle.text_model.specs.Wave.{Net}
use Rattle.vcd_text.specs.declared.variable.Variable as declared
use Rattle.vcd_text.specs.Variables.{source_of, variables_of}
use Rattle.vcd_text.specs.Chains.{sources}
use Rattle.vcd_text.proofs.ChainLemmas.{some_is, shown_here, shown_within}
use Rattle.vcd_text.proofs.chains.count_nets.Goals as goal

pub loop-variable-preserved : goal.loop-variable-preserved
loop-variable-preserved c = λ k n less at.
    let vs = c.args.variables.now in
    let i = c.loop-variable.variable-index in
    elim (eqb_tells k i) [
      | inl same ↦ c.with_net-count.ensures.net n (some_is (ap (λ (v : declared.Variable). Some (source_of v.shows)) c.variable-item.is ∙ sym (shown_here vs i c.variable-item.result c.loop-variable-test.true) ∙ ap (slice_get (sources (variables_of vs))) (sym same.1) ∙ at))
      | inr far ↦
          let apart = far.1 in
          let before = c.loop-variable.invariant k n (omega (arith, less, apart)) at in
          omega (arith, before, c.with_net-count.ensures.more)
    ]

pub returns : goal.returns
returns c = λ k n at.
    let within = shown_within c.args.variables.now k (Net n) at in
    c.loop-variable.invariant k n (omega (arith, within, c.loop-variable-test.false)) at
