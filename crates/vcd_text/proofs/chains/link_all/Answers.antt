use Rattle.std.proofs.Common.{◌≡◌, ◌∙◌, ◌<◌, ◌+◌, ◌-◌, sym, ap, subst, arith, length, ℕ, Some}
use Rattle.text_model.specs.Wave.{Source}
use Rattle.vcd_text.specs.Variables.{variables_of}
use Rattle.vcd_text.specs.Chains.{sources, AreLinked}
use Rattle.vcd_text.proofs.ChainLemmas.{shown_here, shown_long}
use Rattle.vcd_text.proofs.chains.link_all.Goals as goal

pub link-requires-clause-net : goal.link-requires-clause-net
link-requires-clause-net c = λ n e.
    let vs = c.args.variables.now in
    let i = c.loop-i.i - 1 in
    let inv = c.loop-i.invariant in
    let less : i < length c.args.variables.now = omega (arith, inv.within, c.loop-i-test.true) in
    subst (λ (count : ℕ). n < count) (sym inv.same) (c.requires.nets i n (shown_here vs i c.index-variables-i.result less ∙ ap (λ (s : Source). Some s) e))

pub loop-i-preserved : goal.loop-i-preserved
loop-i-preserved c =
    let vs = c.args.variables.now in
    let i = c.loop-i.i - 1 in
    let inv = c.loop-i.invariant in
    let all = sources (variables_of vs) in
    let l = c.link in
    let less : i < length c.args.variables.now = omega (arith, inv.within, c.loop-i-test.true) in
    let here = shown_here vs i c.index-variables-i.result less in
    let next : c.loop-i.i ≡ i + 1 = omega (arith, c.loop-i-test.true) in
    record {
      within = omega (arith, less);
      long = l.auto.next ∙ inv.long;
      same = l.auto.first ∙ inv.same;
      linked = l.ensures all here (subst (AreLinked all c.loop-i.first c.loop-i.next) next inv.linked);
    }

pub returns : goal.returns
returns c =
    let inv = c.loop-i.invariant in
    let start : c.loop-i.i ≡ 0 = omega (arith, c.loop-i-test.false) in
    record {
      long = inv.long ∙ sym (shown_long c.args.variables.now);
      nets = λ k n e. subst (λ (count : ℕ). n < count) (sym inv.same) (c.requires.nets k n e);
      linked = subst (AreLinked (sources (variables_of c.args.variables.now)) c.loop-i.first c.loop-i.next) start inv.linked;
    }
