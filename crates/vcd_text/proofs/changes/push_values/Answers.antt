use Rattle.std.proofs.Common.{◌≡◌, ◌∙◌, sym, ap, drop, ◌++◌, [], List, ℕ, arith}
use Rattle.std.proofs.lemmas.List.{append-nil}
use Rattle.text_model.specs.Wave.{value_lines}
use Rattle.vcd_text.proofs.WaveLemmas.{values_more, no_values, state_is}
use Rattle.vcd_text.proofs.changes.push_values.Goals as goal

pub loop-i-preserved : goal.loop-i-preserved
loop-i-preserved c = record {
  text = rw c.push_value.ensures.text (sym (values_more c.loop-i.out.text c.loop-i.i c.args.now.now c.loop-i-test.true) ∙ c.loop-i.invariant.text);
  room = rw c.push_value.ensures.text c.loop-i.invariant.room;
  short = omega arith;
}

pub returns : goal.returns
returns c =
    let none : value_lines c.loop-i.i (drop c.loop-i.i c.args.now.now) ≡ [] = no_values c.loop-i.i c.args.now.now c.loop-i-test.false in
    let same : c.loop-i.out.text ≡ c.args.out.now.text ++ value_lines 0 c.args.now.now =
    sym (append-nil c.loop-i.out.text) ∙ ap (λ (l : List ℕ). c.loop-i.out.text ++ l) (sym none) ∙ c.loop-i.invariant.text in
    record { text = state_is c.loop-i.out _ _ same c.loop-i.invariant.room; short = omega arith }
