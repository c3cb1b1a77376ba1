use Rattle.std.proofs.Common.{◌≡◌, ◌≤◌, ◌∷◌, ℕ, List, length, drop, ap, sym, ◌∙◌, arith}
use Rattle.std.proofs.lemmas.List.{take_rest, drop_all}
use Rattle.input_script.specs.Script.{words}
use Rattle.input_script.proofs.WordLemmas.{space_more, space_end, no_space}
use Rattle.input_script.proofs.words.skip_spaces.Goals as goal

pub returns-then-b-ne32 : goal.returns-then-b-ne32
returns-then-b-ne32 c = rw (take_rest c.args.bytes.now c.loop-i.i) (sym c.loop-i.invariant ∙ space_end c.args.bytes.now c.loop-i.i c.loop-i-test.true c.if-b-ne32.true)

pub loop-i-preserved : goal.loop-i-preserved
loop-i-preserved c = space_more c.args.bytes.now c.loop-i.i c.loop-i-test.true c.if-b-ne32.false ∙ c.loop-i.invariant

pub returns : goal.returns
returns c =
    let bytes = c.args.bytes.now in
    let past : length bytes ≤ c.loop-i.i = c.loop-i-test.false in
    rw (take_rest bytes (length bytes), drop_all (length bytes) bytes (omega arith)) (sym c.loop-i.invariant ∙ ap (λ (l : List ℕ). words (32 ∷ l)) (drop_all c.loop-i.i bytes past) ∙ no_space)
