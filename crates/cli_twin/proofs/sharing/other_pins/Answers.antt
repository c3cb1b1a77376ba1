use Rattle.cli_twin.proofs.Common.{◌∙◌, [], Some, true, false, ℕ, List, ap, sym, ChipFile}
use Rattle.cli_twin.proofs.SharedLemmas.{pins_none, pins_told}
use Rattle.cli_twin.proofs.sharing.other_pins.Goals as goal

pub returns-then-not-same_pins : goal.returns-then-not-same_pins
returns-then-not-same_pins c =
    let other = rw (c.as_slice.ensures, c.as_slice-in-loop-i.ensures) at c.if-not-same_pins.ensures in
    ap (λ (path : List ℕ). Some path) c.as_str.ensures
    ∙ pins_told c.args.files.now c.args.one.now c.args.other.now c.loop-i.i c.index-files-i.result c.index-one-i.result c.index-other-i.result c.loop-i-test.true c.requires.one c.requires.other false (sym other)
    ∙ c.loop-i.invariant

pub loop-i-preserved : goal.loop-i-preserved
loop-i-preserved c =
    let same = rw (c.as_slice.ensures, c.as_slice-in-loop-i.ensures) at c.if-not-same_pins.ensures in
    let none : ChipFile = record { name = []; binary = []; json = [] } in
    pins_told c.args.files.now c.args.one.now c.args.other.now c.loop-i.i none c.index-one-i.result c.index-other-i.result c.loop-i-test.true c.requires.one c.requires.other true (sym same)
    ∙ c.loop-i.invariant

pub returns : goal.returns
returns c = sym (pins_none c.args.files.now c.args.one.now c.args.other.now c.loop-i.i c.loop-i-test.false) ∙ c.loop-i.invariant
