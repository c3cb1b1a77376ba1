use Rattle.cli_twin.proofs.Common.{List, ap, arith, length, sym, ChipFile, ChipSource}
use Rattle.cli_twin.proofs.SharedLemmas.{names_many}
use Rattle.cli_twin.proofs.sharing.other_path.Goals as goal

pub other_pins-requires-clause-one : goal.other_pins-requires-clause-one
other_pins-requires-clause-one c =
    let one = ap (λ (l : List ChipFile). length l) c.as_slice.ensures in
    let chips = ap (λ (l : List ChipSource). length l) c.as_slice-4.ensures in
    omega (arith, names_many c.as_slice.result.now c.as_slice-files.result.now (sym c.if-not-same_names.ensures), one, chips, c.requires.one)
