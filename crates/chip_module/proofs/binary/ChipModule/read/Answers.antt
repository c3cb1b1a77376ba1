use Rattle.std.proofs.Common.{ℕ, List, sym, subst}
use Rattle.wasm_decode.specs.ModuleText.{ModuleText, IsBroken}
use Rattle.chip_module.proofs.BinaryLemmas.{broken_reading}
use Rattle.chip_module.proofs.binary.ChipModule.read.Goals as goal

pub returns-in-Ok : goal.returns-in-Ok
returns-in-Ok c =
    c.validated.ensures c.args.bytes.items (record {
      text = subst (λ (l : List ℕ). ModuleText l c.in-Ok.wasm) c.deref.ensures.value c.in-Ok.ensures.0;
      only = λ m text. c.in-Ok.ensures.1 m (subst (λ (l : List ℕ). ModuleText l m) (sym c.deref.ensures.value) text);
    })

pub returns : goal.returns
returns c = broken_reading c.args.bytes.items c.in-Err.fault (subst (λ (l : List ℕ). IsBroken l c.in-Err.fault) c.deref.ensures.value c.in-Err.ensures)
