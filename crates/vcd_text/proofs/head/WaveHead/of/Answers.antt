use Rattle.std.proofs.Common.{◌≡◌, ◌∙◌, ℕ, List, ap, refl, sym, length, arith, subst}
use Rattle.std.proofs.lemmas.List.{length-map, length-replicate}
use Rattle.text_model.specs.Wave.{char_z, head}
use Rattle.vcd_text.specs.declared.variable.Variable.{Variable}
use Rattle.vcd_text.specs.Buffers.{BufferState}
use Rattle.vcd_text.specs.Variables.{variable_of, variables_of}
use Rattle.vcd_text.specs.Chains.{sources}
use Rattle.vcd_text.specs.Pins.{AreAmong, AreKept}
use Rattle.vcd_text.proofs.HeadLemmas.{chains_moved}
use Rattle.vcd_text.proofs.PinLemmas.{kept_first}
use Rattle.vcd_text.proofs.head.WaveHead.of.Goals as goal

pub invariant_of-result : goal.invariant_of-result
invariant_of-result c =
    let a = c.in_ok-values in
    let b = c.in_ok-first in
    let vs = c.as_slice-list.ensures in
    let list = c.as_slice-list.result.now in
    let head_is = a.ensures.head ∙ ap (λ (l : List Variable). head (variables_of l)) vs in
    let long : length a.values.items ≡ length list = ap length a.ensures.values ∙ length-replicate (length list) char_z in
    record {
      few = c.requires;
      head_is = head_is;
      values_long = a.values.ok.0 ∙ long ∙ ap length vs;
      room_is = omega (arith, ap (λ (t : BufferState). t.room) c.in_ok-text.ensures, ap length head_is, a.head_bytes.ok.0, length-map c.args.variables variable_of);
      chains = chains_moved vs refl refl b.ensures.chains;
      among = subst (λ (l : List Variable). AreAmong b.pins.items (sources (variables_of l))) vs b.ensures.among;
      kept = subst (λ (l : List Variable). AreKept b.pins.items (variables_of l) a.values.items) vs
          (subst (λ (l : List ℕ). AreKept b.pins.items (variables_of list) l) (sym a.ensures.values)
          (kept_first b.pins.items (variables_of list) (length list) (sym (length-map list variable_of)) b.ensures.kept));
    }
