use Rattle.std.proofs.Common.{◌∙◌, ap, ◌++◌, List, ℕ, codes, string_bytes}
use Rattle.text_model.specs.Wave.{id_of}
use Rattle.vcd_text.proofs.WaveLemmas.{five_pushed}
use Rattle.vcd_text.proofs.declarations.declare.Goals as goal

pub returns : goal.returns
returns c = five_pushed c.args.out.now.items c.extend_from_slice.new.self.items c.extend_from_slice-2.new.self.items c.extend_from_slice-3.new.self.items c.extend_from_slice-4.new.self.items c.extend_from_slice-5.new.self.items
    (codes "$var wire 1 ") (id_of c.args.i) (codes " ") (string_bytes c.args.variable.now.name) (codes " $end\n")
    c.in_ok-extend_from_slice.ensures.items
    (c.in_ok-extend_from_slice-2.ensures.items ∙ ap (λ (l : List ℕ). c.extend_from_slice.new.self.items ++ l) (c.deref.ensures.0 ∙ c.identifier_code.ensures))
    c.in_ok-extend_from_slice-3.ensures.items
    (c.in_ok-extend_from_slice-4.ensures.items ∙ ap (λ (l : List ℕ). c.extend_from_slice-3.new.self.items ++ l) c.as_bytes.ensures.value)
    c.in_ok-extend_from_slice-5.ensures.items
