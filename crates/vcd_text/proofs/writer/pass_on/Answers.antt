use Rattle.std.proofs.Common.{◌∙◌, ◌++◌, ap, List, ℕ}
use Rattle.std.proofs.lemmas.List.{append-nil}
use Rattle.vcd_text.specs.Heads.{HeadState}
use Rattle.vcd_text.proofs.writer.pass_on.Goals as goal

pub returns-clause-gone : goal.returns-clause-gone
returns-clause-gone g c = (
  c.text.result.now,
  ap (λ (l : List ℕ). c.text.result.now ++ l) (ap (λ (h : HeadState). h.text) c.clear.ensures) ∙ append-nil c.text.result.now ∙ c.text.ensures,
  c.write_wave-end.ensures.wrote,
)
