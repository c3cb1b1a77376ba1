use Rattle.std.proofs.Common.{◌≡◌, ◌∙◌, ◌++◌, ◌<◌, ℕ, List, map, take, length, get_or, Option, ap, subst}
use Rattle.std.specs.List.{concat}
use Rattle.std.proofs.lemmas.List.{append_assoc}
use Rattle.sim_base.specs.declared.bench.Port.TheVariants as ports
use Rattle.sim_outcome_model.proofs.WriteLemmas.{part_more, others_more}
use Rattle.avr_omit.specs.declared.omission.Omission.{Omission}
use Rattle.avr_omit.specs.declared.omission.Omission.TheVariants.{HeldPrescaler}
use Rattle.avr_omit.specs.declared.kept.Asked.{Asked}
use Rattle.avr_omit.specs.Names.{all}
use Rattle.sim_report.specs.Omissions.{asked_text, omission_text}
use Rattle.sim_report.proofs.OmissionLemmas.{wrote_same}
use Rattle.sim_report.proofs.omissions.write_omissions.Goals as goal

pub loop-omission-preserved : goal.loop-omission-preserved
loop-omission-preserved g c =
    let id : List ℕ = c.args.id.now in
    let f : Omission → List ℕ = omission_text id c.args.asked.now in
    let l = c.loop-omission in
    let i : ℕ = l.omission-index in
    let items : List Omission = c.all-omission-items.result.now in
    let same : items ≡ all = c.all-omission-items.ensures in
    let done = c.write_asked-end in
    let so_far : List ℕ = concat (map f (take i all)) in
    record {
      next = λ a text w. wrote_same done.result ports.Report _ _ a (g.B.Bench.outside done.new.bench)
          (append_assoc text so_far _ ∙ ap (λ (t : List ℕ). text ++ t) (ap (λ (a : Option Asked). so_far ++ asked_text id (get_or items i HeldPrescaler) a) c.first.ensures
          ∙ ap (λ (os : List Omission). so_far ++ f (get_or os i HeldPrescaler)) same
          ∙ part_more f all i HeldPrescaler (subst (λ (os : List Omission). i < length os) same c.loop-omission-test.true)))
          (done.ensures.next a _ (l.invariant.next a text w));
      named = done.ensures.named ∙ l.invariant.named;
      opened = done.ensures.opened;
      others = others_more ports.Report _ _ _ l.invariant.others done.ensures.others;
    }
