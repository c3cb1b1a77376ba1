use Rattle.std.proofs.Common.{[], decimal, codes}
use Rattle.sim_refusals.specs.Refusals.{name_of}
use Rattle.sim_base.specs.declared.bench.Port.TheVariants as ports
use Rattle.sim_outcome_model.specs.Outcome.{place_parts}
use Rattle.sim_outcome_model.proofs.WriteLemmas.{wrote_start, others_more}
use Rattle.sim_io.proofs.LineLemmas.{refusal_line}
use Rattle.sim_io.proofs.complaint.tell_refusal.Goals as goal

pub returns-clause-wrote : goal.returns-clause-wrote
returns-clause-wrote g c =
    let name = c.tell_text-end.ensures.next (g.B.Bench.outside c.args.bench.now) [] (wrote_start ports.Complaint (g.B.Bench.outside c.args.bench.now)) in
    let number = c.tell_count-end.ensures.next _ _ name in
    let space = c.tell_text-end-2.ensures.next _ _ number in
    let what = c.tell_text-end-3.ensures.next _ _ space in
    let place = c.tell_place-end.ensures.next _ _ what in
    let last = c.tell_text.ensures.next _ _ place in
    rw (← refusal_line c.args.name.now (codes ": refused ") (decimal c.args.refusal.number) (codes " ") (name_of c.args.refusal.number) (place_parts c.args.refusal.place) (codes "\n")) (rw (c.from.ensures, c.refusal_name.ensures) at last)

pub returns-clause-others : goal.returns-clause-others
returns-clause-others g c =
    others_more ports.Complaint _ _ _ c.tell_text-end.ensures.others
    (others_more ports.Complaint _ _ _ c.tell_count-end.ensures.others
    (others_more ports.Complaint _ _ _ c.tell_text-end-2.ensures.others
    (others_more ports.Complaint _ _ _ c.tell_text-end-3.ensures.others
    (others_more ports.Complaint _ _ _ c.tell_place-end.ensures.others c.tell_text.ensures.others))))
