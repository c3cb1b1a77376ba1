-- A report in a bench in memory, and how many parts there are.
use Rattle.std.proofs.Common.{◌≡◌, ◌∙◌, ℕ, List, [], ◌++◌, length, map, ap, sym}
use Rattle.std.proofs.lemmas.List.{length-map}
use Rattle.sim_base.specs.declared.bench.Port.TheVariants as ports
use Rattle.sim_base.specs.declared.bench.WriteEnd.{WriteEnd}
use Rattle.sim_base.specs.declared.bench.WriteEnd.TheVariants as writes
use Rattle.sim_base.specs.Mem.{MemState, outside_of}
use Rattle.sim_base.specs.Outside.{Opens}
use Rattle.sim_outcome_model.specs.Work.{Wrote}
use Rattle.board_model.proofs.Lists.{some_same}
use Rattle.board_build.specs.declared.plan.Plan.{Plan}
use Rattle.board_build.specs.IsPlan.{IsPlan}
use Rattle.chip_module.specs.Sources.{pins_of}
use Rattle.any_part.specs.AnyPart.{AnyPart, state_of}
use Rattle.any_part.specs.Start.{Contents, starts}
use Rattle.any_part.proofs.StartLemmas.{all_ready, starts_many}

-- what was written behind the opening of a port is all that it holds
pub page_text : (end : WriteEnd) (a b c : MemState) (name text : List ℕ) → Opens writes.Ok ports.Report name (outside_of a) (outside_of b) → Wrote end ports.Report text (outside_of b) (outside_of c) → end ≡ writes.Ok →
    c.report.bytes ≡ text
page_text writes.Ok a b c name text opens wrote e =
    let empty : b.report.bytes ≡ [] = some_same opens.1 in
    some_same wrote.0 ∙ ap (λ (l : List ℕ). l ++ text) empty
page_text writes.Failed a b c name text opens wrote e = absurd cc

-- a part for each of the plan
pub all_loaded : (has : Contents) (plan : Plan) (parts : List AnyPart) → IsPlan (pins_of has.chips) plan → map state_of parts ≡ starts has plan.parts → length parts ≡ length plan.parts
all_loaded has plan parts is e =
    sym (length-map parts state_of) ∙ ap length e ∙ starts_many has plan.parts (all_ready has plan is)
