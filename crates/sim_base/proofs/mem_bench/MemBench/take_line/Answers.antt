use Rattle.std.proofs.Common.{◌≡◌, ◌∙◌, ℕ, List, ap, rules}
use Rattle.sim_base.specs.Mem.{MemState, lines_left}
use Rattle.sim_base.proofs.MemLemmas.{first_line}
use Rattle.sim_base.proofs.mem_bench.MemBench.take_line.Goals as goal

pub returns-clause-takes : goal.returns-clause-takes
returns-clause-takes c = (first_line c.args.self.now.requests c.remove-line.new.self.items c.remove-line.result c.copy_line.new.into.items c.copy_line.result
    (search rules) (search rules) (search rules) (search rules) (search rules)).0

pub returns-clause-answer : goal.returns-clause-answer
returns-clause-answer c = (first_line c.args.self.now.requests c.remove-line.new.self.items c.remove-line.result c.copy_line.new.into.items c.copy_line.result
    (search rules) (search rules) (search rules) (search rules) (search rules)).1

pub returns-clause-leaves : goal.returns-clause-leaves
returns-clause-leaves c =
    let left : c.remove-line.new.self.items ≡ lines_left c.args.self.now.requests =
    (first_line c.args.self.now.requests c.remove-line.new.self.items c.remove-line.result c.copy_line.new.into.items c.copy_line.result
    (search rules) (search rules) (search rules) (search rules) (search rules)).2 in
    ap (λ (s : MemState). let after : MemState = record s { requests = c.remove-line.new.self.items } in after) c.self.view_is
    ∙ ap (λ (l : List (List ℕ)). let after : MemState = record c.args.self.now { requests = l } in after) left
