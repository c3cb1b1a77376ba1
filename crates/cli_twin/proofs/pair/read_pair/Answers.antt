use Rattle.cli_twin.proofs.Common.{ℕ, List, Err, None, Outside, Reading, Is, Then, first_stops, got_both, Work, WorkIn, outcome_of, work_of, steady_work}
use Rattle.cli_twin.proofs.Common.{pair_of, Pair, other_path, paired}
use Rattle.cli_twin.proofs.pair.read_pair.Goals as goal

pub returns-in-Err-clause-got : goal.returns-in-Err-clause-got
returns-in-Err-clause-got g c =
    let a : Outside = g.B.Bench.outside c.args.bench.now in
    let m : Outside = g.B.Bench.outside c.read_folder.new.bench in
    let b : Outside = g.B.Bench.outside c.read_folder-2.new.bench in
    let folder : List ℕ = c.args.folder.now in
    let other : List ℕ = c.args.other.now in
    let one : Work = work_of c.in_ok-one.one in
    let pairs : Work → Work → Reading Pair = λ (x y : Work). Is (λ files. paired other (record { one = x; other = y }) (other_path x y)) in
    let e = c.in-Err.end in
    got_both (WorkIn folder None None) (λ (x : Work). Then (WorkIn other None None) (pairs x)) (steady_work folder None None) one pair_of outcome_of (Err e) a m b
    c.in_ok-one.ensures.ports c.in_ok-one.ensures.got (first_stops (WorkIn other None None) (pairs one) (outcome_of e) m b c.in-Err.ensures.got)

pub returns-in-Ok-clause-got : goal.returns-in-Ok-clause-got
returns-in-Ok-clause-got g c =
    let a : Outside = g.B.Bench.outside c.args.bench.now in
    let m : Outside = g.B.Bench.outside c.read_folder.new.bench in
    let b : Outside = g.B.Bench.outside c.read_folder-2.new.bench in
    let folder : List ℕ = c.args.folder.now in
    let other : List ℕ = c.args.other.now in
    let one : Work = work_of c.in_ok-one.one in
    let pairs : Work → Work → Reading Pair = λ (x y : Work). Is (λ files. paired other (record { one = x; other = y }) (other_path x y)) in
    got_both (WorkIn folder None None) (λ (x : Work). Then (WorkIn other None None) (pairs x)) (steady_work folder None None) one pair_of outcome_of c.make_pair.result a m b
    c.in_ok-one.ensures.ports c.in_ok-one.ensures.got
    (got_both (WorkIn other None None) (pairs one) (steady_work other None None) (work_of c.in-Ok.twin) pair_of outcome_of c.make_pair.result m b b
    c.in-Ok.ensures.ports c.in-Ok.ensures.got (c.make_pair.ensures.got b))
