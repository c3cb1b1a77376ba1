use Rattle.std.proofs.Common.{◌++◌}
use Rattle.chip_report.proofs.WriteLemmas.{goes_in}
use Rattle.chip_report.proofs.piece.put.Goals as goal

pub returns-clause-goes : goal.returns-clause-goes
returns-clause-goes g c = λ rest.
    let bytes = c.args.bytes.now in
    let old = c.args.piece.now.items in
    let room = c.make_room-end in
    goes_in c.args.end room.result (old ++ (bytes ++ rest)) room.new.piece.items bytes c.add.new.piece.items rest (g.B.Bench.outside c.args.bench.now) (g.B.Bench.outside room.new.bench)
    c.add.ensures (room.ensures.goes (bytes ++ rest))
