use Rattle.board_run.proofs.Common.{◌≡◌, map, Gathered}
use Rattle.board_run.proofs.tell.tell_all.Given as goal

-- the parts before i were read
abbrev pub invariant-loop-i : goal.invariant-loop-i
invariant-loop-i g l =
    let p = g.P.Part in
    record {
      pins : Gathered p.machine.drives (map p.state l.parts) l.i l.pin l.fn.nets.drives l.nets.drives;
      ports : Gathered p.machine.contacts (map p.state l.parts) l.i l.contact l.fn.nets.closed l.nets.closed;
      rest : l.nets ≡ record l.fn.nets { drives = l.nets.drives; closed = l.nets.closed };
    }
