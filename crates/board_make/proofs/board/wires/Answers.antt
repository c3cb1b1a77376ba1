use Rattle.board_make.proofs.MakeLemmas.{wires_pushed}
use Rattle.board_make.proofs.board.wires.Goals as goal

pub returns : goal.returns
returns c =
    wires_pushed c.args.seed c.after-first.result c.after-second.result c.drawn_pin.result c.drawn_pin-2.result c.in_ok-wires.wires c.push_gate_wires.new.wires
    c.in_ok-p.p c.in_ok-q.q c.after-first.ensures c.after-second.ensures c.drawn_pin.ensures.pin c.drawn_pin-2.ensures.pin c.in_ok-p.ensures c.in_ok-q.ensures
    c.in_ok-wires.ensures c.in_ok-push_gate_wires.ensures
