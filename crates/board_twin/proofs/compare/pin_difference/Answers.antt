use Rattle.std.proofs.Common.{◌+◌, ◌∙◌, ap, sym, drop, Bool, Some}
use Rattle.std.specs.Prelude.{if◌then◌else◌}
use Rattle.law_board.specs.FirstDiff.{pin_diff}
use Rattle.board_twin.proofs.DifferenceLemmas.{pins_more}
use Rattle.board_twin.proofs.compare.pin_difference.Goals as goal

pub returns-then-not-is_same_drive : goal.returns-then-not-is_same_drive
returns-then-not-is_same_drive g c =
    let p = g.P.Part in
    let l = c.loop-pin in
    let ds = p.machine.drives (p.state c.args.a.now) in
    let es = p.machine.drives (p.state c.args.b.now) in
    let more = pins_more ds es l.pin c.drive-x.result c.drive-y.result c.drive-x.ensures c.drive-y.ensures in
    let other = sym c.is_same_drive.ensures ∙ c.if-not-is_same_drive.true in
    sym (ap (λ (b : Bool). if b then pin_diff (l.pin + 1) (drop (l.pin + 1) ds) (drop (l.pin + 1) es) else Some (l.pin, c.drive-x.result, c.drive-y.result)) other) ∙ sym more ∙ l.invariant

pub loop-pin-preserved : goal.loop-pin-preserved
loop-pin-preserved g c =
    let p = g.P.Part in
    let l = c.loop-pin in
    let ds = p.machine.drives (p.state c.args.a.now) in
    let es = p.machine.drives (p.state c.args.b.now) in
    let more = pins_more ds es l.pin c.drive-x.result c.drive-y.result c.drive-x.ensures c.drive-y.ensures in
    let same = sym c.is_same_drive.ensures ∙ c.if-not-is_same_drive.false in
    sym (ap (λ (b : Bool). if b then pin_diff (l.pin + 1) (drop (l.pin + 1) ds) (drop (l.pin + 1) es) else Some (l.pin, c.drive-x.result, c.drive-y.result)) same) ∙ sym more ∙ l.invariant
