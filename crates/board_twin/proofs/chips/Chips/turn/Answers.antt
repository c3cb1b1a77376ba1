use Rattle.std.proofs.Common.{◌≡◌, ◌+◌, ◌∙◌, ℕ, List, length, map, ap, sym, arith, subst, true, false}
use Rattle.board_model.specs.Board.{level_at}
use Rattle.law_board.specs.Twin.{chips_before}
use Rattle.board_twin.specs.Beside.{ChipsTurned, MayTurnChip}
use Rattle.board_twin.specs.declared.chips.Chips.{Chips}
use Rattle.board_twin.proofs.TurnedLemmas.{before_next, chip_is, may_next, nets_next, turned_more, turned_skip}
use Rattle.board_twin.proofs.chips.Chips.turn.Goals as goal
use Rattle.board_twin.proofs.chips.Chips.turn.Goals.{then-as_slice-k, else-as_slice-k}

pub turn_chip-requires : goal.turn_chip-requires
turn_chip-requires g c =
    let p = g.P.Part in
    let w = c.args.wiring.now in
    let ls = c.args.now.now in
    let old = c.args.self.now in
    let l = c.loop-k in
    let inv = l.invariant in
    let is = chip_is w l.k c.as_slice.result.now c.as_slice.ensures c.if-as_slice-k.true in
    let may = may_next p w ls c.args.t old c.args.steps.now l.k l.j l.steps l.self inv.turns c.requires.behind is inv.place inv.levels inv.own in
    let are = nets_next p w ls c.args.t old c.args.steps.now l.k l.j l.steps l.self inv.turns c.requires.behind is inv.place may.0
    c.as_slice-then-as_slice-k-2.result.now c.as_slice-then-as_slice-k.result.now c.as_slice-net_of.result.now c.index-as_slice-j.result c.pins-pins.result may.1
    c.as_slice-then-as_slice-k-2.ensures c.as_slice-then-as_slice-k.ensures c.as_slice-net_of.ensures c.index-as_slice-j.is c.pins-pins.ensures in
    record { end = c.requires.end; may = subst (λ (nets : List ℕ). MayTurnChip p c.args.t nets l.self l.j) (sym are) may.2 }

pub loop-k-preserved : goal.loop-k-preserved
loop-k-preserved g c =
    let p = g.P.Part in
    let w = c.args.wiring.now in
    let ls = c.args.now.now in
    let t = c.args.t in
    let old = c.args.self.now in
    let steps = c.args.steps.now in
    let l = c.loop-k in
    let inv = l.invariant in
    let Is = λ (self : Chips g.row.P.Denot) (more : ℕ). (self.levels ≡ old.levels) × (length self.own ≡ length old.own) × ChipsTurned p w ls t old (l.k + 1) self steps more in
    elim c.if-as_slice-k.branch [
      | then-as_slice-k b ↦
          let is = chip_is w l.k c.as_slice.result.now c.as_slice.ensures b.if-as_slice-k.true in
          let took = b.turn_chip.ensures in
          let are = nets_next p w ls t old steps l.k l.j l.steps l.self inv.turns c.requires.behind is inv.place took.p
          b.as_slice-then-as_slice-k-2.result.now b.as_slice-then-as_slice-k.result.now c.as_slice-net_of.result.now b.index-as_slice-j.result b.pins-pins.result took.here
          b.as_slice-then-as_slice-k-2.ensures b.as_slice-then-as_slice-k.ensures c.as_slice-net_of.ensures b.index-as_slice-j.is b.pins-pins.ensures in
          let more = turned_more p w ls t old steps l.k l.j l.steps l.self inv.turns c.requires.behind is inv.place b.turn_chip.new.self b.turn_chip.new.steps _ took (ap (map (level_at ls)) are) in
          let did = subst (λ (self : Chips g.row.P.Denot). Is self c.if-as_slice-k.steps) (sym b.self-is)
          (subst (Is b.turn_chip.new.self) (sym b.steps-is) (took.levels ∙ inv.levels, took.own_long ∙ inv.own, more)) in
          record { place = b.j-is ∙ ap (λ (i : ℕ). i + 1) inv.place ∙ sym (before_next w l.k true is); levels = did.0; own = did.1; turns = did.2 }
      | else-as_slice-k b ↦
          let other = chip_is w l.k c.as_slice.result.now c.as_slice.ensures b.if-as_slice-k.false in
          let same = turned_skip p w ls t old steps l.k l.steps l.self inv.turns other in
          let did = subst (λ (self : Chips g.row.P.Denot). Is self c.if-as_slice-k.steps) (sym b.self-is) (subst (Is l.self) (sym b.steps-is) (inv.levels, inv.own, same)) in
          let none : chips_before w l.k ≡ chips_before w l.k + 0 = omega arith in
          record { place = b.j-is ∙ inv.place ∙ none ∙ sym (before_next w l.k false other); levels = did.0; own = did.1; turns = did.2 }
    ]
