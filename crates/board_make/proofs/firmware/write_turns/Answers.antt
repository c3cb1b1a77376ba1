use Rattle.std.proofs.Common.{◌≡◌, ◌∙◌, ◌+◌, ◌++◌, ℕ, List, ap, sym, arith}
use Rattle.board_make.specs.Draws.{after, drawn}
use Rattle.board_make.specs.Firmware.{flash_of, opening}
use Rattle.board_make.proofs.MakeLemmas.{drawn_more, drawn_two, turn_written, turns_none}
use Rattle.board_make.proofs.firmware.write_turns.Goals as goal

pub loop-j-init : goal.loop-j-init
loop-j-init c = record {
  x = c.after-x.ensures ∙ ap after c.after.ensures ∙ sym (drawn_two c.args.seed);
  flash = λ h. h ∙ ap (λ (t : List ℕ). flash_of (opening ++ t)) (sym (turns_none c.args.seed));
}

pub loop-j-preserved : goal.loop-j-preserved
loop-j-preserved c =
    let l = c.loop-j in
    let seed : ℕ = c.args.seed in
    let x : ℕ = c.after-x-in-loop-j.result in
    let drew : x ≡ drawn seed (2 + l.j + 1) = c.after-x-in-loop-j.ensures ∙ ap after l.invariant.x ∙ sym (drawn_more seed (2 + l.j)) in
    let e : 2 + l.j + 1 ≡ 2 + (l.j + 1) = omega arith in
    record {
      x = drew ∙ ap (drawn seed) e;
      flash = λ h. turn_written seed l.j x l.flash c.write_turn.new.flash drew c.write_turn.ensures (l.invariant.flash h);
    }
