use Rattle.board_run.proofs.Common.{◌≡◌, ◌+◌, ◌<◌, ◌≤◌, ◌∙◌, ◌++◌, List, Bool, length, map, drop, replicate, ap, sym, refl, arith, false, get_or}
use Rattle.board_run.proofs.Common.{length-append, append-nil, slice_get, slice_index, length-map, length-replicate, drop_all, slice_get-get_or, drives_of}
use Rattle.board_run.proofs.Common.{some_map, get_within, take_whole, pin_flags}
use Rattle.board_run.proofs.GatherLemmas.{item_at, flags_more}
use Rattle.board_run.proofs.PartLemmas.{end_is}
use Rattle.board_run.proofs.ReadLemmas.{place_more}
use Rattle.board_run.proofs.start.chip_flags.Goals as goal

pub loop-i-init : goal.loop-i-init
loop-i-init g c =
    let w = c.args.wiring.now in
    record { flags = ap (λ (l : List Bool). l ++ pin_flags w.chip w.first_pin (length w.net_of)) c.new-flags.ensures.items; long = ap length c.new-flags.ensures.items }

pub loop-i-preserved : goal.loop-i-preserved
loop-i-preserved g c =
    let p = g.P.Part in
    let w = c.args.wiring.now in
    let parts = c.args.parts.now in
    let ss = map p.state parts in
    let many : length ss ≡ length parts = simp length-map refl in
    let i = c.loop-i.i in
    let inv = c.loop-i.invariant in
    let before = c.loop-i.flags.items in
    let x = c.index-parts-i.result in
    let s = p.state x in
    let n = c.pins.result in
    let es = some_map p.state parts i x (item_at parts i x c.loop-i-test.true c.index-parts-i.is) in
    let chips = c.as_slice-chips.result.now in
    let chip = get_or chips i false in
    let inside : i < length chips = omega (arith, c.loop-i-test.true, c.requires.chips, many, ap length c.as_slice-chips.ensures) in
    let within : i < length w.first_pin = omega (arith, c.loop-i-test.true, c.requires.parts, many) in
    let ec = ap (λ (l : List Bool). slice_get l i) (sym c.as_slice-chips.ensures) ∙ slice_get-get_or chips i false inside in
    let end = end_is p.machine w ss c.requires i s es in
    let items = c.in_ok-extend_from_slice.ensures.items ∙ ap (λ (l : List Bool). before ++ l) (c.deref.ensures.value ∙ c.in_ok-own.ensures) in
    record {
      flags = ap (λ (l : List Bool). l ++ pin_flags (drop (i + 1) w.chip) (drop (i + 1) w.first_pin) (length w.net_of)) items
          ∙ flags_more w i chip (slice_index w.first_pin i) n before ec (get_within w.first_pin i 0 within) (omega (arith, end, c.pins.ensures))
          ∙ inv.flags;
      long = omega (arith, ap length items, length-append before (replicate n chip), length-replicate n chip, inv.long, place_more p.machine.drives ss i s es, c.pins.ensures);
    }

pub returns-clause-flags : goal.returns-clause-flags
returns-clause-flags g c =
    let w = c.args.wiring.now in
    let i = c.loop-i.i in
    let flags = c.loop-i.flags.items in
    let many : length (map g.P.Part.state c.args.parts.now) ≡ length c.args.parts.now = simp length-map refl in
    let past : length w.chip ≤ i = omega (arith, c.loop-i-test.false, c.requires.chips, many) in
    sym (append-nil flags) ∙ ap (λ (l : List Bool). flags ++ pin_flags l (drop i w.first_pin) (length w.net_of)) (sym (drop_all i w.chip past)) ∙ c.loop-i.invariant.flags

pub returns-clause-each : goal.returns-clause-each
returns-clause-each g c =
    let ss = map g.P.Part.state c.args.parts.now in
    let many : length ss ≡ length c.args.parts.now = simp length-map refl in
    let past : length ss ≤ c.loop-i.i = omega (arith, c.loop-i-test.false, many) in
    c.loop-i.invariant.long ∙ ap (λ l. length (drives_of g.P.Part.machine l)) (take_whole c.loop-i.i ss past) ∙ sym c.requires.pins
