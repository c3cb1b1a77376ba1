use Rattle.part_played.proofs.Common.{◌≡◌, ◌<◌, ◌≤◌, ◌∙◌, ◌++◌, [], ◌∷◌, ap, sym, refl, subst, length, map, get_or, ℕ, List, Some, true, arith, slice_get}
use Rattle.part_played.proofs.Common.{slice_index, All, length-map, map-append, take_all, slice_get_read, or_player, PlanPart, any, Contents, unos_counted}
use Rattle.part_played.proofs.Common.{uno_there, uno_next, each_ready, all_ready, PlayedPart, PlayedState, state_of, cycle_of, wakes_of, play_start}
use Rattle.std.proofs.lemmas.List.Elements.{All-push}
use Rattle.board_build.proofs.PlanLemmas.{from_all}
use Rattle.part_played.proofs.PlayLemmas.{one_more}
use Rattle.part_played.proofs.LoadLemmas.{all_played, all_fit, firsts_many, part_fits, play_at, played_many}
use Rattle.part_played.proofs.loading.load_played.Goals as goal

abbrev IsNew : PlayedPart → Type 0
IsNew p = (cycle_of p ≡ 0) × (wakes_of p ≡ 0) × ((or_player any).valid (state_of p) 0 ≡ true)

pub loop-i-init : goal.loop-i-init
loop-i-init c = record {
  states = rw c.new-parts.ensures refl;
  fresh = rw c.new-parts.ensures (λ k d h. absurd (omega arith));
  uno = ap Some c.in_ok-new.ensures;
}

pub bounds-firsts-i : goal.bounds-firsts-i
bounds-firsts-i c =
    let has : Contents = record { flash = c.args.flash; chips = c.args.chips.now; budget = 0 } in
    let inside : c.loop-i.i < length c.args.plan.now.parts = rw (sym c.as_slice-planned.ensures) c.loop-i-test.true in
    rw c.as_slice-firsts.ensures (omega (arith, firsts_many has c.args.plan.now c.requires.plan, inside))

pub new_part-requires-clause-uno : goal.new_part-requires-clause-uno
new_part-requires-clause-uno c = λ here none.
    let l = c.loop-i in
    let parts : List PlanPart = c.args.plan.now.parts in
    let inside : l.i < length parts = rw (sym c.as_slice-planned.ensures) c.loop-i-test.true in
    let is : c.index-planned-i.result ≡ get_or parts l.i c.index-planned-i.result = rw (sym c.as_slice-planned.ensures) c.index-planned-i.is in
    cc (l.invariant.uno ∙ uno_there c.args.flash parts l.i c.index-planned-i.result inside is (sym (unos_counted parts) ∙ c.requires.plan.one_uno) here, none)

pub new_part-requires-clause-ready : goal.new_part-requires-clause-ready
new_part-requires-clause-ready c =
    let part = c.index-planned-i.result in
    let inside : c.loop-i.i < length c.args.plan.now.parts = rw (sym c.as_slice-planned.ensures) c.loop-i-test.true in
    let is : part ≡ get_or c.args.plan.now.parts c.loop-i.i part = rw (sym c.as_slice-planned.ensures) c.index-planned-i.is in
    let has : Contents = record { flash = c.args.flash; chips = c.args.chips.now; budget = 0 } in
    each_ready (length c.args.chips.now) c.args.plan.now.parts (all_ready has c.args.plan.now c.requires.plan) c.loop-i.i part inside is

pub new_part-requires-clause-fits : goal.new_part-requires-clause-fits
new_part-requires-clause-fits c =
    let l = c.loop-i in
    let parts : List PlanPart = c.args.plan.now.parts in
    let part : PlanPart = c.index-planned-i.result in
    let inside : l.i < length parts = rw (sym c.as_slice-planned.ensures) c.loop-i-test.true in
    let is : part ≡ get_or parts l.i part = rw (sym c.as_slice-planned.ensures) c.index-planned-i.is in
    let at : slice_get parts l.i ≡ Some part = slice_get_read parts (length parts) l.i part refl inside is in
    let has : Contents = record { flash = c.args.flash; chips = c.args.chips.now; budget = 0 } in
    rw (c.from-first.ensures, c.as_slice-firsts.ensures, c.requires.rows.pins) (part_fits has c.args.plan.now c.requires.plan l.i part at)

pub loop-i-preserved : goal.loop-i-preserved
loop-i-preserved c =
    let l = c.loop-i in
    let plan = c.args.plan.now in
    let parts : List PlanPart = plan.parts in
    let part : PlanPart = c.index-planned-i.result in
    let inside : l.i < length parts = rw (sym c.as_slice-planned.ensures) c.loop-i-test.true in
    let is : part ≡ get_or parts l.i part = rw (sym c.as_slice-planned.ensures) c.index-planned-i.is in
    let one = sym (unos_counted parts) ∙ c.requires.plan.one_uno in
    let has : Contents = record { flash = c.args.flash; chips = c.args.chips.now; budget = 0 } in
    let begins = c.in_ok-part.ensures.begins c.args.flash (λ here. l.invariant.uno ∙ uno_there c.args.flash parts l.i part inside is one here) in
    let all : List PlayedState = all_played has plan c.requires.plan c.args.rows.now c.requires.rows.pins in
    let first : c.from-first.result ≡ slice_index plan.wiring.first_pin l.i = c.from-first.ensures ∙ ap (λ (firsts : List ℕ). slice_index firsts l.i) c.as_slice-firsts.ensures in
    let there : slice_get all l.i ≡ Some (state_of c.in_ok-part.part) =
    play_at has plan c.requires.plan c.args.rows.now c.requires.rows.pins l.i part (slice_get_read parts (length parts) l.i part refl inside is)
    ∙ ap (λ (n : ℕ). play_start has c.args.rows.now n part) (sym first)
    ∙ begins.state in
    record {
      states = ap (map state_of) c.in_ok-push.ensures.ok
          ∙ map-append state_of l.parts (c.in_ok-part.part ∷ [])
          ∙ ap (λ (ss : List PlayedState). ss ++ state_of c.in_ok-part.part ∷ []) l.invariant.states
          ∙ one_more all l.i (state_of c.in_ok-part.part) there;
      fresh = subst (λ (ps : List PlayedPart). All IsNew ps) (sym c.in_ok-push.ensures.ok) (All-push IsNew l.parts c.in_ok-part.part l.invariant.fresh (begins.cycle, begins.wakes, begins.valid));
      uno = uno_next c.args.flash parts l.i part inside is l.uno c.new_part.new.uno l.invariant.uno c.in_ok-part.ensures.uno;
    }

pub returns-clause-states : goal.returns-clause-states
returns-clause-states c =
    let plan = c.args.plan.now in
    let has : Contents = record { flash = c.args.flash; chips = c.args.chips.now; budget = 0 } in
    let past : length plan.parts ≤ c.loop-i.i = rw (sym c.as_slice-planned.ensures) c.loop-i-test.false in
    let all : List PlayedState = all_played has plan c.requires.plan c.args.rows.now c.requires.rows.pins in
    c.loop-i.invariant.states ∙ take_all c.loop-i.i all (omega (arith, past, played_many has plan c.requires.plan c.args.rows.now c.requires.rows.pins))

pub returns-clause-all : goal.returns-clause-all
returns-clause-all c =
    let l = c.loop-i in
    let has : Contents = record { flash = c.args.flash; chips = c.args.chips.now; budget = 0 } in
    let past : length c.args.plan.now.parts ≤ l.i = rw (sym c.as_slice-planned.ensures) c.loop-i-test.false in
    let all : List PlayedState = all_played has c.args.plan.now c.requires.plan c.args.rows.now c.requires.rows.pins in
    let many = played_many has c.args.plan.now c.requires.plan c.args.rows.now c.requires.rows.pins in
    sym (length-map l.parts state_of) ∙ ap (λ (s : List PlayedState). length s) (l.invariant.states ∙ take_all l.i all (omega (arith, past, many))) ∙ many

pub returns-clause-fresh : goal.returns-clause-fresh
returns-clause-fresh c =
    let l = c.loop-i in
    record {
      at_start = λ k p e. (from_all IsNew l.parts l.invariant.fresh k p e).0;
      never_woken = λ k p e. (from_all IsNew l.parts l.invariant.fresh k p e).1;
      are_valid = λ k p e. (from_all IsNew l.parts l.invariant.fresh k p e).2;
    }

pub returns-clause-fits : goal.returns-clause-fits
returns-clause-fits c =
    let l = c.loop-i in
    let plan = c.args.plan.now in
    let has : Contents = record { flash = c.args.flash; chips = c.args.chips.now; budget = 0 } in
    let past : length plan.parts ≤ l.i = rw (sym c.as_slice-planned.ensures) c.loop-i-test.false in
    let all : List PlayedState = all_played has plan c.requires.plan c.args.rows.now c.requires.rows.pins in
    let many = played_many has plan c.requires.plan c.args.rows.now c.requires.rows.pins in
    rw (l.invariant.states ∙ take_all l.i all (omega (arith, past, many))) (all_fit has plan c.requires.plan c.args.rows.now c.requires.rows.pins)
