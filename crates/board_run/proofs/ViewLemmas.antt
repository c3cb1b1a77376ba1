-- What a board did that went on from the cycle at which it stood, as its users see it.
use Rattle.board_run.proofs.Common.{◌≡◌, ℕ, List, length, map, Bool, false, Option, ◌<◌, sym, subst, length-map, refl, Wiring, Input, Machine, Laws, Shown, shown_at, AreAt}
use Rattle.board_run.proofs.Common.{BoardView, Engine, WentOn}
use Rattle.part_law.specs.declared.part.Part.{Ghosts}
use Rattle.law_board.specs.Orders.{IsOrder, SameInOrders}
use Rattle.law_board.proofs.OrdersLaw.{in_orders}
use Rattle.board_run.specs.BoardWent.{BoardWent}
use Rattle.board_run.specs.Engine.{wiring_of}
use Rattle.board_run.proofs.LegLemmas.{at_here}
use Rattle.board_run.specs.declared.board.RunEnd.TheVariants as ends

-- a run that is done was not cut off
pub not_cut_off : {B : Type 0} → ends.Done ≡ ends.WriteFault → B
not_cut_off e = absurd cc

-- what they see of an engine
abbrev seen_of : {P : Type 0} → Engine P → Bool → BoardView P
seen_of e given_up = record { parts = e.parts; wiring = wiring_of e; inputs = e.inputs; cycle = e.cycle; given_up = given_up; before = shown_at e.cycle e.reading; changed = e.changed }

-- where its parts stood at its cycle and stand at its new one
pub board_went : {P : Type 0} (part : Ghosts P) (laws : Laws part.machine) (old new : Engine P) (given_up : Bool) (steps more : ℕ) → given_up ≡ false →
    AreAt part.now old.cycle old.parts → AreAt part.now new.cycle new.parts → WentOn part old new steps more → BoardWent part (seen_of old given_up) (seen_of new given_up) steps more
board_went part laws old new given_up steps more alive first last went =
    let here = at_here part.machine laws (wiring_of old) part.state part.now part.wakes old.inputs old.cycle old.parts first in
    let there = at_here part.machine laws (wiring_of old) part.state part.now part.wakes old.inputs new.cycle new.parts last in
    record {
      from = went.leg.order;
      alive = alive;
      same_wiring = went.same_wiring;
      same_inputs = went.same_inputs;
      states_are = rw (here, there) at went.leg.states_are;
      before_is = rw here at (sym went.leg.before_is);
      tells = λ less. rw here at (went.tells less);
      steps_are = rw here at went.leg.steps_are;
      woken = rw here at went.leg.woken;
    }

-- in whatever orders its parts are moved
pub any_order : {S P : Type 0} (m : Machine S) (w : Wiring) (inputs : List Input) (state : P → S) (parts : List P) (orders : ℕ → List ℕ) (c : ℕ) (before : Option Shown) (n : ℕ) → ((k : ℕ) → k < n → IsOrder (length parts) (orders k)) →
    SameInOrders m w inputs orders before (map state parts) c n
any_order m w inputs state parts orders c before n are =
    let long : length (map state parts) ≡ length parts = simp length-map refl in
    in_orders m w inputs orders (map state parts) c before n (λ k h. subst (λ (count : ℕ). IsOrder count (orders k)) (sym long) (are k h))
