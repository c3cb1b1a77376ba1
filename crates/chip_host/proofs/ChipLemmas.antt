-- A chip's wake, and the drive of a pin.
use Rattle.std.proofs.Common.{◌≡◌, ◌<◌, ℕ, ◌+◌, List, ◌++◌, length, map, Option, None, Some, refl, sym, ap, ◌∙◌, arith}
use Rattle.std.specs.Prelude.{slice_get, option_to_list}
use Rattle.std.specs.List.{range_with_len}
use Rattle.std.proofs.lemmas.Option.{slice_get-get_or}
use Rattle.std.proofs.lemmas.List.FromFn.{get_or-map-range_with_len}
use Rattle.sim_base.specs.declared.signal.Drive.{Drive}
use Rattle.sim_base.specs.declared.signal.Drive.TheVariants as drives
use Rattle.sim_base.specs.declared.signal.Level.{Level}
use Rattle.slave_request.specs.declared.request.EngineRequest.{EngineRequest}
use Rattle.chip_host.specs.Chip.{Chip, ChipAt, chip, chip_drive, chip_step, seeing, timers_first, turned, watch_turns, served, all_served, engines_last}
use Rattle.chip_host.specs.ChipLaws.{Fixed, timer_turns_fixed, drive_count}

pub drive_at : (s : Chip) (p : ℕ) (d : Drive) → p < length (chip.drives s) → d ≡ chip_drive s p → slice_get (chip.drives s) p ≡ Some d
drive_at s p d h e =
    let l : p < length s.given.names = omega (arith, drive_count s) in
    let z : 0 + p ≡ p = omega arith in
    slice_get-get_or (map (chip_drive s) (range_with_len 0 (length s.given.names))) p drives.Z h ∙ ap (λ (x : Drive). Some x) (get_or-map-range_with_len (chip_drive s) 0 (length s.given.names) p p drives.Z l z ∙ sym e)

-- the requests of a turn, of which there are two at most
pub two_served : (s : Chip) (t k : ℕ) (a b : Option EngineRequest) → all_served s t k (option_to_list a ++ option_to_list b) ≡ served (served s t k a b) t k b None
two_served s t k None None = refl
two_served s t k None (Some r) = refl
two_served s t k (Some q) None = refl
two_served s t k (Some q) (Some r) = refl

-- a chip that takes these levels
abbrev pub waking : ChipAt → List Level → ChipAt
waking a ls = record { chip = seeing a.chip ls; cycle = a.cycle; wakes = a.wakes; before = a.chip.held }

pub turned_step : (a : ChipAt) (ls : List Level) → (turned (waking a ls)).chip ≡ chip_step a.chip a.cycle ls
turned_step a ls =
    let fired : Chip = timers_first (seeing a.chip ls) a.cycle in
    ap (λ (f : Fixed). engines_last (watch_turns fired a.cycle a.chip.held (length f.given.names)) a.cycle a.chip.held) (timer_turns_fixed (seeing a.chip ls) a.cycle (length a.chip.inventory.timers))

abbrev pub keeping : ChipAt → ChipAt
keeping a = record { chip = a.chip; cycle = a.cycle; wakes = a.wakes; before = a.chip.held }

pub wakes_as : (a b c : ChipAt) (ls : List Level) → b ≡ waking a ls → c ≡ turned b → c.chip ≡ chip_step a.chip a.cycle ls
wakes_as a b c ls p q = ap (λ (x : ChipAt). x.chip) (q ∙ ap turned p) ∙ turned_step a ls

pub wakes_held : (a b d : ChipAt) → b ≡ keeping a → d ≡ turned b → d.chip ≡ chip_step a.chip a.cycle a.chip.held
wakes_held a b d p r = ap (λ (x : ChipAt). x.chip) (r ∙ ap turned p) ∙ turned_step a a.chip.held
