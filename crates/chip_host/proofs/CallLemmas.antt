-- What a call into a module leaves of a chip.
use Rattle.std.proofs.Common.{◌≡◌, ◌≢◌, ℕ, zero, suc, List, [], ◌∷◌, length, reverse, Bool, true, false, Option, None, Some, Result, Ok, Err, refl, sym, ap, subst, ◌∙◌}
use Rattle.std.specs.Prelude.{option_to_list}
use Rattle.std.proofs.lemmas.Bool.{cond-false, cond-true}
use Rattle.wasm_num.specs.declared.trap.Trap.{Trap}
use Rattle.wasm_num.specs.declared.value.Value.{Value}
use Rattle.wasm_num.specs.declared.value.Value.TheVariants.{I32}
use Rattle.wasm_num.specs.Mem.{Mem}
use Rattle.wasm_decode.specs.declared.module.Module.{Module}
use Rattle.wasm_semantics.specs.Eval.{Program, State, End, call}
use Rattle.wasm_exec.specs.Programs.{IsProgram}
use Rattle.wasm_exec.specs.Instances.{Running, EndsAs, state_of, end_of}
use Rattle.wasm_exec.specs.Slots.{slot_call, slot_type}
use Rattle.wasm_program.specs.ProgramOf.{program_of}
use Rattle.wasm_program.proofs.OneProgram.{is_program_of}
use Rattle.wasm_program.proofs.Keeping.{KeepsEnd, call_keeps, indirect_call_keeps}
use Rattle.chip_host.specs.declared.death.Death.{Death}
use Rattle.sim_base.specs.declared.signal.Level.{Level}
use Rattle.chip_host.specs.Inventory.{Moment, Given, Inventory, HostState}
use Rattle.chip_host.specs.HostCall.{answers}
use Rattle.chip_host.specs.Chip.{Chip, chip_from, ended, called, replied, answer_of, value_of, set_up, started, then_set_up, is_live, host_of}

abbrev moment : HostState → Moment
moment h = h.moment

-- how a chip ends or goes on
abbrev pub death_of : ℕ → Result (Option Value) Trap → Option Death
death_of t (Ok v) = None
death_of t (Err trap) = Some (record { trap = trap; cycle = t })

slot_keeps : (p : Program) (slot : ℕ) (args : List Value) (gives : Bool) (s : State HostState) → KeepsEnd moment s.host.moment (slot_call (call answers p 256) p slot args gives s)
slot_keeps p slot args gives s = indirect_call_keeps moment s.host.moment answers p (λ h f xs m e. e) 256 (length (slot_type args gives).results) (Some (slot_type args gives)) (I32 slot ∷ reverse args) s refl

end_keeps : (x : Moment) (r : Result (Option Value) Trap) (s : State HostState) → KeepsEnd moment x (end_of r s) → s.host.moment ≡ x
end_keeps x (Ok v) s k = k
end_keeps x (Err t) s k = k

-- what a call answers and leaves, as it stands in the instance and the host
module _ (r : Running) (h : HostState) (budget : ℕ) (result : Result (Option Value) Trap) (r' : Running) (h' : HostState) (e : End HostState) where
  abbrev old : Chip
  old = chip_from r h budget None

  pub around_of : EndsAs result r' h' e → KeepsEnd moment h.moment e → h'.moment ≡ h.moment
  around_of w k = ap moment w.host ∙ end_keeps h.moment result w.state (subst (λ (x : End HostState). KeepsEnd moment h.moment x) w.whole k)

abbrev build : Module → Mem → List Value → Given → ℕ → List Level → Inventory → Option Death → Chip
build w m g given b l d x = record { running = record { wasm = w; memory = m; globals = g }; given = given; budget = b; held = l; inventory = d; dead = x }

build_same : (w w' : Module) (m m' : Mem) (g g' : List Value) (v v' : Given) (b : ℕ) (l l' : List Level) (d d' : Inventory) (x : Option Death) → w ≡ w' → m ≡ m' → g ≡ g' → v ≡ v' → l ≡ l' → d ≡ d' → build w m g v b l d x ≡ build w' m' g' v' b l' d' x
build_same w w' m m' g g' v v' b l l' d d' x p q r s t u = cc

module _ (r : Running) (h : HostState) (budget : ℕ) (r' : Running) (h' : HostState) where
  same_after : (x : Option Death) (s : State HostState) → r'.wasm ≡ r.wasm → r'.memory ≡ s.memory → r'.globals ≡ s.globals → h' ≡ s.host → h'.moment ≡ h.moment
      → chip_from r' h' budget x ≡ build r.wasm s.memory s.globals h.moment.given budget h.moment.levels s.host.inventory x
  same_after x s a b c d e =
      build_same r'.wasm r.wasm r'.memory s.memory r'.globals s.globals h'.moment.given h.moment.given budget h'.moment.levels h.moment.levels h'.inventory s.host.inventory x
      a b c (ap (λ (y : Moment). y.given) e) (ap (λ (y : Moment). y.levels) e) (ap (λ (y : HostState). y.inventory) d)

  same_ended : (t : ℕ) (result : Result (Option Value) Trap) (s : State HostState) → r'.wasm ≡ r.wasm → r'.memory ≡ s.memory → r'.globals ≡ s.globals → h' ≡ s.host → h'.moment ≡ h.moment
      → chip_from r' h' budget (death_of t result) ≡ ended (chip_from r h budget None) t (end_of result s)
  same_ended t (Ok v) s a b c d e = same_after None s a b c d e
  same_ended t (Err trap) s a b c d e = same_after (Some (record { trap = trap; cycle = t })) s a b c d e

  -- the same by an evaluation that keeps what is moment
  ends_as : (t : ℕ) (result : Result (Option Value) Trap) (e : End HostState) → r'.wasm ≡ r.wasm → EndsAs result r' h' e → KeepsEnd moment h.moment e
      → chip_from r' h' budget (death_of t result) ≡ ended (chip_from r h budget None) t e
  ends_as t result e a w k =
      same_ended t result w.state a w.memory w.globals w.host (around_of r h budget result r' h' e w k) ∙ ap (ended (chip_from r h budget None) t) (sym w.whole)

host_same : (r : Running) (h : HostState) (budget : ℕ) (init : Bool) (t : ℕ) → h.moment.init ≡ init → h.moment.now ≡ t → host_of (chip_from r h budget None) init t ≡ h
host_same r h budget init t e q =
    let a : record { given = h.moment.given; init = init; now = t; levels = h.moment.levels } ≡ h.moment =
    ap (λ (b : Bool). record { given = h.moment.given; init = b; now = t; levels = h.moment.levels }) (sym e)
    ∙ ap (λ (n : ℕ). record { given = h.moment.given; init = h.moment.init; now = n; levels = h.moment.levels }) (sym q) in
    ap (λ (x : Moment). record { moment = x; inventory = h.inventory }) a

called_is : (s : Chip) (t slot : ℕ) (args : List Value) → slot ≢ 0 → called s t slot args ≡ ended s t (slot_call (call answers (program_of s.running.wasm) 256) (program_of s.running.wasm) slot args false (state_of s.running (host_of s false t) s.budget))
unfolding called
called_is s t zero args h = absurd (h refl)
called_is s t (suc n) args h = refl

pub not_called : (s : Chip) (t slot : ℕ) (args : List Value) → slot ≡ 0 → called s t slot args ≡ s
unfolding called
not_called s t zero args e = refl
not_called s t (suc n) args e = absurd cc

replied_is : (s : Chip) (t slot : ℕ) (args : List Value) (absent : ℕ) → slot ≢ 0 →
    replied s t slot args absent ≡ (let e = slot_call (call answers (program_of s.running.wasm) 256) (program_of s.running.wasm) slot args true (state_of s.running (host_of s false t) s.budget) in (ended s t e, answer_of e))
unfolding replied
replied_is s t zero args absent h = absurd (h refl)
replied_is s t (suc n) args absent h = refl

pub not_asked : (s : Chip) (t slot : ℕ) (args : List Value) (absent : ℕ) → slot ≡ 0 → replied s t slot args absent ≡ (s, Some absent)
unfolding replied
not_asked s t zero args absent e = refl
not_asked s t (suc n) args absent e = absurd cc

-- what a callback answers
abbrev pub answered : Result (Option Value) Trap → Option ℕ
answered (Ok v) = Some (value_of (option_to_list v))
answered (Err t) = None

answer_is : (result : Result (Option Value) Trap) (s : State HostState) → answer_of (end_of result s) ≡ answered result
answer_is (Ok v) s = refl
answer_is (Err t) s = refl

-- a callback
module _ (r : Running) (h : HostState) (budget slot : ℕ) (args : List Value) (result : Result (Option Value) Trap) (r' : Running) (h' : HostState)
    (there : (p : Program) × IsProgram r.wasm p)
    (ends : (p : Program) → IsProgram r.wasm p → EndsAs result r' h' (slot_call (call answers p 256) p slot args false (state_of r h budget))) where
  abbrev p : Program
  p = program_of r.wasm

  abbrev evaluated : End HostState
  evaluated = slot_call (call answers p 256) p slot args false (state_of r h budget)

  slot_ends : EndsAs result r' h' evaluated
  slot_ends = ends p (is_program_of r.wasm there.0 there.1)

  pub slot_around : h'.moment ≡ h.moment
  slot_around = around_of r h budget result r' h' evaluated slot_ends (slot_keeps p slot args false (state_of r h budget))

  pub slot_called : slot ≢ 0 → h.moment.init ≡ false → r'.wasm ≡ r.wasm → chip_from r' h' budget (death_of h.moment.now result) ≡ called (chip_from r h budget None) h.moment.now slot args
  slot_called some set same =
      let s : Chip = chip_from r h budget None in
      let t : ℕ = h.moment.now in
      ends_as r h budget r' h' t result evaluated same slot_ends (slot_keeps p slot args false (state_of r h budget))
      ∙ ap (λ (x : HostState). ended s t (slot_call (call answers p 256) p slot args false (state_of r x budget))) (sym (host_same r h budget false t set refl))
      ∙ sym (called_is s t slot args some)

-- a callback that answers
module _ (r : Running) (h : HostState) (budget slot : ℕ) (args : List Value) (absent : ℕ) (result : Result (Option Value) Trap) (r' : Running) (h' : HostState)
    (there : (p : Program) × IsProgram r.wasm p)
    (ends : (p : Program) → IsProgram r.wasm p → EndsAs result r' h' (slot_call (call answers p 256) p slot args true (state_of r h budget))) where
  abbrev reply : End HostState
  reply = slot_call (call answers (program_of r.wasm) 256) (program_of r.wasm) slot args true (state_of r h budget)

  reply_ends : EndsAs result r' h' reply
  reply_ends = ends (program_of r.wasm) (is_program_of r.wasm there.0 there.1)

  reply_keeps : KeepsEnd moment h.moment reply
  reply_keeps = slot_keeps (program_of r.wasm) slot args true (state_of r h budget)

  pub reply_around : h'.moment ≡ h.moment
  reply_around = around_of r h budget result r' h' reply reply_ends reply_keeps

  reply_is : slot ≢ 0 → h.moment.init ≡ false → (ended (chip_from r h budget None) h.moment.now reply, answer_of reply) ≡ replied (chip_from r h budget None) h.moment.now slot args absent
  reply_is some set =
      let s : Chip = chip_from r h budget None in
      let t : ℕ = h.moment.now in
      ap (λ (x : HostState). let e = slot_call (call answers (program_of r.wasm) 256) (program_of r.wasm) slot args true (state_of r x budget) in (ended s t e, answer_of e)) (sym (host_same r h budget false t set refl))
      ∙ sym (replied_is s t slot args absent some)

  pub replied_chip : slot ≢ 0 → h.moment.init ≡ false → r'.wasm ≡ r.wasm → chip_from r' h' budget (death_of h.moment.now result) ≡ (replied (chip_from r h budget None) h.moment.now slot args absent).0
  replied_chip some set same =
      ends_as r h budget r' h' h.moment.now result reply same reply_ends reply_keeps ∙ ap (λ (p : Chip × Option ℕ). p.0) (reply_is some set)

  pub replied_answer : slot ≢ 0 → h.moment.init ≡ false → answered result ≡ (replied (chip_from r h budget None) h.moment.now slot args absent).1
  replied_answer some set =
      sym (answer_is result reply_ends.state) ∙ ap answer_of (sym reply_ends.whole) ∙ ap (λ (p : Chip × Option ℕ). p.1) (reply_is some set)

-- a function that sets the chip up
module _ (r : Running) (h : HostState) (budget f : ℕ) (result : Result (Option Value) Trap) (r' : Running) (h' : HostState)
    (there : (p : Program) × IsProgram r.wasm p)
    (ends : (p : Program) → IsProgram r.wasm p → EndsAs result r' h' (call answers p 256 f [] (state_of r h budget))) where
  abbrev set_up_end : End HostState
  set_up_end = call answers (program_of r.wasm) 256 f [] (state_of r h budget)

  set_up_ends : EndsAs result r' h' set_up_end
  set_up_ends = ends (program_of r.wasm) (is_program_of r.wasm there.0 there.1)

  set_up_keeps : KeepsEnd moment h.moment set_up_end
  set_up_keeps = call_keeps moment h.moment answers (program_of r.wasm) (λ g n xs m e. e) 256 f [] (state_of r h budget) refl

  pub set_up_around : h'.moment ≡ h.moment
  set_up_around = around_of r h budget result r' h' set_up_end set_up_ends set_up_keeps

  pub set_up_is : h.moment.init ≡ true → h.moment.now ≡ 0 → r'.wasm ≡ r.wasm → chip_from r' h' budget (death_of 0 result) ≡ set_up (chip_from r h budget None) f
  unfolding set_up
  set_up_is set at same =
      ends_as r h budget r' h' 0 result set_up_end same set_up_ends set_up_keeps
      ∙ ap (λ (x : HostState). ended (chip_from r h budget None) 0 (call answers (program_of r.wasm) 256 f [] (state_of r x budget))) (sym (host_same r h budget true 0 set at))

-- the start function, and then chipInit where the chip lives
pub both_set_up : (a b c : Chip) (init : ℕ) → b ≡ a → is_live b ≡ true → c ≡ set_up b init → c ≡ then_set_up a init
both_set_up a b c init e live q = q ∙ sym (cond-true (is_live b) (set_up b init) b live) ∙ ap (λ (x : Chip). then_set_up x init) e

pub one_set_up : (a b : Chip) (init : ℕ) → b ≡ a → is_live b ≡ false → b ≡ then_set_up a init
one_set_up a b init e dead = sym (cond-false (is_live b) (set_up b init) b dead) ∙ ap (λ (x : Chip). then_set_up x init) e

pub started_in : (start : Option ℕ) (s c : Chip) (f : ℕ) → start ≡ Some f → c ≡ set_up s f → c ≡ started start s
started_in None s c f e q = absurd cc
started_in (Some g) s c f e q = let z : f ≡ g = cc in q ∙ ap (set_up s) z
