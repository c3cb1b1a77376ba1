use Rattle.std.proofs.Common.{◌≡◌, ◌+◌, ◌<◌, ◌≤◌, Bool, true, false, Result, Ok, Some, ℕ, length, drop, sym, ap, ◌∙◌, arith}
use Rattle.wasm_num.specs.declared.trap.Trap.{Trap}
use Rattle.wasm_num.specs.declared.value.Value.TheVariants.{I32}
use Rattle.chip_abi.specs.Reading.{word_at}
use Rattle.chip_host.specs.declared.timer.Timer.{Timer}
use Rattle.chip_host.specs.HostCall.{Done, add_timer, timer_from}
use Rattle.chip_host.specs.Inventory.{HostState, left}
use Rattle.chip_host.proofs.HostLemmas.{in_phase, in_limit, in_room}
use Rattle.chip_host.proofs.host.ChipHost.timer_init.Goals as goal

pub returns-then-not-self-clause-answer : goal.returns-then-not-self-clause-answer
returns-then-not-self-clause-answer c =
    let h = c.args.self.now in
    let m = c.args.memory.now in
    let d = h.inventory in
    let there : Done = add_timer (timer_from (word_at m (c.args.addr + 0)) (word_at m (c.args.addr + 4))) d in
    let init : h.moment.init ≡ false = ap (λ (x : HostState). x.moment.init) (sym c.self.view_is) ∙ c.if-not-self.true in
    ap (λ (x : Done). x.answer) (in_phase d 32 there h.moment.init (length d.timers) init)

pub returns-then-id-ge32-clause-answer : goal.returns-then-id-ge32-clause-answer
returns-then-id-ge32-clause-answer c =
    let h = c.args.self.now in
    let m = c.args.memory.now in
    let d = h.inventory in
    let there : Done = add_timer (timer_from (word_at m (c.args.addr + 0)) (word_at m (c.args.addr + 4))) d in
    let init : h.moment.init ≡ true = ap (λ (x : HostState). x.moment.init) (sym c.self.view_is) ∙ c.if-not-self.false in
    let same : length d.timers ≡ length c.self.inside.timers.items = ap (λ (x : HostState). length x.inventory.timers) (sym c.self.view_is) in
    let count : length d.timers ≡ c.len-id.result = omega (arith, same, c.self.inside.timers.ok.0, c.len-id.ensures) in
    ap (λ (x : Done). x.answer) (in_limit d 32 there h.moment.init (length d.timers) init (omega (arith, count, c.if-id-ge32.true)))

pub returns-in-Err-clause-answer : goal.returns-in-Err-clause-answer
returns-in-Err-clause-answer c =
    let h = c.args.self.now in
    let m = c.args.memory.now in
    let d = h.inventory in
    let there : Done = add_timer (timer_from (word_at m (c.args.addr + 0)) (word_at m (c.args.addr + 4))) d in
    let init : h.moment.init ≡ true = ap (λ (x : HostState). x.moment.init) (sym c.self.view_is) ∙ c.if-not-self.false in
    let same : length d.timers ≡ length c.self.inside.timers.items = ap (λ (x : HostState). length x.inventory.timers) (sym c.self.view_is) in
    let count : length d.timers ≡ c.len-id.result = omega (arith, same, c.self.inside.timers.ok.0, c.len-id.ensures) in
    ap (λ (r : Result Timer Trap). (add_timer r d).answer) c.in-Err.ensures ∙ ap (λ (x : Done). x.answer) (in_room d 32 there h.moment.init (length d.timers) init (omega (arith, count, c.if-id-ge32.false)))

pub returns-in-Ok-clause-answer : goal.returns-in-Ok-clause-answer
returns-in-Ok-clause-answer c =
    let h = c.args.self.now in
    let m = c.args.memory.now in
    let d = h.inventory in
    let there : Done = add_timer (timer_from (word_at m (c.args.addr + 0)) (word_at m (c.args.addr + 4))) d in
    let init : h.moment.init ≡ true = ap (λ (x : HostState). x.moment.init) (sym c.self.view_is) ∙ c.if-not-self.false in
    let same : length d.timers ≡ length c.self.inside.timers.items = ap (λ (x : HostState). length x.inventory.timers) (sym c.self.view_is) in
    let count : length d.timers ≡ c.len-id.result = omega (arith, same, c.self.inside.timers.ok.0, c.len-id.ensures) in
    ap (λ (n : ℕ). Ok (Some (I32 n))) (sym count) ∙ ap (λ (r : Result Timer Trap). (add_timer r d).answer) c.in-Ok.ensures ∙ ap (λ (x : Done). x.answer) (in_room d 32 there h.moment.init (length d.timers) init (omega (arith, count, c.if-id-ge32.false)))

pub returns-then-not-self-clause-after : goal.returns-then-not-self-clause-after
returns-then-not-self-clause-after c =
    let h = c.args.self.now in
    let m = c.args.memory.now in
    let d = h.inventory in
    let there : Done = add_timer (timer_from (word_at m (c.args.addr + 0)) (word_at m (c.args.addr + 4))) d in
    let init : h.moment.init ≡ false = ap (λ (x : HostState). x.moment.init) (sym c.self.view_is) ∙ c.if-not-self.true in
    ap (λ (x : Done). left h x.inventory) (in_phase d 32 there h.moment.init (length d.timers) init)

pub returns-then-id-ge32-clause-after : goal.returns-then-id-ge32-clause-after
returns-then-id-ge32-clause-after c =
    let h = c.args.self.now in
    let m = c.args.memory.now in
    let d = h.inventory in
    let there : Done = add_timer (timer_from (word_at m (c.args.addr + 0)) (word_at m (c.args.addr + 4))) d in
    let init : h.moment.init ≡ true = ap (λ (x : HostState). x.moment.init) (sym c.self.view_is) ∙ c.if-not-self.false in
    let same : length d.timers ≡ length c.self.inside.timers.items = ap (λ (x : HostState). length x.inventory.timers) (sym c.self.view_is) in
    let count : length d.timers ≡ c.len-id.result = omega (arith, same, c.self.inside.timers.ok.0, c.len-id.ensures) in
    ap (λ (x : Done). left h x.inventory) (in_limit d 32 there h.moment.init (length d.timers) init (omega (arith, count, c.if-id-ge32.true)))

pub returns-in-Err-clause-after : goal.returns-in-Err-clause-after
returns-in-Err-clause-after c =
    let h = c.args.self.now in
    let m = c.args.memory.now in
    let d = h.inventory in
    let there : Done = add_timer (timer_from (word_at m (c.args.addr + 0)) (word_at m (c.args.addr + 4))) d in
    let init : h.moment.init ≡ true = ap (λ (x : HostState). x.moment.init) (sym c.self.view_is) ∙ c.if-not-self.false in
    let same : length d.timers ≡ length c.self.inside.timers.items = ap (λ (x : HostState). length x.inventory.timers) (sym c.self.view_is) in
    let count : length d.timers ≡ c.len-id.result = omega (arith, same, c.self.inside.timers.ok.0, c.len-id.ensures) in
    ap (λ (r : Result Timer Trap). left h (add_timer r d).inventory) c.in-Err.ensures ∙ ap (λ (x : Done). left h x.inventory) (in_room d 32 there h.moment.init (length d.timers) init (omega (arith, count, c.if-id-ge32.false)))

pub returns-in-Ok-clause-after : goal.returns-in-Ok-clause-after
returns-in-Ok-clause-after c =
    let h = c.args.self.now in
    let m = c.args.memory.now in
    let d = h.inventory in
    let there : Done = add_timer (timer_from (word_at m (c.args.addr + 0)) (word_at m (c.args.addr + 4))) d in
    let init : h.moment.init ≡ true = ap (λ (x : HostState). x.moment.init) (sym c.self.view_is) ∙ c.if-not-self.false in
    let same : length d.timers ≡ length c.self.inside.timers.items = ap (λ (x : HostState). length x.inventory.timers) (sym c.self.view_is) in
    let count : length d.timers ≡ c.len-id.result = omega (arith, same, c.self.inside.timers.ok.0, c.len-id.ensures) in
    c.push_timer.ensures ∙ ap (λ (r : Result Timer Trap). left h (add_timer r d).inventory) c.in-Ok.ensures ∙ ap (λ (x : Done). left h x.inventory) (in_room d 32 there h.moment.init (length d.timers) init (omega (arith, count, c.if-id-ge32.false)))
