use Rattle.std.proofs.Common.{◌≡◌, ◌∙◌, List, length, true, false, replicate, ap, sym, arith}
use Rattle.std.proofs.lemmas.List.{length-replicate}
use Rattle.sim_base.specs.declared.signal.Level.{Level}
use Rattle.sim_base.specs.declared.signal.Level.TheVariants as levels
use Rattle.chip_abi.proofs.ImportLemmas.{known_imports}
use Rattle.chip_host.specs.Inventory.{Given, Moment, HostState}
use Rattle.chip_host.proofs.SetupLemmas.{hosts_known, moved}
use Rattle.chip_host.proofs.turns.Turns.new.Goals as goal

pub new-requires-2-clause-tables : goal.new-requires-2-clause-tables
new-requires-2-clause-tables c = (known_imports c.args.valid.wasm c.args.map c.requires.map).tables

pub new-requires-2-clause-globals : goal.new-requires-2-clause-globals
new-requires-2-clause-globals c = (known_imports c.args.valid.wasm c.args.map c.requires.map).globals

pub run_both-dead-requires-clause-start : goal.run_both-dead-requires-clause-start
run_both-dead-requires-clause-start c = moved c.args.valid.wasm c.in-Ok-new.instance.wasm c.start_of-start.result c.in-Ok-new.ensures.wasm c.start_of-start.ensures.typed

pub run_both-dead-requires-clause-hosts : goal.run_both-dead-requires-clause-hosts
run_both-dead-requires-clause-hosts c =
    let given : Given = record { table = c.args.map; names = c.args.pins; attrs = c.args.attrs; display = c.args.display } in
    hosts_known c.args.valid.wasm c.in-Ok-new.instance.wasm given c.in-Ok.host.moment c.requires.map c.in-Ok-new.ensures.wasm (ap (λ (h : HostState). h.moment.given) c.in-Ok.ensures)

pub invariant_of-result : goal.invariant_of-result
invariant_of-result c =
    let given : Given = record { table = c.args.map; names = c.args.pins; attrs = c.args.attrs; display = c.args.display } in
    let first : c.in-Ok.host.moment ≡ record { given = given; init = true; now = 0; levels = replicate (length given.names) levels.Z } = ap (λ (h : HostState). h.moment) c.in-Ok.ensures in
    let moment : c.end_set_up.new.self.moment ≡ record { given = given; init = false; now = 0; levels = replicate (length given.names) levels.Z } =
    ap (λ (h : HostState). h.moment) c.end_set_up.ensures ∙ ap (λ (m : Moment). record m { init = false }) (c.run_both-dead.ensures.moment ∙ first) in
    let wasm : c.run_both-dead.new.instance.wasm ≡ c.args.valid.wasm = c.run_both-dead.ensures.wasm ∙ c.in-Ok-new.ensures.wasm in
    let names = ap (λ (m : Moment). length m.given.names) moment in
    record {
      hosts = hosts_known c.args.valid.wasm c.run_both-dead.new.instance.wasm given c.end_set_up.new.self.moment c.requires.map wasm (ap (λ (m : Moment). m.given) moment);
      set = ap (λ (m : Moment). m.init) moment;
      before = c.in-Ok-filled.ensures.len ∙ c.len-count.ensures ∙ sym names;
      levels = ap (λ (m : Moment). length m.levels) moment ∙ length-replicate (length given.names) levels.Z ∙ sym names;
      end = let zero = ap (λ (m : Moment). m.now) moment in omega (arith, zero);
    }
