-- The types of imported functions, what calls of them leave, and the length of a list of which one is replaced.
use Rattle.std.proofs.Common.{◌≡◌, ◌<◌, ◌≤◌, ◌-◌, take, drop, Bool, true, false, not, if◌then◌else◌, Option, None, Result, ℕ, zero, suc, List, [], ◌∷◌, length, map, Some, refl, sym, ap, ◌∙◌, arith}
use Rattle.std.specs.Prelude.{nat_lt, slice_get, slice_set, option_map, option_and_then}
use Rattle.std.proofs.lemmas.Bool.Decides.{nat_tests}
use Rattle.wasm_num.specs.declared.trap.Trap.{Trap}
use Rattle.wasm_num.specs.declared.trap.Trap.TheVariants as traps
use Rattle.std.proofs.lemmas.Option.{slice_get-map}
use Rattle.wasm_code.specs.declared.types.FuncType.{FuncType}
use Rattle.sim_base.specs.declared.signal.Drive.{Drive}
use Rattle.chip_engines.specs.declared.engine.Engine.{Engine}
use Rattle.chip_engines.specs.Engine.{HasNone, driven}
use Rattle.chip_engines.proofs.PlaceLemmas.{driven_between}
use Rattle.chip_abi.specs.declared.host_name.HostName.{HostName}
use Rattle.chip_abi.specs.declared.output_name.OutputName.{OutputName}
use Rattle.chip_abi.specs.HostNames.{type_of_name, output_of}
use Rattle.chip_output.specs.Output.{OutputState}
use Rattle.chip_output.specs.Calls.{output_does}
use Rattle.wasm_num.specs.declared.value.Value.{Value}
use Rattle.wasm_num.specs.Mem.{Mem}
use Rattle.wasm_semantics.specs.Eval.{Answer}
use Rattle.chip_host.specs.Inventory.{HostState, Inventory, left}
use Rattle.chip_host.specs.HostCall.{Done, fails, host_does, call_does, leaves_memory, leaves_output}

pub import_below : (table : List HostName) (i : ℕ) (t : FuncType) → slice_get (map type_of_name table) i ≡ Some t → i < length table
import_below [] i t h = absurd cc
import_below (x ∷ xs) zero t h = omega arith
import_below (x ∷ xs) (suc i) t h = let r = import_below xs i t h in omega (arith, r)

-- the type of an imported function is that of its name
pub import_type : (table : List HostName) (i : ℕ) (t : FuncType) (name : HostName) → slice_get (map type_of_name table) i ≡ Some t → slice_get table i ≡ Some name → t ≡ type_of_name name
import_type table i t name h n =
    let e : Some t ≡ Some (type_of_name name) = sym h ∙ slice_get-map type_of_name table i ∙ ap (option_map type_of_name) n in
    cc

-- a call whose function and arguments are known
module _ (asked name : HostName) (is : asked ≡ name) (args given : List Value) (same : args ≡ given) (h : HostState) (m : Mem) where
  asks : host_does name given h.moment m h.inventory ≡ host_does asked args h.moment m h.inventory
  asks = ap (λ (vs : List Value). host_does name vs h.moment m h.inventory) (sym same) ∙ ap (λ (n : HostName). host_does n args h.moment m h.inventory) (sym is)

  pub does_answer : (r : Result (Option Value) Trap) → r ≡ (host_does name given h.moment m h.inventory).answer → r ≡ (host_does asked args h.moment m h.inventory).answer
  does_answer r e = e ∙ ap (λ (d : Done). d.answer) asks

  pub does_after : (n : HostState) → n ≡ left h (host_does name given h.moment m h.inventory).inventory → n ≡ left h (host_does asked args h.moment m h.inventory).inventory
  does_after n e = e ∙ ap (λ (d : Done). left h d.inventory) asks

-- a call of a function by its name: on the output, or any other
module _ (h : HostState) (args : List Value) (m : Mem) (o : Option HostName) (name : HostName) (is : o ≡ Some name) where
  pub named_output : (output : OutputName) → output_of name ≡ Some output →
      call_does (option_and_then output_of o) o args h.moment m h.inventory ≡ leaves_output h.inventory (output_does output args h.moment.init m h.inventory.output)
  named_output output out =
      ap (λ (x : Option HostName). call_does (option_and_then output_of x) x args h.moment m h.inventory) is
      ∙ ap (λ (x : Option OutputName). call_does x (Some name) args h.moment m h.inventory) out

  pub named_other : output_of name ≡ None → call_does (option_and_then output_of o) o args h.moment m h.inventory ≡ leaves_memory m (host_does name args h.moment m h.inventory)
  named_other other =
      ap (λ (x : Option HostName). call_does (option_and_then output_of x) x args h.moment m h.inventory) is
      ∙ ap (λ (x : Option OutputName). call_does x (Some name) args h.moment m h.inventory) other

pub output_left : (v h : HostState) (args : List Value) (m : Mem) (output : OutputName) (o : OutputState) → v ≡ h → o ≡ (output_does output args v.moment.init m v.inventory.output).host →
    left v (record v.inventory { output = o }) ≡ left h (record h.inventory { output = (output_does output args h.moment.init m h.inventory.output).host })
output_left v h args m output o same is =
    ap (λ (x : OutputState). left v (record v.inventory { output = x })) is
    ∙ ap (λ (x : HostState). left x (record x.inventory { output = (output_does output args x.moment.init m x.inventory.output).host })) same

-- a call that adds one of at most so many things, while the chip is set up
module _ (d : Inventory) (most : ℕ) (there : Done) where
  abbrev after_phase : Bool → Done
  after_phase b = if b then there else fails traps.HostLimit d

  abbrev limited : Bool → ℕ → Done
  limited init n = if not init then fails traps.HostPhase d else if nat_lt n most then there else fails traps.HostLimit d

  pub in_phase : (init : Bool) (n : ℕ) → init ≡ false → fails traps.HostPhase d ≡ limited init n
  in_phase init n e = ap (λ (b : Bool). limited b n) (sym e)

  pub in_limit : (init : Bool) (n : ℕ) → init ≡ true → most ≤ n → fails traps.HostLimit d ≡ limited init n
  in_limit init n e l =
      let test : nat_lt n most ≡ false = grind (arith, nat_tests) in
      ap after_phase (sym test) ∙ ap (λ (b : Bool). limited b n) (sym e)

  pub in_room : (init : Bool) (n : ℕ) → init ≡ true → n < most → there ≡ limited init n
  in_room init n e l =
      let test : nat_lt n most ≡ true = grind (arith, nat_tests) in
      ap after_phase (sym test) ∙ ap (λ (b : Bool). limited b n) (sym e)

pub length_set : {X : Type 0} (xs : List X) (k : ℕ) (x : X) → length (slice_set xs k x) ≡ length xs
length_set [] k x = refl
length_set (y ∷ ys) zero x = refl
length_set (y ∷ ys) (suc k) x = ap (λ (n : ℕ). suc n) (length_set ys k x)

pub get_set : {X : Type 0} (xs : List X) (k : ℕ) (x : X) → k < length xs → slice_get (slice_set xs k x) k ≡ Some x
get_set [] k x l = absurd (omega (arith, l))
get_set (y ∷ ys) zero x l = refl
get_set (y ∷ ys) (suc k) x l = get_set ys k x (omega (arith, l))

-- what is found of the engines between the first and the last one
pub driven_is : (os es : List (Option Engine)) (first end i n : ℕ) (r : Option Drive) → r ≡ driven n (take (end - first) (drop first es)) → n ≡ i → es ≡ os → first ≤ end
    → ((k : ℕ) → k < first → HasNone os k) → ((k : ℕ) → end ≤ k → HasNone os k) → r ≡ driven i os
driven_is os es first end i n r is pin same order before behind =
    is ∙ ap (λ (m : ℕ). driven m (take (end - first) (drop first es))) pin ∙ ap (λ (xs : List (Option Engine)). driven i (take (end - first) (drop first xs))) same
    ∙ driven_between os first end order before behind i
