-- Bytes are accepted as one module or refused once, and not both.
use Rattle.std.proofs.Common.{◌≡◌, ◌∙◌, ℕ, List, Result, Ok, Err, Option, Some, inl, inr, subst, sym, ap}
use Rattle.sim_base.specs.Reads.{Reads}
use Rattle.sim_base.specs.declared.fault.Refusal.{Refusal}
use Rattle.sim_base.specs.declared.fault.Fault.{Fault}
use Rattle.sim_base.specs.declared.fault.Place.{Place}
use Rattle.sim_base.specs.declared.fault.Place.TheVariants as places
use Rattle.sim_base.specs.declared.fault.Fault.TheVariants as faults
use Rattle.wasm_decode.specs.declared.module.Module.{Module}
use Rattle.wasm_decode.specs.ModuleText.{IsBroken}
use Rattle.wasm_validate.specs.Rules.{chip_init}
use Rattle.wasm_validate.specs.Validity.{IsValid, IsRefused, Breaks}
use Rattle.chip_abi.specs.declared.host_name.HostName.{HostName}
use Rattle.chip_abi.specs.Imports.{imports_of}
use Rattle.chip_module.specs.Binary.{Binary, IsBinary, IsReading, IsTextOf, Judges}

known_or_not : (names : List HostName) (r : Refusal) (found : Result (List HostName) Refusal) → found ≡ Ok names → found ≡ Err r → ⊥
known_or_not names r found good bad = absurd cc

pub not_both : (bytes : List ℕ) (b : Binary) (r : Refusal) → Judges bytes (Ok b) → Judges bytes (Err r) → ⊥
not_both bytes b r good (inl broken) = broken.0 b.wasm good.text
not_both bytes b r good (inr (inl invalid)) = invalid.breaks.2 b.init (subst (λ (m : Module). IsValid m b.init) (invalid.only b.wasm good.text) good.valid)
not_both bytes b r good (inr (inr foreign)) = known_or_not b.table r (imports_of b.wasm) good.imports (ap imports_of (foreign.only b.wasm good.text) ∙ foreign.imports)

one_err : (r q : Refusal) (found : Result (List HostName) Refusal) → found ≡ Err r → found ≡ Err q → r ≡ q
one_err r q found one other = cc

refusal_is : (r q : Refusal) → r.number ≡ q.number → r.place ≡ q.place → r ≡ q
refusal_is r q n p =
    ap (λ (k : ℕ). record { number = k; place = r.place }) n ∙ ap (λ (at : Place). record { number = q.number; place = at }) p

pub one_refusal : (bytes : List ℕ) (r q : Refusal) → Judges bytes (Err r) → Judges bytes (Err q) → r ≡ q
one_refusal bytes r q (inl b) (inl c) =
    let same = b.1.3 c.1.0 q.number c.1.2 in
    refusal_is r q (sym same.1) (b.1.1 ∙ ap (λ (i : ℕ). places.Byte i) (sym same.0) ∙ sym c.1.1)
one_refusal bytes r q (inl b) (inr (inl y)) = absurd (b.0 y.wasm y.text)
one_refusal bytes r q (inl b) (inr (inr y)) = absurd (b.0 y.wasm y.text)
one_refusal bytes r q (inr (inl x)) (inl c) = absurd (c.0 x.wasm x.text)
one_refusal bytes r q (inr (inr x)) (inl c) = absurd (c.0 x.wasm x.text)
one_refusal bytes r q (inr (inl x)) (inr (inl y)) =
    sym (x.breaks.1 q (subst (λ (m : Module). Breaks m q) (x.only y.wasm y.text) y.breaks.0))
one_refusal bytes r q (inr (inl x)) (inr (inr y)) =
    absurd (x.breaks.2 y.init (subst (λ (m : Module). IsValid m y.init) (x.only y.wasm y.text) y.valid))
one_refusal bytes r q (inr (inr x)) (inr (inl y)) =
    absurd (y.breaks.2 x.init (subst (λ (m : Module). IsValid m x.init) (y.only x.wasm x.text) x.valid))
one_refusal bytes r q (inr (inr x)) (inr (inr y)) =
    one_err r q (imports_of x.wasm) x.imports (ap imports_of (y.only x.wasm x.text) ∙ y.imports)

same_init : (m n : ℕ) → ◌≡◌ {A = Option ℕ} (Some m) (Some n) → m ≡ n
same_init m n e = cc

same_table : (x y : List HostName) → ◌≡◌ {A = Result (List HostName) Refusal} (Ok x) (Ok y) → x ≡ y
same_table x y e = cc

pub one_binary : (bytes : List ℕ) (b c : Binary) → IsBinary bytes b → IsBinary bytes c → b ≡ c
one_binary bytes b c x y =
    let wasm : b.wasm ≡ c.wasm = y.only b.wasm x.text in
    let init : b.init ≡ c.init = same_init b.init c.init (sym x.valid.has_init ∙ ap chip_init wasm ∙ y.valid.has_init) in
    let table : b.table ≡ c.table = same_table b.table c.table (sym x.imports ∙ ap imports_of wasm ∙ y.imports) in
    ap (λ (m : Module). record { wasm = m; init = b.init; table = b.table }) wasm
    ∙ ap (λ (n : ℕ). record { wasm = c.wasm; init = n; table = b.table }) init
    ∙ ap (λ (t : List HostName). record { wasm = c.wasm; init = c.init; table = t }) table

-- what the decoder refuses is no module
pub broken_reading : (bytes : List ℕ) (e : Fault) → IsBroken bytes e → IsReading bytes (Err e)
broken_reading bytes (faults.Refused r) b = inl b
broken_reading bytes faults.OutOfMemory b = tt

module _ (bytes : List ℕ) (wasm : Module) (is : IsTextOf bytes wasm) where
  -- a module that breaks a rule
  pub invalid_reading : (e : Fault) → IsRefused wasm e → IsReading bytes (Err e)
  invalid_reading (faults.Refused r) breaks = inr (inl (record { wasm = wasm; text = is.text; only = is.only; breaks = breaks }))
  invalid_reading faults.OutOfMemory breaks = tt

  -- a valid module, by what it imports
  pub known_reading : (init : ℕ) (table : List HostName) → IsValid wasm init → imports_of wasm ≡ Ok table → IsReading bytes (Ok (record { wasm = wasm; init = init; table = table }))
  known_reading init table valid imports = record { text = is.text; only = is.only; valid = valid; imports = imports }

  pub foreign_reading : (init : ℕ) → IsValid wasm init → (e : Fault) → Reads {X = List HostName} {Y = List HostName} (λ names. names) (Err e) (imports_of wasm) → IsReading bytes (Err e)
  foreign_reading init valid (faults.Refused r) imports =
      inr (inr (record { wasm = wasm; init = init; text = is.text; only = is.only; valid = valid; imports = imports }))
  foreign_reading init valid faults.OutOfMemory imports = tt
