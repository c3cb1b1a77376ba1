-- What a reader took, and where it broke.
use Rattle.std.specs.Prelude.{◌≡◌, ℕ, ◌+◌, List, ◌++◌, length, Result, Ok, Err}
use Rattle.sim_base.specs.declared.fault.Fault.{Fault}
use Rattle.sim_base.specs.declared.fault.Fault.TheVariants as faults
use Rattle.sim_base.specs.declared.fault.Place.TheVariants as places
use Rattle.wasm_binary.specs.declared.reader.Reader.{Reader}
use Rattle.wasm_binary.specs.Form.{Form}

-- the reader took this text and stands behind it
pub record Took (old new : Reader) (text : List ℕ) : Type 0 where
  pub parts : old.rest.now ≡ text ++ new.rest.now
  pub place : new.at ≡ old.at + length text

abbrev pub Reads : {X : Type 0} → Form X → Reader → Reader → X → Type 0
Reads form old new x = (text : List ℕ) × form.text text x × Took old new text

-- it stopped where the bytes break; out of memory alone is free
abbrev pub Fails : {X : Type 0} → Form X → Reader → Fault → Type 0
Fails form old faults.OutOfMemory = Unit {0}
Fails form old (faults.Refused r) = (i : ℕ) × (r.place ≡ places.Byte (old.at + i)) × form.breaks old.rest.now i r.number

-- Ok: the reader took a text of the value. Refused: it broke there by that rule.
abbrev pub Decodes : {X : Type 0} → Form X → Result X Fault → Reader → Reader → Type 0
Decodes form (Ok x) old new = Reads form old new x
Decodes form (Err e) old new = Fails form old e

-- the same, where the value is seen through a view
abbrev pub DecodesAs : {V X : Type 0} → (V → X) → Form X → Result V Fault → Reader → Reader → Type 0
DecodesAs view form (Ok v) old new = Reads form old new (view v)
DecodesAs view form (Err e) old new = Fails form old e
