-- What a reader answers: what the bytes are read as, or that memory ran out.
use Rattle.std.specs.Prelude.{◌≡◌, Result, Ok, Err}
use Rattle.sim_base.specs.declared.fault.Fault.{Fault}
use Rattle.sim_base.specs.declared.fault.Fault.TheVariants as faults
use Rattle.sim_base.specs.declared.fault.Refusal.{Refusal}

-- The answer is what reading gives, value or refusal; that memory ran out is the one free answer.
abbrev pub Reads : {X Y : Type 0} → (X → Y) → Result X Fault → Result Y Refusal → Type 0
Reads view (Ok x) reading = reading ≡ Ok (view x)
Reads view (Err (faults.Refused r)) reading = reading ≡ Err r
Reads view (Err faults.OutOfMemory) reading = Unit {0}
