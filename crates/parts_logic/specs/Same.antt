-- Equal truth values.
use Rattle.std.proofs.Common.{refl}
use Rattle.std.proofs.Math.Bool.{beq}
use Rattle.std.specs.Prelude.{◌≡◌, Bool, true, false}

pub beq_then : (a b : Bool) → beq a b ≡ true → b ≡ a
beq_then true true h = refl
beq_then false false h = refl
beq_then true false h = absurd cc
beq_then false true h = absurd cc

pub beq_self : (a : Bool) → beq a a ≡ true
beq_self true = refl
beq_self false = refl
