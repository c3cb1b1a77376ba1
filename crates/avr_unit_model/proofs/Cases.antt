-- Small cases of a life: a processor that polls a register, pins that are High, and what is so in each of some cycles.
use Rattle.std.proofs.Common.{◌≡◌, ℕ, zero, suc, ◌≤◌, List, Bool, true, arith}
use Rattle.std.specs.Prelude.{replicate}
use Rattle.std.proofs.lemmas.Bool.{agree_below, agree_below_at}
use Rattle.sim_base.specs.declared.signal.Level.{Level}
use Rattle.sim_base.specs.declared.signal.Level.TheVariants as levels
use Rattle.avr_unit_model.specs.Life.{Act, Nothing, Read}

-- nothing in cycle 0, and then one register is read in each cycle
unfoldable pub polls : ℕ → ℕ → Act
polls r zero = Nothing
polls r (suc n) = Read r

-- all pins High
unfoldable pub high : ℕ → List Level
high n = replicate 20 levels.High

-- a test that computes to one answer in each of so many cycles
pub always : (f : ℕ → Bool) (b : Bool) (k n : ℕ) → agree_below f (λ _. b) (suc k) ≡ true → n ≤ k → f n ≡ b
always f b k n all le = agree_below_at f (λ _. b) (suc k) n all (omega (arith, le))
