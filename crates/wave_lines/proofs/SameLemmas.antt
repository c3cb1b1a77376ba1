-- Drives and levels that are the same are one.
use Rattle.std.proofs.Common.{◌≡◌, ℕ, true, refl, ap}
use Rattle.std.proofs.lemmas.Bool.{eq-eqb, eqb-true}
use Rattle.sim_base.specs.declared.signal.Drive.{Drive}
use Rattle.sim_base.specs.declared.signal.Drive.TheVariants as drives
use Rattle.sim_base.specs.declared.signal.Level.{Level}
use Rattle.sim_base.specs.declared.signal.Level.TheVariants as levels
use Rattle.wave_lines.specs.Same.{same_drive, same_level}

-- a drive is the same as itself alone
pub same_refl : (a : Drive) → same_drive a a ≡ true
same_refl drives.Z = refl
same_refl drives.Low = refl
same_refl drives.High = refl
same_refl drives.PullLow = refl
same_refl drives.PullHigh = refl
same_refl (drives.Wiper w) = eq-eqb w w refl

pub same_means : (a b : Drive) → same_drive a b ≡ true → a ≡ b
same_means drives.Z drives.Z e = refl
same_means drives.Low drives.Low e = refl
same_means drives.High drives.High e = refl
same_means drives.PullLow drives.PullLow e = refl
same_means drives.PullHigh drives.PullHigh e = refl
same_means (drives.Wiper v) (drives.Wiper w) e = ap (λ (x : ℕ). drives.Wiper x) (eqb-true v w e)
same_means drives.Z drives.Low e = cc
same_means drives.Z drives.High e = cc
same_means drives.Z drives.PullLow e = cc
same_means drives.Z drives.PullHigh e = cc
same_means drives.Z (drives.Wiper w) e = cc
same_means drives.Low drives.Z e = cc
same_means drives.Low drives.High e = cc
same_means drives.Low drives.PullLow e = cc
same_means drives.Low drives.PullHigh e = cc
same_means drives.Low (drives.Wiper w) e = cc
same_means drives.High drives.Z e = cc
same_means drives.High drives.Low e = cc
same_means drives.High drives.PullLow e = cc
same_means drives.High drives.PullHigh e = cc
same_means drives.High (drives.Wiper w) e = cc
same_means drives.PullLow drives.Z e = cc
same_means drives.PullLow drives.Low e = cc
same_means drives.PullLow drives.High e = cc
same_means drives.PullLow drives.PullHigh e = cc
same_means drives.PullLow (drives.Wiper w) e = cc
same_means drives.PullHigh drives.Z e = cc
same_means drives.PullHigh drives.Low e = cc
same_means drives.PullHigh drives.High e = cc
same_means drives.PullHigh drives.PullLow e = cc
same_means drives.PullHigh (drives.Wiper w) e = cc
same_means (drives.Wiper v) drives.Z e = cc
same_means (drives.Wiper v) drives.Low e = cc
same_means (drives.Wiper v) drives.High e = cc
same_means (drives.Wiper v) drives.PullLow e = cc
same_means (drives.Wiper v) drives.PullHigh e = cc

-- a level is the same as itself alone
pub level_refl : (a : Level) → same_level a a ≡ true
level_refl levels.Low = refl
level_refl levels.High = refl
level_refl levels.X = refl
level_refl levels.Z = refl
level_refl (levels.Wiped w) = eq-eqb w w refl

pub level_means : (a b : Level) → same_level a b ≡ true → a ≡ b
level_means levels.Low levels.Low e = refl
level_means levels.High levels.High e = refl
level_means levels.X levels.X e = refl
level_means levels.Z levels.Z e = refl
level_means (levels.Wiped v) (levels.Wiped w) e = ap (λ (x : ℕ). levels.Wiped x) (eqb-true v w e)
level_means levels.Low levels.High e = cc
level_means levels.Low levels.X e = cc
level_means levels.Low levels.Z e = cc
level_means levels.Low (levels.Wiped w) e = cc
level_means levels.High levels.Low e = cc
level_means levels.High levels.X e = cc
level_means levels.High levels.Z e = cc
level_means levels.High (levels.Wiped w) e = cc
level_means levels.X levels.Low e = cc
level_means levels.X levels.High e = cc
level_means levels.X levels.Z e = cc
level_means levels.X (levels.Wiped w) e = cc
level_means levels.Z levels.Low e = cc
level_means levels.Z levels.High e = cc
level_means levels.Z levels.X e = cc
level_means levels.Z (levels.Wiped w) e = cc
level_means (levels.Wiped v) levels.Low e = cc
level_means (levels.Wiped v) levels.High e = cc
level_means (levels.Wiped v) levels.X e = cc
level_means (levels.Wiped v) levels.Z e = cc
