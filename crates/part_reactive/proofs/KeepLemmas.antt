-- Two levels, kept one by one.
use Rattle.std.proofs.Common.{◌≡◌, List, [], ◌∷◌, length, arith, refl}
use Rattle.std.specs.Prelude.{slice_set, slice_index_or}
use Rattle.sim_base.specs.declared.signal.Level.{Level}

pub both_kept : (other : Level) (held levels : List Level) → length held ≡ length levels → length levels ≡ 2 → slice_set (slice_set held 0 (slice_index_or levels 0 other)) 1 (slice_index_or levels 1 other) ≡ levels
both_kept other (x ∷ y ∷ []) (p ∷ q ∷ []) same two = refl
both_kept other [] levels same two = absurd (omega (arith, same, two))
both_kept other (x ∷ []) levels same two = absurd (omega (arith, same, two))
both_kept other (x ∷ y ∷ z ∷ held) levels same two = absurd (omega (arith, same, two))
both_kept other (x ∷ y ∷ []) [] same two = absurd (omega (arith, two))
both_kept other (x ∷ y ∷ []) (p ∷ []) same two = absurd (omega (arith, two))
both_kept other (x ∷ y ∷ []) (p ∷ q ∷ r ∷ levels) same two = absurd (omega (arith, two))
