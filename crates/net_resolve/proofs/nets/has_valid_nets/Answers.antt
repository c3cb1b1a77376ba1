use Rattle.std.proofs.Common.{◌≡◌, ◌⊎◌, inl, inr, Bool, true, false, ◌&&◌, refl}
use Rattle.board_model.specs.Fits.{IsWiring}
use Rattle.net_resolve.proofs.nets.has_valid_nets.Goals as goal

one_of : (a b c : Bool) → (a && b) && c ≡ false → (a ≡ false) ⊎ ((b ≡ false) ⊎ (c ≡ false))
one_of false b c e = inl refl
one_of true false c e = inr (inl refl)
one_of true true c e = inr (inr e)

pub returns-clause-invalid : goal.returns-clause-invalid
returns-clause-invalid c = λ e (w : IsWiring c.args.wiring.now). elim (one_of c.are_nets.result c.are_pairs.result c.are_pairs-2.result e) [
  | inl x ↦ c.are_nets.ensures.invalid x (rw c.as_slice.ensures w.pins)
  | inr y ↦ elim y [
    | inl x ↦ c.are_pairs.ensures.invalid x (rw c.as_slice-2.ensures w.contacts)
    | inr x ↦ c.are_pairs-2.ensures.invalid x (rw c.as_slice-3.ensures w.resistors)
  ]
]
