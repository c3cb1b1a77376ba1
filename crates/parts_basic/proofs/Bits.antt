-- The contacts of a DIP switch and of a keypad, one by one.
use Rattle.std.proofs.Common.{◌≡◌, ◌<◌, ◌+◌, ℕ, zero, suc, ◌/◌, ◌%◌, ◌^◌, Bool, refl, ap, sym, ◌∙◌, arith}
use Rattle.std.specs.Prelude.{slice_get, Some, nat_eq}
use Rattle.part_catalog.specs.declared.kind.Kind.{Kind}
use Rattle.part_catalog.specs.declared.kind.Kind.TheVariants as kinds
use Rattle.parts_basic.specs.Passive.{PassiveState, bits_from, closed_at}

bits : (k n value i : ℕ) → i < n → slice_get (bits_from k n value) i ≡ Some (nat_eq (value / 2 ^ (k + i) % 2) 1)
bits k zero value i h = absurd (omega arith)
bits k (suc n) value zero h = let e : k ≡ k + 0 = omega arith in ap (λ (j : ℕ). Some (nat_eq (value / 2 ^ j % 2) 1)) e
bits k (suc n) value (suc i) h =
    let e : suc k + i ≡ k + suc i = omega arith in
    bits (suc k) n value i (omega arith) ∙ ap (λ (j : ℕ). Some (nat_eq (value / 2 ^ j % 2) 1)) e

from_zero : (n value i : ℕ) → i < n → slice_get (bits_from 0 n value) i ≡ Some (nat_eq (value / 2 ^ i % 2) 1)
from_zero n value i h = let e : 0 + i ≡ i = omega arith in bits 0 n value i h ∙ ap (λ (j : ℕ). Some (nat_eq (value / 2 ^ j % 2) 1)) e

abbrev ContactIs : Kind → PassiveState → ℕ → Type 0
ContactIs kind s i = slice_get (closed_at kind s.value) i ≡ Some (nat_eq (s.value / 2 ^ i % 2) 1)

-- the contact of a part as it is seen is that of its own fields
contact_is : (kind : Kind) (s x : PassiveState) (i : ℕ) → x ≡ s → x.kind ≡ kind → ContactIs kind x i → slice_get (closed_at s.kind s.value) i ≡ Some (nat_eq (x.value / 2 ^ i % 2) 1)
contact_is kind s x i e k is =
    ap (λ (y : PassiveState). slice_get (closed_at y.kind y.value) i) (sym e)
    ∙ ap (λ (kind : Kind). slice_get (closed_at kind x.value) i) k
    ∙ is

pub contact_of_switch : (s x : PassiveState) (i : ℕ) → x ≡ s → x.kind ≡ kinds.DipSwitch8 → i < 8 → slice_get (closed_at s.kind s.value) i ≡ Some (nat_eq (x.value / 2 ^ i % 2) 1)
contact_of_switch s x i e k h = contact_is kinds.DipSwitch8 s x i e k (from_zero 8 x.value i h)

pub contact_of_key : (s x : PassiveState) (i : ℕ) → x ≡ s → x.kind ≡ kinds.MembraneKeypad → i < 16 → slice_get (closed_at s.kind s.value) i ≡ Some (nat_eq (x.value / 2 ^ i % 2) 1)
contact_of_key s x i e k h = contact_is kinds.MembraneKeypad s x i e k (from_zero 16 x.value i h)
