-- Kinds of one part among several.
use Rattle.std.specs.Prelude.{◌⊎◌}
use Rattle.std.proofs.Common.{inl, inr}
use Rattle.part_law.specs.Machine.{Machine}
use Rattle.part_law.specs.Either.{either}
use Rattle.law_board.specs.Worlds.{IsQuietKind}

module _ {A B : Type 0} where
  -- of the first kind, and so
  abbrev pub IsLeft : (A → Type 0) → A ⊎ B → Type 0
  IsLeft P (inl a) = P a
  IsLeft P (inr b) = ⊥

  -- of the second kind, and so
  abbrev pub IsRight : (B → Type 0) → A ⊎ B → Type 0
  IsRight P (inl a) = ⊥
  IsRight P (inr b) = P b

  pub left_kind : (m : Machine A) (n : Machine B) (P : A → Type 0) → IsQuietKind m P → IsQuietKind (either m n) (IsLeft P)
  left_kind m n P kind = record {
    stays = elim [ inl a ↦ kind.stays a | inr b ↦ λ t l i h. absurd h ];
    no_contacts = elim [ inl a ↦ kind.no_contacts a | inr b ↦ λ h. absurd h ];
    no_byte = elim [ inl a ↦ kind.no_byte a | inr b ↦ λ t l i h. absurd h ];
  }

  pub right_kind : (m : Machine A) (n : Machine B) (P : B → Type 0) → IsQuietKind n P → IsQuietKind (either m n) (IsRight P)
  right_kind m n P kind = record {
    stays = elim [ inl a ↦ λ t l i h. absurd h | inr b ↦ kind.stays b ];
    no_contacts = elim [ inl a ↦ λ h. absurd h | inr b ↦ kind.no_contacts b ];
    no_byte = elim [ inl a ↦ λ t l i h. absurd h | inr b ↦ kind.no_byte b ];
  }
