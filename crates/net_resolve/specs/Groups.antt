-- The groups of nets over closed contacts. No public clause cites this.
use Rattle.std.specs.Prelude.{ℕ, List, length, Bool}
use Rattle.board_model.specs.Resolve.{contact_joins}
use Rattle.net_union_find.specs.Forest.{AreClasses}
use Rattle.board_model.specs.Pairs.{ArePairs}

pub record AreGroups (contacts : List (ℕ × ℕ)) (closed : List Bool) (groups : List ℕ) : Type 0 where
  pub contacts_within : ArePairs (length groups) contacts
  pub classes : AreClasses (contact_joins contacts closed) groups
