-- A kind of part that does nothing by itself: it reacts to levels and to script values, and else stands still (profile).
use Rattle.std.proofs.Common.{refl, ap}
use Rattle.std.proofs.lemmas.Bool.{or_right}
use Rattle.std.specs.Prelude.{◌≡◌, ◌≤◌, ℕ, ◌+◌, ◌==◌, List, length, replicate, Bool, true, false, ◌||◌, Option, None}
use Rattle.sim_base.specs.declared.signal.Drive.{Drive}
use Rattle.sim_base.specs.declared.signal.Level.{Level}
use Rattle.sim_base.specs.declared.signal.Level.TheVariants as levels
use Rattle.part_law.specs.Machine.{Machine, Laws}

-- such a kind: its states of type S, and what they do
pub record Reaction (S : Type 0) : Type 0 where
  -- the state after a cycle: on the levels of the step before, those of this one, and perhaps a script value
  pub react : S → List Level → List Level → Option ℕ → S
  pub drives : S → List Drive
  -- which of its contacts are closed
  pub contacts : S → List Bool
  -- whether a step on these levels may leave the state
  pub agrees : S → List Level → Bool
  -- how far it has counted
  pub counted : S → ℕ

-- What holds of every such kind: the same levels once more change nothing.
pub record ReactionLaws {S : Type 0} (r : Reaction S) : Type 0 where
  pub still : (s : S) (l : List Level) → r.agrees s l ≡ true → r.react s l l None ≡ s
  pub agrees_then : (s : S) (l m : List Level) (i : Option ℕ) → r.agrees (r.react s l m i) m ≡ true
  pub keeps_pins : (s : S) (l m : List Level) (i : Option ℕ) → length (r.drives (r.react s l m i)) ≡ length (r.drives s)
  pub keeps_contacts : (s : S) (l m : List Level) (i : Option ℕ) → length (r.contacts (r.react s l m i)) ≡ length (r.contacts s)
  pub counts_once : (s : S) (l m : List Level) (i : Option ℕ) → r.counted (r.react s l m i) ≤ r.counted s + 1

-- a state of its own, with the levels of the last step
pub record Reacting (S : Type 0) : Type 0 where
  pub own : S
  pub held : List Level

module _ {S : Type 0} (r : Reaction S) where
  -- such a part at the start, when nothing has driven its pins yet
  abbrev pub at_start : S → Reacting S
  at_start s = record { own = s; held = replicate (length (r.drives s)) levels.Z }

  abbrev pub reactive : Machine (Reacting S)
  reactive = record {
    step = λ s t l i. (record { own = r.react s.own s.held l i; held = l }, None);
    drives = λ s. r.drives s.own;
    contacts = λ s. r.contacts s.own;
    held = λ s. s.held;
    due = λ s t. t == 0;
    valid = λ s t. t == 0 || r.agrees s.own s.held;
  }

  pub reactive_still : ReactionLaws r → (s : Reacting S) (t : ℕ) → reactive.valid s t ≡ true → reactive.due s t ≡ false → (reactive.step s t s.held None).0 ≡ s
  reactive_still laws s t v d = ap (λ (o : S). record { own = o; held = s.held }) (laws.still s.own s.held (rw d at v))

  pub reactive_laws : ReactionLaws r → Laws reactive
  reactive_laws laws = record {
    holds_levels = λ s t l i. refl;
    begins_due = λ s. refl;
    keeps_pins = λ s t l i. laws.keeps_pins s.own s.held l i;
    keeps_contacts = λ s t l i. laws.keeps_contacts s.own s.held l i;
    keeps_valid = λ s t l i v. or_right (t + 1 == 0) _ (laws.agrees_then s.own s.held l i);
    glides_drives = λ s t v d. ap (λ (x : Reacting S). r.drives x.own) (reactive_still laws s t v d);
    glides_contacts = λ s t v d. ap (λ (x : Reacting S). r.contacts x.own) (reactive_still laws s t v d);
    glides_silent = λ s t v d. refl;
  }
