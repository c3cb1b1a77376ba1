-- A kind that is one of two; nested, one of many (profile).
use Rattle.std.specs.Prelude.{◌⊎◌, ℕ, List, Bool, Option}
use Rattle.std.proofs.Common.{inl, inr, ap}
use Rattle.sim_base.specs.declared.signal.Drive.{Drive}
use Rattle.sim_base.specs.declared.signal.Level.{Level}
use Rattle.part_reactive.specs.Reaction.{Reaction, ReactionLaws}

module _ {A B : Type 0} (q : Reaction A) (r : Reaction B) where
  abbrev pub either_react : A ⊎ B → List Level → List Level → Option ℕ → A ⊎ B
  either_react (inl a) l m i = inl (q.react a l m i)
  either_react (inr b) l m i = inr (r.react b l m i)

  abbrev pub either_drives : A ⊎ B → List Drive
  either_drives (inl a) = q.drives a
  either_drives (inr b) = r.drives b

  abbrev pub either_contacts : A ⊎ B → List Bool
  either_contacts (inl a) = q.contacts a
  either_contacts (inr b) = r.contacts b

  abbrev pub either_agrees : A ⊎ B → List Level → Bool
  either_agrees (inl a) l = q.agrees a l
  either_agrees (inr b) l = r.agrees b l

  abbrev pub either_counted : A ⊎ B → ℕ
  either_counted (inl a) = q.counted a
  either_counted (inr b) = r.counted b

  abbrev pub either : Reaction (A ⊎ B)
  either = record { react = either_react; drives = either_drives; contacts = either_contacts; agrees = either_agrees; counted = either_counted }

  pub either_laws : ReactionLaws q → ReactionLaws r → ReactionLaws either
  either_laws p o = record {
    still = elim [ inl a ↦ λ l h. ap inl (p.still a l h) | inr b ↦ λ l h. ap inr (o.still b l h) ];
    agrees_then = elim [ inl a ↦ p.agrees_then a | inr b ↦ o.agrees_then b ];
    keeps_pins = elim [ inl a ↦ p.keeps_pins a | inr b ↦ o.keeps_pins b ];
    keeps_contacts = elim [ inl a ↦ p.keeps_contacts a | inr b ↦ o.keeps_contacts b ];
    counts_once = elim [ inl a ↦ p.counts_once a | inr b ↦ o.counts_once b ];
  }
