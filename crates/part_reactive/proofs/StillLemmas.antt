-- A part that does nothing by itself is the same after quiet cycles.
use Rattle.std.proofs.Common.{◌≡◌, ℕ, zero, suc, ◌+◌, ◌-◌, ◌<◌, List, Bool, true, false, None, Some, refl, ap, sym, ◌∙◌, arith, subst}
use Rattle.std.specs.Prelude.{◌==◌}
use Rattle.sim_base.specs.declared.signal.Level.{Level}
use Rattle.part_law.specs.Machine.{glide, IsQuiet, Hears}
use Rattle.part_law.proofs.MachineLemmas.{glide_valid}
use Rattle.part_reactive.specs.Reaction.{Reaction, ReactionLaws, Reacting, reactive, reactive_still, reactive_laws}

module _ {S : Type 0} (r : Reaction S) (laws : ReactionLaws r) where
  stays : (s : Reacting S) (t n : ℕ) → (reactive r).valid s t ≡ true → IsQuiet (reactive r) s t n → glide (reactive r) s t n ≡ s
  stays s t zero v quiet = refl
  stays s t (suc n) v quiet =
      let here : (reactive r).due (glide (reactive r) s t n) (t + n) ≡ false = quiet n (omega arith) in
      let valid = glide_valid (reactive r) (reactive_laws r laws) s t n v in
      reactive_still r laws (glide (reactive r) s t n) (t + n) valid here ∙ stays s t n v (λ k (h : k < n). quiet k (omega arith))

  pub settles : (s now : Reacting S) (c t n : ℕ) → s ≡ now → c ≡ t → (reactive r).valid s c ≡ true → IsQuiet (reactive r) now t n → s ≡ glide (reactive r) now t n
  settles s now c t n e h v quiet =
      let here : (reactive r).valid now t ≡ true = subst (λ (u : ℕ). (reactive r).valid now u ≡ true) h (subst (λ (x : Reacting S). (reactive r).valid x c ≡ true) e v) in
      e ∙ sym (stays now t n here quiet)

  later : (t k : ℕ) → (t + 1 + k == 0) ≡ false
  later t k = grind arith

  -- what its step behind quiet cycles leaves
  pub hears : (s now : Reacting S) (c a t : ℕ) (levels held : List Level) (own : S) (answer changed : Bool) → s ≡ now → c ≡ a → (reactive r).valid s c ≡ true → IsQuiet (reactive r) now a (t - a)
      → own ≡ r.react s.own s.held levels None → held ≡ levels → (answer ≡ false → r.drives own ≡ r.drives s.own) → (answer ≡ false → r.contacts own ≡ r.contacts s.own)
      → Some answer ≡ Some changed → Hears (reactive r) now a t levels (record { own = own; held = held }) changed
  hears s now c a t levels held own answer changed e h v quiet own_is held_is drives contacts answers =
      let same : s ≡ glide (reactive r) now a (t - a) = settles s now c a (t - a) e h v quiet in
      let is : answer ≡ changed = cc in
      record {
        state_is = ap (λ (o : S). record { own = o; held = held }) own_is ∙ ap (λ (l : List Level). record { own = r.react s.own s.held levels None; held = l }) held_is ∙ ap (λ (x : Reacting S). ((reactive r).step x t levels None).0) same;
        silent = refl;
        rests = λ k less. later t k;
        same_drives = λ still. drives (is ∙ still) ∙ ap (λ (x : Reacting S). r.drives x.own) same;
        same_contacts = λ still. contacts (is ∙ still) ∙ ap (λ (x : Reacting S). r.contacts x.own) same;
      }
