-- A part left behind shows what the state shows that it stands for; it may sleep where that is not active, and wakes as it.
use Rattle.std.proofs.Common.{◌≡◌, inl, inr, ℕ, suc, ◌+◌, ◌-◌, ◌<◌, List, ◌∙◌, true, false, Option, None, ap, sym, arith, subst}
use Rattle.sim_base.specs.declared.signal.Level.{Level}
use Rattle.sim_base.specs.declared.wiring.Wiring.{Wiring}
use Rattle.sim_base.specs.declared.wiring.Input.{Input}
use Rattle.part_law.specs.Machine.{Machine, Laws, idle, glide, IsQuiet}
use Rattle.part_law.proofs.MachineLemmas.{glide_valid, glide_drives, glide_contacts, glide_holds}
use Rattle.board_model.specs.Board.{part_step}
use Rattle.board_model.proofs.Lists.{lt_or_eq}
use Rattle.law_board.specs.Alike.{SameShow}
use Rattle.law_board.specs.Active.{is_active}
use Rattle.law_board.specs.Stands.{Stands}
use Rattle.law_board.proofs.ActiveLaw.{asleep_due, asleep_step}

module _ {S : Type 0} (m : Machine S) (laws : Laws m) where
  pub stands_here : (t : ℕ) (s : S) → m.valid s t ≡ true → Stands m t t s s
  stands_here t s v =
      let e : t - t ≡ 0 = omega arith in
      record {
        not_later = omega arith;
        valid = v;
        quiet = subst (λ (n : ℕ). IsQuiet m s t n) (sym e) (λ k (h : k < 0). absurd (omega arith));
        is = ap (glide m s t) (sym e);
      }

  pub stands_shows : (t a : ℕ) (r s : S) → Stands m t a r s → SameShow m m r s
  stands_shows t a r s h = record {
    drives = sym (ap m.drives h.is ∙ glide_drives m laws r a (t - a) h.valid h.quiet);
    contacts = sym (ap m.contacts h.is ∙ glide_contacts m laws r a (t - a) h.valid h.quiet);
  }

  pub stands_valid : (t a : ℕ) (r s : S) → Stands m t a r s → m.valid s t ≡ true
  stands_valid t a r s h =
      let l = h.not_later in
      let e : a + (t - a) ≡ t = omega (arith, l) in
      ap (λ (x : S). m.valid x t) h.is ∙ subst (λ (u : ℕ). m.valid (glide m r a (t - a)) u ≡ true) e (glide_valid m laws r a (t - a) h.valid)

  -- it holds the same levels
  pub stands_holds : (t a : ℕ) (r s : S) → Stands m t a r s → m.held s ≡ m.held r
  stands_holds t a r s h = ap m.held h.is ∙ glide_holds m laws r a (t - a)

  module _ (w : Wiring) (inputs : List Input) (ls : List Level) (k : ℕ) where
    -- where the state is not active, the part may sleep
    pub stands_sleeps : (t a : ℕ) (r s : S) → Stands m t a r s → is_active m w inputs ls t k s ≡ false → Stands m (t + 1) a r (part_step m w inputs ls t k s).0
    stands_sleeps t a r s h asleep =
        let l = h.not_later in
        let e : t + 1 - a ≡ suc (t - a) = omega (arith, l) in
        let f : a + (t - a) ≡ t = omega (arith, l) in
        let due : m.due (glide m r a (t - a)) (a + (t - a)) ≡ false =
        subst (λ (u : ℕ). m.due (glide m r a (t - a)) u ≡ false) (sym f) (ap (λ (x : S). m.due x t) (sym h.is) ∙ asleep_due m w inputs ls t k s asleep) in
        record {
          not_later = omega (arith, l);
          valid = h.valid;
          quiet = subst (λ (n : ℕ). IsQuiet m r a n) (sym e) (λ j (g : j < suc (t - a)). elim (lt_or_eq j (t - a) (omega arith)) [
            | inl less ↦ h.quiet j less
            | inr same ↦ subst (λ (i : ℕ). m.due (glide m r a i) (a + i) ≡ false) (sym same) due
          ]);
          is = ap (λ (x : S × Option ℕ). x.0) (asleep_step m w inputs ls t k s asleep) ∙ ap (λ (x : S). idle m x t) h.is
              ∙ ap (λ (u : ℕ). idle m (glide m r a (t - a)) u) (sym f) ∙ sym (ap (glide m r a) e);
        }

    pub stands_silent : (t a : ℕ) (r s : S) → Stands m t a r s → is_active m w inputs ls t k s ≡ false → (part_step m w inputs ls t k s).1 ≡ None
    stands_silent t a r s h asleep =
        ap (λ (x : S × Option ℕ). x.1) (asleep_step m w inputs ls t k s asleep) ∙ laws.glides_silent s t (stands_valid t a r s h) (asleep_due m w inputs ls t k s asleep)

    -- settled and woken, it is the state's step
    pub stands_wakes : (t a : ℕ) (r s : S) → Stands m t a r s → Stands m (t + 1) (t + 1) (part_step m w inputs ls t k (glide m r a (t - a))).0 (part_step m w inputs ls t k s).0
    stands_wakes t a r s h =
        subst (λ (x : S). Stands m (t + 1) (t + 1) (part_step m w inputs ls t k x).0 (part_step m w inputs ls t k s).0) h.is
        (stands_here (t + 1) (part_step m w inputs ls t k s).0 (laws.keeps_valid s t _ _ (stands_valid t a r s h)))
