-- Two units as one: they step side by side, a register is read from the first that has it, and a write goes to
-- each that has it. Nested, this is any number of units.
use Rattle.std.specs.Prelude.{◌≡◌, ℕ, min, List, [], ◌∷◌, ◌++◌, Bool, true, false, if◌then◌else◌, ◌||◌, Option, None, Some}
use Rattle.std.proofs.Common.{ap, ◌∙◌, refl, arith}
use Rattle.std.proofs.lemmas.Bool.{or_parts, or_from}
use Rattle.avr_unit.specs.declared.request.Request.{Request}
use Rattle.avr_unit.specs.declared.pad.Pad.{Pad}
use Rattle.avr_unit.specs.Pad.{joined}
use Rattle.avr_unit.specs.UnitMachine.{UnitMachine, Laws, PowerLaws, asked, least}

-- what the first has to say, and else the second
abbrev pub first_of_two : {A : Type 0} → Option A → Option A → Option A
first_of_two (Some a) b = Some a
first_of_two None b = b

least_three : (a b c : ℕ) → min a (min b c) ≡ min (min a b) c
least_three a b c = grind arith

-- the requests of two units
pub least-append : (xs ys : List Request) → least (xs ++ ys) ≡ min (least xs) (least ys)
least-append [] ys = within ys
  where
    within : (ys : List Request) → least ys ≡ min 26 (least ys)
    within [] = refl
    within (y ∷ ys) = grind (arith, within ys)
least-append (x ∷ xs) ys = ap (min (asked x)) (least-append xs ys) ∙ least_three (asked x) (least xs) (least ys)

module _ {A B : Type 0} (m : UnitMachine A) (n : UnitMachine B) where
  abbrev pub both : UnitMachine (A × B)
  both = record {
    step = λ u t before now. (m.step u.0 t before now, n.step u.1 t before now);
    due = λ u t. m.due u.0 t || n.due u.1 t;
    requests = λ u l. m.requests u.0 l ++ n.requests u.1 l;
    pad = λ u p. joined (m.pad u.0 p) (n.pad u.1 p);
    sends = λ u t. first_of_two (m.sends u.0 t) (n.sends u.1 t);
    has = λ a. m.has a || n.has a;
    answers = λ u t l a. if m.has a then m.answers u.0 t l a else n.answers u.1 t l a;
    read = λ u t a. if m.has a then (m.read u.0 t a, u.1) else (u.0, n.read u.1 t a);
    write = λ u t a x. (if m.has a then m.write u.0 t a x else u.0, if n.has a then n.write u.1 t a x else u.1);
    write_bit = λ u t a k x. (if m.has a then m.write_bit u.0 t a k x else u.0, if n.has a then n.write_bit u.1 t a k x else u.1);
    taken = λ u v. (m.taken u.0 v, n.taken u.1 v);
    reset = (m.reset, n.reset);
    power = record {
      rouses = λ u l. m.power.rouses u.0 l || n.power.rouses u.1 l;
      wdr = λ u t. (m.power.wdr u.0 t, n.power.wdr u.1 t);
      resets = λ u t. m.power.resets u.0 t || n.power.resets u.1 t;
      restart = λ u. (m.power.restart u.0, n.power.restart u.1);
      doze = λ u. (m.power.doze u.0, n.power.doze u.1);
    };
  }

  pub pads : (a c : Pad) (b d : Pad) → a ≡ c → b ≡ d → joined a b ≡ joined c d
  pads a c b d e f = ap (λ x. joined x b) e ∙ ap (joined c) f

  both_power : PowerLaws m → PowerLaws n → PowerLaws both
  both_power p q = record {
    keeps_rouses = λ s t l k h. let d = or_parts (m.due s.0 t) (n.due s.1 t) h in
        ap (λ x. x || n.power.rouses (n.step s.1 t l l) k) (p.keeps_rouses s.0 t l k d.0) ∙ ap (λ x. m.power.rouses s.0 k || x) (q.keeps_rouses s.1 t l k d.1);
    keeps_resets = λ s t u l h. let d = or_parts (m.due s.0 t) (n.due s.1 t) h in
        ap (λ x. x || n.power.resets (n.step s.1 t l l) u) (p.keeps_resets s.0 t u l d.0) ∙ ap (λ x. m.power.resets s.0 u || x) (q.keeps_resets s.1 t u l d.1);
    resets_due = λ s t h. let d = or_parts (m.due s.0 t) (n.due s.1 t) h in or_from _ _ (p.resets_due s.0 t d.0) (q.resets_due s.1 t d.1);
    wdr_pad = λ s t i. pads _ _ _ _ (p.wdr_pad s.0 t i) (q.wdr_pad s.1 t i);
    doze_pad = λ s i. pads _ _ _ _ (p.doze_pad s.0 i) (q.doze_pad s.1 i);
  }

  pub both_laws : Laws m → Laws n → Laws both
  both_laws p q = record {
    keeps_pad = λ s t l i h. let d = or_parts (m.due s.0 t) (n.due s.1 t) h in
        pads _ _ _ _ (p.keeps_pad s.0 t l i d.0) (q.keeps_pad s.1 t l i d.1);
    keeps_requests = λ s t l h. let d = or_parts (m.due s.0 t) (n.due s.1 t) h in
        ap (λ x. x ++ n.requests (n.step s.1 t l l) l) (p.keeps_requests s.0 t l d.0) ∙ ap (λ x. m.requests s.0 l ++ x) (q.keeps_requests s.1 t l d.1);
    keeps_silent = λ s t h. let d = or_parts (m.due s.0 t) (n.due s.1 t) h in
        ap (λ x. first_of_two x (n.sends s.1 t)) (p.keeps_silent s.0 t d.0) ∙ q.keeps_silent s.1 t d.1;
    deaf = λ s t l k h. let d = or_parts (m.due s.0 t) (n.due s.1 t) h in
        ap (λ (x : A). (x, n.step s.1 t l l)) (p.deaf s.0 t l k d.0) ∙ ap (λ (y : B). (m.step s.0 t k k, y)) (q.deaf s.1 t l k d.1);
    reads_pad = λ s t a i. by_first (m.has a) s t a i;
    taken_pad = λ s v i. pads _ _ _ _ (p.taken_pad s.0 v i) (q.taken_pad s.1 v i);
    power_laws = both_power p.power_laws q.power_laws;
  }
    where
      by_first : (b : Bool) (s : A × B) (t a i : ℕ) → both.pad (if b then (m.read s.0 t a, s.1) else (s.0, n.read s.1 t a)) i ≡ both.pad s i
      by_first true s t a i = ap (λ x. joined x (n.pad s.1 i)) (p.reads_pad s.0 t a i)
      by_first false s t a i = ap (joined (m.pad s.0 i)) (q.reads_pad s.1 t a i)
