-- A part that goes on by itself from due cycle to due cycle.
use Rattle.std.proofs.Common.{◌≡◌, ℕ, zero, suc, ◌+◌, ◌-◌, ◌<◌, ◌≤◌, List, [], ◌∷◌, ◌++◌, true, false, Option, None, Some, refl, ap, sym, ◌∙◌, arith, subst, ◌⊎◌, inl, inr}
use Rattle.std.specs.Prelude.{if◌then◌else◌}
use Rattle.std.specs.Option.{option_to_list, is_some}
use Rattle.sim_base.specs.declared.limits.TheConstants.{MOST_CYCLES}
use Rattle.part_law.specs.Machine.{Machine, Laws, idle, idle_byte, glide, dues, sent, IsQuiet, IsFirstDue, IsSame}
use Rattle.part_law.specs.Going.{Gone, Woke}
use Rattle.part_law.proofs.MachineLemmas.{glide_valid}

front_none : {A : Type 0} (xs ys : List A) → xs ++ ys ≡ [] → xs ≡ []
front_none [] ys h = refl
front_none (x ∷ xs) ys h = absurd cc

module _ {S : Type 0} (m : Machine S) where
  pub gone_none : (s : S) (t : ℕ) → Gone m s t 0 0 s
  gone_none s t = record {
    state = refl;
    drives = refl;
    contacts = refl;
    same = record { same_drives = λ k (h : k < 0). absurd (omega arith); same_contacts = λ k (h : k < 0). absurd (omega arith) };
    silent = refl;
    dues_are = refl;
  }

  lt_suc : (k n : ℕ) → k < suc n → (k < n) ⊎ (k ≡ n)
  lt_suc k n h = grind arith

  same_more : (s : S) (t n d : ℕ) (x : S) → Gone m s t n d x → IsSame m s t (suc n)
  same_more s t n d x g = record {
    same_drives = λ k (h : k < suc n). elim (lt_suc k n h) [
      | inl l ↦ g.same.same_drives k l
      | inr e ↦ ap (λ (j : ℕ). m.drives (glide m s t j)) e ∙ ap m.drives (sym g.state) ∙ g.drives
    ];
    same_contacts = λ k (h : k < suc n). elim (lt_suc k n h) [
      | inl l ↦ g.same.same_contacts k l
      | inr e ↦ ap (λ (j : ℕ). m.contacts (glide m s t j)) e ∙ ap m.contacts (sym g.state) ∙ g.contacts
    ];
  }

  pub woke : (s : S) (t n d : ℕ) (x : S) → Gone m s t n d x → m.due x (t + n) ≡ true → Woke m s t (suc n) (suc d) (idle m x (t + n)) (idle_byte m x (t + n))
  woke s t n d x g due =
      let there : m.due (glide m s t n) (t + n) ≡ true = ap (λ (y : S). m.due y (t + n)) (sym g.state) ∙ due in
      record {
        state = ap (λ (y : S). idle m y (t + n)) g.state;
        same = same_more s t n d x g;
        sent_is = ap (λ (l : List ℕ). l ++ option_to_list (idle_byte m (glide m s t n) (t + n))) g.silent ∙ ap (λ (y : S). option_to_list (idle_byte m y (t + n))) (sym g.state);
        silent = (let e : suc n - 1 ≡ n = omega arith in ap (λ (j : ℕ). sent m s t j) e ∙ g.silent);
        dues_are = ap (λ b. dues m s t n + (if b then 1 else 0)) there ∙ omega (arith, g.dues_are);
      }

  silent_before : (s : S) (t n : ℕ) → sent m s t n ≡ [] → sent m s t (n - 1) ≡ []
  silent_before s t zero h = let e : zero - 1 ≡ zero = omega arith in ap (λ (j : ℕ). sent m s t j) e
  silent_before s t (suc n) h = let e : suc n - 1 ≡ n = omega arith in ap (λ (j : ℕ). sent m s t j) e ∙ front_none _ _ h

  -- it ended without a byte
  pub gone_woke : (s : S) (t n d : ℕ) (x : S) → Gone m s t n d x → Woke m s t n d x None
  gone_woke s t n d x g = record { state = g.state; same = g.same; sent_is = g.silent; silent = silent_before s t n g.silent; dues_are = g.dues_are }

  -- where a wake showed nothing
  pub woke_on : (s : S) (t n d : ℕ) (x y : S) → Gone m s t n d x → Woke m s t (suc n) (suc d) y None → m.drives y ≡ m.drives x → m.contacts y ≡ m.contacts x → Gone m s t (suc n) (suc d) y
  woke_on s t n d x y g w same_drives same_contacts = record {
    state = w.state;
    drives = same_drives ∙ g.drives;
    contacts = same_contacts ∙ g.contacts;
    same = w.same;
    silent = w.sent_is;
    dues_are = w.dues_are;
  }

  module _ (laws : Laws m) where
    idled : (s : S) (t n d : ℕ) (x : S) → m.valid s t ≡ true → Gone m s t n d x → m.due x (t + n) ≡ false → Gone m s t (suc n) d (idle m x (t + n))
    idled s t n d x v g due =
        let here : m.valid x (t + n) ≡ true = ap (λ (y : S). m.valid y (t + n)) g.state ∙ glide_valid m laws s t n v in
        let none : m.due (glide m s t n) (t + n) ≡ false = ap (λ (y : S). m.due y (t + n)) (sym g.state) ∙ due in
        record {
          state = ap (λ (y : S). idle m y (t + n)) g.state;
          drives = laws.glides_drives x (t + n) here due ∙ g.drives;
          contacts = laws.glides_contacts x (t + n) here due ∙ g.contacts;
          same = same_more s t n d x g;
          silent = ap (λ (l : List ℕ). l ++ option_to_list (idle_byte m (glide m s t n) (t + n))) g.silent
              ∙ ap (λ (y : S). option_to_list (idle_byte m y (t + n))) (sym g.state) ∙ ap option_to_list (laws.glides_silent x (t + n) here due);
          dues_are = ap (λ b. dues m s t n + (if b then 1 else 0)) none ∙ omega (arith, g.dues_are);
        }

    -- quiet cycles
    pub gone_on : (s : S) (t n d : ℕ) (x : S) (k : ℕ) → m.valid s t ≡ true → Gone m s t n d x → IsQuiet m x (t + n) k → Gone m s t (n + k) d (glide m x (t + n) k)
    gone_on s t n d x zero v g quiet = subst (λ (j : ℕ). Gone m s t j d x) (omega arith) g
    gone_on s t n d x (suc k) v g quiet =
        let before : Gone m s t (n + k) d (glide m x (t + n) k) = gone_on s t n d x k v g (λ j (h : j < k). quiet j (omega arith)) in
        let e : t + n + k ≡ t + (n + k) = omega arith in
        let due : m.due (glide m x (t + n) k) (t + (n + k)) ≡ false = ap (λ (j : ℕ). m.due (glide m x (t + n) k) j) (sym e) ∙ quiet k (omega arith) in
        let after : Gone m s t (suc (n + k)) d (idle m (glide m x (t + n) k) (t + (n + k))) = idled s t (n + k) d (glide m x (t + n) k) v before due in
        let same : idle m (glide m x (t + n) k) (t + (n + k)) ≡ idle m (glide m x (t + n) k) (t + n + k) = ap (λ (j : ℕ). idle m (glide m x (t + n) k) j) (sym e) in
        let long : suc (n + k) ≡ n + suc k = omega arith in
        subst (λ (j : ℕ). Gone m s t j d (glide m x (t + n) (suc k))) long (subst (λ (y : S). Gone m s t (suc (n + k)) d y) same after)

    -- the same by cycles: at c it was in x, and nothing is due before u
    pub gone_to : (s : S) (t c u d : ℕ) (x : S) → t ≤ c → c ≤ u → m.valid s t ≡ true → Gone m s t (c - t) d x → IsQuiet m x c (u - c) → Gone m s t (u - t) d (glide m x c (u - c))
    gone_to s t c u d x begun later v g quiet =
        let e : t + (c - t) ≡ c = omega arith in
        let f : c - t + (u - c) ≡ u - t = omega arith in
        subst (λ (j : ℕ). Gone m s t j d (glide m x c (u - c))) f
        (subst (λ (j : ℕ). Gone m s t (c - t + (u - c)) d (glide m x j (u - c))) e
        (gone_on s t (c - t) d x (u - c) v g (subst (λ (j : ℕ). IsQuiet m x j (u - c)) (sym e) quiet)))

  pub woke_at : (s : S) (t u d : ℕ) (x : S) → t ≤ u → Gone m s t (u - t) d x → m.due x u ≡ true → Woke m s t (u + 1 - t) (d + 1) (idle m x u) (idle_byte m x u)
  woke_at s t u d x later g due =
      let e : t + (u - t) ≡ u = omega arith in
      let f : suc (u - t) ≡ u + 1 - t = omega arith in
      let h : suc d ≡ d + 1 = omega arith in
      subst (λ (j : ℕ). Woke m s t j (d + 1) (idle m x u) (idle_byte m x u)) f
      (subst (λ (j : ℕ). Woke m s t (suc (u - t)) j (idle m x u) (idle_byte m x u)) h
      (subst (λ (j : ℕ). Woke m s t (suc (u - t)) (suc d) (idle m x j) (idle_byte m x j)) e
      (woke s t (u - t) d x g (ap (λ (j : ℕ). m.due x j) e ∙ due))))

  -- from one wake to the next: in cycle c it was in x, then quiet to u, and then a step
  pub jumped : Laws m → (s : S) (t c u d : ℕ) (x at : S) (n : ℕ) (y : S) (byte : Option ℕ) → t ≤ c → c ≤ u → m.valid s t ≡ true → Gone m s t (c - t) d x → IsQuiet m x c (u - c) → m.due (glide m x c (u - c)) u ≡ true →
      at ≡ glide m x c (u - c) → n ≡ u → y ≡ (m.step at n (m.held at) None).0 → byte ≡ (m.step at n (m.held at) None).1 → Gone m s t (u - t) d at × Woke m s t (u + 1 - t) (d + 1) y byte
  jumped laws s t c u d x at n y byte begun later v g quiet due is_at is_n is_y is_byte =
      let gone : Gone m s t (u - t) d at = subst (λ (z : S). Gone m s t (u - t) d z) (sym is_at) (gone_to laws s t c u d x begun later v g quiet) in
      let woken : Woke m s t (u + 1 - t) (d + 1) (idle m at u) (idle_byte m at u) = woke_at s t u d at (omega arith) gone (ap (λ (z : S). m.due z u) is_at ∙ due) in
      let same : y ≡ idle m at u = is_y ∙ ap (λ (j : ℕ). idle m at j) is_n in
      let same_byte : byte ≡ idle_byte m at u = is_byte ∙ ap (λ (j : ℕ). idle_byte m at j) is_n in
      (gone, subst (λ (z : S). Woke m s t (u + 1 - t) (d + 1) z byte) (sym same) (subst (λ (b : Option ℕ). Woke m s t (u + 1 - t) (d + 1) (idle m at u) b) (sym same_byte) woken))

  -- where a wake showed nothing
  pub jumped_on : (s : S) (t n d : ℕ) (x y : S) (byte : Option ℕ) (k : ℕ) → Gone m s t k d x → Woke m s t n (d + 1) y byte → byte ≡ None → m.drives y ≡ m.drives x → m.contacts y ≡ m.contacts x → Gone m s t n (d + 1) y
  jumped_on s t n d x y byte k g w none same_drives same_contacts = record {
    state = w.state;
    drives = same_drives ∙ g.drives;
    contacts = same_contacts ∙ g.contacts;
    same = w.same;
    silent = w.sent_is ∙ ap option_to_list none;
    dues_are = w.dues_are;
  }

pub none_there : (o : Option ℕ) → is_some o ≡ false → o ≡ None
none_there None h = refl
none_there (Some b) h = absurd cc

module _ {S : Type 0} (m : Machine S) where
  -- the first due cycle, where it is below the limit
  pub due_at : (s : S) (t u limit : ℕ) (d : Option ℕ) → IsFirstDue m s t d → (d ≡ Some u) × (u < limit) → (t ≤ u) × (u < limit) × IsQuiet m s t (u - t) × (m.due (glide m s t (u - t)) u ≡ true)
  due_at s t u limit d first h =
      let f : IsFirstDue m s t (Some u) = subst (λ (x : Option ℕ). IsFirstDue m s t x) h.0 first in
      (f.0, h.1, f.2, f.3)

  -- and else nothing is due before the limit
  pub quiet_to : (s : S) (t limit : ℕ) (d : Option ℕ) → limit ≤ MOST_CYCLES → IsFirstDue m s t d → ((u : ℕ) → d ≡ Some u → limit ≤ u) → IsQuiet m s t (limit - t)
  quiet_to s t limit None end first late = λ k (h : k < limit - t). first k (omega arith)
  quiet_to s t limit (Some u) end first late =
      let l : limit ≤ u = late u refl in
      λ k (h : k < limit - t). first.2 k (omega (arith, first.0))
