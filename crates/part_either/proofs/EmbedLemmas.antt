-- A machine that stands inside another, and what that says of gliding and of going on.
use Rattle.std.proofs.Common.{◌≡◌, inl, inr, ℕ, zero, suc, ◌+◌, ◌-◌, List, ◌++◌, Bool, Option, None, Some, refl, ap, sym, ◌∙◌}
use Rattle.std.specs.Prelude.{if◌then◌else◌}
use Rattle.std.specs.Option.{option_to_list}
use Rattle.sim_base.specs.declared.signal.Level.{Level}
use Rattle.part_law.specs.Machine.{Machine, idle, idle_byte, glide, dues, sent, IsQuiet, IsFirstDue, MayWake, Hears}
use Rattle.part_law.specs.Going.{Woke}
use Rattle.part_law.specs.Either.{either}

-- the states of m are states of n by f, and n does with them what m does
pub record Embeds {A B : Type 0} (m : Machine A) (n : Machine B) (f : A → B) : Type 0 where
  pub steps : (a : A) (t : ℕ) (l : List Level) (i : Option ℕ) → (n.step (f a) t l i).0 ≡ f (m.step a t l i).0
  pub bytes : (a : A) (t : ℕ) (l : List Level) (i : Option ℕ) → (n.step (f a) t l i).1 ≡ (m.step a t l i).1
  pub drives : (a : A) → n.drives (f a) ≡ m.drives a
  pub contacts : (a : A) → n.contacts (f a) ≡ m.contacts a
  pub held : (a : A) → n.held (f a) ≡ m.held a
  pub dues : (a : A) (t : ℕ) → n.due (f a) t ≡ m.due a t

module _ {A B : Type 0} (m : Machine A) (n : Machine B) where
  -- each of two kinds stands in either
  pub left_in : Embeds m (either m n) (λ (a : A). inl a)
  left_in = record { steps = λ a t l i. refl; bytes = λ a t l i. refl; drives = λ a. refl; contacts = λ a. refl; held = λ a. refl; dues = λ a t. refl }

  pub right_in : Embeds n (either m n) (λ (b : B). inr b)
  right_in = record { steps = λ b t l i. refl; bytes = λ b t l i. refl; drives = λ b. refl; contacts = λ b. refl; held = λ b. refl; dues = λ b t. refl }

module _ {A B : Type 0} (m : Machine A) (n : Machine B) (f : A → B) (e : Embeds m n f) where
  idle_in : (a : A) (t : ℕ) → idle n (f a) t ≡ f (idle m a t)
  idle_in a t = ap (λ (l : List Level). (n.step (f a) t l None).0) (e.held a) ∙ e.steps a t (m.held a) None

  byte_in : (a : A) (t : ℕ) → idle_byte n (f a) t ≡ idle_byte m a t
  byte_in a t = ap (λ (l : List Level). (n.step (f a) t l None).1) (e.held a) ∙ e.bytes a t (m.held a) None

  pub glide_in : (a : A) (t k : ℕ) → glide n (f a) t k ≡ f (glide m a t k)
  glide_in a t zero = refl
  glide_in a t (suc k) = ap (λ (s : B). idle n s (t + k)) (glide_in a t k) ∙ idle_in (glide m a t k) (t + k)

  due_in : (a : A) (t k u : ℕ) → n.due (glide n (f a) t k) u ≡ m.due (glide m a t k) u
  due_in a t k u = ap (λ (s : B). n.due s u) (glide_in a t k) ∙ e.dues (glide m a t k) u

  pub quiet_out : (a : A) (t k : ℕ) → IsQuiet n (f a) t k → IsQuiet m a t k
  quiet_out a t k quiet j h = sym (due_in a t j (t + j)) ∙ quiet j h

  pub quiet_in : (a : A) (t k : ℕ) → IsQuiet m a t k → IsQuiet n (f a) t k
  quiet_in a t k quiet j h = due_in a t j (t + j) ∙ quiet j h

  pub first_in : (a : A) (t : ℕ) (d : Option ℕ) → IsFirstDue m a t d → IsFirstDue n (f a) t d
  first_in a t None first = quiet_in a t _ first
  first_in a t (Some u) first = (first.0, first.1, quiet_in a t (u - t) first.2, due_in a t (u - t) u ∙ first.3)

  pub may_out : (a : A) (t k u : ℕ) (levels : List Level) (input : Option ℕ) → MayWake n (glide n (f a) t k) u levels input → MayWake m (glide m a t k) u levels input
  may_out a t k u levels input may quiet none same = may (due_in a t k u ∙ quiet) none (ap n.held (glide_in a t k) ∙ e.held (glide m a t k) ∙ same)

  -- what a part inside heard, the whole heard
  pub hears_in : (a x : A) (t u : ℕ) (levels : List Level) (changed : Bool) → Hears m a t u levels x changed → Hears n (f a) t u levels (f x) changed
  hears_in a x t u levels changed h =
      let before = glide m a t (u - t) in
      let same : glide n (f a) t (u - t) ≡ f before = glide_in a t (u - t) in
      record {
        state_is = ap f h.state_is ∙ sym (ap (λ (s : B). (n.step s u levels None).0) same ∙ e.steps before u levels None);
        silent = ap (λ (s : B). (n.step s u levels None).1) same ∙ e.bytes before u levels None ∙ h.silent;
        rests = first_in x (u + 1) None h.rests;
        same_drives = λ still. e.drives x ∙ h.same_drives still ∙ sym (ap n.drives same ∙ e.drives before);
        same_contacts = λ still. e.contacts x ∙ h.same_contacts still ∙ sym (ap n.contacts same ∙ e.contacts before);
      }

  dues_in : (a : A) (t k : ℕ) → dues n (f a) t k ≡ dues m a t k
  dues_in a t zero = refl
  dues_in a t (suc k) = ap (λ (j : ℕ). j + (if n.due (glide n (f a) t k) (t + k) then 1 else 0)) (dues_in a t k) ∙ ap (λ (b : Bool). dues m a t k + (if b then 1 else 0)) (due_in a t k (t + k))

  sent_in : (a : A) (t k : ℕ) → sent n (f a) t k ≡ sent m a t k
  sent_in a t zero = refl
  sent_in a t (suc k) = ap (λ (l : List ℕ). l ++ option_to_list (idle_byte n (glide n (f a) t k) (t + k))) (sent_in a t k)
      ∙ ap (λ (b : Option ℕ). sent m a t k ++ option_to_list b) (ap (λ (s : B). idle_byte n s (t + k)) (glide_in a t k) ∙ byte_in (glide m a t k) (t + k))

  -- what a part inside did is what the whole did
  pub woke_in : (a x : A) (t k d : ℕ) (byte : Option ℕ) → Woke m a t k d x byte → Woke n (f a) t k d (f x) byte
  woke_in a x t k d byte w = record {
    state = ap f w.state ∙ sym (glide_in a t k);
    same = record {
      same_drives = λ j h. ap n.drives (glide_in a t j) ∙ e.drives (glide m a t j) ∙ w.same.same_drives j h ∙ sym (e.drives a);
      same_contacts = λ j h. ap n.contacts (glide_in a t j) ∙ e.contacts (glide m a t j) ∙ w.same.same_contacts j h ∙ sym (e.contacts a);
    };
    sent_is = sent_in a t k ∙ w.sent_is;
    silent = sent_in a t (k - 1) ∙ w.silent;
    dues_are = dues_in a t k ∙ w.dues_are;
  }
