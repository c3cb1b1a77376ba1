-- What each form of text keeps.
use Rattle.std.specs.Prelude.{◌≡◌, ℕ, List, ◌++◌}
use Rattle.wasm_binary.specs.Form.{Form}

-- bytes that break do so in one place and by one rule
abbrev pub IsOnce : (List ℕ → ℕ → ℕ → Type 0) → Type 0
IsOnce breaks = (bytes : List ℕ) (i j m n : ℕ) → breaks bytes i m → breaks bytes j n → (i ≡ j) × (m ≡ n)

-- No text begins another, a text has one value, bytes that begin with a text do not break, and others break once.
pub record Proper {X : Type 0} (form : Form X) : Type 0 where
  pub one : (a b r s : List ℕ) (x y : X) → form.text a x → form.text b y → a ++ r ≡ b ++ s → (a ≡ b) × (x ≡ y)
  pub excludes : (a r : List ℕ) (x : X) (i number : ℕ) → form.text a x → form.breaks (a ++ r) i number → ⊥
  pub once : IsOnce form.breaks
