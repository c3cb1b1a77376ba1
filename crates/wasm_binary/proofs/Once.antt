-- Bytes break once: in one place, by one rule.
use Rattle.std.proofs.Common.{◌≡◌, ℕ, zero, suc, ◌+◌, ◌-◌, ◌<◌, ◌≤◌, List, [], ◌∷◌, ◌++◌, length, Bool, refl, sym, ap, subst, ◌∙◌, arith, ◌⊎◌, ⊎_elim, append_assoc, length-append}
use Rattle.wasm_binary.specs.Form.{Form}
use Rattle.wasm_binary.specs.Leb.{ByteIsFaulty, some_high, high_least, high_greatest, BreaksUnsigned, IsUnlikeSign, BreaksSigned}
use Rattle.wasm_binary.specs.Lists.{Run}
use Rattle.wasm_binary.specs.Proper.{IsOnce, Proper}
use Rattle.wasm_binary.proofs.Cuts.{rest_is, recut}

-- ---- a part, and what its value asks for behind it

module _ {X : Type 0} (p : Form X) (rest : X → List ℕ → ℕ → ℕ → Type 0) where
  abbrev pub BreaksBehind : List ℕ → ℕ → ℕ → Type 0
  BreaksBehind bytes i number = (a b : List ℕ) × (x : X) × (j : ℕ) × (bytes ≡ a ++ b) × p.text a x × (i ≡ length a + j) × rest x b j number

module _ {X : Type 0} (p : Form X) (rest : X → List ℕ → ℕ → ℕ → Type 0) (pp : Proper p) (pr : (x : X) → IsOnce (rest x)) where
  not_behind : (bytes : List ℕ) (i j m n : ℕ) → p.breaks bytes i m → BreaksBehind p rest bytes j n → ⊥
  not_behind bytes i j m n u v = pp.excludes v.0 v.1 v.2 i m v.5 (subst (λ (z : List ℕ). p.breaks z i m) v.4 u)

  behind_once : IsOnce (BreaksBehind p rest)
  behind_once bytes i j m n u v =
      let e : u.0 ++ u.1 ≡ v.0 ++ v.1 = sym u.4 ∙ v.4 in
      let o = pp.one u.0 v.0 u.1 v.1 u.2 v.2 u.5 v.5 e in
      let s = subst (λ (z : List ℕ). rest v.2 z u.3 m) (rest_is u.0 v.0 u.1 v.1 o.0 e) (subst (λ (z : X). rest z u.1 u.3 m) o.1 u.7) in
      let w = pr v.2 v.1 u.3 v.3 m n s v.7 in
      (omega (arith, u.6, v.6, ap length o.0, w.0), w.1)

  pub then_once : IsOnce (λ bytes i number. p.breaks bytes i number ⊎ BreaksBehind p rest bytes i number)
  then_once bytes i j m n h k =
      ⊎_elim
      (λ u. ⊎_elim (λ v. pp.once bytes i j m n u v) (λ v. absurd (not_behind bytes i j m n u v)) k)
      (λ u. ⊎_elim (λ v. absurd (not_behind bytes j i n m v u)) (λ v. behind_once bytes i j m n u v) k)
      h

-- ---- items, and how they end

module _ {S X : Type 0} (item : S → Form X) (next : S → X → S) (done : S → Bool) (last : S → List ℕ → ℕ → ℕ → Type 0) (pi : (s : S) → Proper (item s)) (pl : (s : S) → IsOnce (last s)) (no_item : (s : S) (a r : List ℕ) (x : X) (i m : ℕ) → (item s).text a x → last s (a ++ r) i m → ⊥) where
  -- one run ends where the other goes on
  goes_on : (s t u : S) (a b c d : List ℕ) (y : X) (ys : List X) (i m : ℕ) → a ++ b ≡ c ++ d → a ≡ [] → s ≡ t → last t b i m → Run item next done s c (y ∷ ys) u → ⊥
  goes_on s t u a b c d y ys i m e n q l k =
      let f : b ≡ k.1 ++ (k.2 ++ d) = sym (ap (λ (z : List ℕ). z ++ b) n) ∙ e ∙ ap (λ (z : List ℕ). z ++ d) k.3 ∙ append_assoc k.1 k.2 d in
      no_item s k.1 (k.2 ++ d) y i m k.4 (subst (λ (z : List ℕ). last s z i m) f (subst (λ (z : S). last z b i m) (sym q) l))

  pub run_once : (s t u : S) (a b c d : List ℕ) (xs ys : List X) (i j m n : ℕ) → a ++ b ≡ c ++ d → Run item next done s a xs t → last t b i m → Run item next done s c ys u → last u d j n → (length a + i ≡ length c + j) × (m ≡ n)
  run_once s t u a b c d [] [] i j m n e h l k g =
      let f : b ≡ d = sym (ap (λ (z : List ℕ). z ++ b) h.0) ∙ e ∙ ap (λ (z : List ℕ). z ++ d) k.0 in
      let l' = subst (λ (z : List ℕ). last u z i m) f (subst (λ (z : S). last z b i m) (sym h.1 ∙ k.1) l) in
      let w = pl u d i j m n l' g in
      (omega (arith, ap length h.0, ap length k.0, w.0), w.1)
  run_once s t u a b c d [] (y ∷ ys) i j m n e h l k g = absurd (goes_on s t u a b c d y ys i m e h.0 h.1 l k)
  run_once s t u a b c d (x ∷ xs) [] i j m n e h l k g = absurd (goes_on s u t c d a b x xs j n (sym e) k.0 k.1 g h)
  run_once s t u a b c d (x ∷ xs) (y ∷ ys) i j m n e h l k g =
      let e' = recut a c h.1 h.2 k.1 k.2 b d h.3 k.3 e in
      let o = (pi s).one h.1 k.1 (h.2 ++ b) (k.2 ++ d) x y h.4 k.4 e' in
      let h5 = subst (λ (z : X). Run item next done (next s z) h.2 xs t) o.1 h.5 in
      let w = run_once (next s y) t u h.2 b k.2 d xs ys i j m n (rest_is h.1 k.1 (h.2 ++ b) (k.2 ++ d) o.0 e') h5 l k.5 g in
      (omega (arith, ap length h.3, length-append h.1 h.2, ap length k.3, length-append k.1 k.2, ap length o.0, w.0), w.1)

-- ---- numbers

module _ (bits least greatest rule b : ℕ) where
  -- a byte behind which an allowed number may go on is not faulty
  pub going_fine : (k : ℕ) → 128 ≤ b → 7 < bits → some_high least greatest (b - 128) → ByteIsFaulty bits least greatest rule b k → ⊥
  going_fine k h1 h2 s f =
      ⊎_elim
      (λ p. omega (arith, p.0, h1))
      (λ q. ⊎_elim (λ p. omega (arith, p.1, h2)) (λ r. ⊎_elim (λ p. omega (arith, p.0, h1)) (λ p. ⊎_elim (λ z. omega (arith, z, s.0)) (λ z. omega (arith, z, s.1)) p.2) r) q)
      f

  faulty_once : (m n : ℕ) → ByteIsFaulty bits least greatest rule b m → ByteIsFaulty bits least greatest rule b n → m ≡ n
  faulty_once m n h k =
      ⊎_elim
      (λ p. ⊎_elim (λ q. p.2 ∙ sym q.2) (λ r. ⊎_elim (λ q. p.2 ∙ sym q.2) (λ r'. ⊎_elim (λ q. absurd (omega (arith, p.1, q.1))) (λ q. absurd (omega (arith, p.0, q.0))) r') r) k)
      (λ h'. ⊎_elim
      (λ p. ⊎_elim (λ q. p.2 ∙ sym q.2) (λ r. ⊎_elim (λ q. p.2 ∙ sym q.2) (λ r'. ⊎_elim (λ q. absurd (omega (arith, p.0, q.0))) (λ q. absurd (omega (arith, p.1, q.1))) r') r) k)
      (λ h''. ⊎_elim
      (λ p. ⊎_elim (λ q. absurd (omega (arith, p.1, q.1))) (λ r. ⊎_elim (λ q. absurd (omega (arith, p.0, q.0))) (λ r'. ⊎_elim (λ q. p.3 ∙ sym q.3) (λ q. absurd (omega (arith, p.0, q.0))) r') r) k)
      (λ p. ⊎_elim (λ q. absurd (omega (arith, p.0, q.0))) (λ r. ⊎_elim (λ q. absurd (omega (arith, p.1, q.1))) (λ r'. ⊎_elim (λ q. absurd (omega (arith, p.0, q.0))) (λ q. p.3 ∙ sym q.3) r') r) k)
      h'')
      h')
      h

pub unsigned_once : (bits least greatest rule : ℕ) → IsOnce (BreaksUnsigned bits least greatest rule)
unsigned_once bits least greatest rule [] i j m n h k = (h.0 ∙ sym k.0, h.1 ∙ sym k.1)
unsigned_once bits least greatest rule (b ∷ bs) zero zero m n h k = (refl, faulty_once bits least greatest rule b m n h k)
unsigned_once bits least greatest rule (b ∷ bs) zero (suc j) m n h k = absurd (going_fine bits least greatest rule b m k.0 k.1 k.2 h)
unsigned_once bits least greatest rule (b ∷ bs) (suc i) zero m n h k = absurd (going_fine bits least greatest rule b n h.0 h.1 h.2 k)
unsigned_once bits least greatest rule (b ∷ bs) (suc i) (suc j) m n h k =
    let w = unsigned_once (bits - 7) (high_least least (b - 128)) (high_greatest greatest (b - 128)) rule bs i j m n h.3 k.3 in
    (ap (λ (z : ℕ). suc z) w.0, w.1)

signed_going_fine : (bits b : ℕ) → 128 ≤ b → 7 < bits → (128 ≤ b) × (bits ≤ 7) ⊎ IsUnlikeSign bits b → ⊥
signed_going_fine bits b h1 h2 f =
    ⊎_elim (λ p. omega (arith, p.1, h2)) (λ q. ⊎_elim (λ z. omega (arith, z.0, h1)) (λ z. omega (arith, z.1, h1)) q) f

pub signed_once : (bits : ℕ) → IsOnce (BreaksSigned bits)
signed_once bits [] i j m n h k = (h.0 ∙ sym k.0, h.1 ∙ sym k.1)
signed_once bits (b ∷ bs) zero zero m n h k = (refl, h.0 ∙ sym k.0)
signed_once bits (b ∷ bs) zero (suc j) m n h k = absurd (signed_going_fine bits b k.0 k.1 h.1)
signed_once bits (b ∷ bs) (suc i) zero m n h k = absurd (signed_going_fine bits b h.0 h.1 k.1)
signed_once bits (b ∷ bs) (suc i) (suc j) m n h k =
    let w = signed_once (bits - 7) bs i j m n h.2 k.2 in
    (ap (λ (z : ℕ). suc z) w.0, w.1)
