-- Items one behind the other.
use Rattle.std.proofs.Common.{◌≡◌, ℕ, zero, suc, ◌<◌, List, [], ◌∷◌, ◌++◌, Bool, true, false, refl, sym, ap, subst, ◌∙◌, append_assoc, arith}
use Rattle.sim_base.specs.declared.fault.Fault.{Fault}
use Rattle.wasm_binary.specs.declared.reader.Reader.{Reader}
use Rattle.wasm_binary.specs.Form.{Form}
use Rattle.wasm_binary.specs.Reads.{Took, Reads, Fails}
use Rattle.wasm_binary.specs.Lists.{Run, repeated, is_zero}
use Rattle.wasm_binary.proofs.Steps.{append-nil, fails_on, took_then, took_none}

module _ {S X : Type 0} (item : S → Form X) (next : S → X → S) (done : S → Bool) where
  pub run_more : (s : S) (a b : List ℕ) (xs : List X) (t : S) (x : X) → Run item next done s a xs t → done t ≡ false → (item t).text b x → Run item next done s (a ++ b) (xs ++ x ∷ []) (next t x)
  run_more s a b [] t x h d i =
      let i' = subst (λ u. (item u).text b x) (sym h.1) i in
      (ap done h.1 ∙ d, b, [], ap (λ (z : List ℕ). z ++ b) h.0 ∙ sym (append-nil b), i', (refl, ap (λ u. next u x) h.1))
  run_more s a b (y ∷ xs) t x h d i =
      (h.0, h.1, h.2 ++ b, ap (λ (z : List ℕ). z ++ b) h.3 ∙ append_assoc h.1 h.2 b, h.4, run_more (next s y) h.2 b xs t x h.5 d i)

  pub run_none : (s : S) → Run item next done s [] [] s
  run_none s = (refl, refl)

  -- what a loop over items has read
  pub record HasRun (old now : Reader) (s : S) (xs : List X) (t : S) : Type 0 where
    pub front : List ℕ
    pub run : Run item next done s front xs t
    pub took : Took old now front

  pub begins : (old : Reader) (s : S) → HasRun old old s [] s
  begins old s = record { front = []; run = run_none s; took = took_none old }

  pub goes : (old mid new : Reader) (s : S) (xs : List X) (t : S) (x : X) → HasRun old mid s xs t → done t ≡ false → Reads (item t) mid new x → HasRun old new s (xs ++ x ∷ []) (next t x)
  goes old mid new s xs t x h d r = record {
    front = h.front ++ r.0;
    run = run_more s h.front r.0 xs t x h.run d r.1;
    took = took_then old mid new h.front r.0 h.took r.2;
  }

  pub run_fails : (old mid : Reader) (s : S) (xs : List X) (t : S) (e : Fault) → HasRun old mid s xs t → done t ≡ false → Fails (item t) mid e → Fails (repeated item next done s) old e
  run_fails old mid s xs t e h d f =
      fails_on (item t) (repeated item next done s) old mid h.front e h.took (λ j k b. (xs, h.front, mid.rest.now, t, j, refl, h.run, d, refl, b)) f

  pub ends : (old new : Reader) (s : S) (xs : List X) (t : S) → HasRun old new s xs t → done t ≡ true → Reads (repeated item next done s) old new xs
  ends old new s xs t h d = (h.front, (t, h.run, d), h.took)

pub not_zero : (n : ℕ) → 0 < n → is_zero n ≡ false
not_zero zero lt = absurd (omega arith)
not_zero (suc n) lt = refl

pub zero_is : (n : ℕ) → n ≡ 0 → is_zero n ≡ true
zero_is zero e = refl
zero_is (suc n) e = absurd (omega arith)
