-- Arguments of the types that an import has.
use Rattle.std.proofs.Common.{◌≡◌, ℕ, suc, List, [], ◌∷◌, length, refl, sym, ap, ◌∙◌, get_or}
use Rattle.wasm_code.specs.declared.types.ValType.{ValType}
use Rattle.wasm_code.specs.declared.types.ValType.TheVariants as types
use Rattle.wasm_semantics.specs.Values.{HasType, HasTypes}
use Rattle.wasm_num.specs.declared.value.Value.{Value}
use Rattle.wasm_num.specs.declared.value.Value.TheVariants.{I32, I64, F32, F64}
use Rattle.chip_host.specs.Arguments.{number_of, long_of}

number_is : (v : Value) → HasType v types.I32 → v ≡ I32 (number_of v)
number_is (I32 n) h = refl
number_is (I64 n) h = absurd h
number_is (F32 n) h = absurd h
number_is (F64 n) h = absurd h

long_is : (v : Value) → HasType v types.I64 → v ≡ I64 (long_of v)
long_is (I64 n) h = refl
long_is (I32 n) h = absurd h
long_is (F32 n) h = absurd h
long_is (F64 n) h = absurd h

-- a value that is an i32 by what was read of it, and likewise an i64
as_number : (v : Value) (n : ℕ) → HasType v types.I32 → n ≡ number_of v → v ≡ I32 n
as_number v n h e = number_is v h ∙ ap (λ (x : ℕ). I32 x) (sym e)

as_long : (v : Value) (n : ℕ) → HasType v types.I64 → n ≡ long_of v → v ≡ I64 n
as_long v n h e = long_is v h ∙ ap (λ (x : ℕ). I64 x) (sym e)

pub counted : (vs : List Value) (ts : List ValType) → HasTypes vs ts → length vs ≡ length ts
counted [] [] h = refl
counted [] (t ∷ ts) h = absurd h
counted (v ∷ vs) [] h = absurd h
counted (v ∷ vs) (t ∷ ts) h = ap (λ (n : ℕ). suc n) (counted vs ts h.1)

pub none_given : (vs : List Value) → HasTypes vs [] → vs ≡ []
none_given [] h = refl
none_given (v ∷ vs) h = absurd h

pub one_given : (vs : List Value) (a : ℕ) → HasTypes vs (types.I32 ∷ []) → a ≡ number_of (get_or vs 0 (I32 0)) → vs ≡ I32 a ∷ []
one_given (v ∷ []) a h e = ap (λ (x : Value). x ∷ []) (as_number v a h.0 e)
one_given [] a h e = absurd h
one_given (v ∷ w ∷ vs) a h e = absurd h.1

pub two_given : (vs : List Value) (a b : ℕ) → HasTypes vs (types.I32 ∷ types.I32 ∷ []) → a ≡ number_of (get_or vs 0 (I32 0)) → b ≡ number_of (get_or vs 1 (I32 0)) → vs ≡ I32 a ∷ I32 b ∷ []
two_given (v ∷ vs) a b h e f = ap (λ (x : Value). x ∷ vs) (as_number v a h.0 e) ∙ ap (λ (xs : List Value). I32 a ∷ xs) (one_given vs b h.1 f)
two_given [] a b h e f = absurd h

pub three_given : (vs : List Value) (a b d : ℕ) → HasTypes vs (types.I32 ∷ types.I32 ∷ types.I32 ∷ []) → a ≡ number_of (get_or vs 0 (I32 0)) → b ≡ number_of (get_or vs 1 (I32 0)) → d ≡ number_of (get_or vs 2 (I32 0)) → vs ≡ I32 a ∷ I32 b ∷ I32 d ∷ []
three_given (v ∷ vs) a b d h e f g = ap (λ (x : Value). x ∷ vs) (as_number v a h.0 e) ∙ ap (λ (xs : List Value). I32 a ∷ xs) (two_given vs b d h.1 f g)
three_given [] a b d h e f g = absurd h

long_then : (vs : List Value) (b d : ℕ) → HasTypes vs (types.I64 ∷ types.I32 ∷ []) → b ≡ long_of (get_or vs 0 (I32 0)) → d ≡ number_of (get_or vs 1 (I32 0)) → vs ≡ I64 b ∷ I32 d ∷ []
long_then (v ∷ vs) b d h e f = ap (λ (x : Value). x ∷ vs) (as_long v b h.0 e) ∙ ap (λ (xs : List Value). I64 b ∷ xs) (one_given vs d h.1 f)
long_then [] b d h e f = absurd h

pub with_long_given : (vs : List Value) (a b d : ℕ) → HasTypes vs (types.I32 ∷ types.I64 ∷ types.I32 ∷ []) → a ≡ number_of (get_or vs 0 (I32 0)) → b ≡ long_of (get_or vs 1 (I32 0)) → d ≡ number_of (get_or vs 2 (I32 0)) → vs ≡ I32 a ∷ I64 b ∷ I32 d ∷ []
with_long_given (v ∷ vs) a b d h e f g = ap (λ (x : Value). x ∷ vs) (as_number v a h.0 e) ∙ ap (λ (xs : List Value). I32 a ∷ xs) (long_then vs b d h.1 f g)
with_long_given [] a b d h e f g = absurd h
