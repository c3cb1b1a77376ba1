-- How clap reads a word by how it begins.
use Rattle.std.proofs.Common.{◌≡◌, ℕ, List, [], ◌∷◌, Bool, true, false, cond, ◌==◌, Some, None, refl, sym, subst, slice_get, bytes_eq, encode_utf8_all}
use Rattle.std.specs.Char.{encode_utf8}
use Rattle.std.specs.Str.{chars, is_utf8, chars_after, continuation_len, lead_bits}
use Rattle.std.proofs.lemmas.Bool.{eqb-true, and_parts}
use Rattle.clap.specs.Lexer.{long_of, short_of}
use Rattle.cli_words_model.specs.Words.{Text, Word, Positional, End, Named, Unknown, word_of, named, after_hyphen}

-- a text begins with a character
abbrev pub BeginsChar : Text → Type 0
BeginsChar text = (x : ℕ) × (slice_get (chars text) 0 ≡ Some x)

abbrev pub Lexed : Text → Word → Type 0
Lexed w Positional = (bytes_eq w (45 ∷ 45 ∷ []) ≡ false) × (long_of w ≡ None) × (short_of w ≡ None)
Lexed w End = w ≡ 45 ∷ 45 ∷ []
Lexed w (Named name value) = (bytes_eq w (45 ∷ 45 ∷ []) ≡ false) × (long_of w ≡ Some (name, value))
Lexed w Unknown = (bytes_eq w (45 ∷ 45 ∷ []) ≡ false) × (long_of w ≡ None) × ((x : ℕ) × (xs : Text) × (short_of w ≡ Some (x ∷ xs)) × BeginsChar (x ∷ xs))

-- what follows a hyphen in a text begins with a character
begins : (x : ℕ) (xs : Text) → is_utf8 (45 ∷ x ∷ xs) ≡ true → BeginsChar (x ∷ xs)
unfolding chars encode_utf8 is_utf8
begins x xs u = go (chars_after (continuation_len x) (lead_bits x) xs) (and_parts _ _ u).1
  where
    go : (cs : List ℕ) → bytes_eq (encode_utf8_all (45 ∷ cs)) (45 ∷ x ∷ xs) ≡ true → (y : ℕ) × (slice_get cs 0 ≡ Some y)
    go [] e = absurd (cc)
    go (c ∷ cs) e = (c, refl)

after_two : (rest : Text) → Lexed (45 ∷ 45 ∷ rest) (named rest)
after_two [] = refl
after_two (z ∷ zs) = (refl, refl)

after_one : (y : ℕ) (rest : Text) → is_utf8 (45 ∷ y ∷ rest) ≡ true → (b : Bool) → (y == 45) ≡ b → Lexed (45 ∷ y ∷ rest) (cond b (named rest) Unknown)
after_one y rest u true e = subst (λ (x : ℕ). Lexed (45 ∷ x ∷ rest) (named rest)) (sym (eqb-true y 45 e)) (after_two rest)
after_one y rest u false e = rw e (refl, refl, (y, rest, refl, begins y rest u))

one_byte : (x : ℕ) (b : Bool) → (x == 45) ≡ b → Lexed (x ∷ []) Positional
one_byte x true e = subst (λ (y : ℕ). Lexed (y ∷ []) Positional) (sym (eqb-true x 45 e)) (refl, refl, refl)
one_byte x false e = rw e (refl, refl, refl)

two_bytes : (x y : ℕ) (rest : Text) → is_utf8 (x ∷ y ∷ rest) ≡ true → (b : Bool) → (x == 45) ≡ b → Lexed (x ∷ y ∷ rest) (cond b (after_hyphen y rest) Positional)
two_bytes x y rest u true e =
    let is : x ≡ 45 = eqb-true x 45 e in
    subst (λ (z : ℕ). Lexed (z ∷ y ∷ rest) (after_hyphen y rest)) (sym is) (after_one y rest (subst (λ (z : ℕ). is_utf8 (z ∷ y ∷ rest) ≡ true) is u) (y == 45) refl)
two_bytes x y rest u false e = rw e (refl, refl, refl)

pub lexed : (w : Text) → is_utf8 w ≡ true → Lexed w (word_of w)
lexed [] u = (refl, refl, refl)
lexed (x ∷ []) u = one_byte x (x == 45) refl
lexed (x ∷ y ∷ rest) u = two_bytes x y rest u (x == 45) refl
