-- The words and files of a list, one after the other.
use Rattle.std.specs.Prelude.{ℕ, zero, suc, ◌-◌, ◌<◌, Bool, true, false, if◌then◌else◌, List, [], ◌∷◌, length, Option, Some, None, ◌≡◌}
use Rattle.std.proofs.Common.{ap, sym, ◌∙◌, arith, refl}
use Rattle.std.specs.Option.{option_and_then, option_map, is_some}
use Rattle.std.specs.Str.{IsUtf8, is_utf8}
use Rattle.std.proofs.lemmas.Str.{is_utf8-from_IsUtf8, IsUtf8-from_is_utf8}
use Rattle.web_call.specs.Blocks.{first_block}
use Rattle.web_call.specs.Entries.{Listed, Given, first_text, first_entry, entries_from, with_entry, with_entries}

-- a block that is a text, and one that is none
pub text_found : (list bytes rest text : List ℕ) → first_block list ≡ Some (bytes, rest) → text ≡ bytes → IsUtf8 bytes → first_text list ≡ Some (text, rest)
text_found list bytes rest text b t u =
    ap (option_and_then (λ b. if is_utf8 b.0 then Some b else None)) b
    ∙ ap (λ y. if y then Some (bytes, rest) else None) (is_utf8-from_IsUtf8 bytes u)
    ∙ ap (λ x. Some (x, rest)) (sym t)

pub no_text : (list bytes rest : List ℕ) → first_block list ≡ Some (bytes, rest) → (IsUtf8 bytes → ⊥) → first_text list ≡ None
no_text list bytes rest b n =
    elim (is_utf8 bytes) as (λ y. is_utf8 bytes ≡ y → first_text list ≡ None) [
      | true ↦ λ e. absurd (n (IsUtf8-from_is_utf8 bytes e))
      | false ↦ λ e. ap (option_and_then (λ b. if is_utf8 b.0 then Some b else None)) b ∙ ap (λ y. if y then Some (bytes, rest) else None) e
    ] refl

is_some-map : {X Y : Type 0} (f : X → Y) (o : Option X) → is_some (option_map f o) ≡ is_some o
is_some-map f None = refl
is_some-map f (Some x) = refl

-- what is left is a list where the whole is
pub goes_on : (left : ℕ) (list : List ℕ) (e : Listed) (rest : List ℕ)
    → 0 < left → first_entry list ≡ Some (e, rest)
    → is_some (entries_from left list) ≡ is_some (entries_from (left - 1) rest)
unfolding entries_from
goes_on zero list e rest low i = absurd (omega arith)
goes_on (suc most) [] e rest low i = grind (arith)
goes_on (suc most) (x ∷ xs) e rest low i =
    let less : most ≡ suc most - 1 = omega arith in
    ap (λ o. is_some (option_and_then (λ e. option_map (λ es. e.0 ∷ es) (entries_from most e.1)) o)) i
    ∙ is_some-map (λ es. e ∷ es) (entries_from most rest)
    ∙ ap (λ m. is_some (entries_from m rest)) less

first_taken : (g : Given) (e : Listed) (o : Option (List Listed))
    → option_map (with_entries g) (option_map (λ es. e ∷ es) o) ≡ option_map (with_entries (with_entry g e)) o
unfolding with_entries
first_taken g e None = refl
first_taken g e (Some es) = refl

-- what is left gives with the first what the whole does
pub takes : (left : ℕ) (list : List ℕ) (g after : Given) (e : Listed) (rest : List ℕ)
    → 0 < left → first_entry list ≡ Some (e, rest) → after ≡ with_entry g e
    → option_map (with_entries g) (entries_from left list) ≡ option_map (with_entries after) (entries_from (left - 1) rest)
unfolding entries_from
takes zero list g after e rest low i w = absurd (omega arith)
takes (suc most) [] g after e rest low i w = grind (arith)
takes (suc most) (x ∷ xs) g after e rest low i w =
    let less : most ≡ suc most - 1 = omega arith in
    ap (λ o. option_map (with_entries g) (option_and_then (λ e. option_map (λ es. e.0 ∷ es) (entries_from most e.1)) o)) i
    ∙ first_taken g e (entries_from most rest)
    ∙ ap (λ n. option_map (with_entries n) (entries_from most rest)) (sym w)
    ∙ ap (λ m. option_map (with_entries after) (entries_from m rest)) less

-- where what is left begins with neither word nor file, it is no list
pub stops : (left : ℕ) (list : List ℕ) → 0 < length list → first_entry list ≡ None → entries_from left list ≡ None
unfolding entries_from
stops left [] some i = absurd (omega arith)
stops zero (x ∷ xs) some i = refl
stops (suc most) (x ∷ xs) some i = ap (λ o. option_and_then (λ e. option_map (λ es. e.0 ∷ es) (entries_from most e.1)) o) i

-- none has more entries than bytes
pub spent : (list : List ℕ) → 0 < length list → entries_from 0 list ≡ None
unfolding entries_from
spent [] some = absurd (omega arith)
spent (x ∷ xs) some = refl

ended : (left : ℕ) (list : List ℕ) → length list ≡ 0 → entries_from left list ≡ Some []
unfolding entries_from
ended zero [] e = refl
ended (suc most) [] e = refl
ended left (x ∷ xs) e = absurd (omega arith)

-- the end: all is a list, and all is taken
pub all_listed : (left : ℕ) (list : List ℕ) → length list ≡ 0 → is_some (entries_from left list) ≡ true
all_listed left list e = ap is_some (ended left list e)

pub all_taken : (left : ℕ) (list : List ℕ) (g : Given) → length list ≡ 0 → option_map (with_entries g) (entries_from left list) ≡ Some g
unfolding with_entries
all_taken left list g e = ap (option_map (with_entries g)) (ended left list e)
