-- The lines of a head, one by one.
use Rattle.std.proofs.Common.{◌≡◌, ◌<◌, ◌+◌, ℕ, suc, List, [], ◌∷◌, ◌++◌, length, Bool, true, false, not, ◌||◌, ◌==◌, if◌then◌else◌, Option, None, Some, Result, Ok, Err}
use Rattle.std.proofs.Common.{refl, ap, sym, arith, ◌∙◌}
use Rattle.std.specs.Prelude.{codes, nat_lt}
use Rattle.std.specs.List.{list_any, position, prefix_len}
use Rattle.std.specs.Str.{bytes_eq}
use Rattle.std.specs.Borrow.{Bor}
use Rattle.std.proofs.lemmas.Bool.{eq-eqb}
use Rattle.std.proofs.lemmas.List.{append_assoc, append-nil, map-append}
use Rattle.sim_base.proofs.BoolLemmas.{not_swap}
use Rattle.sim_base.specs.declared.fault.Refusal.{Refusal}
use Rattle.sim_base.specs.declared.fault.Place.TheVariants as places
use Rattle.sim_refusals.specs.Refusals.{WaveHead}
use Rattle.text_model.specs.Wave.{Variable, declaration, declarations, id_of}
use Rattle.wave_lines.specs.Reading.{behind, ended_lines, line_count}
use Rattle.wave_decode.specs.Head.{as_net, declared_line, first_name, head_behind, head_of_names, head_with, last_lines, names_from, nets, next_name, with_name}
use Rattle.wave_decode.specs.Names.{Found, texts_in}

-- ---- how many lines

count_more : (k c : ℕ) (b : Bool) → (if b then suc k else k) + c ≡ k + ((if b then 1 else 0) + c)
count_more k c true = omega arith
count_more k c false = omega arith

-- a text that begins as it has to
pub behind_passed : (k : ℕ) (a h t : List ℕ) → behind k (a ++ h) (a ++ t) ≡ behind (k + line_count a) h t
unfolding behind line_count
behind_passed k [] h t = let e : k ≡ k + 0 = omega arith in ap (λ (j : ℕ). behind j h t) e
behind_passed k (b ∷ a) h t =
    ap (λ (c : Bool). if c then behind (if b == 10 then suc k else k) (a ++ h) (a ++ t) else Err (record { number = WaveHead; place = places.Line k })) (eq-eqb b b refl)
    ∙ behind_passed (if b == 10 then suc k else k) a h t
    ∙ ap (λ (j : ℕ). behind j h t) (count_more k (line_count a) (b == 10))

count_both : (a b : List ℕ) → line_count (a ++ b) ≡ line_count a + line_count b
unfolding line_count
count_both [] b = omega arith
count_both (x ∷ a) b = let more = count_both a b in omega (arith, more)

count_end : line_count (10 ∷ []) ≡ 1
unfolding line_count
count_end = refl

-- ---- declarations

declaration_line : (i : ℕ) (name : List ℕ) → declaration i (as_net name) ≡ declared_line i name ++ 10 ∷ []
declaration_line i name = sym (append_assoc (codes "$var wire 1 " ++ id_of i ++ codes " " ++ name) (codes " $end") (10 ∷ []))

declarations_push : (i : ℕ) (vs : List Variable) (v : Variable) → declarations i (vs ++ v ∷ []) ≡ declarations i vs ++ declaration (i + length vs) v
unfolding declarations
declarations_push i [] v = let e : i ≡ i + 0 = omega arith in append-nil (declaration i v) ∙ ap (λ (j : ℕ). declaration j v) e
declarations_push i (w ∷ vs) v =
    let e : suc i + length vs ≡ i + suc (length vs) = omega arith in
    ap (λ (l : List ℕ). declaration i w ++ l) (declarations_push (suc i) vs v ∙ ap (λ (j : ℕ). declarations (suc i) vs ++ declaration j v) e)
    ∙ sym (append_assoc (declaration i w) (declarations (suc i) vs) (declaration (i + length (w ∷ vs)) v))

nets_long : (names : List (List ℕ)) → length (nets names) ≡ length names
nets_long [] = refl
nets_long (name ∷ names) = ap suc (nets_long names)

module _ (names : List (List ℕ)) (name : List ℕ) where
  abbrev all : List ℕ
  all = declarations 0 (nets names)

  pub declared_more : declarations 0 (nets (names ++ name ∷ [])) ≡ all ++ (declared_line (length names) name ++ 10 ∷ [])
  declared_more =
      let e : 0 + length (nets names) ≡ length names = omega (arith, nets_long names) in
      ap (declarations 0) (map-append as_net names (name ∷ []))
      ∙ declarations_push 0 (nets names) (as_net name)
      ∙ ap (λ (j : ℕ). all ++ declaration j (as_net name)) e
      ∙ ap (λ (l : List ℕ). all ++ l) (declaration_line (length names) name)

  -- the line that declares it as variable i
  module _ (i : ℕ) (at : i ≡ length names) where
    pub counted_more : line_count (declared_line i name) ≡ 0 → line_count (declarations 0 (nets (names ++ name ∷ []))) ≡ line_count all + 1
    counted_more none =
        let whole = ap line_count declared_more in
        let both = count_both all (declared_line (length names) name ++ 10 ∷ []) in
        let line = count_both (declared_line (length names) name) (10 ∷ []) in
        let same = ap (λ (j : ℕ). line_count (declared_line j name)) at in
        omega (arith, whole, both, line, none, same, count_end)

    pub text_more : (whole rest more : List ℕ) → whole ≡ all ++ rest → rest ≡ declared_line i name ++ 10 ∷ more →
        whole ≡ declarations 0 (nets (names ++ name ∷ [])) ++ more
    text_more whole rest more e f =
        e ∙ ap (λ (l : List ℕ). all ++ l) (f ∙ ap (λ (j : ℕ). declared_line j name ++ 10 ∷ more) at
        ∙ sym (append_assoc (declared_line (length names) name) (10 ∷ []) more))
        ∙ sym (append_assoc all (declared_line (length names) name ++ 10 ∷ []) more)
        ∙ ap (λ (l : List ℕ). l ++ more) (sym declared_more)

    module _ (lines more : List (List ℕ)) (some : first_name i lines ≡ Some name) (ended : lines ≡ declared_line i name ∷ more) where
      name_is : next_name (length names) (declared_line i name) ≡ Some name
      name_is = ap (λ (j : ℕ). next_name j (declared_line i name)) (sym at) ∙ sym (ap (first_name i) ended) ∙ some

      step : (b : Bool) → list_any (bytes_eq name) names ≡ b → names_from names lines ≡ (if b then names else names_from (names ++ name ∷ []) more)
      unfolding names_from
      step b e =
          ap (names_from names) ended
          ∙ ap (λ (o : Option (List ℕ)). with_name names o (λ (names : List (List ℕ)). names_from names more)) name_is
          ∙ ap (λ (c : Bool). if c then names else names_from (names ++ name ∷ []) more) e

      -- a name that none before is
      pub name_new : list_any (bytes_eq name) names ≡ false → names_from names lines ≡ names_from (names ++ name ∷ []) more
      name_new = step false

      -- a name that is there
      pub name_old : list_any (bytes_eq name) names ≡ true → names_from names lines ≡ names
      name_old = step true

-- no name more
done_at : (names lines : List (List ℕ)) → first_name (length names) lines ≡ None → names_from names lines ≡ names
unfolding names_from
done_at names [] none = refl
done_at names (line ∷ lines) none = ap (λ (o : Option (List ℕ)). with_name names o (λ (names : List (List ℕ)). names_from names lines)) none

pub names_done : (names : List (List ℕ)) (i : ℕ) → i ≡ length names → (lines : List (List ℕ)) → first_name i lines ≡ None → names_from names lines ≡ names
names_done names i at lines none = done_at names lines (ap (λ (j : ℕ). first_name j lines) (sym at) ∙ none)

-- a declaration where the head's end has to be
pub no_end : (k i : ℕ) (name rest more : List ℕ) → rest ≡ declared_line i name ++ 10 ∷ more → behind k last_lines rest ≡ Err
    (record { number = WaveHead; place = places.Line k })
unfolding behind
no_end k i name rest more e = ap (behind k last_lines) e

-- ---- the head

some_head : (k : ℕ) (text : List ℕ) (names : List (List ℕ)) → 0 < length names →
    head_of_names k text names ≡ head_with names (behind k (declarations 0 (nets names) ++ last_lines) text)
some_head k text [] some = absurd (omega (arith, some))
some_head k text (name ∷ names) some = refl

no_head : (k : ℕ) (text : List ℕ) (names : List (List ℕ)) → length names ≡ 0 → head_of_names k text names ≡ Err (record { number = WaveHead; place = places.Line k })
no_head k text [] none = refl
no_head k text (name ∷ names) none = absurd (omega (arith, none))

none_counted : (k : ℕ) (names : List (List ℕ)) → length names ≡ 0 → k + line_count (declarations 0 (nets names)) ≡ k
unfolding declarations line_count
none_counted k [] none = omega arith
none_counted k (name ∷ names) none = absurd (omega (arith, none))

module _ (k : ℕ) (text : List ℕ) (names : List (List ℕ)) (number : ℕ) (rest : List ℕ) (all_names : names_from [] (ended_lines text) ≡ names)
    (whole : text ≡ declarations 0 (nets names) ++ rest) (counted : number ≡ k + line_count (declarations 0 (nets names))) where
  pub head_is : 0 < length names → head_behind (Ok (k, text)) ≡ head_with names (behind number last_lines rest)
  head_is some =
      ap (head_of_names k text) all_names ∙ some_head k text names some
      ∙ ap (head_with names) (ap (behind k (declarations 0 (nets names) ++ last_lines)) whole
      ∙ behind_passed k (declarations 0 (nets names)) last_lines rest
      ∙ ap (λ (j : ℕ). behind j last_lines rest) (sym counted))

  -- a head without variables
  pub head_lacks : length names ≡ 0 → head_behind (Ok (k, text)) ≡ Err (record { number = WaveHead; place = places.Line number })
  head_lacks none =
      ap (head_of_names k text) all_names ∙ no_head k text names none
      ∙ ap (λ (j : ℕ). Err (record { number = WaveHead; place = places.Line j })) (sym (counted ∙ none_counted k names none))

-- ---- names that are lent

any_text : (test : List ℕ → Bool) (keys : List (Bor (List ℕ))) → list_any test (texts_in keys) ≡ list_any (λ (k : Bor (List ℕ)). test k.now) keys
any_text test [] = refl
any_text test (k ∷ keys) = ap (λ (b : Bool). test k.now || b) (any_text test keys)

prefix_text : (test : List ℕ → Bool) (keys : List (Bor (List ℕ))) → prefix_len test (texts_in keys) ≡ prefix_len (λ (k : Bor (List ℕ)). test k.now) keys
prefix_text test [] = refl
prefix_text test (k ∷ keys) = ap (λ (n : ℕ). if test k.now then 1 + n else 0) (prefix_text test keys)

pub texts_long : (keys : List (Bor (List ℕ))) → length (texts_in keys) ≡ length keys
texts_long [] = refl
texts_long (k ∷ keys) = ap suc (texts_long keys)

pub position_text : (test : List ℕ → Bool) (keys : List (Bor (List ℕ))) → position (λ (k : Bor (List ℕ)). test k.now) keys ≡ position test (texts_in keys)
position_text test keys =
    ap (λ (n : ℕ). if nat_lt n (length keys) then Some n else None) (sym (prefix_text (λ (l : List ℕ). not (test l)) keys))
    ∙ ap (λ (m : ℕ). (let n : ℕ = prefix_len (λ (l : List ℕ). not (test l)) (texts_in keys) in if nat_lt n m then Some n else None)) (sym (texts_long keys))

module _ (bytes : Bor (List ℕ)) (seen : List (Bor (List ℕ))) (fresh : Bool) (known : fresh ≡ not (list_any (λ (k : Bor (List ℕ)). bytes_eq bytes.now k.now) seen)) where
  pub among : list_any (bytes_eq bytes.now) (texts_in seen) ≡ not fresh
  among = any_text (bytes_eq bytes.now) seen ∙ not_swap (list_any (λ (k : Bor (List ℕ)). bytes_eq bytes.now k.now) seen) fresh known

  pub added : (after : List (Bor (List ℕ))) → fresh ≡ true → after ≡ (if list_any (λ (k : Bor (List ℕ)). bytes_eq bytes.now k.now) seen then seen else seen ++ bytes ∷ []) →
      texts_in after ≡ texts_in seen ++ bytes.now ∷ []
  added after new kept =
      let none : list_any (λ (k : Bor (List ℕ)). bytes_eq bytes.now k.now) seen ≡ false = not_swap _ fresh known ∙ ap not new in
      ap texts_in (kept ∙ ap (λ (b : Bool). if b then seen else seen ++ bytes ∷ []) none) ∙ map-append (λ (k : Bor (List ℕ)). k.now) seen (bytes ∷ [])

-- before the first name
pub none_declared : (names : List (List ℕ)) (rest : List ℕ) → names ≡ [] → rest ≡ declarations 0 (nets names) ++ rest
unfolding declarations
none_declared names rest none = ap (λ (l : List (List ℕ)). declarations 0 (nets l) ++ rest) (sym none)

pub count_none : (k : ℕ) (names : List (List ℕ)) → names ≡ [] → k ≡ k + line_count (declarations 0 (nets names))
count_none k names none = sym (none_counted k names (ap (λ (l : List (List ℕ)). length l) none))

pub no_texts : (keys : List (Bor (List ℕ))) → length keys ≡ 0 → texts_in keys ≡ []
no_texts [] none = refl
no_texts (k ∷ keys) none = absurd (omega (arith, none))

pub some_of : (test : List ℕ → Bool) (names : List (List ℕ)) → list_any test names ≡ true → 0 < length names
some_of test [] is = absurd cc
some_of test (name ∷ names) is = omega arith

pub found_is : (v w : ℕ) (a b : Option ℕ) (c d : Option (Option ℕ)) (number : ℕ) (rest : List ℕ) → v ≡ w → a ≡ b → c ≡ d →
    ◌≡◌ {A = Result Found Refusal} (Ok (record { variables = v; first = a; second = c; number = number; rest = rest }))
    (Ok (record { variables = w; first = b; second = d; number = number; rest = rest }))
found_is v w a b c d number rest e f g = ap (λ (x : ℕ). made x a c) e ∙ ap (λ (x : Option ℕ). made w x c) f ∙ ap (λ (x : Option (Option ℕ)). made w b x) g
  where
    made : ℕ → Option ℕ → Option (Option ℕ) → Result Found Refusal
    made x y z = Ok (record { variables = x; first = y; second = z; number = number; rest = rest })
