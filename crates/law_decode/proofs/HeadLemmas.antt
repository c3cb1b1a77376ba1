-- The head that a run writes is read as its names.
use Rattle.std.proofs.Common.{◌≡◌, ◌<◌, ◌≤◌, ◌+◌, ◌-◌, ◌/◌, ◌%◌, ◌==◌, ℕ, suc, List, [], ◌∷◌, ◌++◌, length, length-append, take, drop, Bool, true, false, not, ◌&&◌}
use Rattle.std.proofs.Common.{if◌then◌else◌, inl, inr, None, Some, Ok, refl, ap, sym, ◌∙◌, arith}
use Rattle.std.specs.Prelude.{codes, nat_lt}
use Rattle.std.specs.List.{list_all, list_any}
use Rattle.std.specs.Str.{bytes_eq}
use Rattle.std.proofs.Math.Seq.{take-append_seam, drop-append_seam}
use Rattle.std.proofs.lemmas.Bool.Decides.{nat_tests}
use Rattle.std.proofs.lemmas.Bool.{and_parts, cases_lt, leb-true, lt-ltb, ne_eqb, not-true, or_from}
use Rattle.std.proofs.lemmas.List.{append_assoc, append-nil}
use Rattle.std.proofs.lemmas.List.Folds.{list_any-append}
use Rattle.std.proofs.lemmas.Slice.Eq.{bytes_eq-Decides}
use Rattle.text_model.specs.Wave.{Variable, declaration, declarations, first_printable, head, id_of, printable}
use Rattle.wave_lines.specs.Reading.{behind, ended_lines, is_printable, line_count}
use Rattle.wave_lines.proofs.TextLemmas.{IsUnbroken, ended_at}
use Rattle.wave_decode.specs.Head.{declared_line, declared_name, first_lines, first_name, head_behind, head_of, head_with, is_name, last_lines, most_variables, name_in, name_start, names_from, nets, next_name}
use Rattle.wave_decode.proofs.HeadLemmas.{behind_passed, head_is, name_new, names_done}
use Rattle.law_wave.proofs.DigitLemmas.{by_test}
use Rattle.law_decode.specs.Named.{are_new, AreNamed, names_of}

-- ---- a declaration

-- what stands before a name
abbrev before : ℕ → List ℕ
before i = codes "$var wire 1 " ++ id_of i ++ codes " "

after_it : List ℕ
after_it = codes " $end"

starts_at : (i : ℕ) → name_start i ≡ length (before i)
starts_at i = elim (cases_lt i printable) [
  | inl less ↦
      ap (λ (b : Bool). if b then 14 else 15) (lt-ltb i printable less)
      ∙ sym (ap (λ (b : Bool). length (codes "$var wire 1 " ++ (if b then (first_printable + i) ∷ [] else long) ++ codes " ")) (lt-ltb i printable less))
  | inr least ↦
      ap (λ (b : Bool). if b then 14 else 15) (past i least)
      ∙ sym (ap (λ (b : Bool). length (codes "$var wire 1 " ++ (if b then (first_printable + i) ∷ [] else long) ++ codes " ")) (past i least))
]
  where
    long : List ℕ
    long = (first_printable + (i - printable) / printable) ∷ (first_printable + (i - printable) % printable) ∷ []

    past : (i : ℕ) → printable ≤ i → nat_lt i printable ≡ false
    past i least = grind (arith, nat_tests, least)

cut_out : (pre name : List ℕ) → take (length ((pre ++ name) ++ codes " $end") - 5 - length pre) (drop (length pre) ((pre ++ name) ++ codes " $end")) ≡ name
cut_out pre name =
    let long = length-append (pre ++ name) (codes " $end") in
    let both = length-append pre name in
    let end : length (codes " $end") ≡ 5 = refl in
    let many : length ((pre ++ name) ++ codes " $end") - 5 - length pre ≡ length name = omega (arith, long, both, end) in
    ap (λ (n : ℕ). take n (drop (length pre) ((pre ++ name) ++ codes " $end"))) many
    ∙ ap (λ (l : List ℕ). take (length name) l) (ap (drop (length pre)) (append_assoc pre name (codes " $end")) ∙ drop-append_seam pre (name ++ codes " $end"))
    ∙ take-append_seam name (codes " $end")

name_back : (i : ℕ) (name : List ℕ) → name_in i (declared_line i name) ≡ name
name_back i name =
    ap (λ (s : ℕ). take (length (declared_line i name) - 5 - s) (drop s (declared_line i name))) (starts_at i)
    ∙ cut_out (before i) name

declared_back : (i : ℕ) (name : List ℕ) → is_name name ≡ true → declared_name i (declared_line i name) ≡ Some name
declared_back i name good =
    let same : bytes_eq (declared_line i name) (declared_line i name) ≡ true = (bytes_eq-Decides (declared_line i name) (declared_line i name)).1 refl in
    ap (λ (x : List ℕ). if is_name x && bytes_eq (declared_line i name) (declared_line i x) then Some x else None) (name_back i name)
    ∙ ap (λ (b : Bool). if b && bytes_eq (declared_line i name) (declared_line i name) then Some name else None) good
    ∙ ap (λ (b : Bool). if true && b then Some name else None) same

next_back : (i : ℕ) (name : List ℕ) → i < most_variables → is_name name ≡ true → next_name i (declared_line i name) ≡ Some name
next_back i name few good = ap (λ (b : Bool). if b then declared_name i (declared_line i name) else None) (lt-ltb i most_variables few) ∙ declared_back i name good

-- ---- it has no LF

abbrev has_lf : List ℕ → Bool
has_lf l = list_any (λ (b : ℕ). b == 10) l

none_in_both : (a b : List ℕ) → has_lf a ≡ false → has_lf b ≡ false → has_lf (a ++ b) ≡ false
none_in_both a b e f = list_any-append (λ (b : ℕ). b == 10) a b ∙ or_from (has_lf a) (has_lf b) e f

no_lf : (b : ℕ) → is_printable b ≡ true → (b == 10) ≡ false
no_lf b e =
    let low : 33 ≤ b = leb-true 33 b (and_parts _ _ e).0 in
    ne_eqb b 10 (λ e. omega (arith, low, e))

none_in_name : (name : List ℕ) → list_all is_printable name ≡ true → has_lf name ≡ false
none_in_name [] all = refl
none_in_name (b ∷ name) all =
    let both = and_parts (is_printable b) (list_all is_printable name) all in
    or_from (b == 10) (has_lf name) (no_lf b both.0) (none_in_name name both.1)

none_in_code : (i : ℕ) → has_lf (id_of i) ≡ false
none_in_code i = go (nat_lt i printable)
  where
    above : (c : ℕ) → (first_printable + c == 10) ≡ false
    above c = ne_eqb (first_printable + c) 10 (λ e. omega (arith, e))

    go : (b : Bool) → has_lf (if b then (first_printable + i) ∷ [] else (first_printable + (i - printable) / printable) ∷ (first_printable + (i - printable) % printable) ∷ []) ≡ false
    go true = or_from (first_printable + i == 10) false (above i) refl
    go false =
        or_from (first_printable + (i - printable) / printable == 10) _ (above ((i - printable) / printable))
        (or_from (first_printable + (i - printable) % printable == 10) false (above ((i - printable) % printable)) refl)

unbroken : (i : ℕ) (name : List ℕ) → is_name name ≡ true → IsUnbroken (declared_line i name)
unbroken i name good =
    let printed : list_all is_printable name ≡ true = (and_parts _ _ good).1 in
    by_test (declared_line i name)
    (none_in_both (before i ++ name) (codes " $end")
    (none_in_both (before i) name
    (none_in_both (codes "$var wire 1 " ++ id_of i) (codes " ") (none_in_both (codes "$var wire 1 ") (id_of i) refl (none_in_code i)) refl)
    (none_in_name name printed)) refl)

-- ---- the declarations

declared_names : (i : ℕ) (vs : List Variable) → declarations i (nets (names_of vs)) ≡ declarations i vs
unfolding declarations
declared_names i [] = refl
declared_names i (v ∷ vs) = ap (λ (l : List ℕ). declaration i v ++ l) (declared_names (suc i) vs)

-- the first line of the head's end declares nothing
no_more : (j : ℕ) → next_name j (codes "$upscope $end") ≡ None
no_more j = go (nat_lt j most_variables) (nat_lt j printable)
  where
    scope : List ℕ
    scope = codes "$upscope $end"

    go : (a b : Bool) → (let name : List ℕ = take (length scope - 5 - (if b then 14 else 15)) (drop (if b then 14 else 15) scope) in
        if a then (if is_name name && bytes_eq scope (declared_line j name) then Some name else None) else None) ≡ None
    go false b = refl
    go true true = refl
    go true false = refl

module _ (tail : List ℕ) where
  abbrev rest : List ℕ
  rest = last_lines ++ tail

  names_read : (vs : List Variable) (seen : List (List ℕ)) → are_new seen (names_of vs) ≡ true → list_all is_name (names_of vs) ≡ true →
      length seen + length vs ≤ most_variables → names_from seen (ended_lines (declarations (length seen) vs ++ rest)) ≡ seen ++ names_of vs
  unfolding declarations
  names_read [] seen new good few =
      let scope : List ℕ = codes "$upscope $end" in
      let more : List ℕ = codes "$enddefinitions $end\n" ++ tail in
      let ended : ended_lines rest ≡ scope ∷ ended_lines more = ended_at scope more (by_test scope refl) in
      names_done seen (length seen) refl (ended_lines rest) (ap (first_name (length seen)) ended ∙ no_more (length seen)) ∙ sym (append-nil seen)
  names_read (v ∷ vs) seen new good few =
      let i : ℕ = length seen in
      let name : List ℕ = v.name in
      let line : List ℕ = declared_line i name in
      let more : List ℕ = declarations (suc i) vs ++ rest in
      let fresh = and_parts (not (list_any (bytes_eq name) seen)) (are_new (seen ++ name ∷ []) (names_of vs)) new in
      let named = and_parts (is_name name) (list_all is_name (names_of vs)) good in
      let own : declaration i v ≡ line ++ 10 ∷ [] = sym (append_assoc (before i ++ name) (codes " $end") (10 ∷ [])) in
      let text : (declaration i v ++ declarations (suc i) vs) ++ rest ≡ line ++ 10 ∷ more =
      append_assoc (declaration i v) (declarations (suc i) vs) rest ∙ ap (λ (l : List ℕ). l ++ more) own ∙ append_assoc line (10 ∷ []) more in
      let ended : ended_lines ((declaration i v ++ declarations (suc i) vs) ++ rest) ≡ line ∷ ended_lines more = ap ended_lines text ∙ ended_at line more (unbroken i name named.0) in
      let next : first_name i (ended_lines ((declaration i v ++ declarations (suc i) vs) ++ rest)) ≡ Some name = ap (first_name i) ended ∙ next_back i name (omega (arith, few)) named.0 in
      let long : length (seen ++ name ∷ []) ≡ suc i = (let e = length-append seen (name ∷ []) in omega (arith, e)) in
      name_new seen name i refl (ended_lines ((declaration i v ++ declarations (suc i) vs) ++ rest)) (ended_lines more) next ended (not-true _ fresh.0)
      ∙ ap (λ (j : ℕ). names_from (seen ++ name ∷ []) (ended_lines (declarations j vs ++ rest))) (sym long)
      ∙ names_read vs (seen ++ name ∷ []) fresh.1 named.1 (omega (arith, few, long))
      ∙ append_assoc seen (name ∷ []) (names_of vs)

-- ---- the head

passed : (k : ℕ) (a t : List ℕ) → behind k a (a ++ t) ≡ Ok (k + line_count a, t)
unfolding behind
passed k a t = ap (λ (h : List ℕ). behind k h (a ++ t)) (sym (append-nil a)) ∙ behind_passed k a [] t

module _ (vs : List Variable) (named : AreNamed vs) (lines : List ℕ) where
  names_long : (vs : List Variable) → length (names_of vs) ≡ length vs
  names_long [] = refl
  names_long (v ∷ vs) = ap suc (names_long vs)

  abbrev body : List ℕ
  body = declarations 0 vs ++ (last_lines ++ lines)

  text_is : head vs ++ lines ≡ first_lines ++ body
  text_is =
      append_assoc (first_lines ++ declarations 0 vs) last_lines lines ∙ append_assoc first_lines (declarations 0 vs) (last_lines ++ lines)

  -- what a reader knows of the head
  pub head_read : (k : ℕ) × (head_of (head vs ++ lines) ≡ Ok (record { names = names_of vs; number = k; rest = lines }))
  head_read =
      let start : ℕ = 1 + line_count first_lines in
      let number : ℕ = start + line_count (declarations 0 (nets (names_of vs))) in
      let few : 0 + length vs ≤ most_variables = (let f = named.few in omega (arith, f)) in
      let found = names_read lines vs [] named.new named.good few in
      let whole : body ≡ declarations 0 (nets (names_of vs)) ++ (last_lines ++ lines) = ap (λ (l : List ℕ). l ++ (last_lines ++ lines)) (sym (declared_names 0 vs)) in
      let some : 0 < length (names_of vs) = (let e = names_long vs in let s = named.some in omega (arith, e, s)) in (
        number + line_count last_lines,
        ap head_of text_is
            ∙ ap head_behind (passed 1 first_lines body)
            ∙ head_is start body (names_of vs) number (last_lines ++ lines) found whole refl some
            ∙ ap (head_with (names_of vs)) (passed number last_lines lines),
      )

  -- and one who knows the variables
  pub head_known : (k : ℕ) × (behind 1 (head vs) (head vs ++ lines) ≡ Ok (k, lines))
  head_known = (1 + line_count (head vs), passed 1 (head vs) lines)
