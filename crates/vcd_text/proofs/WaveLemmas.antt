-- The parts of a wave, one more at a time.
use Rattle.std.proofs.Common.{◌≡◌, ◌<◌, ◌≤◌, ◌+◌, ◌-◌, ℕ, zero, suc, true, inl, inr, eq-eqb, List, [], ◌∷◌, ◌++◌, ◌==◌, length, get_or, take, drop, map, set, if◌then◌else◌, refl, ap, sym, ◌∙◌, add-one, arith}
use Rattle.std.proofs.lemmas.Bool.{cases_lt}
use Rattle.std.proofs.lemmas.List.{append_assoc, drop_more, drop_all, take_more, take_more_set, take_all, get_or-map, length-map}
use Rattle.vcd_text.specs.Buffers.{BufferState}
use Rattle.text_model.specs.Wave.{Variable, declaration, declarations, value_line, value_lines, changes, change_count}

pub state_is : (s : BufferState) (t : List ℕ) (r : ℕ) → s.text ≡ t → s.room ≡ r → s ≡ record { text = t; room = r }
state_is s t r p q = rw (← p, ← q) refl

pub declarations_more : (text : List ℕ) (i : ℕ) (vs : List Variable) (d : Variable) → i < length vs →
    text ++ declarations i (drop i vs) ≡ (text ++ declaration i (get_or vs i d)) ++ declarations (i + 1) (drop (i + 1) vs)
unfolding declarations
declarations_more text i vs d p =
    rw (drop_more vs i d p, add-one i) (sym (append_assoc text (declaration i (get_or vs i d)) (declarations (suc i) (drop (suc i) vs))))

pub no_declarations : (i : ℕ) (vs : List Variable) → length vs ≤ i → declarations i (drop i vs) ≡ []
unfolding declarations
no_declarations i vs p = rw (drop_all i vs p) refl

pub values_more : (text : List ℕ) (i : ℕ) (vs : List ℕ) → i < length vs →
    text ++ value_lines i (drop i vs) ≡ (text ++ value_line i (get_or vs i 0)) ++ value_lines (i + 1) (drop (i + 1) vs)
unfolding value_lines
values_more text i vs p =
    rw (drop_more vs i 0 p, add-one i) (sym (append_assoc text (value_line i (get_or vs i 0)) (value_lines (suc i) (drop (suc i) vs))))

pub no_values : (i : ℕ) (vs : List ℕ) → length vs ≤ i → value_lines i (drop i vs) ≡ []
unfolding value_lines
no_values i vs p = rw (drop_all i vs p) refl

pub changes_more : (text : List ℕ) (i : ℕ) (old new : List ℕ) → i < length old → i < length new →
    text ++ changes i (drop i old) (drop i new) ≡ (text ++ (if get_or old i 0 == get_or new i 0 then [] else value_line i (get_or new i 0))) ++ changes (i + 1) (drop (i + 1) old) (drop (i + 1) new)
unfolding changes
changes_more text i old new p q =
    rw (drop_more old i 0 p, drop_more new i 0 q, add-one i) (sym (append_assoc text (if get_or old i 0 == get_or new i 0 then [] else value_line i (get_or new i 0)) (changes (suc i) (drop (suc i) old) (drop (suc i) new))))

pub no_changes : (i : ℕ) (old new : List ℕ) → length new ≤ i → changes i (drop i old) (drop i new) ≡ []
unfolding changes
no_changes i old new p = rw (drop_all i new p) refl

pub count_more : (i : ℕ) (old new : List ℕ) → i < length old → i < length new →
    change_count (drop i old) (drop i new) ≡ (if get_or old i 0 == get_or new i 0 then 0 else 1) + change_count (drop (i + 1) old) (drop (i + 1) new)
unfolding change_count
count_more i old new p q = rw (drop_more old i 0 p, drop_more new i 0 q, add-one i) refl

pub no_count : (i : ℕ) (old new : List ℕ) → length new ≤ i → change_count (drop i old) (drop i new) ≡ 0
unfolding change_count
no_count i old new p = rw (drop_all i new p) refl

-- items that are the same are passed over
changes_far : (d i : ℕ) (old new : List ℕ) → length old ≡ length new → ((k : ℕ) → i ≤ k → k < i + d → get_or old k 0 ≡ get_or new k 0) →
    changes i (drop i old) (drop i new) ≡ changes (i + d) (drop (i + d) old) (drop (i + d) new)
changes_far zero i old new long same = let e : i ≡ i + 0 = omega arith in ap (λ (j : ℕ). changes j (drop j old) (drop j new)) e
changes_far (suc d) i old new long same = elim (cases_lt i (length old)) [
  | inl less ↦
      let here : get_or old i 0 ≡ get_or new i 0 = same i (omega arith) (omega arith) in
      let on : (get_or old i 0 == get_or new i 0) ≡ true = eq-eqb (get_or old i 0) (get_or new i 0) here in
      let none : (if get_or old i 0 == get_or new i 0 then [] else value_line i (get_or new i 0)) ≡ [] = rw on refl in
      let e : i + 1 + d ≡ i + suc d = omega arith in
      changes_more [] i old new less (omega (arith, less, long))
      ∙ ap (λ (l : List ℕ). l ++ changes (i + 1) (drop (i + 1) old) (drop (i + 1) new)) none
      ∙ changes_far d (i + 1) old new long (λ k from to. same k (omega (arith, from)) (omega (arith, to)))
      ∙ ap (λ (j : ℕ). changes j (drop j old) (drop j new)) e
  | inr past ↦ no_changes i old new (omega (arith, past, long)) ∙ sym (no_changes (i + suc d) old new (omega (arith, past, long)))
]

count_far : (d i : ℕ) (old new : List ℕ) → length old ≡ length new → ((k : ℕ) → i ≤ k → k < i + d → get_or old k 0 ≡ get_or new k 0) →
    change_count (drop i old) (drop i new) ≡ change_count (drop (i + d) old) (drop (i + d) new)
count_far zero i old new long same = let e : i ≡ i + 0 = omega arith in ap (λ (j : ℕ). change_count (drop j old) (drop j new)) e
count_far (suc d) i old new long same = elim (cases_lt i (length old)) [
  | inl less ↦
      let here : get_or old i 0 ≡ get_or new i 0 = same i (omega arith) (omega arith) in
      let on : (get_or old i 0 == get_or new i 0) ≡ true = eq-eqb (get_or old i 0) (get_or new i 0) here in
      let none : ◌≡◌ {A = ℕ} (if get_or old i 0 == get_or new i 0 then 0 else 1) 0 = rw on refl in
      let e : i + 1 + d ≡ i + suc d = omega arith in
      let one = count_more i old new less (omega (arith, less, long)) in
      let rest = count_far d (i + 1) old new long (λ k from to. same k (omega (arith, from)) (omega (arith, to)))
      ∙ ap (λ (j : ℕ). change_count (drop j old) (drop j new)) e in
      omega (arith, one, none, rest)
  | inr past ↦ no_count i old new (omega (arith, past, long)) ∙ sym (no_count (i + suc d) old new (omega (arith, past, long)))
]

pub changes_to : (i j : ℕ) (old new : List ℕ) → i ≤ j → length old ≡ length new → ((k : ℕ) → i ≤ k → k < j → get_or old k 0 ≡ get_or new k 0) →
    changes i (drop i old) (drop i new) ≡ changes j (drop j old) (drop j new)
changes_to i j old new order long same =
    let e : i + (j - i) ≡ j = omega (arith, order) in
    changes_far (j - i) i old new long (λ k from to. same k from (omega (arith, to, order))) ∙ ap (λ (m : ℕ). changes m (drop m old) (drop m new)) e

pub count_to : (i j : ℕ) (old new : List ℕ) → i ≤ j → length old ≡ length new → ((k : ℕ) → i ≤ k → k < j → get_or old k 0 ≡ get_or new k 0) →
    change_count (drop i old) (drop i new) ≡ change_count (drop j old) (drop j new)
count_to i j old new order long same =
    let e : i + (j - i) ≡ j = omega (arith, order) in
    count_far (j - i) i old new long (λ k from to. same k from (omega (arith, to, order))) ∙ ap (λ (m : ℕ). change_count (drop m old) (drop m new)) e

-- lists of the same items are the same
pub same_items : (xs ys : List ℕ) → length xs ≡ length ys → ((k : ℕ) → k < length xs → get_or xs k 0 ≡ get_or ys k 0) → xs ≡ ys
same_items [] [] long same = refl
same_items [] (y ∷ ys) long same = absurd (omega (arith, long))
same_items (x ∷ xs) [] long same = absurd (omega (arith, long))
same_items (x ∷ xs) (y ∷ ys) long same =
    let a : x ≡ y = same 0 (omega arith) in
    let b : xs ≡ ys = same_items xs ys (omega (arith, long)) (λ k less. same (suc k) (omega (arith, less))) in
    cc

pub declarations_next : (text : List ℕ) (i : ℕ) (vs : List Variable) (d : Variable) → i < length vs → d ≡ get_or vs i d →
    text ++ declarations i (drop i vs) ≡ (text ++ declaration i d) ++ declarations (i + 1) (drop (i + 1) vs)
declarations_next text i vs d p e =
    declarations_more text i vs d p ∙ ap (λ (v : Variable). (text ++ declaration i v) ++ declarations (i + 1) (drop (i + 1) vs)) (sym e)

-- five texts, one behind the other
pub five_pushed : (a b c d e f p q r s t : List ℕ) → b ≡ a ++ p → c ≡ b ++ q → d ≡ c ++ r → e ≡ d ++ s → f ≡ e ++ t → f ≡ a ++ (p ++ q ++ r ++ s ++ t)
five_pushed a b c d e f p q r s t h1 h2 h3 h4 h5 = rw (h5, h4, h3, h2, h1) (simp append_assoc)

pub three_pushed : (a b c d p q r : List ℕ) → b ≡ a ++ p → c ≡ b ++ q → d ≡ c ++ r → d ≡ a ++ (p ++ q ++ r)
three_pushed a b c d p q r h1 h2 h3 = rw (h3, h2, h1) (simp append_assoc)

-- an item of a list that is made by two functions
pub get_made : {A B : Type 0} (g : A → B) (f : B → ℕ) (xs : List A) (i : ℕ) (x : A) → i < length xs → x ≡ get_or xs i x → get_or (map f (map g xs)) i 0 ≡ f (g x)
get_made g f xs i x p e =
    let q : i < length (map g xs) = omega (arith, length-map xs g) in
    get_or-map f (map g xs) i (g x) 0 q ∙ ap f (get_or-map g xs i x (g x) p ∙ ap g (sym e))

-- an item of such a list, by its place alone
pub made_at : {A B : Type 0} (g : A → B) (f : B → ℕ) (xs : List A) (i : ℕ) (d : A) → i < length xs → get_or (map f (map g xs)) i 0 ≡ f (g (get_or xs i d))
made_at g f xs i d p =
    let q : i < length (map g xs) = omega (arith, p, length-map xs g) in
    get_or-map f (map g xs) i (g d) 0 q ∙ ap f (get_or-map g xs i d (g d) p)

pub made_long : {A B : Type 0} (g : A → B) (f : B → ℕ) (xs : List A) → length (map f (map g xs)) ≡ length xs
made_long g f xs = length-map (map g xs) f ∙ length-map xs g

-- one more place is filled
pub filled_more : {A B : Type 0} (g : A → B) (f : B → ℕ) (xs : List A) (now : List ℕ) (i : ℕ) (x : A) (y : ℕ) → i < length xs → i < length now → x ≡ get_or xs i x → y ≡ f (g x) →
    take i now ≡ take i (map f (map g xs)) → take (i + 1) (set now i y) ≡ take (i + 1) (map f (map g xs))
filled_more g f xs now i x y p q e v same =
    let r : i < length (map f (map g xs)) = omega (arith, length-map (map g xs) f, length-map xs g) in
    take_more_set now i y q
    ∙ ap (λ (l : List ℕ). l ++ y ∷ []) same
    ∙ ap (λ (z : ℕ). take i (map f (map g xs)) ++ z ∷ []) (v ∙ sym (get_made g f xs i x p e))
    ∙ sym (take_more (map f (map g xs)) i 0 r)

-- all places are filled
pub filled_all : {A B : Type 0} (g : A → B) (f : B → ℕ) (xs : List A) (now : List ℕ) (i : ℕ) → length xs ≤ i → length now ≤ i →
    take i now ≡ take i (map f (map g xs)) → now ≡ map f (map g xs)
filled_all g f xs now i p q same =
    let r : length (map f (map g xs)) ≤ i = omega (arith, length-map (map g xs) f, length-map xs g) in
    sym (take_all i now q) ∙ same ∙ take_all i (map f (map g xs)) r
