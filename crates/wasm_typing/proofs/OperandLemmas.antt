-- Loops over operands and labels.
use Rattle.std.proofs.Common.{◌≡◌, ℕ, zero, suc, ◌+◌, ◌-◌, ◌<◌, ◌≤◌, List, [], ◌∷◌, ◌++◌, length, map, get_or, take, drop, Option, Some, None, Bool, true, false, ◌&&◌, refl, sym, ap, ◌∙◌, arith, inl, inr, ◌⊎◌, ⊎_elim, nat_le}
use Rattle.std.proofs.lemmas.Bool.Decides.{leb_tells}
use Rattle.std.specs.Prelude.{slice_get, reverse, option_map, option_and_then, option_to_list}
use Rattle.std.proofs.lemmas.Option.{slice_get-map, slice_get-get_or, slice_get_past}
use Rattle.std.proofs.lemmas.List.{get_or-reverse, length-reverse, reverse-append}
use Rattle.wasm_code.specs.declared.types.ValType.{ValType}
use Rattle.wasm_typing.specs.Checking as checks
use Rattle.wasm_typing.specs.Checking.{Operand, Around, State, pop, pops, known, label_of, labels_of, has_label, all_have, is_same}
use Rattle.wasm_typing.specs.declared.open.Open.{Open}
use Rattle.wasm_typing.specs.Views.{frame_of, around_of, arounds, is_loop_form, Follows}

take_next : {X : Type 0} (xs : List X) (i : ℕ) (d : X) → i < length xs → take (i + 1) xs ≡ take i xs ++ get_or xs i d ∷ []
take_next [] i d lt = absurd (omega arith)
take_next (x ∷ xs) zero d lt = refl
take_next (x ∷ xs) (suc i) d lt =
    let e : suc i + 1 ≡ suc (i + 1) = omega arith in
    ap (λ (k : ℕ). take k (x ∷ xs)) e ∙ ap (λ zs. x ∷ zs) (take_next xs i d (omega arith))

last_first : (ws : List ValType) (n m : ℕ) (w : ValType) → n < length ws → m ≡ n + 1 → w ≡ get_or ws n w → reverse (take m ws) ≡ w ∷ reverse (take n ws)
last_first ws n m w lt em e =
    ap (λ (k : ℕ). reverse (take k ws)) em ∙ ap reverse (take_next ws n w lt ∙ ap (λ (x : ValType). take n ws ++ x ∷ []) (sym e)) ∙ reverse-append (take n ws) (w ∷ [])

-- one operand more of a list of wanted ones
pub pops_next : (ws : List ValType) (n m : ℕ) (w : ValType) (os rest : List Operand) (missing : Bool) → n < length ws → m ≡ n + 1 → w ≡ get_or ws n w → pop w os missing ≡ Some rest → pops (reverse (take m ws)) os missing ≡ pops (reverse (take n ws)) rest missing
pops_next ws n m w os rest missing lt em e p =
    ap (λ (x : List ValType). pops x os missing) (last_first ws n m w lt em e) ∙ ap (λ o. option_and_then (λ r. pops (reverse (take n ws)) r missing) o) p

pub pops_not : (ws : List ValType) (n m : ℕ) (w : ValType) (os : List Operand) (missing : Bool) → n < length ws → m ≡ n + 1 → w ≡ get_or ws n w → pop w os missing ≡ None → pops (reverse (take m ws)) os missing ≡ None
pops_not ws n m w os missing lt em e p =
    ap (λ (x : List ValType). pops x os missing) (last_first ws n m w lt em e) ∙ ap (λ o. option_and_then (λ r. pops (reverse (take n ws)) r missing) o) p

pub gives_next : (ws : List ValType) (n : ℕ) (w : ValType) (os new more : List Operand) → n < length ws → w ≡ get_or ws n w → os ≡ known (reverse (take n ws)) ++ new → more ≡ Some w ∷ os → more ≡ known (reverse (take (n + 1) ws)) ++ new
gives_next ws n w os new more lt e h m =
    m ∙ ap (λ (x : List Operand). Some w ∷ x) h ∙ ap (λ (x : List ValType). known x ++ new) (sym (last_first ws n (n + 1) w lt refl e))

-- ---- labels

abbrev pub label_at : Open → List ValType
label_at o = label_of (frame_of o.frame) (option_to_list o.result)

labels_map : (os : List Open) → labels_of (map around_of os) ≡ map label_at os
labels_map [] = refl
labels_map (o ∷ os) = ap (λ (ls : List (List ValType)). label_at o ∷ ls) (labels_map os)

pub label_is : (xs : List Open) (d : Open) (l : ℕ) → l < length xs → slice_get (labels_of (arounds xs)) l ≡ Some (label_at (get_or xs (length xs - 1 - l) d))
label_is xs d l lt =
    let in_reverse : l < length (reverse xs) = omega (arith, length-reverse xs) in
    ap (λ (ls : List (List ValType)). slice_get ls l) (labels_map (reverse xs)) ∙ slice_get-map label_at (reverse xs) l ∙ ap (λ (o : Option Open). option_map label_at o) (slice_get-get_or (reverse xs) l d in_reverse ∙ ap (λ (o : Open). Some o) (get_or-reverse xs l d lt))

pub label_past : (xs : List Open) (l : ℕ) → length xs ≤ l → slice_get (labels_of (arounds xs)) l ≡ None
label_past xs l le =
    ap (λ (ls : List (List ValType)). slice_get ls l) (labels_map (reverse xs)) ∙ slice_get-map label_at (reverse xs) l ∙ ap (λ (o : Option Open). option_map label_at o) (slice_get_past (reverse xs) l (omega (arith, length-reverse xs)))

-- a label of a loop, and of another block
pub loop_label : (f : checks.Frame) (r : Option ValType) → is_loop_form f ≡ true → label_of f (option_to_list r) ≡ []
loop_label checks.Block r e = absurd cc
loop_label checks.Loop r e = refl
loop_label checks.If r e = absurd cc
loop_label checks.Else r e = absurd cc

pub block_label : (f : checks.Frame) (r : Option ValType) → is_loop_form f ≡ false → label_of f (option_to_list r) ≡ option_to_list r
block_label checks.Block r e = refl
block_label checks.Loop r e = absurd cc
block_label checks.If r e = refl
block_label checks.Else r e = refl

pub label_here : (xs : List Open) (o : Open) (l n : ℕ) (rs : List ValType) → n ≡ length xs → l < n → o ≡ get_or xs (n - 1 - l) o → label_at o ≡ rs → slice_get (labels_of (arounds xs)) l ≡ Some rs
label_here xs o l n rs en lt e is =
    label_is xs o l (omega (arith, en)) ∙ ap (λ (k : ℕ). Some (label_at (get_or xs (k - 1 - l) o))) (sym en) ∙ ap (λ (x : Open). Some (label_at x)) (sym e) ∙ ap (λ (x : List ValType). Some x) is

-- ---- labels of a br_table

pub all_next : (labels : List (List ValType)) (ls : List ℕ) (rs found : List ValType) (i l : ℕ) → drop i ls ≡ l ∷ drop (i + 1) ls → slice_get labels l ≡ Some found → checks.same_types found rs ≡ true → all_have labels (drop i ls) rs ≡ all_have labels (drop (i + 1) ls) rs
all_next labels ls rs found i l e g s =
    ap (λ (x : List ℕ). all_have labels x rs) e ∙ ap (λ b. b && all_have labels (drop (i + 1) ls) rs) (ap (λ o. is_same o rs) g ∙ s)

pub all_not : (labels : List (List ValType)) (ls : List ℕ) (rs : List ValType) (i l : ℕ) → drop i ls ≡ l ∷ drop (i + 1) ls → has_label labels l rs ≡ false → all_have labels (drop i ls) rs ≡ false
all_not labels ls rs i l e h = ap (λ (x : List ℕ). all_have labels x rs) e ∙ ap (λ b. b && all_have labels (drop (i + 1) ls) rs) h

-- ---- how many operands stand

abbrev pub sum_of : List Open → ℕ
sum_of [] = 0
sum_of (o ∷ os) = length o.known.items + sum_of os

total_append : (xs ys : List Around) → checks.total_around (xs ++ ys) ≡ checks.total_around xs + checks.total_around ys
total_append [] ys = omega arith
total_append (x ∷ xs) ys = omega (arith, total_append xs ys)

map_append : (xs ys : List Open) → map around_of (xs ++ ys) ≡ map around_of xs ++ map around_of ys
map_append [] ys = refl
map_append (x ∷ xs) ys = ap (λ (z : List Around). around_of x ∷ z) (map_append xs ys)

pub total_is : (xs : List Open) → checks.total_around (arounds xs) ≡ sum_of xs
total_is [] = refl
total_is (x ∷ xs) =
    ap (λ (z : List Open). checks.total_around (map around_of z)) (reverse-append (x ∷ []) xs)
    ∙ ap checks.total_around (map_append (reverse xs) (x ∷ []))
    ∙ total_append (arounds xs) (around_of x ∷ [])
    ∙ (let e = total_is xs in let n = length-reverse x.known.items in omega (arith, e, n))

pub sum_next : (xs : List Open) (i : ℕ) (o : Open) → i < length xs → o ≡ get_or xs i o → sum_of (take (i + 1) xs) ≡ sum_of (take i xs) + length o.known.items
sum_next xs i o lt e =
    ap sum_of (take_next xs i o lt) ∙ sum_append (take i xs) (get_or xs i o) ∙ ap (λ (z : Open). sum_of (take i xs) + length z.known.items) (sym e)
  where
    sum_append : (ys : List Open) (o : Open) → sum_of (ys ++ o ∷ []) ≡ sum_of ys + length o.known.items
    sum_append [] o = omega arith
    sum_append (y ∷ ys) o = omega (arith, sum_append ys o)

pub sum_part : (xs : List Open) (n : ℕ) → sum_of (take n xs) ≤ sum_of xs
sum_part [] zero = omega arith
sum_part [] (suc n) = omega arith
sum_part (x ∷ xs) zero = omega arith
sum_part (x ∷ xs) (suc n) = omega (arith, sum_part xs n)

pub sum_all : (xs : List Open) (n : ℕ) → length xs ≤ n → sum_of (take n xs) ≡ sum_of xs
sum_all [] zero le = refl
sum_all [] (suc n) le = refl
sum_all (x ∷ xs) zero le = absurd (omega arith)
sum_all (x ∷ xs) (suc n) le = omega (arith, sum_all xs n (omega arith))

gt_leb : (a b : ℕ) → b < a → nat_le a b ≡ false
gt_leb a b lt = ⊎_elim (λ p. absurd (omega (arith, p.1))) (λ p. p.0) (leb_tells a b)

le_is : (a b : ℕ) → a ≤ b → nat_le a b ≡ true
le_is a b le = ⊎_elim (λ p. p.0) (λ p. absurd (omega (arith, p.1))) (leb_tells a b)

pub not_within : (known : List Operand) (xs : List Open) (i room : ℕ) (o : Open) → i < length xs → o ≡ get_or xs i o → room + sum_of (take i xs) ≡ 1024 → room < length o.known.items → nat_le (length known + checks.total_around (arounds xs)) 1024 ≡ false
not_within known xs i room o lt e r m = gt_leb (length known + checks.total_around (arounds xs)) 1024 (omega (arith, total_is xs, sum_next xs i o lt e, sum_part xs (i + 1), r))

pub within_is : (known : List Operand) (n : ℕ) (xs : List Open) (i room : ℕ) → n ≡ length known → length xs ≤ i → room + sum_of (take i xs) ≡ 1024 → nat_le n room ≡ nat_le (length known + checks.total_around (arounds xs)) 1024
within_is known n xs i room en le r =
    let t = total_is xs in
    let s = sum_all xs i le in
    ⊎_elim
    (λ (q : n ≤ room). le_is n room q ∙ sym (le_is (length known + checks.total_around (arounds xs)) 1024 (omega (arith, t, s, r, en))))
    (λ (q : room < n). gt_leb n room q ∙ sym (gt_leb (length known + checks.total_around (arounds xs)) 1024 (omega (arith, t, s, r, en))))
    (cases_le n room)
  where
    cases_le : (a b : ℕ) → (a ≤ b) ⊎ (b < a)
    cases_le a b = ⊎_elim (λ p. inl p.1) (λ p. inr p.1) (leb_tells a b)

map_long : (xs : List Open) → length (map around_of xs) ≡ length xs
map_long [] = refl
map_long (x ∷ xs) = omega (arith, map_long xs)

pub arounds_long : (xs : List Open) → length (arounds xs) ≡ length xs
arounds_long xs = map_long (reverse xs) ∙ length-reverse xs

pub yes_follows : (b : Bool) (o : Option State) (s : State) → b ≡ true → Follows b o s → o ≡ Some s
yes_follows true o s e h = h
yes_follows false o s e h = absurd cc

pub no_follows : (b : Bool) (o : Option State) (s : State) → b ≡ false → Follows b o s → o ≡ None
no_follows true o s e h = absurd cc
no_follows false o s e h = h
