-- What is left to read of a list whose items are read one after the other.
use Rattle.std.proofs.Common.{◌≡◌, ◌+◌, ◌<◌, ◌≤◌, ℕ, suc, List, [], ◌∷◌, ◌++◌, length, drop, get_or, refl, ap, sym, ◌∙◌, add-one, append_assoc, Result, Ok, Err}
use Rattle.std.specs.List.{zip}
use Rattle.std.proofs.lemmas.List.{append-nil, drop_more, drop_all, get_or_default, length-map}
use Rattle.std.proofs.lemmas.Slice.Zip.{get_or-zip, seconds-zip}
use Rattle.sim_base.specs.declared.fault.Refusal.{Refusal}
use Rattle.sim_base.specs.declared.fault.Fault.{Fault}
use Rattle.sim_base.specs.declared.fault.Fault.TheVariants as faults
use Rattle.sim_base.specs.Reads.{Reads}
use Rattle.document_model.specs.Reading.{◌>>=◌, each_from}

abbrev pub with_front : {A : Type 0} → List A → Result (List A) Refusal → Result (List A) Refusal
with_front front r = r >>= λ xs. Ok (front ++ xs)

pub front_none : {A : Type 0} (r : Result (List A) Refusal) → with_front [] r ≡ r
front_none (Ok xs) = refl
front_none (Err r) = refl

one_more : {A : Type 0} (front : List A) (y : A) (r : Result (List A) Refusal) → with_front front (r >>= λ ys. Ok (y ∷ ys)) ≡ with_front (front ++ y ∷ []) r
one_more {A = A} front y (Ok ys) = ap (λ (l : List A). Ok l) (sym (append_assoc front (y ∷ []) ys))
one_more front y (Err r) = refl

more : {D A : Type 0} (front : List A) (f : ℕ → D → Result A Refusal) (k : ℕ) (d : D) (ds : List D) (y : A) → f k d ≡ Ok y →
    with_front front (each_from f k (d ∷ ds)) ≡ with_front (front ++ y ∷ []) (each_from f (k + 1) ds)
unfolding each_from
more front f k d ds y e = rw (e, add-one k) (one_more front y (each_from f (suc k) ds))

stops : {D A : Type 0} (front : List A) (f : ℕ → D → Result A Refusal) (k : ℕ) (d : D) (ds : List D) (r : Refusal) → f k d ≡ Err r →
    with_front front (each_from f k (d ∷ ds)) ≡ Err r
unfolding each_from
stops front f k d ds r e = rw e refl

ends : {D A : Type 0} (front : List A) (f : ℕ → D → Result A Refusal) (k : ℕ) → with_front front (each_from f k []) ≡ Ok front
unfolding each_from
ends {A = A} front f k = ap (λ (l : List A). Ok l) (append-nil front)

pub item_at : {D : Type 0} (xs : List D) (i : ℕ) (x : D) → i < length xs → x ≡ get_or xs i x → drop i xs ≡ x ∷ drop (i + 1) xs
item_at {D = D} xs i x h e = drop_more xs i x h ∙ ap (λ (y : D). y ∷ drop (i + 1) xs) (sym e)

-- one more item was read
pub each_more : {D A : Type 0} (front : List A) (f : ℕ → D → Result A Refusal) (i : ℕ) (xs : List D) (x : D) (y : A) (all : Result (List A) Refusal) →
    i < length xs → x ≡ get_or xs i x → f (i + 1) x ≡ Ok y → with_front front (each_from f (i + 1) (drop i xs)) ≡ all →
    with_front (front ++ y ∷ []) (each_from f (i + 1 + 1) (drop (i + 1) xs)) ≡ all
each_more {D = D} front f i xs x y all h e is so_far =
    sym (more front f (i + 1) x (drop (i + 1) xs) y is)
    ∙ ap (λ (l : List D). with_front front (each_from f (i + 1) l)) (sym (item_at xs i x h e)) ∙ so_far

-- an item was refused
pub each_refused : {D A V : Type 0} (view : V → List A) (front : List A) (f : ℕ → D → Result A Refusal) (i : ℕ) (xs : List D) (x : D) (fault : Fault) (all : Result (List A) Refusal) →
    i < length xs → x ≡ get_or xs i x → Reads (λ (y : A). y) (Err fault) (f (i + 1) x) → with_front front (each_from f (i + 1) (drop i xs)) ≡ all →
    Reads view (Err fault) all
each_refused view front f i xs x faults.OutOfMemory all h e is so_far = tt
each_refused {D = D} view front f i xs x (faults.Refused r) all h e is so_far =
    sym so_far ∙ ap (λ (l : List D). with_front front (each_from f (i + 1) l)) (item_at xs i x h e) ∙ stops front f (i + 1) x (drop (i + 1) xs) r is

-- all items were read
pub each_done : {D A : Type 0} (front : List A) (f : ℕ → D → Result A Refusal) (i : ℕ) (xs : List D) (all : Result (List A) Refusal) →
    length xs ≤ i → with_front front (each_from f (i + 1) (drop i xs)) ≡ all → all ≡ Ok front
each_done {D = D} front f i xs all h so_far =
    sym so_far ∙ ap (λ (l : List D). with_front front (each_from f (i + 1) l)) (drop_all i xs h) ∙ ends front f (i + 1)

-- two lists side by side
pub zip_long : {K V : Type 0} (ks : List K) (vs : List V) → length ks ≡ length vs → length (zip ks vs) ≡ length vs
zip_long {K = K} {V = V} ks vs same = sym (length-map (zip ks vs) (λ (p : K × V). p.1)) ∙ ap (λ (l : List V). length l) (seconds-zip ks vs (sym same))

pub zip_at : {K V : Type 0} (ks : List K) (vs : List V) (i : ℕ) (d : K) (v : V) → i < length ks → i < length vs → v ≡ get_or vs i v → (get_or ks i d, v) ≡ get_or (zip ks vs) i (get_or ks i d, v)
zip_at {K = K} {V = V} ks vs i d v lk lv is =
    let first : (get_or ks i (get_or ks i d), get_or vs i v) ≡ (get_or ks i d, get_or vs i v) = ap (λ (k : K). (k, get_or vs i v)) (get_or_default ks i (get_or ks i d) d lk) in
    let second : (get_or ks i d, get_or vs i v) ≡ (get_or ks i d, v) = ap (λ (w : V). (get_or ks i d, w)) (sym is) in
    sym (get_or-zip ks vs i (get_or ks i d, v) lk lv ∙ first ∙ second)
