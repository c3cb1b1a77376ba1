-- The next cycle in which something may happen.
use Rattle.board_run.proofs.Common.{◌≡◌, ◌≢◌, ◌∙◌, ℕ, zero, suc, ◌+◌, ◌-◌, ◌<◌, ◌≤◌, List, [], ◌∷◌, length, Bool, true, false, Option, None, Some, refl, ap}
use Rattle.board_run.proofs.Common.{sym, arith, subst, get_or, inl, inr, ◌⊎◌, ◌==◌, ◌&&◌, if◌then◌else◌, slice_get, slice_set, slice_get_within}
use Rattle.board_run.proofs.Common.{slice_get-get_or, eqb_tells, Input, Machine, glide, IsQuiet, input_from, input_at, AreBehind, IsInOrder, MayTurn, AreLate}
use Rattle.board_run.proofs.Common.{Kept, Lags, Wiring, MOST_CYCLES, some_same, get_set_same, get_set_other}
use Rattle.event_queue.specs.First.{IsFirst}
use Rattle.board_run.proofs.ScriptLemmas.{others_leave}

pub below_or : (u t : ℕ) → (u < t) ⊎ (t ≤ u)
below_or u t = grind arith

-- a due cycle is not before the cycle in which it may be
pub due_late : {S P : Type 0} (m : Machine S) (state : P → S) (now wakes : P → ℕ) (t u : ℕ) (p : P) → MayTurn m state now wakes t (Some u) p → t ≤ u
due_late m state now wakes t u p may = elim (below_or u t) [
  | inl less ↦
      let e : now p + (u - now p) ≡ u = omega (arith, may.first.0) in
      let at : u - now p < t - now p = omega (arith, may.first.0, less) in
      let no : m.due (glide m (state p) (now p) (u - now p)) u ≡ false =
      subst (λ (x : ℕ). m.due (glide m (state p) (now p) (u - now p)) x ≡ false) e (may.quiet (u - now p) at) in
      absurd (let yes : m.due (glide m (state p) (now p) (u - now p)) u ≡ true = may.first.3 in cc)
  | inr more ↦ more
]

-- nothing is due before v, if the due cycle is not before it
pub quiet_until : {S P : Type 0} (m : Machine S) (state : P → S) (now wakes : P → ℕ) (t v : ℕ) (d : Option ℕ) (p : P) → t ≤ v → v ≤ MOST_CYCLES → MayTurn m state now wakes t d p →
    ((u : ℕ) → d ≡ Some u → t ≤ u → v ≤ u) → IsQuiet m (state p) (now p) (v - now p)
quiet_until m state now wakes t v None p order end may late = λ k (h : k < v - now p). let before = may.not_later in may.first k (omega (arith, before))
quiet_until m state now wakes t v (Some u) p order end may late =
    let l : v ≤ u = late u refl (due_late m state now wakes t u p may) in
    λ k (h : k < v - now p). may.first.2 k (omega (arith, may.not_later))

-- the script says nothing before its next value
pub silent_until : (inputs : List Input) (i t v : ℕ) (d : Input) → IsInOrder inputs → AreBehind inputs i t → (i < length inputs → v ≤ (get_or inputs i d).cycle) → (x k : ℕ) → t ≤ x → x < v → input_at inputs x k ≡ None
silent_until inputs i t v d order behind next x k from before = others_leave inputs None x k (λ n y e. elim (below_or n i) [
  | inl less ↦ let l : y.cycle < t = behind.earlier n y less e in (λ same. absurd (omega (arith, l, same)))
  | inr more ↦
      let inside : i < length inputs = omega (arith, slice_get_within inputs n y e) in
      (λ same. absurd (omega (arith, next inside, order i n (get_or inputs i d) y more (slice_get-get_or inputs i d inside) e, same)))
])

pub behind_until : (inputs : List Input) (i t v : ℕ) (d : Input) → IsInOrder inputs → AreBehind inputs i t → t ≤ v → (i < length inputs → v ≤ (get_or inputs i d).cycle) → AreBehind inputs i v
behind_until inputs i t v d order behind later next = record {
  within = behind.within;
  earlier = λ k x l e. let a : x.cycle < t = behind.earlier k x l e in omega (arith, a, later);
  later = λ k x l e.
      let inside : i < length inputs = omega (arith, slice_get_within inputs k x e) in
      omega (arith, next inside, order i k (get_or inputs i d) x l (slice_get-get_or inputs i d inside) e);
}

-- what is at place k after something was set at place i
pub at_set : {A : Type 0} (xs : List A) (i k : ℕ) (v x : A) → i < length xs → slice_get (slice_set xs i v) k ≡ Some x →
    ((k ≡ i) × (v ≡ x)) ⊎ ((k ≢ i) × (slice_get xs k ≡ Some x))
at_set xs i k v x within e = elim (eqb_tells k i) [
  | inl same ↦ inl (same.1, some_same (sym (get_set_same xs i v within) ∙ subst (λ (j : ℕ). slice_get (slice_set xs i v) j ≡ Some x) same.1 e))
  | inr other ↦ inr (other.1, sym (get_set_other xs i k v other.1) ∙ e)
]

pub some_there : {P : Type 0} (ps : List P) (k : ℕ) → k < length ps → (p : P) × (slice_get ps k ≡ Some p)
some_there [] k h = absurd (omega arith)
some_there (p ∷ ps) zero h = (p, refl)
some_there (p ∷ ps) (suc k) h = some_there ps k (omega arith)

-- no part that lags behind was due before
pub dues_late : {S P : Type 0} (m : Machine S) (state : P → S) (now wakes : P → ℕ) (t : ℕ) (parts : List P) (dues : List (Option ℕ)) →
    length dues ≡ length parts → ((k : ℕ) (p : P) (d : Option ℕ) → slice_get parts k ≡ Some p → slice_get dues k ≡ Some d → MayTurn m state now wakes t d p) → AreLate dues t
dues_late m state now wakes t parts dues long may k u ed =
    let p = some_there parts k (omega (arith, slice_get_within dues k (Some u) ed, long)) in
    due_late m state now wakes t u p.0 (may k p.0 (Some u) p.1 ed)

pub lags_late : {S P : Type 0} (m : Machine S) (w : Wiring) (state : P → S) (now wakes : P → ℕ) (t : ℕ) (parts : List P) (kept : Kept) → Lags m w state now wakes t parts kept → AreLate kept.dues t
lags_late m w state now wakes t parts kept lags = dues_late m state now wakes t parts kept.dues lags.dues_long lags.may

-- the first due cycle is not after any
pub first_least : (dues : List (Option ℕ)) (first : Option (ℕ × ℕ)) (x : ℕ) → IsFirst dues first → ((u i : ℕ) → first ≡ Some (u, i) → x ≤ u) → AreLate dues x
first_least dues None x is least k u e = absurd (let none : Some u ≡ None = is k (Some u) e in cc)
first_least dues (Some (v, i)) x is least k u e =
    omega (arith, least v i refl, (is.1 k u e).0)

-- the due cycle that was found is one of them
pub first_one : (dues : List (Option ℕ)) (first : Option (ℕ × ℕ)) (x n : ℕ) → IsFirst dues first → (x ≡ n) ⊎ ((i : ℕ) × (first ≡ Some (x, i))) → x < n → (k : ℕ) × (slice_get dues k ≡ Some (Some x))
first_one dues first x n is (inl end) less = absurd (omega (arith, end, less))
first_one dues first x n is (inr y) less = (y.0, (subst (λ (f : Option (ℕ × ℕ)). IsFirst dues f) y.1 is).0)

kept_or : (b : Bool) (v : ℕ) (before : Option ℕ) → before ≢ None → (if b then Some v else before) ≢ None
kept_or true v before some none = absurd cc
kept_or false v before some none = some none

kept : (xs : List Input) (before : Option ℕ) (t i : ℕ) → before ≢ None → input_from before xs t i ≢ None
kept [] before t i some none = some none
kept (y ∷ xs) before t i some none = kept xs (if y.cycle == t && y.part == i then Some y.value else before) t i (kept_or (y.cycle == t && y.part == i) y.value before some) none

same_place : (z : Input) → (z.cycle == z.cycle && z.part == z.part) ≡ true
same_place z = grind arith

found : (x : Input) (before : Option ℕ) (xs : List Input) (n : ℕ) → slice_get xs n ≡ Some x → input_from before xs x.cycle x.part ≢ None
found x before [] n e none = absurd cc
found x before (y ∷ xs) zero e none =
    let yes : (y.cycle == x.cycle && y.part == x.part) ≡ true = ap (λ (z : Input). z.cycle == x.cycle && z.part == x.part) (some_same e) ∙ same_place x in
    kept xs (Some y.value) x.cycle x.part (λ n. cc) (sym (ap (λ (b : Bool). input_from (if b then Some y.value else before) xs x.cycle x.part) yes) ∙ none)
found x before (y ∷ xs) (suc n) e none = found x (if y.cycle == x.cycle && y.part == x.part then Some y.value else before) xs n e none

-- the script addresses a part in the cycle of each of its values
pub addresses : (inputs : List Input) (n : ℕ) (x : Input) → slice_get inputs n ≡ Some x → input_at inputs x.cycle x.part ≢ None
addresses inputs n x e = found x None inputs n e
