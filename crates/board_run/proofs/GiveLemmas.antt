-- One more value of the script, of the engine's cycle or a later one.
use Rattle.board_run.proofs.Common.{◌≡◌, ℕ, zero, suc, ◌+◌, ◌<◌, ◌≤◌, List, [], ◌∷◌, ◌++◌, length, take, drop, Bool, true, false, Option, Some, refl, ap, arith, if◌then◌else◌, slice_get}
use Rattle.board_run.proofs.Common.{◌∙◌, sym, subst, Input, AreBehind, some_same, slice_get-get_or, get_or, ◌-◌, Engine, MayRun, Machine, Wiring, Shown}
use Rattle.std.specs.Prelude.{Result, Ok, Err, OnOk, OnErr}
use Rattle.part_law.specs.declared.part.Part.{Ghosts}
use Rattle.std.specs.Prelude.{nat_le, insert}
use Rattle.std.proofs.lemmas.Bool.Decides.{nat_tests}
use Rattle.law_board.specs.Scripts.{with_input, SameRun}
use Rattle.law_board.proofs.ScriptLaw.{DoNotFall, each_more, order_more, given_later}

is_le : (a b : ℕ) → a ≤ b → nat_le a b ≡ true
is_le a b h = grind (arith, nat_tests)

is_gt : (a b : ℕ) → b < a → nat_le a b ≡ false
is_gt a b h = grind (arith, nat_tests)

-- it stands after the values of its cycle and of earlier ones
pub place_with : (xs : List Input) (x : Input) (i : ℕ) → i ≤ length xs → ((k : ℕ) (y : Input) → k < i → slice_get xs k ≡ Some y → y.cycle ≤ x.cycle) →
    ((k : ℕ) (y : Input) → i ≤ k → slice_get xs k ≡ Some y → x.cycle < y.cycle) → insert xs i x ≡ with_input xs x
place_with [] x zero within before after = refl
place_with [] x (suc i) within before after = absurd (omega arith)
place_with (y ∷ ys) x zero within before after = ap (λ (b : Bool). if b then y ∷ with_input ys x else x ∷ (y ∷ ys)) (sym (is_gt y.cycle x.cycle (after 0 y (omega arith) refl)))
place_with (y ∷ ys) x (suc i) within before after =
    ap (λ (l : List Input). y ∷ l) (place_with ys x i (omega arith) (λ k z l e. before (suc k) z (omega arith) e) (λ k z l e. after (suc k) z (omega arith) e))
    ∙ ap (λ (b : Bool). if b then y ∷ with_input ys x else x ∷ (y ∷ ys)) (sym (is_le y.cycle x.cycle (before 0 y (omega arith) refl)))

-- where it is found from the end
pub place_found : (xs : List Input) (x d : Input) (i : ℕ) → DoNotFall xs → i ≤ length xs → ((k : ℕ) (y : Input) → i ≤ k → slice_get xs k ≡ Some y → x.cycle < y.cycle) →
    (0 < i → (get_or xs (i - 1) d).cycle ≤ x.cycle) → insert xs i x ≡ with_input xs x
place_found xs x d zero order within after last = place_with xs x zero within (λ k y l e. absurd (omega (arith, l))) after
place_found xs x d (suc i) order within after last =
    let one : suc i - 1 ≡ i = omega arith in
    let h : (get_or xs i d).cycle ≤ x.cycle = subst (λ (j : ℕ). (get_or xs j d).cycle ≤ x.cycle) one (last (omega arith)) in
    place_with xs x (suc i) within (λ k y l e. omega (arith, h, order k i y (get_or xs i d) (omega (arith, l)) e (slice_get-get_or xs i d within))) after

length_with : (xs : List Input) (x : Input) → length xs ≤ length (with_input xs x)
length_with [] x = omega arith
length_with (y ∷ ys) x = here (nat_le y.cycle x.cycle) (length_with ys x)
  where
    here : (b : Bool) → length ys ≤ length (with_input ys x) → suc (length ys) ≤ length (if b then y ∷ with_input ys x else x ∷ (y ∷ ys))
    here true more = omega (arith, more)
    here false more = omega arith

rest_behind : (z : Input) (zs : List Input) (i t : ℕ) → AreBehind (z ∷ zs) (suc i) t → AreBehind zs i t
rest_behind z zs i t behind = record {
  within = omega (arith, behind.within);
  earlier = λ k y l e. behind.earlier (suc k) y (omega (arith, l)) e;
  later = λ k y l e. behind.later (suc k) y (omega (arith, l)) e;
}

-- a value that is behind is of an earlier cycle
is_passed : (z x : Input) (zs : List Input) (i t : ℕ) → AreBehind (z ∷ zs) (suc i) t → t ≤ x.cycle → nat_le z.cycle x.cycle ≡ true
is_passed z x zs i t behind later = let first : z.cycle < t = behind.earlier 0 z (omega arith) refl in is_le z.cycle x.cycle (omega (arith, first, later))

early_with : (xs : List Input) (x : Input) (i t : ℕ) → AreBehind xs i t → t ≤ x.cycle → (k : ℕ) (y : Input) → k < i → slice_get (with_input xs x) k ≡ Some y → y.cycle < t
early_with xs x zero t behind later k y l e = absurd (omega (arith, l))
early_with [] x (suc i) t behind later k y l e = absurd (omega (arith, behind.within))
early_with (z ∷ zs) x (suc i) t behind later k y l e =
    here k l (ap (λ (b : Bool). slice_get (if b then z ∷ with_input zs x else x ∷ (z ∷ zs)) k) (sym (is_passed z x zs i t behind later)) ∙ e)
    (λ j lj ej. early_with zs x i t (rest_behind z zs i t behind) later j y lj ej)
  where
    here : (k : ℕ) → k < suc i → slice_get (z ∷ with_input zs x) k ≡ Some y → ((j : ℕ) → j < i → slice_get (with_input zs x) j ≡ Some y → y.cycle < t) → y.cycle < t
    here zero l e more = behind.earlier 0 y l e
    here (suc k) l e more = more k (omega (arith, l)) e

late_with : (xs : List Input) (x : Input) (i t : ℕ) → AreBehind xs i t → t ≤ x.cycle → (k : ℕ) (y : Input) → i ≤ k → slice_get (with_input xs x) k ≡ Some y → t ≤ y.cycle
late_with xs x zero t behind later k y l e = each_more (λ (z : Input). t ≤ z.cycle) xs x later (λ j z ez. behind.later j z (omega arith) ez) k y e
late_with [] x (suc i) t behind later k y l e = absurd (omega (arith, behind.within))
late_with (z ∷ zs) x (suc i) t behind later k y l e =
    here k l (ap (λ (b : Bool). slice_get (if b then z ∷ with_input zs x else x ∷ (z ∷ zs)) k) (sym (is_passed z x zs i t behind later)) ∙ e)
    (λ j lj ej. late_with zs x i t (rest_behind z zs i t behind) later j y lj ej)
  where
    here : (k : ℕ) → suc i ≤ k → slice_get (z ∷ with_input zs x) k ≡ Some y → ((j : ℕ) → i ≤ j → slice_get (with_input zs x) j ≡ Some y → t ≤ y.cycle) → t ≤ y.cycle
    here zero l e more = absurd (omega (arith, l))
    here (suc k) l e more = more k (omega (arith, l)) e

-- The place where the script continues stays.
pub behind_with : (xs : List Input) (x : Input) (i t : ℕ) → AreBehind xs i t → t ≤ x.cycle → AreBehind (with_input xs x) i t
behind_with xs x i t behind later = record {
  within = omega (arith, behind.within, length_with xs x);
  earlier = early_with xs x i t behind later;
  later = late_with xs x i t behind later;
}

-- The engine to which it was given may go on.
pub given_may : {P : Type 0} (part : Ghosts P) (e : Engine P) (x : Input) → MayRun part e → e.cycle ≤ x.cycle → MayRun part (record e { inputs = with_input e.inputs x })
given_may part e x may later = record {
  lags = may.lags;
  behind = behind_with e.inputs x e.input e.cycle may.behind later;
  order = order_more e.inputs x may.order;
}

pub given_to : {P E : Type 0} (part : Ghosts P) (e : Engine P) (x : Input) (r : Result (Unit {0}) E) (now : List Input) (place : ℕ) → MayRun part e → e.cycle ≤ x.cycle →
    insert e.inputs place x ≡ with_input e.inputs x → OnOk r (now ≡ insert e.inputs place x) → OnErr r (now ≡ e.inputs) → MayRun part (record e { inputs = now })
given_to part e x (Ok u) now place may later same ok err = subst (λ (l : List Input). MayRun part (record e { inputs = l })) (sym (ok ∙ same)) (given_may part e x may later)
given_to part e x (Err u) now place may later same ok err =
    subst (λ (l : List Input). MayRun part (record e { inputs = l })) (sym err) (record { lags = may.lags; behind = may.behind; order = may.order })

-- a board runs alike with the same script
same_again : {S : Type 0} (m : Machine S) (w : Wiring) (inputs : List Input) (before : Option Shown) (ss : List S) (c n : ℕ) → SameRun m w inputs inputs before ss c n
same_again m w inputs before ss c n = record { same_states = refl; same_shown = refl; same_rows = refl; same_bytes = refl; same_cycles = λ i. refl; same_pairs = refl }

module _ {P E : Type 0} (part : Ghosts P) (r : Result (Unit {0}) E) (old new : Engine P) (x : Input)
    (ok : OnOk r (new ≡ record old { inputs = with_input old.inputs x })) (err : OnErr r (new ≡ old)) where
  -- what was, would have been with it
  pub given_past : (w : Wiring) (c n : ℕ) (before : Option Shown) (ss : List part.State) → c + n ≤ x.cycle → SameRun part.machine w old.inputs new.inputs before ss c n
  given_past w c n before ss early = here r ok err
    where
      here : (r : Result (Unit {0}) E) → OnOk r (new ≡ record old { inputs = with_input old.inputs x }) → OnErr r (new ≡ old) → SameRun part.machine w old.inputs new.inputs before ss c n
      here (Ok u) ok err = subst (λ (z : Engine P). SameRun part.machine w old.inputs z.inputs before ss c n) (sym ok) (given_later part.machine w old.inputs x before ss c n early)
      here (Err e) ok err = subst (λ (z : Engine P). SameRun part.machine w old.inputs z.inputs before ss c n) (sym err) (same_again part.machine w old.inputs before ss c n)
