-- What the sums of levels are, by the values of the drives that were added.
use Rattle.net_resolve.proofs.Common.{◌≡◌, ℕ, List, [], ◌∷◌, ◌++◌, map, Bool, true, false, not, refl, ap, sym, ◌∙◌, arith, append_assoc, append-nil, inl, inr}
use Rattle.net_resolve.proofs.Common.{◌&&◌, ◌||◌, filter, list_any, or_assoc, or-not_self, or-false, cases_Bool, not_from_true, Drive, Level, value_of}
use Rattle.net_resolve.proofs.Common.{strong_of, is_weak, is_upper, is_value, level_of_values, level_of_all, level_of_drives}
use Rattle.sim_base.specs.declared.signal.Drive.TheVariants as drives
use Rattle.sim_base.specs.declared.signal.Level.TheVariants as levels
use Rattle.net_resolve.specs.Sums.{has_high, has_low, is_z, together, strong_level, weak_level, added}

pub values_together : (a b c d : Bool) → together (level_of_values a b) (level_of_values c d) ≡ level_of_values (a || c) (b || d)
values_together true true true true = refl
values_together true true true false = refl
values_together true true false true = refl
values_together true true false false = refl
values_together true false true true = refl
values_together true false true false = refl
values_together true false false true = refl
values_together true false false false = refl
values_together false true true true = refl
values_together false true true false = refl
values_together false true false true = refl
values_together false true false false = refl
values_together false false c d = refl

-- with no other drives
pub or_end : (a b : Bool) → level_of_values a b ≡ level_of_values (a || false) (b || false)
or_end a b = sym (ap (λ (x : Bool). level_of_values x (b || false)) (or-false a) ∙ ap (level_of_values a) (or-false b))

strong_values_of : (d : Drive) → strong_level d ≡ level_of_values (is_value true (strong_of d)) (is_value false (strong_of d))
strong_values_of drives.Z = refl
strong_values_of d = refl

pub is_z_values : (a b : Bool) → is_z (level_of_values a b) ≡ not (a || b)
is_z_values true true = refl
is_z_values true false = refl
is_z_values false true = refl
is_z_values false false = refl

-- the strong drives of pins, some of which count
pub strong_added : (counts : ℕ → Bool) (ps : List (ℕ × Drive)) (a b : Bool) →
    added strong_level counts (level_of_values a b) ps
    ≡ level_of_values (a || list_any (λ p. counts p.0 && is_value true (strong_of p.1)) ps) (b || list_any (λ p. counts p.0 && is_value false (strong_of p.1)) ps)
unfolding added
strong_added counts [] a b = or_end a b
strong_added counts (p ∷ ps) a b = elim (cases_Bool (counts p.0)) [
  | inl e ↦
      let hi = is_value true (strong_of p.1) in
      let lo = is_value false (strong_of p.1) in
      rw (e, strong_values_of p.1, values_together a b hi lo, strong_added counts ps (a || hi) (b || lo), or_assoc a hi, or_assoc b lo) refl
  | inr e ↦ rw e (strong_added counts ps a b)
]

-- whether some drive of a list has the value
abbrev pub any_value : Bool → List Drive → Bool
any_value v ds = list_any (λ d. is_value v (value_of d)) ds

-- those weak drives of pins that count
abbrev pub weak_of : (ℕ → Bool) → List (ℕ × Drive) → List Drive
weak_of counts ps = map (λ p. p.1) (filter (λ p. counts p.0 && is_weak p.1) ps)

-- what a weak drive adds: its values, of which there is one
record IsWeak (d : Drive) : Type 0 where
  high : has_high (weak_level d) ≡ is_value true (value_of d)
  low : has_low (weak_level d) ≡ is_value false (value_of d)
  there : is_z (weak_level d) ≡ false
  some : (is_value true (value_of d) || is_value false (value_of d)) ≡ true

weak_is : (d : Drive) → is_weak d ≡ true → IsWeak d
weak_is drives.PullLow h = record { high = refl; low = refl; there = refl; some = refl }
weak_is drives.PullHigh h = record { high = refl; low = refl; there = refl; some = refl }
weak_is (drives.Wiper w) h = record { high = refl; low = refl; there = refl; some = or-not_self (is_upper w) }
weak_is d h = absurd cc

other_none : (d : Drive) → is_weak d ≡ false → weak_level d ≡ levels.Z
other_none drives.Z h = refl
other_none drives.Low h = refl
other_none drives.High h = refl
other_none d h = absurd cc

plus_z : (l : Level) → together l levels.Z ≡ l
plus_z levels.Z = refl
plus_z l = refl

both_there : (a b : Level) → is_z a ≡ false → is_z b ≡ false → together a b ≡ level_of_values (has_high a || has_high b) (has_low a || has_low b)
both_there a b ea eb = rw ea (rw eb refl)

has_high_values : (a b : Bool) → has_high (level_of_values a b) ≡ a
has_high_values true true = refl
has_high_values true false = refl
has_high_values false true = refl
has_high_values false false = refl

has_low_values : (a b : Bool) → has_low (level_of_values a b) ≡ b
has_low_values true true = refl
has_low_values true false = refl
has_low_values false true = refl
has_low_values false false = refl

or_some : (a b c d : Bool) → (c || d) ≡ true → ((a || c) || (b || d)) ≡ true
or_some a b c d h = grind arith

or_some_left : (a b c d : Bool) → (a || b) ≡ true → ((a || c) || (b || d)) ≡ true
or_some_left a b c d h = grind arith

-- weak drives that join values
pub weak_added : (counts : ℕ → Bool) (ps : List (ℕ × Drive)) (a b : Bool) → (a || b) ≡ true →
    added weak_level counts (level_of_values a b) ps ≡ level_of_values (a || any_value true (weak_of counts ps)) (b || any_value false (weak_of counts ps))
unfolding added
weak_added counts [] a b h = or_end a b
weak_added counts (p ∷ ps) a b h = elim (cases_Bool (counts p.0)) [
  | inl e ↦ elim (cases_Bool (is_weak p.1)) [
    | inl f ↦
        let w = weak_is p.1 f in
        let hi = is_value true (value_of p.1) in
        let lo = is_value false (value_of p.1) in
        let there : is_z (level_of_values a b) ≡ false = is_z_values a b ∙ not_from_true (a || b) h in
        let sum : together (level_of_values a b) (weak_level p.1) ≡ level_of_values (a || hi) (b || lo) =
        rw (both_there (level_of_values a b) (weak_level p.1) there w.there, has_high_values a b, w.high, has_low_values a b, w.low) refl in
        rw (e, f, sum, weak_added counts ps (a || hi) (b || lo) (or_some_left a b hi lo h), or_assoc a hi, or_assoc b lo) refl
    | inr f ↦ rw (e, f, other_none p.1 f, plus_z (level_of_values a b)) (weak_added counts ps a b h)
  ]
  | inr e ↦ rw e (weak_added counts ps a b h)
]

-- a level that some drives give
record IsSum (es : List Drive) (sum : Level) : Type 0 where
  there : is_z sum ≡ false
  high : has_high sum ≡ any_value true es
  low : has_low sum ≡ any_value false es
  is : sum ≡ level_of_drives es

any_value_end : (v : Bool) (es : List Drive) (d : Drive) → any_value v (es ++ d ∷ []) ≡ (any_value v es || is_value v (value_of d))
any_value_end v [] d = or-false (is_value v (value_of d))
any_value_end v (e ∷ es) d = ap (λ (x : Bool). is_value v (value_of e) || x) (any_value_end v es d) ∙ sym (or_assoc (is_value v (value_of e)) (any_value v es) (is_value v (value_of d)))

-- two drives or more go by their values
more_by_values : (e : Drive) (es : List Drive) (d : Drive) → level_of_drives (e ∷ es ++ d ∷ []) ≡ level_of_all (e ∷ es ++ d ∷ [])
more_by_values (drives.Wiper w) [] d = refl
more_by_values (drives.Wiper w) (f ∷ es) d = refl
more_by_values e es d = refl

first_sum : (d : Drive) → is_weak d ≡ true → IsSum (d ∷ []) (weak_level d)
first_sum drives.PullLow h = record { there = refl; high = refl; low = refl; is = refl }
first_sum drives.PullHigh h = record { there = refl; high = refl; low = refl; is = refl }
first_sum (drives.Wiper w) h = record { there = refl; high = sym (or-false (is_upper w)); low = sym (or-false (not (is_upper w))); is = refl }
first_sum d h = absurd cc

more_sum : (e : Drive) (es : List Drive) (sum : Level) (d : Drive) → IsSum (e ∷ es) sum → is_weak d ≡ true → IsSum (e ∷ es ++ d ∷ []) (together sum (weak_level d))
more_sum e es sum d s h =
    let hi = any_value true (e ∷ es ++ d ∷ []) in
    let lo = any_value false (e ∷ es ++ d ∷ []) in
    let w = weak_is d h in
    let highs : (has_high sum || has_high (weak_level d)) ≡ hi = rw (s.high, w.high) (sym (any_value_end true (e ∷ es) d)) in
    let lows : (has_low sum || has_low (weak_level d)) ≡ lo = rw (s.low, w.low) (sym (any_value_end false (e ∷ es) d)) in
    let is : together sum (weak_level d) ≡ level_of_values hi lo = rw (both_there sum (weak_level d) s.there w.there, highs, lows) refl in
    let some : (hi || lo) ≡ true = rw (any_value_end true (e ∷ es) d, any_value_end false (e ∷ es) d)
    (or_some (any_value true (e ∷ es)) (any_value false (e ∷ es)) (is_value true (value_of d)) (is_value false (value_of d)) w.some) in
    record {
      there = ap is_z is ∙ is_z_values hi lo ∙ not_from_true (hi || lo) some;
      high = ap has_high is ∙ has_high_values hi lo;
      low = ap has_low is ∙ has_low_values hi lo;
      is = is ∙ sym (more_by_values e es d);
    }

rest_added : (counts : ℕ → Bool) (ps : List (ℕ × Drive)) (e : Drive) (es : List Drive) (sum : Level) → IsSum (e ∷ es) sum →
    added weak_level counts sum ps ≡ level_of_drives (e ∷ es ++ weak_of counts ps)
unfolding added
rest_added counts [] e es sum s = s.is ∙ ap (λ (l : List Drive). level_of_drives (e ∷ l)) (sym (append-nil es))
rest_added counts (p ∷ ps) e es sum s = elim (cases_Bool (counts p.0)) [
  | inl f ↦ elim (cases_Bool (is_weak p.1)) [
    | inl g ↦ rw (f, g) (rest_added counts ps e (es ++ p.1 ∷ []) (together sum (weak_level p.1)) (more_sum e es sum p.1 s g)
        ∙ ap (λ (l : List Drive). level_of_drives (e ∷ l)) (append_assoc es (p.1 ∷ []) (weak_of counts ps)))
    | inr g ↦ rw (f, g, other_none p.1 g, plus_z sum) (rest_added counts ps e es sum s)
  ]
  | inr f ↦ rw f (rest_added counts ps e es sum s)
]

-- weak drives alone
pub weak_alone : (counts : ℕ → Bool) (ps : List (ℕ × Drive)) → added weak_level counts levels.Z ps ≡ level_of_drives (weak_of counts ps)
unfolding added
weak_alone counts [] = refl
weak_alone counts (p ∷ ps) = elim (cases_Bool (counts p.0)) [
  | inl f ↦ elim (cases_Bool (is_weak p.1)) [
    | inl g ↦ rw (f, g) (rest_added counts ps p.1 [] (weak_level p.1) (first_sum p.1 g))
    | inr g ↦ rw (f, g, other_none p.1 g) (weak_alone counts ps)
  ]
  | inr f ↦ rw f (weak_alone counts ps)
]
