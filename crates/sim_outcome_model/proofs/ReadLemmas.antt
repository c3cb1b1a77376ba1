-- Reading files, one after the other.
use Rattle.std.proofs.Common.{◌≡◌, ◌⊎◌, ◌∙◌, ℕ, List, refl, ap, Option, Some, None, Result, Ok, Err, inl, inr, IfSome, Bool, true, false, cond, sym, subst, is_eq, nat_cmp}
use Rattle.std.proofs.lemmas.Slice.Eq.{bytes_eq-Decides}
use Rattle.std.proofs.lemmas.Map.Text.{is_eq-slice_cmp}
use Rattle.std.specs.FinMap.{get, remove, get-remove}
use Rattle.std.specs.Cmp.Lexicographic.{nat_list_cmp_total, slice_cmp}
use Rattle.std.specs.Cmp.{eq_by_cmp_equiv}
use Rattle.sim_base.specs.declared.fault.Refusal.{Refusal}
use Rattle.sim_base.specs.Outside.{Outside, SamePorts, Files}
use Rattle.sim_outcome_model.specs.Stop.{Stop, Missing, file_within, read_from}
use Rattle.sim_outcome_model.specs.Outcome.{Outcome, Stopped, ReadFailed, OutOfMemory}
use Rattle.sim_outcome_model.specs.Work.{Reading, Is, IsFileWithin, IsFile, Then, ReadStops, Got, IsSteady, IsOneReading}

pub if_some : {X : Type 0} (o : Option X) (P Q : X → Type 0) → ((x : X) → P x → Q x) → IfSome o P → IfSome o Q
if_some None P Q f h = tt
if_some (Some x) P Q f h = f x h

pub if_always : {X : Type 0} (o : Option X) (P : X → Type 0) → ((x : X) → P x) → IfSome o P
if_always None P f = tt
if_always (Some x) P f = f x

pub gone : (files : Files) (name : List ℕ) → get (remove files name) name ≡ None
gone files name = get-remove nat_list_cmp_total files name name ∙ ap (λ (b : Bool). cond b None (get files name)) ((eq_by_cmp_equiv nat_list_cmp_total).refl name)

-- where a file is not there, another is as before, unless it is that one
pub removed : (files : Files) (name n : List ℕ) → (get (remove files n) name ≡ get files name) ⊎ ((name ≡ n) × (get (remove files n) name ≡ None))
removed files name n = by (is_eq (slice_cmp nat_cmp name n)) refl
  where
    by : (b : Bool) → is_eq (slice_cmp nat_cmp name n) ≡ b → (get (remove files n) name ≡ get files name) ⊎ ((name ≡ n) × (get (remove files n) name ≡ None))
    by true same = let is : name ≡ n = (bytes_eq-Decides name n).0 (sym (is_eq-slice_cmp name n) ∙ same) in inr (is, rw is (gone files n))
    by false other = inl (get-remove nat_list_cmp_total files n name ∙ ap (λ (b : Bool). cond b None (get files name)) other)

-- were the file not there, that would be the first event
pub not_there : {X : Type 0} (limit : ℕ) (files : Files) (name : List ℕ) (reading : List ℕ → Result X Refusal) → file_within limit (remove files name) name reading ≡ Err (Missing name)
not_there limit files name reading = rw (gone files name) refl

-- where the name of the file has no room, memory is wanting
pub named_stop : {X : Type 0} (reading : Reading X) (o said : Outcome) (a b : Outside) → ReadStops o reading a b → (said ≡ o) ⊎ (said ≡ OutOfMemory) → ReadStops said reading a b
named_stop reading o said a b s (inl same) = rw same s
named_stop reading o said a b s (inr memory) = rw memory tt

-- One reading and then another, which begins where the first has left what is outside.
module _ {X Y : Type 0} (first : Reading X) (next : X → Reading Y) where
  -- the first ends the work
  pub first_stops : (o : Outcome) (a b : Outside) → ReadStops o first a b → ReadStops o (Then first next) a b
  first_stops (Stopped t) a b s = if_some a.files _ _ (λ (files : Files) (e : first files (Err t)). (Err t, e, refl)) s
  first_stops (ReadFailed n) a b s = (if_some a.files _ _ (λ (files : Files) (e : first (remove files n) (Err (Missing n))). (Err (Missing n), e, refl)) s.0, s.1)
  first_stops OutOfMemory a b s = tt
  first_stops _ a b s = absurd s

  module _ (steady : IsSteady first) (x : X) where
    missing_behind : (files : Files) (n : List ℕ) → first files (Ok x) → next x (remove files n) (Err (Missing n)) → Then first next (remove files n) (Err (Missing n))
    missing_behind files n f e = elim (steady files n x f) [ inl there ↦ (Ok x, there, e) | inr missing ↦ (Err (Missing n), missing, refl) ]

    both : (told : Option Files) (P : Files → Type 0) (Q : Files → Type 0) → ((files : Files) → first files (Ok x) → P files → Q files) → IfSome told (λ files. first files (Ok x)) → IfSome told P → IfSome told Q
    both None P Q f is s = tt
    both (Some files) P Q f is s = f files is s

    -- the second ends the work
    second_stops : (o : Outcome) (a m b : Outside) → IfSome a.files (λ files. first files (Ok x)) → m.read_faults ≡ a.read_faults → SamePorts a m → ReadStops o (next x) m b → ReadStops o (Then first next) a b
    second_stops (Stopped t) a m b is reads same s = both a.files (λ files. next x files (Err t)) _ (λ files f e. (Ok x, f, e)) is (rw same.files at s)
    second_stops (ReadFailed n) a m b is reads same s = (both a.files (λ files. next x (remove files n) (Err (Missing n))) _ (λ files f e. missing_behind files n f e) is (rw same.files at s.0), rw (← reads) s.1)
    second_stops OutOfMemory a m b is reads same s = tt
    second_stops _ a m b is reads same s = absurd s

    -- what the second gives, both give
    pub got_both : {V E : Type 0} (view : V → Y) (out : E → Outcome) (r : Result V E) (a m b : Outside) → SamePorts a m → IfSome a.files (λ files. first files (Ok x)) × (m.read_faults ≡ a.read_faults) → Got view out r (next x) m b →
        Got view out r (Then first next) a b
    got_both view out (Ok v) a m b same got g = (both a.files (λ files. next x files (Ok (view v))) _ (λ files f e. (Ok x, f, e)) got.0 (rw same.files at g.0), g.1 ∙ got.1)
    got_both view out (Err e) a m b same got g = second_stops (out e) a m b got.0 got.1 same g

-- one file is read alike where another is not there
pub steady_within : {X : Type 0} (limit : ℕ) (name : List ℕ) (reading : List ℕ → Result X Refusal) → IsSteady (IsFileWithin limit name reading)
steady_within limit name reading files n x e = elim (removed files name n) [
  | inl kept ↦ inl (ap (read_from name limit reading) kept ∙ e)
  | inr g ↦ inr (rw (g.1, g.0) refl)
]

pub steady_file : {X : Type 0} (name : List ℕ) (reading : List ℕ → Result X Refusal) → IsSteady (IsFile name reading)
steady_file = steady_within 1048576

-- and so are two, one after the other
pub steady_both : {X Y : Type 0} (first : Reading X) (next : X → Reading Y) → IsSteady first → ((x : X) → IsSteady (next x)) → IsSteady (Then first next)
steady_both first next one two files n y (Err s, f, g) = let bad : Err s ≡ Ok y = g in absurd (cc)
steady_both {Y = Y} first next one two files n y (Ok x, f, g) = elim (one files n x f) [
  | inl there ↦ elim (two x files n y g) [ inl here ↦ inl (Ok x, there, here) | inr missing ↦ inr (Ok x, there, missing) ]
  | inr missing ↦ inr (Err (Missing n), missing, refl)
]

-- what asks no file
pub steady_rule : {X : Type 0} (result : Result X Stop) → IsSteady (Is (λ (files : Files). result))
steady_rule result files n x e = inl e

-- A function of the files gives one thing.
pub one_function : {X : Type 0} (reading : Files → Result X Stop) → IsOneReading (Is reading)
one_function {X = X} reading = record {
  one_sided = λ files x s good fails. (let bad : ◌≡◌ {A = Result X Stop} (Ok x) (Err s) = sym good ∙ fails in absurd (cc));
  one_given = λ files x y e f. (let same : ◌≡◌ {A = Result X Stop} (Ok x) (Ok y) = sym e ∙ f in cc);
  one_stop = λ files t s e f. (let same : ◌≡◌ {A = Result X Stop} (Err t) (Err s) = sym e ∙ f in cc);
}

pub one_within : {X : Type 0} (limit : ℕ) (name : List ℕ) (reading : List ℕ → Result X Refusal) → IsOneReading (IsFileWithin limit name reading)
one_within limit name reading = one_function (λ (files : Files). file_within limit files name reading)

pub one_file : {X : Type 0} (name : List ℕ) (reading : List ℕ → Result X Refusal) → IsOneReading (IsFile name reading)
one_file = one_within 1048576

-- And so do two readings, one after the other, that each do.
module _ {X Y : Type 0} (first : Reading X) (next : X → Reading Y) (one : IsOneReading first) (two : (x : X) → IsOneReading (next x)) where
  both_sided : (files : Files) (y : Y) (s : Stop) → Then first next files (Ok y) → Then first next files (Err s) → ⊥
  both_sided files y s (Ok x, e, g) (Ok z, f, h) = (two x).one_sided files y s g (subst (λ (w : X). next w files (Err s)) (one.one_given files z x f e) h)
  both_sided files y s (Ok x, e, g) (Err t, f, h) = one.one_sided files x t e f
  both_sided files y s (Err t, e, g) q = let bad : ◌≡◌ {A = Result Y Stop} (Err t) (Ok y) = g in absurd (cc)

  both_given : (files : Files) (y z : Y) → Then first next files (Ok y) → Then first next files (Ok z) → y ≡ z
  both_given files y z (Ok x, e, g) (Ok w, f, h) = (two x).one_given files y z g (subst (λ (v : X). next v files (Ok z)) (one.one_given files w x f e) h)
  both_given files y z (Ok x, e, g) (Err t, f, h) = let bad : ◌≡◌ {A = Result Y Stop} (Err t) (Ok z) = h in absurd (cc)
  both_given files y z (Err t, e, g) q = let bad : ◌≡◌ {A = Result Y Stop} (Err t) (Ok y) = g in absurd (cc)

  same_stop : (t s : Stop) → ◌≡◌ {A = Result Y Stop} (Err t) (Err s) → t ≡ s
  same_stop t s e = cc

  both_stop : (files : Files) (t s : Stop) → Then first next files (Err t) → Then first next files (Err s) → t ≡ s
  both_stop files t s (Ok x, e, g) (Ok z, f, h) = (two x).one_stop files t s g (subst (λ (w : X). next w files (Err s)) (one.one_given files z x f e) h)
  both_stop files t s (Ok x, e, g) (Err u, f, h) = absurd (one.one_sided files x u e f)
  both_stop files t s (Err u, e, g) (Ok z, f, h) = absurd (one.one_sided files z u f e)
  both_stop files t s (Err u, e, g) (Err v, f, h) = sym (same_stop u t g) ∙ one.one_stop files u v e f ∙ same_stop v s h

  pub one_both : IsOneReading (Then first next)
  one_both = record { one_sided = both_sided; one_given = both_given; one_stop = both_stop }
