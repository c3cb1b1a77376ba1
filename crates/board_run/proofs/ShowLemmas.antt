-- What a board shows, and how it is read.
use Rattle.board_run.proofs.Common.{◌≡◌, ℕ, zero, suc, ◌+◌, ◌-◌, ◌<◌, List, [], ◌∷◌, ◌++◌, length, map, Bool, true, false, not, Option, None, Some, refl, ap}
use Rattle.board_run.proofs.Common.{sym, ◌∙◌, arith, append_assoc, ◌==◌, ◌||◌, ◌&&◌, if◌then◌else◌, replicate, slice_get, flat_map, length-map, and_parts}
use Rattle.board_run.proofs.Common.{Wiring, Input, Row, AreFronts, Handed, Machine, some_same, get_map_some, flat_map_same, level_same, drive_same, list_same}
use Rattle.board_run.proofs.Common.{levels_mean, ReadingView, IsOf, AreStill, shown, shown_at, AreBehind}
use Rattle.board_model.specs.Board.{levels_of, bytes_of, states, bytes}
use Rattle.board_model.specs.Rows.{Shown, same_level, same_drive, same_list, same_shown, chip_drives_of, shown_of, is_new, row_if, shown_before, rows}
use Rattle.board_run.proofs.HandLemmas.{appends_none, whole_front}

-- what is read shows what the parts show
pub shown_is : {S : Type 0} (m : Machine S) (w : Wiring) (ss : List S) (reading : ReadingView) → IsOf m w ss reading → shown reading ≡ shown_of m w ss
shown_is m w ss reading is = let a = is.levels_are in let b = is.chips_are in cc

-- what is as it was read shows the same
pub fresh_same : {S : Type 0} (m : Machine S) (w : Wiring) (ss : List S) (reading : ReadingView) → IsOf m w ss reading → true ≡ same_shown (shown reading) (shown_of m w ss)
fresh_same m w ss reading is = sym (
    ap (same_shown (shown reading)) (sym (shown_is m w ss reading is))
    ∙ ap (λ (b : Bool). b && same_list same_drive reading.nets.kept reading.nets.kept) (list_same same_level level_same reading.nets.levels)
    ∙ list_same same_drive drive_same reading.nets.kept)

-- whether a cycle has a row
pub new_is : (t : ℕ) (reading : ReadingView) (now : Shown) (same : Bool) → same ≡ same_shown (shown reading) now → ((t == 0) || not same) ≡ is_new (shown_at t reading) now
new_is t reading now same e = go (t == 0) refl
  where
    go : (b : Bool) → (t == 0) ≡ b → ((t == 0) || not same) ≡ is_new (shown_at t reading) now
    go true f = rw f refl
    go false f = rw f (ap not e)

-- where the same is shown, levels are as before
pub same_still : {S : Type 0} (m : Machine S) (w : Wiring) (ss : List S) (old new : ReadingView) (same : Bool) → same ≡ same_shown (shown old) (shown_of m w ss) → same ≡ true → IsOf m w ss new → old.nets.levels ≡ new.nets.levels
same_still m w ss old new same e f is =
    levels_mean old.nets.levels (levels_of m w ss) (and_parts _ _ (sym e ∙ f)).0 ∙ sym is.levels_are

pub levels_shown : (t : ℕ) (reading : ReadingView) (s : Shown) → shown_at t reading ≡ Some s → s.levels ≡ reading.nets.levels
levels_shown t reading s e = go (t == 0) e
  where
    go : (b : Bool) → (if b then None else Some (shown reading)) ≡ Some s → s.levels ≡ reading.nets.levels
    go true f = absurd cc
    go false f = ap (λ (x : Shown). x.levels) (sym (some_same f))

-- after cycle 0 what was read was shown
pub later_shown : (t u : ℕ) (reading : ReadingView) → u < t → shown_at t reading ≡ Some (shown reading)
later_shown t u reading less = let e : (t == 0) ≡ false = grind (arith, less) in rw e refl

-- the row that is handed out
pub row_is : {S : Type 0} (m : Machine S) (w : Wiring) (ss : List S) (t : ℕ) (old new : ReadingView) (there same : Bool) → there ≡ ((t == 0) || not same) → same ≡ same_shown (shown old) (shown_of m w ss) → IsOf m w ss new →
    ◌≡◌ {A = List Row} (if there then record { cycle = t; levels = new.nets.levels; drives = new.nets.drives } ∷ [] else []) (row_if m w (shown_at t old) ss t)
row_is m w ss t old new there same e f is =
    rw (e, new_is t old (shown_of m w ss) same f, is.levels_are, is.drives_are) refl

-- one of many that are the same
pub get_all : {A : Type 0} (n k : ℕ) (x b : A) → slice_get (replicate n x) k ≡ Some b → b ≡ x
get_all zero k x b e = absurd cc
get_all (suc n) zero x b e = sym (some_same e)
get_all (suc n) (suc k) x b e = get_all n k x b e

-- parts that are still have the same drives and contacts
pub still_same : {S P B : Type 0} (f : S → List B) (state : P → S) (old new : List P) → length new ≡ length old →
    ((k : ℕ) (p q : P) → slice_get old k ≡ Some p → slice_get new k ≡ Some q → f (state q) ≡ f (state p)) → flat_map f (map state new) ≡ flat_map f (map state old)
still_same f state old new long each = flat_map_same f (map state new) (map state old) (simp length-map long) (λ k x y ex ey.
    let a = get_map_some state new k x ex in
    let b = get_map_some state old k y ey in
    ap f (sym a.2) ∙ each k b.0 a.0 b.1 a.1 ∙ ap f b.2)

-- chips that drive what they did, whatever the other parts drive
pub chips_same : {S P : Type 0} (m : Machine S) (state : P → S) (chips : List Bool) (old new : List P) → length new ≡ length old →
    ((k : ℕ) (p q : P) → slice_get old k ≡ Some p → slice_get new k ≡ Some q → m.drives (state q) ≡ m.drives (state p)) → chip_drives_of m chips (map state new) ≡ chip_drives_of m chips (map state old)
chips_same m state [] old new long each = refl
chips_same m state (c ∷ chips) [] [] long each = refl
chips_same m state (c ∷ chips) (p ∷ old) (q ∷ new) long each =
    rw (each 0 p q refl refl, chips_same m state chips old new (omega arith) (λ k x y ex ey. each (suc k) x y ex ey)) refl
chips_same m state (c ∷ chips) old new long each = absurd (omega arith)

-- what was read of parts that stayed still is still so
pub still_of : {S P : Type 0} (m : Machine S) (w : Wiring) (state : P → S) (old new : List P) (reading : ReadingView) → length new ≡ length old → AreStill m state old new → IsOf m w (map state old) reading → IsOf m w (map state new) reading
still_of m w state old new reading long still is =
    let d = still_same m.drives state old new long (λ k p q ep eq. (still k p q ep eq).0) in
    let c = still_same m.contacts state old new long (λ k p q ep eq. (still k p q ep eq).1) in
    record {
      drives_are = is.drives_are ∙ sym d;
      closed_are = is.closed_are ∙ sym c;
      levels_are = rw (d, c) is.levels_are;
      chips_are = is.chips_are ∙ sym (chips_same m state w.chip old new long (λ k p q ep eq. (still k p q ep eq).0));
    }

pub not_first : (t : ℕ) → (t + 1 == 0) ≡ false
not_first t = grind arith

module _ {S : Type 0} (m : Machine S) (w : Wiring) (inputs : List Input) (before : Option Shown) (ss : List S) (c : ℕ) where
  -- what is shown first is the front of what is shown in all
  pub fronts : (k j : ℕ) → AreFronts (rows m w inputs before ss c k) (bytes m w inputs ss c k) (rows m w inputs before ss c (k + j)) (bytes m w inputs ss c (k + j))
  unfolding rows bytes
  fronts k zero =
      let e : k + 0 ≡ k = omega arith in
      rw e (whole_front (rows m w inputs before ss c k) (bytes m w inputs ss c k))
  fronts k (suc j) =
      let e : suc (k + j) ≡ k + suc j = omega arith in
      let f = fronts k j in
      let row = row_if m w (shown_before m w inputs before ss c (k + j)) (states m w inputs ss c (k + j)) (c + (k + j)) in
      let bs = bytes_of m w inputs (states m w inputs ss c (k + j)) (c + (k + j)) in
      record {
        more_rows = f.more_rows ++ row;
        more_bytes = f.more_bytes ++ bs;
        whole_rows = sym (append_assoc (rows m w inputs before ss c k) f.more_rows row) ∙ ap (λ (l : List Row). l ++ row) f.whole_rows ∙ ap (rows m w inputs before ss c) e;
        whole_bytes = sym (append_assoc (bytes m w inputs ss c k) f.more_bytes bs) ∙ ap (λ (l : List ℕ). l ++ bs) f.whole_bytes ∙ ap (bytes m w inputs ss c) e;
      }

-- nothing is handed out before the first cycle
pub none_handed : {S W : Type 0} (m : Machine S) (w : Wiring) (inputs : List Input) (before : Option Shown) (ss : List S) (c : ℕ) (whole : W → Bool) (faults : W → ℕ) (stands : W → List Row → List ℕ → Type 0) (a : W) →
    whole a ≡ true → Handed whole faults stands a a (rows m w inputs before ss c (c - c)) (bytes m w inputs ss c (c - c))
unfolding rows bytes
none_handed m w inputs before ss c whole faults stands a is =
    let e : c - c ≡ 0 = omega arith in
    rw e (record { is_whole = is; no_fault = refl; appended = appends_none stands a })

pub behind_start : (inputs : List Input) → AreBehind inputs 0 0
behind_start inputs = record { within = omega arith; earlier = λ k x l e. absurd (omega arith); later = λ k x l e. omega arith }
