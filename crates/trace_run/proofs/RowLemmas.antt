-- What rows say at a cycle, how many are past, and the next of them.
use Rattle.std.proofs.Common.{◌≡◌, ◌<◌, ◌≤◌, ◌⊎◌, inl, inr, ℕ, zero, suc, ◌+◌, List, [], ◌∷◌, length, map, Bool, true, false, Option, None, Some, refl, sym, ap, ◌∙◌, arith, subst, get_or}
use Rattle.std.specs.Prelude.{◌==◌, ◌||◌, nat_le, min, if◌then◌else◌, slice_get, slice_index, option_map}
use Rattle.std.proofs.lemmas.Bool.{cases_lt, or_from, or_left, or_right}
use Rattle.std.proofs.lemmas.List.{get_or_default}
use Rattle.std.proofs.lemmas.Option.{slice_get-map}
use Rattle.std.proofs.lemmas.Bool.Decides.{leb_tells, eqb_tells}
use Rattle.sim_base.specs.declared.signal.Drive.{Drive}
use Rattle.sim_base.specs.declared.signal.Drive.TheVariants as drives
use Rattle.law_board.specs.Player.{DriveRows, drive_from, drive_at, has_row}
use Rattle.trace_run.specs.Rows.{AreCounts, AreInOrder, ArePast, IsCount, IsNext, cycle_at, earlier}

-- the last of the rows that stand at or before a cycle, where so many do
drive_is : (rows : DriveRows) (found : Drive) (t r : ℕ) (e : ℕ × Drive) → r ≤ length rows
    → ((k : ℕ) (d : ℕ × Drive) → k < r → nat_le (get_or rows k d).0 t ≡ true)
    → ((k : ℕ) (d : ℕ × Drive) → r ≤ k → k < length rows → nat_le (get_or rows k d).0 t ≡ false)
    → drive_from found rows t ≡ (get_or ((0, found) ∷ rows) r e).1
drive_is [] found t zero e h past left = refl
drive_is [] found t (suc r) e h past left = absurd (omega (arith, h))
drive_is (row ∷ rows) found t zero e h past left =
    ap (λ (b : Bool). drive_from (if b then row.1 else found) rows t) (left 0 row (omega arith) (omega arith))
    ∙ drive_is rows found t 0 e (omega arith) (λ k d l. absurd (omega (arith, l))) (λ k d l m. left (suc k) d (omega arith) (omega (arith, m)))
drive_is (row ∷ rows) found t (suc zero) e h past left =
    ap (λ (b : Bool). drive_from (if b then row.1 else found) rows t) (past 0 row (omega arith))
    ∙ drive_is rows row.1 t 0 e (omega arith) (λ k d l. absurd (omega (arith, l))) (λ k d l m. left (suc k) d (omega arith) (omega (arith, m)))
drive_is (row ∷ rows) found t (suc (suc r)) e h past left =
    ap (λ (b : Bool). drive_from (if b then row.1 else found) rows t) (past 0 row (omega arith))
    ∙ drive_is rows row.1 t (suc r) e (omega (arith, h)) (λ k d l. past (suc k) d (omega (arith, l))) (λ k d l m. left (suc k) d (omega (arith, l)) (omega (arith, m)))

pub eq_no : (u v : ℕ) → ¬ (u ≡ v) → (u == v) ≡ false
eq_no u v h = grind (arith, eqb_tells u v)

pub eq_yes : (u v : ℕ) → u ≡ v → (u == v) ≡ true
eq_yes u v h = grind (arith, eqb_tells u v)

-- none of the rows stands at v
no_row : (rows : DriveRows) (v : ℕ) → ((k : ℕ) (d : ℕ × Drive) → k < length rows → ¬ ((get_or rows k d).0 ≡ v)) → has_row rows v ≡ false
no_row [] v h = refl
no_row (row ∷ rows) v h = or_from (row.0 == v) (has_row rows v) (eq_no row.0 v (h 0 row (omega arith))) (no_row rows v (λ k d l. h (suc k) d (omega (arith, l))))

-- row k stands at v
a_row : (rows : DriveRows) (v k : ℕ) (d : ℕ × Drive) → k < length rows → (get_or rows k d).0 ≡ v → has_row rows v ≡ true
a_row [] v k d l e = absurd (omega (arith, l))
a_row (row ∷ rows) v zero d l e = or_left (row.0 == v) (has_row rows v) (eq_yes row.0 v e)
a_row (row ∷ rows) v (suc k) d l e = or_right (row.0 == v) (has_row rows v) (a_row rows v k d (omega (arith, l)) e)

le_yes : (a b : ℕ) → a ≤ b → nat_le a b ≡ true
le_yes a b l = grind (arith, leb_tells a b)

le_no : (a b : ℕ) → b < a → nat_le a b ≡ false
le_no a b l = grind (arith, leb_tells a b)

-- row k, whatever stands for one that is not there
cycle_is : (rows : DriveRows) (k : ℕ) (d : ℕ × Drive) → k < length rows → (get_or rows k d).0 ≡ cycle_at rows k
cycle_is rows k d l = ap (λ (row : ℕ × Drive). row.0) (get_or_default rows k d (0, drives.Z) l)

-- one more row is past
pub past_more : (rows : DriveRows) (t r : ℕ) → ArePast rows t r → r < length rows → cycle_at rows r ≤ t → ArePast rows t (r + 1)
past_more rows t r was l here = record {
  bound = omega (arith, l);
  past = λ k (h : k < r + 1). elim (cases_lt k r) [
    | inl under ↦ was.past k under
    | inr over ↦ let same : k ≡ r = omega (arith, h, over) in subst (λ (m : ℕ). cycle_at rows m ≤ t) (sym same) here
  ];
}

-- where one row is not past, none behind it is
pub count_here : (rows : DriveRows) (t r : ℕ) → AreInOrder rows → ArePast rows t r → r < length rows → t < cycle_at rows r → IsCount rows t r
count_here rows t r order was l here = record {
  past = was;
  left = λ k (h : r ≤ k) (m : k < length rows). omega (arith, order r k (0, drives.Z) h m, here);
}

-- all are past
pub count_whole : (rows : DriveRows) (t r : ℕ) → ArePast rows t r → length rows ≤ r → IsCount rows t r
count_whole rows t r was over = record { past = was; left = λ k (h : r ≤ k) (m : k < length rows). absurd (omega (arith, over, h, m)) }

module _ (rows : DriveRows) (c r : ℕ) (count : IsCount rows c r) where
  past_at : (k : ℕ) (d : ℕ × Drive) → k < r → (get_or rows k d).0 ≤ c
  past_at k d l = let bound = count.past.bound in omega (arith, cycle_is rows k d (omega (arith, l, bound)), count.past.past k l)

  left_at : (k : ℕ) (d : ℕ × Drive) → r ≤ k → k < length rows → c < (get_or rows k d).0
  left_at k d h l = omega (arith, cycle_is rows k d l, count.left k h l)

  pub drive_counted : drive_at rows c ≡ (get_or ((0, drives.Z) ∷ rows) r (0, drives.Z)).1
  drive_counted = drive_is rows drives.Z c r (0, drives.Z) count.past.bound (λ k d l. le_yes _ c (past_at k d l)) (λ k d h l. le_no _ c (left_at k d h l))

  before : (v k : ℕ) (d : ℕ × Drive) → c < v → k < r → ¬ ((get_or rows k d).0 ≡ v)
  before v k d h l e = omega (arith, past_at k d l, e, h)

  pub next_none : length rows ≤ r → IsNext (has_row rows) c None
  next_none over = λ v (h : c < v). no_row rows v (λ k d l. before v k d h (omega (arith, l, over)))

  pub next_some : AreInOrder rows → r < length rows → IsNext (has_row rows) c (Some (cycle_at rows r))
  next_some order l = (
    count.left r (omega arith) l,
    a_row rows (cycle_at rows r) r (0, drives.Z) l refl,
    λ v (h : c < v) (m : v < cycle_at rows r). no_row rows v (λ k d n. one v h m k d n (cases_lt k r)),
  )
    where
      one : (v : ℕ) → c < v → v < cycle_at rows r → (k : ℕ) (d : ℕ × Drive) → k < length rows → ((k < r) ⊎ (r ≤ k)) → ¬ ((get_or rows k d).0 ≡ v)
      one v h m k d n (inl q) = before v k d h q
      one v h m k d n (inr q) = λ i. omega (arith, order r k (0, drives.Z) q n, cycle_is rows k d n, m, i)

  -- as many are past at a later cycle, where no row comes up to it
  pub count_later : (to : ℕ) → c ≤ to → ((v : ℕ) → c < v → v ≤ to → has_row rows v ≡ false) → IsCount rows to r
  count_later to later none = record {
    past = record { bound = count.past.bound; past = λ k l. omega (arith, count.past.past k l, later) };
    left = λ k h l. by k h l (cases_lt to (cycle_at rows k));
  }
    where
      by : (k : ℕ) → r ≤ k → k < length rows → ((to < cycle_at rows k) ⊎ (cycle_at rows k ≤ to)) → to < cycle_at rows k
      by k h l (inl far) = far
      by k h l (inr near) =
          let no = none (cycle_at rows k) (count.left k h l) near in
          let yes = a_row rows (cycle_at rows k) k (0, drives.Z) l refl in
          absurd cc

-- where as many rows are past, the drive is the same
same_counted : (rows : DriveRows) (c t n m : ℕ) → IsCount rows c n → IsCount rows t m → m ≡ n → drive_at rows t ≡ drive_at rows c
same_counted rows c t n m old new same =
    drive_counted rows t m new ∙ ap (λ (k : ℕ). (get_or ((0, drives.Z) ∷ rows) k (0, drives.Z)).1) same ∙ sym (drive_counted rows c n old)

pub same_driven : (pins : List DriveRows) (c t : ℕ) (old new : List ℕ) (k : ℕ) → AreCounts pins c old → AreCounts pins t new → slice_index new k ≡ slice_index old k →
    slice_get (map (λ r. drive_at r t) pins) k ≡ slice_get (map (λ r. drive_at r c) pins) k
same_driven pins c t old new k was are same =
    slice_get-map (λ (r : DriveRows). drive_at r t) pins k ∙ by (slice_get pins k) refl ∙ sym (slice_get-map (λ (r : DriveRows). drive_at r c) pins k)
  where
    by : (o : Option DriveRows) → slice_get pins k ≡ o → option_map (λ (r : DriveRows). drive_at r t) o ≡ option_map (λ (r : DriveRows). drive_at r c) o
    by None e = refl
    by (Some rows) e = ap (λ (d : Drive). Some d) (same_counted rows c t (slice_index old k) (slice_index new k) (was k rows e) (are k rows e) same)

-- the next row of one of two
pub next_earlier : (f g : ℕ → Bool) (c : ℕ) (a b : Option ℕ) → IsNext f c a → IsNext g c b → IsNext (λ v. f v || g v) c (earlier a b)
next_earlier f g c None None p q = λ v h. or_from (f v) (g v) (p v h) (q v h)
next_earlier f g c None (Some v) p q = (q.0, or_right (f v) (g v) q.1, λ w h l. or_from (f w) (g w) (p w h) (q.2 w h l))
next_earlier f g c (Some u) None p q = (p.0, or_left (f u) (g u) p.1, λ w h l. or_from (f w) (g w) (p.2 w h l) (q w h))
next_earlier f g c (Some u) (Some v) p q = elim (cases_lt u v) [
  | inl h ↦ let e : min u v ≡ u = omega arith in rw e (p.0, or_left (f u) (g u) p.1, λ w k l. or_from (f w) (g w) (p.2 w k l) (q.2 w k (omega (arith, l, h))))
  | inr h ↦ let e : min u v ≡ v = omega arith in rw e (q.0, or_right (f v) (g v) q.1, λ w k l. or_from (f w) (g w) (p.2 w k (omega (arith, l, h))) (q.2 w k l))
]
