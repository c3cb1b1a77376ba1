-- A board in which players stand for the chips shows the same.
use Rattle.std.proofs.Common.{◌≡◌, ◌⊎◌, inl, inr, ℕ, zero, suc, ◌+◌, ◌<◌, ◌≤◌, List, [], ◌∷◌, ◌∙◌, length, map, Bool, true, false, Option, Some, refl, ap, sym, arith}
use Rattle.std.specs.Prelude.{slice_get, unwrap_or, if◌then◌else◌}
use Rattle.std.specs.Option.{option_map}
use Rattle.sim_base.specs.declared.wiring.Wiring.{Wiring}
use Rattle.sim_base.specs.declared.wiring.Input.{Input}
use Rattle.part_law.specs.Machine.{Machine}
use Rattle.board_model.specs.Board.{part_step, levels_of, states, bytes}
use Rattle.board_model.specs.Rows.{Shown, rows}
use Rattle.board_model.proofs.Lists.{some_same}
use Rattle.law_board.specs.Alike.{Alike, SameShow}
use Rattle.law_board.proofs.Beside.{Beside}
use Rattle.law_board.specs.Alone.{own_drives}
use Rattle.law_board.specs.Player.{DriveRows, drive_at, PlayerState, new_player, player}
use Rattle.law_board.specs.Worlds.{IsQuietKind, TheseAre}
use Rattle.law_board.specs.Play.{or_player, played_from, played, AreDrives}
use Rattle.law_board.proofs.AlikeLemmas.{alike_weaker}
use Rattle.law_board.proofs.BesideLaw.{beside_states, beside_levels, beside_bytes, beside_rows}

-- a player of these rows, at cycle t
record IsPlayer {S : Type 0} (rows : List DriveRows) (t : ℕ) (b : S ⊎ PlayerState) : Type 0 where
  one : PlayerState
  same : b ≡ inr one
  has : one.rows ≡ rows
  stands : one.cycle ≡ t

-- part k of a board at cycle t, and what stands for it
record Replaced {S : Type 0} (IsOf : S → Type 0) (these : ℕ → Bool) (rows : ℕ → List DriveRows) (t k : ℕ) (a : S) (b : S ⊎ PlayerState) : Type 0 where
  rest : these k ≡ false → b ≡ inl a
  chip : these k ≡ true → IsOf a
  plays : these k ≡ true → IsPlayer (rows k) t b

length-played : {S : Type 0} (these : ℕ → Bool) (rows : ℕ → List DriveRows) (i : ℕ) (ss : List S) → length ss ≡ length (played_from these rows i ss)
length-played these rows i [] = refl
length-played these rows i (s ∷ ss) = ap suc (length-played these rows (i + 1) ss)

get-played : {S : Type 0} (these : ℕ → Bool) (rows : ℕ → List DriveRows) (k i : ℕ) (ss : List S) (a : S) (b : S ⊎ PlayerState) → slice_get ss k ≡ Some a → slice_get (played_from these rows i ss) k ≡ Some b →
    b ≡ (if these (i + k) then inr (new_player (rows (i + k))) else inl a)
get-played these rows k i [] a b ea eb = cc
get-played these rows zero i (s ∷ ss) a b ea eb =
    let e : i ≡ i + 0 = omega arith in
    sym (some_same eb) ∙ ap (λ x. if these i then inr (new_player (rows i)) else inl x) (some_same ea) ∙ ap (λ (j : ℕ). if these j then inr (new_player (rows j)) else inl a) e
get-played these rows (suc k) i (s ∷ ss) a b ea eb =
    let e : i + 1 + k ≡ i + suc k = omega arith in
    get-played these rows k (i + 1) ss a b ea eb ∙ ap (λ (j : ℕ). if these j then inr (new_player (rows j)) else inl a) e

module _ {S : Type 0} (m : Machine S) (IsOf : S → Type 0) (kind : IsQuietKind m IsOf) (w : Wiring) (inputs : List Input) (ss : List S) (n : ℕ) (these : ℕ → Bool) (rows_of : ℕ → List DriveRows)
    (chips : TheseAre IsOf these ss) (drives : AreDrives m w inputs ss n these rows_of) where
  begins : (k : ℕ) (a : S) (b : S ⊎ PlayerState) → slice_get ss k ≡ Some a → slice_get (played these rows_of ss) k ≡ Some b → Replaced IsOf these rows_of 0 k a b
  begins k a b ea eb =
      let e0 : 0 + k ≡ k = omega arith in
      let e : b ≡ (if these k then inr (new_player (rows_of k)) else inl a) = get-played these rows_of k 0 ss a b ea eb ∙ ap (λ (j : ℕ). if these j then inr (new_player (rows_of j)) else inl a) e0 in
      record {
        rest = λ not. e ∙ ap (λ (x : Bool). if x then inr (new_player (rows_of k)) else inl a) not;
        chip = λ is. chips k a is ea;
        plays = λ is. record { one = new_player (rows_of k); same = e ∙ ap (λ (x : Bool). if x then inr (new_player (rows_of k)) else inl a) is; has = refl; stands = refl };
      }

  shows : (t k : ℕ) (a : S) (b : S ⊎ PlayerState) (x : Bool) → these k ≡ x → t < n → slice_get (states m w inputs ss 0 t) k ≡ Some a → Replaced IsOf these rows_of t k a b → SameShow m (or_player m) a b
  shows t k a b true is l ea h =
      let p = h.plays is in
      let shown : own_drives m w inputs ss 0 k t ≡ m.drives a = ap (λ (x : Option S). unwrap_or (option_map m.drives x) []) ea in
      record {
        drives = sym shown ∙ sym (drives k t is l)
            ∙ ap (λ (u : ℕ). map (λ r. drive_at r u) (rows_of k)) (sym p.stands)
            ∙ ap (λ (rs : List DriveRows). map (λ r. drive_at r p.one.cycle) rs) (sym p.has)
            ∙ sym (ap (or_player m).drives p.same);
        contacts = kind.no_contacts a (h.chip is) ∙ sym (ap (or_player m).contacts p.same);
      }
  shows t k a b false not l ea h = record { drives = sym (ap (or_player m).drives (h.rest not)); contacts = sym (ap (or_player m).contacts (h.rest not)) }

  emits : (t k : ℕ) (a : S) (b : S ⊎ PlayerState) (x : Bool) → these k ≡ x → Replaced IsOf these rows_of t k a b →
      (part_step m w inputs (levels_of m w (states m w inputs ss 0 t)) (0 + t) k a).1 ≡ (part_step (or_player m) w inputs (levels_of m w (states m w inputs ss 0 t)) (0 + t) k b).1
  emits t k a b true is h =
      let p = h.plays is in
      kind.no_byte a (0 + t) _ _ (h.chip is) ∙ sym (ap (λ (s : S ⊎ PlayerState). (part_step (or_player m) w inputs (levels_of m w (states m w inputs ss 0 t)) (0 + t) k s).1) p.same)
  emits t k a b false not h = sym (ap (λ (s : S ⊎ PlayerState). (part_step (or_player m) w inputs (levels_of m w (states m w inputs ss 0 t)) (0 + t) k s).1) (h.rest not))

  play_beside : Beside m (or_player m) w inputs ss (played these rows_of ss) 0 n (λ t k a b. Replaced IsOf these rows_of t k a b)
  play_beside = record {
    starts = record { long = length-played these rows_of 0 ss; each = begins };
    shows = λ t k a b l ea eb h. shows t k a b (these k) refl l ea h;
    steps = λ t k a b l ea eb h.
        let ls = levels_of m w (states m w inputs ss 0 t) in
        let e : 0 + t + 1 ≡ suc t = omega arith in
        record {
          rest = λ not. ap (λ (s : S ⊎ PlayerState). (part_step (or_player m) w inputs ls (0 + t) k s).0) (h.rest not);
          chip = λ is. kind.stays a (0 + t) _ _ (h.chip is);
          plays = λ is.
              let p = h.plays is in
              record { one = (part_step player w inputs ls (0 + t) k p.one).0; same = ap (λ (s : S ⊎ PlayerState). (part_step (or_player m) w inputs ls (0 + t) k s).0) p.same; has = p.has; stands = e };
        };
  }

  -- all other parts are in the same states, at the end of the run too
  pub play_states : (t : ℕ) → t ≤ n → Alike (λ k a b. these k ≡ false → b ≡ inl a) (states m w inputs ss 0 t) (states (or_player m) w inputs (played these rows_of ss) 0 t)
  play_states t h = alike_weaker (λ k a b. Replaced IsOf these rows_of t k a b) (λ k a b. these k ≡ false → b ≡ inl a) _ _
      (beside_states m (or_player m) w inputs ss (played these rows_of ss) 0 n (λ t k a b. Replaced IsOf these rows_of t k a b) play_beside t h) (λ k a b ea eb r. r.rest)

  pub play_levels : (t : ℕ) → t < n → levels_of m w (states m w inputs ss 0 t) ≡ levels_of (or_player m) w (states (or_player m) w inputs (played these rows_of ss) 0 t)
  play_levels t h = beside_levels m (or_player m) w inputs ss (played these rows_of ss) 0 n (λ t k a b. Replaced IsOf these rows_of t k a b) play_beside t h

  pub play_rows : (before : Option Shown) → rows m w inputs before ss 0 n ≡ rows (or_player m) w inputs before (played these rows_of ss) 0 n
  play_rows before = beside_rows m (or_player m) w inputs ss (played these rows_of ss) 0 n (λ t k a b. Replaced IsOf these rows_of t k a b) play_beside before n (omega arith)

  pub play_bytes : bytes m w inputs ss 0 n ≡ bytes (or_player m) w inputs (played these rows_of ss) 0 n
  play_bytes = beside_bytes m (or_player m) w inputs ss (played these rows_of ss) 0 n (λ t k a b. Replaced IsOf these rows_of t k a b) play_beside (λ t k a b l ea eb h. emits t k a b (these k) refl h) n (omega arith)
