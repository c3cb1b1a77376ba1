-- What is said of the rest is the same of boards whose rest is the same.
use Rattle.std.proofs.Common.{◌≡◌, ◌⊎◌, inl, ℕ, suc, ◌+◌, ◌<◌, List, [], ◌∷◌, ◌++◌, ◌∙◌, length, map, Bool, true, false, None, Some, refl, ap, sym, arith}
use Rattle.std.specs.Prelude.{slice_get, if◌then◌else◌}
use Rattle.sim_base.specs.declared.wiring.Wiring.{Wiring}
use Rattle.sim_base.specs.declared.wiring.Input.{Input}
use Rattle.part_law.specs.Machine.{Machine, Laws}
use Rattle.board_model.specs.Board.{states, input_at}
use Rattle.board_model.specs.Walks.{below}
use Rattle.law_board.specs.Alike.{Alike}
use Rattle.law_board.specs.Alone.{drive_rows, own_levels, own_drives}
use Rattle.law_board.specs.Player.{DriveRows, PlayerState}
use Rattle.law_board.specs.Worlds.{is_chip, IsQuietKind, TheseAre, SameRest}
use Rattle.law_board.specs.Play.{or_player, played, AreDrives}
use Rattle.law_board.specs.Rest.{rest_from}
use Rattle.law_board.proofs.AlikeLemmas.{alike_weaker}
use Rattle.law_board.proofs.AloneLaw.{drives_alone}
use Rattle.law_board.proofs.PlayLaw.{play_states}

rest_same_from : {A B C : Type 0} (w : Wiring) (f : ℕ → A → List C) (g : ℕ → B → List C) (i : ℕ) (xs : List A) (ys : List B) → length xs ≡ length ys →
    ((k : ℕ) (a : A) (b : B) → slice_get xs k ≡ Some a → slice_get ys k ≡ Some b → is_chip w (i + k) ≡ false → f (i + k) a ≡ g (i + k) b) → rest_from w f i xs ≡ rest_from w g i ys
rest_same_from w f g i [] [] l same = refl
rest_same_from w f g i [] (y ∷ ys) l same = absurd (omega arith)
rest_same_from w f g i (x ∷ xs) [] l same = absurd (omega arith)
rest_same_from {C = C} w f g i (x ∷ xs) (y ∷ ys) l same =
    let e : i + 0 ≡ i = omega arith in
    let more : rest_from w f (i + 1) xs ≡ rest_from w g (i + 1) ys =
    rest_same_from w f g (i + 1) xs ys (omega arith) (λ k a b ea eb c.
    let e1 : i + suc k ≡ i + 1 + k = omega arith in
    ap (λ (j : ℕ). f j a) (sym e1) ∙ same (suc k) a b ea eb (ap (is_chip w) e1 ∙ c) ∙ ap (λ (j : ℕ). g j b) e1) in
    ap (λ (l : List C). (if is_chip w i then [] else f i x) ++ l) more ∙ ap (λ (l : List C). l ++ rest_from w g (i + 1) ys) (here (is_chip w i) refl (λ c. ap (λ (j : ℕ). f j x) (sym e) ∙ same 0 x y refl refl (ap (is_chip w) e ∙ c) ∙ ap (λ (j : ℕ). g j y) e))
  where
    here : (c : Bool) → is_chip w i ≡ c → (is_chip w i ≡ false → f i x ≡ g i y) → (if is_chip w i then [] else f i x) ≡ (if is_chip w i then [] else g i y)
    here true is h = ap (λ (b : Bool). if b then [] else f i x) is ∙ sym (ap (λ (b : Bool). if b then [] else g i y) is)
    here false is h = ap (λ (l : List C). if is_chip w i then [] else l) (h is)

pub rest_said : {A B C : Type 0} (w : Wiring) (f : ℕ → A → List C) (g : ℕ → B → List C) (xs : List A) (ys : List B) → Alike (λ k a b. is_chip w k ≡ false → f k a ≡ g k b) xs ys → rest_from w f 0 xs ≡ rest_from w g 0 ys
rest_said w f g xs ys like = rest_same_from w f g 0 xs ys like.long (λ k a b ea eb c.
    let e : 0 + k ≡ k = omega arith in
    ap (λ (j : ℕ). f j a) e ∙ like.each k a b ea eb (ap (is_chip w) (sym e) ∙ c) ∙ ap (λ (j : ℕ). g j b) (sym e))

-- of a board with players
pub rest_of_play : {S C : Type 0} (m : Machine S) (IsOf : S → Type 0) (kind : IsQuietKind m IsOf) (w : Wiring) (inputs : List Input) (ss : List S) (n : ℕ) (rows_of : ℕ → List DriveRows) →
    TheseAre IsOf (is_chip w) ss → AreDrives m w inputs ss n (is_chip w) rows_of → (f : ℕ → S → List C) (g : ℕ → S ⊎ PlayerState → List C) → ((k : ℕ) (s : S) → f k s ≡ g k (inl s)) →
    rest_from w f 0 (states m w inputs ss 0 n) ≡ rest_from w g 0 (states (or_player m) w inputs (played (is_chip w) rows_of ss) 0 n)
rest_of_play m IsOf kind w inputs ss n rows_of chips drives f g same =
    rest_said w f g _ _ (alike_weaker (λ k a b. is_chip w k ≡ false → b ≡ inl a) (λ k a b. is_chip w k ≡ false → f k a ≡ g k b) _ _ (play_states m IsOf kind w inputs ss n (is_chip w) rows_of chips drives n (omega arith))
    (λ k a b ea eb h c. same k a ∙ ap (g k) (sym (h c))))

-- of two worlds
pub rest_of_worlds : {S C : Type 0} (w : Wiring) (f : ℕ → S → List C) (xs ys : List S) → SameRest w xs ys → rest_from w f 0 xs ≡ rest_from w f 0 ys
rest_of_worlds w f xs ys rest = rest_said w f f xs ys (alike_weaker (λ k a b. is_chip w k ≡ false → a ≡ b) (λ k a b. is_chip w k ≡ false → f k a ≡ f k b) xs ys rest (λ k a b ea eb h c. ap (f k) (h c)))

-- A chip in two boards, whatever else is in them: with the same levels on its own pins it has the same drives.
pub drives_by_levels : {S : Type 0} (m : Machine S) (laws : Laws m) (s : S) (c n : ℕ)
    (w : Wiring) (inputs : List Input) (xs : List S) (i : ℕ) → slice_get xs i ≡ Some s → ((k : ℕ) → k < n → input_at inputs (c + k) i ≡ None) →
    (v : Wiring) (others : List Input) (ys : List S) (j : ℕ) → slice_get ys j ≡ Some s → ((k : ℕ) → k < n → input_at others (c + k) j ≡ None) →
    map (own_levels m w inputs xs c i (length (m.drives s))) (below n) ≡ map (own_levels m v others ys c j (length (m.drives s))) (below n) →
    map (own_drives m w inputs xs c i) (below n) ≡ map (own_drives m v others ys c j) (below n)
drives_by_levels m laws s c n w inputs xs i here none v others ys j there nothing same =
    sym (drives_alone m laws w inputs xs c i s here n none) ∙ ap (drive_rows m s c) same ∙ drives_alone m laws v others ys c j s there n nothing
