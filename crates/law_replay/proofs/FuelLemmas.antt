-- With players in place of the chips, a board begins the same whatever fuel its chips had.
use Rattle.std.proofs.Common.{◌≡◌, ◌⊎◌, ◌<◌, ◌+◌, ℕ, suc, List, [], ◌∷◌, length, Bool, true, false, Some, inl, inr, refl, ap, sym, ◌∙◌, arith}
use Rattle.std.specs.Prelude.{if◌then◌else◌, slice_get}
use Rattle.std.proofs.lemmas.Option.{slice_get_within}
use Rattle.board_model.proofs.Lists.{some_same}
use Rattle.law_board.specs.Player.{DriveRows, PlayerState, new_player}
use Rattle.law_board.specs.Play.{played, played_from}
use Rattle.law_board.specs.Worlds as worlds
use Rattle.board_build.specs.declared.plan.Plan.{Plan}
use Rattle.board_build.specs.IsPlan.{IsPlan}
use Rattle.board_build.specs.Parts.{is_chip}
use Rattle.chip_module.specs.Sources.{pins_of}
use Rattle.any_part.specs.AnyPart.{AnyState}
use Rattle.any_part.specs.Start.{Contents, starts}
use Rattle.any_part.proofs.StartLemmas.{all_ready, start_at, starts_many}
use Rattle.law_isolation.proofs.ChipLemmas.{chips_are, part_there, part_kind, stock_same}

-- states of which those that are not replaced are the same
module _ {S : Type 0} (these : ℕ → Bool) (rows : ℕ → List DriveRows) where
  abbrev AgreeFrom : ℕ → List S → List S → Type 0
  AgreeFrom i xs ys = (k : ℕ) (x y : S) → slice_get xs k ≡ Some x → slice_get ys k ≡ Some y → these (i + k) ≡ false → x ≡ y

  one_play : (p : PlayerState) (x y : S) (b : Bool) → (b ≡ false → x ≡ y) →
      ◌≡◌ {A = S ⊎ PlayerState} (if b then inr p else inl x) (if b then inr p else inl y)
  one_play p x y true same = refl
  one_play p x y false same = ap inl (same refl)

  plays_same : (i : ℕ) (xs ys : List S) → length xs ≡ length ys → AgreeFrom i xs ys → played_from these rows i xs ≡ played_from these rows i ys
  plays_same i [] [] long agree = refl
  plays_same i [] (y ∷ ys) long agree = absurd (omega (arith, long))
  plays_same i (x ∷ xs) [] long agree = absurd (omega (arith, long))
  plays_same i (x ∷ xs) (y ∷ ys) long agree =
      let here : i + 0 ≡ i = omega arith in
      let head = one_play (new_player (rows i)) x y (these i) (λ is. agree 0 x y refl refl (ap these here ∙ is)) in
      let tail = plays_same (i + 1) xs ys (omega (arith, long)) (λ k a b at bt is. agree (suc k) a b at bt (ap these (next k) ∙ is)) in
      ap (λ (z : S ⊎ PlayerState). z ∷ played_from these rows (i + 1) xs) head
      ∙ ap (λ (zs : List (S ⊎ PlayerState)). (if these i then inr (new_player (rows i)) else inl y) ∷ zs) tail
    where
      next : (k : ℕ) → i + suc k ≡ i + 1 + k
      next k = omega arith

module _ (one other : Contents) (plan : Plan) (one_is : IsPlan (pins_of one.chips) plan) (other_is : IsPlan (pins_of other.chips) plan) (flash : one.flash ≡ other.flash) where
  stocks_same : (k : ℕ) (s t : AnyState) → slice_get (starts one plan.parts) k ≡ Some s → slice_get (starts other plan.parts) k ≡ Some t →
      worlds.is_chip plan.wiring (0 + k) ≡ false → s ≡ t
  stocks_same k s t at bt stock =
      let less : k < length plan.parts = omega (arith, slice_get_within (starts one plan.parts) k s at, starts_many one plan.parts (all_ready one plan one_is)) in
      let here : 0 + k ≡ k = omega arith in
      let part = part_there plan.parts k less in
      let kind : is_chip (Some part.0.kind) ≡ false = part_kind plan.parts k part.0 part.1 ∙ sym (chips_are one plan one_is k) ∙ sym (ap (worlds.is_chip plan.wiring) here) ∙ stock in
      some_same (sym at ∙ start_at one plan.parts k part.0 (all_ready one plan one_is) part.1
      ∙ stock_same one other flash part.0.attrs part.0.settings part.0.kind kind
      ∙ sym (start_at other plan.parts k part.0 (all_ready other plan other_is) part.1) ∙ bt)

  pub starts_same : (rows : ℕ → List DriveRows) →
      played (worlds.is_chip plan.wiring) rows (starts one plan.parts) ≡ played (worlds.is_chip plan.wiring) rows (starts other plan.parts)
  starts_same rows =
      plays_same (worlds.is_chip plan.wiring) rows 0 (starts one plan.parts) (starts other plan.parts)
      (starts_many one plan.parts (all_ready one plan one_is) ∙ sym (starts_many other plan.parts (all_ready other plan other_is))) stocks_same
