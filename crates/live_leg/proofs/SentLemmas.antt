-- Bytes that are kept.
use Rattle.std.proofs.Common.{◌≡◌, ℕ, zero, suc, ◌+◌, ◌<◌, ◌≤◌, ◌∙◌, List, [], ◌∷◌, ◌++◌, take, drop, length, refl, ap, sym, arith, length-append}
use Rattle.board_model.proofs.Lists.{take_whole}
use Rattle.std.proofs.lemmas.List.{drop-append-le}
use Rattle.vcd_text.specs.Writers.{capped}
use Rattle.live_leg.specs.SentView.{SentView, sent_room, with_byte, HasOf}

take_front : {A : Type 0} (n : ℕ) (xs ys : List A) → take n (take n xs ++ ys) ≡ take n (xs ++ ys)
take_front zero xs ys = refl
take_front (suc n) [] ys = refl
take_front {A = A} (suc n) (x ∷ xs) ys = ap (λ (l : List A). x ∷ l) (take_front n xs ys)

take_seam : {A : Type 0} (n : ℕ) (xs ys : List A) → length xs ≡ n → take n (xs ++ ys) ≡ xs
take_seam n [] ys e = rw (← e) refl
take_seam {A = A} zero (x ∷ xs) ys e = absurd (omega (arith, e))
take_seam {A = A} (suc n) (x ∷ xs) ys e = ap (λ (l : List A). x ∷ l) (take_seam n xs ys (omega (arith, e)))

capped_one : (n : ℕ) → capped (capped n + 1) ≡ capped (n + 1)
capped_one n = omega arith

-- one byte more
pub has_more : (s : SentView) (bytes : List ℕ) (b : ℕ) → HasOf s bytes → HasOf (with_byte s b) (bytes ++ b ∷ [])
has_more s bytes b has = record {
  kept = ap (λ (l : List ℕ). take sent_room (l ++ b ∷ [])) has.kept ∙ take_front sent_room (drop s.first bytes) (b ∷ [])
      ∙ ap (take sent_room) (sym (drop-append-le s.first bytes (b ∷ []) has.began));
  counted = ap (λ (n : ℕ). capped (n + 1)) has.counted ∙ capped_one (length bytes) ∙ ap capped (sym (length-append bytes (b ∷ [])));
  began = omega (arith, has.began, length-append bytes (b ∷ []));
}

-- where there is room it is kept, and else not
pub byte_kept : (items new : List ℕ) (b total sum first : ℕ) → new ≡ items ++ b ∷ [] → sum ≡ capped (total + 1) → length items < sent_room →
    record { bytes = new; total = sum; first = first } ≡ with_byte (record { bytes = items; total = total; first = first }) b
byte_kept items new b total sum first e f room =
    let short : length (items ++ b ∷ []) ≤ sent_room = omega (arith, length-append items (b ∷ []), room) in
    rw (e, f, take_whole sent_room (items ++ b ∷ []) short) refl

pub byte_lost : (items : List ℕ) (b total sum first : ℕ) → sum ≡ capped (total + 1) → length items ≡ sent_room →
    record { bytes = items; total = sum; first = first } ≡ with_byte (record { bytes = items; total = total; first = first }) b
byte_lost items b total sum first f full = rw (f, take_seam sent_room items (b ∷ []) full) refl
