-- Blocks one after the other.
use Rattle.std.specs.Prelude.{ℕ, ◌+◌, ◌≤◌, List, [], ◌++◌, length, take, ◌≡◌}
use Rattle.std.proofs.Common.{ap, sym, ◌∙◌, arith, refl, append_assoc, length-append}
use Rattle.std.proofs.lemmas.List.{length-take-le}
use Rattle.std.proofs.Math.Seq.{take-append_seam}
use Rattle.std.specs.Int.{w64, to_le_bytes}
use Rattle.web_call.specs.Blocks.{block}

pub length_block : (bytes : List ℕ) → length (block bytes) ≡ length bytes + 8
unfolding block
length_block bytes = omega arith

-- a block that was put behind what is there
pub placed : (at : ℕ) (out front head place rest bytes : List ℕ)
    → front ≡ take at out → at ≤ length out → head ≡ to_le_bytes w64 (length bytes) → place ≡ bytes
    → take (at + 8 + length bytes) (front ++ (head ++ (place ++ rest))) ≡ take at out ++ block bytes
unfolding block
placed at out front head place rest bytes f low h p =
    let whole : List ℕ = take at out ++ block bytes in
    let long : at + 8 + length bytes ≡ length whole = omega (arith, length-append (take at out) (block bytes), length-take-le at out low, length_block bytes) in
    let same : front ++ (head ++ (place ++ rest)) ≡ whole ++ rest =
    ap (λ x. x ++ (head ++ (place ++ rest))) f
    ∙ ap (λ x. take at out ++ (x ++ (place ++ rest))) h
    ∙ ap (λ x. take at out ++ (to_le_bytes w64 (length bytes) ++ (x ++ rest))) p
    ∙ sym (append_assoc (take at out) (to_le_bytes w64 (length bytes) ++ bytes) rest) in
    ap (λ n. take n (front ++ (head ++ (place ++ rest)))) long ∙ ap (λ x. take (length whole) x) same ∙ take-append_seam whole rest

-- what is there with one more block, and how long that is
pub longer : (from to : ℕ) (before block : List ℕ) → from ≡ length before → to ≡ from + length block → to ≡ length (before ++ block)
longer from to before block f t = omega (arith, length-append before block)
