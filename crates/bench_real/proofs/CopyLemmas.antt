-- What a read gives that asks for one byte more than it may get.
use Rattle.std.proofs.Common.{◌≡◌, ℕ, ◌+◌, ◌≤◌, List, length, ap, ◌∙◌}
use Rattle.std.specs.Prelude.{Option, None, Some, IfSome, take, min}
use Rattle.std.specs.Option.{option_map}
use Rattle.std.proofs.lemmas.List.{take_all, length-take}
use Rattle.std.proofs.Common.{arith}

short_fits : (n m k : ℕ) → k ≡ min (n + 1) m → k ≤ n → m ≤ n + 1
short_fits n m k e s = omega arith

short_is_whole : (xs bytes : List ℕ) (n : ℕ) → bytes ≡ take (n + 1) xs → length bytes ≤ n → bytes ≡ xs
short_is_whole xs bytes n h s = h ∙ take_all (n + 1) xs (short_fits n (length xs) (length bytes) (ap length h ∙ length-take (n + 1) xs) s)

-- it is all that there is
pub whole : (known : Option (List ℕ)) (bytes : List ℕ) (n : ℕ) → IfSome (option_map (take (n + 1)) known) (λ xs. bytes ≡ xs) → length bytes ≤ n → IfSome known (λ xs. bytes ≡ xs)
whole None bytes n h s = h
whole (Some xs) bytes n h s = short_is_whole xs bytes n h s
