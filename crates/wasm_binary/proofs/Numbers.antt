-- Reading a number.
use Rattle.std.proofs.Common.{◌≡◌, ℕ, zero, suc, ◌+◌, ◌-◌, ◌*◌, ◌^◌, ◌/◌, ◌<◌, ◌≤◌, List, [], ◌∷◌, length, refl, sym, ap, subst, ◌∙◌, arith, ◌⊎◌}
use Rattle.std.proofs.lemmas.Nat.{pow-add, shr_high, shr_le}
use Rattle.sim_base.specs.declared.fault.Fault.{Fault}
use Rattle.sim_base.specs.declared.fault.Fault.TheVariants as faults
use Rattle.sim_base.specs.declared.fault.Place.TheVariants as places
use Rattle.sim_refusals.specs.Refusals.{WasmLeb}
use Rattle.wasm_binary.specs.declared.reader.Reader.{Reader}
use Rattle.wasm_binary.specs.Reads.{Took, Reads, Fails}
use Rattle.wasm_binary.specs.Leb.{IsUnsigned, BreaksUnsigned, ByteIsFaulty, some_high, high_least, high_greatest, unsigned, IsSigned, BreaksSigned, IsUnlikeSign, signed}
use Rattle.wasm_binary.proofs.Steps.{fails_on, took_then}

pub unsigned_more : (bits b high : ℕ) (text : List ℕ) (n : ℕ) → 128 ≤ b → 7 < bits → n + 128 ≡ b + 128 * high → IsUnsigned (bits - 7) text high → IsUnsigned bits (b ∷ text) n
unsigned_more bits b high [] n hb hw e h = absurd h
unsigned_more bits b high (c ∷ cs) n hb hw e h = (hb, hw, high, e, h)

-- the high bits of an allowed number are allowed, and the other way round
pub high_allowed : (least greatest low high n : ℕ) → n ≡ low + 128 * high → least ≤ n → n ≤ greatest → (high_least least low ≤ high) × (high ≤ high_greatest greatest low)
high_allowed least greatest low high n e l g = (omega arith, omega arith)

pub allowed_back : (least greatest low high : ℕ) → low ≤ greatest → high_least least low ≤ high → high ≤ high_greatest greatest low → (least ≤ low + 128 * high) × (low + 128 * high ≤ greatest)
allowed_back least greatest low high le l g = (omega arith, omega arith)

pub unsigned_reads : (bits least greatest rule b high n hl hg : ℕ) (old mid new : Reader) → hl ≡ high_least least (b - 128) → hg ≡ high_greatest greatest (b - 128) → 128 ≤ b → 7 < bits → b - 128 ≤ greatest → n ≡ b - 128 + 128 * high → Took old mid (b ∷ []) → Reads (unsigned (bits - 7) hl hg rule) mid new high → Reads (unsigned bits least greatest rule) old new n
unsigned_reads bits least greatest rule b high n hl hg old mid new el eg hb hw le e t h =
    let w = allowed_back least greatest (b - 128) high le (omega (arith, el, h.1.1)) (omega (arith, eg, h.1.2)) in
    (b ∷ h.0, (unsigned_more bits b high h.0 n hb hw (omega arith) h.1.0, omega (arith, w.0), omega (arith, w.1)), took_then old mid new (b ∷ []) h.0 t h.2)

pub unsigned_fails : (bits least greatest rule b hl hg : ℕ) (old mid : Reader) (e : Fault) → hl ≡ high_least least (b - 128) → hg ≡ high_greatest greatest (b - 128) → 128 ≤ b → 7 < bits → some_high least greatest (b - 128) → Took old mid (b ∷ []) → Fails (unsigned (bits - 7) hl hg rule) mid e → Fails (unsigned bits least greatest rule) old e
unsigned_fails bits least greatest rule b hl hg old mid e el eg hb hw s t h =
    fails_on (unsigned (bits - 7) hl hg rule) (unsigned bits least greatest rule) old mid (b ∷ []) e t (λ j k br.
    let q : suc j ≡ length (b ∷ []) + j = omega arith in
    let br' = subst (λ x. BreaksUnsigned (bits - 7) x (high_greatest greatest (b - 128)) rule mid.rest.now j k) el (subst (λ x. BreaksUnsigned (bits - 7) hl x rule mid.rest.now j k) eg br) in
    subst (λ (i : ℕ). BreaksUnsigned bits least greatest rule (b ∷ mid.rest.now) i k) q (hb, hw, s, br')) h

-- the byte that was read is faulty
pub unsigned_faulty : (bits least greatest rule b k : ℕ) (old mid : Reader) → Took old mid (b ∷ []) → ByteIsFaulty bits least greatest rule b k → Fails (unsigned bits least greatest rule) old (faults.Refused (record { number = k; place = places.Byte old.at }))
unsigned_faulty bits least greatest rule b k old mid t f =
    let z : old.at ≡ old.at + 0 = omega arith in
    (0, ap (λ (n : ℕ). places.Byte n) z, subst (λ y. BreaksUnsigned bits least greatest rule y 0 k) (sym t.parts) f)

pub unsigned_last : (bits least greatest rule b n : ℕ) (old new : Reader) → Took old new (b ∷ []) → b < 128 → (n ≡ b) × (b < 2 ^ bits) × (least ≤ b) × (b ≤ greatest) → Reads (unsigned bits least greatest rule) old new n
unsigned_last bits least greatest rule b n old new t lt h = (b ∷ [], ((lt, h.1, h.0), omega (arith, h.0, h.2), omega (arith, h.0, h.3)), t)

pub unsigned_below : (bits b high n : ℕ) → b < 256 → 7 < bits → high < 2 ^ (bits - 7) → n + 128 ≡ b + 128 * high → n < 2 ^ bits
unsigned_below bits b high n hb hw hh e =
    let p = pow-add 2 (bits - 7) 7 in
    let q : bits - 7 + 7 ≡ bits = omega arith in
    let r : 2 ^ bits ≡ 2 ^ (bits - 7) * 128 = ap (λ (k : ℕ). 2 ^ k) (sym q) ∙ p in
    omega (arith, r)

pub signed_more : (bits b high : ℕ) (text : List ℕ) (n : ℕ) → 128 ≤ b → 7 < bits → n + 128 ≡ b + 128 * high → IsSigned (bits - 7) text high → IsSigned bits (b ∷ text) n
signed_more bits b high [] n hb hw e h = absurd h
signed_more bits b high (c ∷ cs) n hb hw e h = (hb, hw, high, e, h)

pub signed_reads : (bits b high n : ℕ) (old mid new : Reader) → 128 ≤ b → 7 < bits → n + 128 ≡ b + 128 * high → Took old mid (b ∷ []) → Reads (signed (bits - 7)) mid new high → Reads (signed bits) old new n
signed_reads bits b high n old mid new hb hw e t h =
    (b ∷ h.0, signed_more bits b high h.0 n hb hw e h.1, took_then old mid new (b ∷ []) h.0 t h.2)

pub signed_fails : (bits b : ℕ) (old mid : Reader) (e : Fault) → 128 ≤ b → 7 < bits → Took old mid (b ∷ []) → Fails (signed (bits - 7)) mid e → Fails (signed bits) old e
signed_fails bits b old mid e hb hw t h =
    fails_on (signed (bits - 7)) (signed bits) old mid (b ∷ []) e t (λ j k br. let q : suc j ≡ length (b ∷ []) + j = omega arith in subst (λ (i : ℕ). BreaksSigned bits (b ∷ mid.rest.now) i k) q (hb, hw, br)) h

pub signed_faulty : (bits b : ℕ) (old mid : Reader) → Took old mid (b ∷ []) → (128 ≤ b) × (bits ≤ 7) ⊎ IsUnlikeSign bits b → Fails (signed bits) old (faults.Refused (record { number = WasmLeb; place = places.Byte old.at }))
signed_faulty bits b old mid t f =
    let z : old.at ≡ old.at + 0 = omega arith in
    (0, ap (λ (n : ℕ). places.Byte n) z, subst (λ y. BreaksSigned bits y 0 WasmLeb) (sym t.parts) (refl, f))

pub signed_last : (bits b n : ℕ) (old new : Reader) → Took old new (b ∷ []) → IsSigned bits (b ∷ []) n → Reads (signed bits) old new n
signed_last bits b n old new t h = (b ∷ [], h, t)

pub pow_below : (bits : ℕ) → bits ≤ 64 → 2 ^ bits * 2 ^ (64 - bits) ≡ 2 ^ 64
pow_below bits le = sym (pow-add 2 bits (64 - bits)) ∙ (let e : bits + (64 - bits) ≡ 64 = omega arith in ap (λ (k : ℕ). 2 ^ k) e)

pub pow_half : (bits : ℕ) → 0 < bits → 2 ^ bits ≡ 2 * 2 ^ (bits - 1)
pow_half bits lt = let e : bits ≡ 1 + (bits - 1) = omega arith in ap (λ (k : ℕ). 2 ^ k) e ∙ pow-add 2 1 (bits - 1)

pub pow_some : (k : ℕ) → 0 < 2 ^ k
pow_some zero = omega arith
pow_some (suc k) =
    let e : suc k ≡ 1 + k = omega arith in
    let q : 2 ^ suc k ≡ 2 * 2 ^ k = ap (λ (n : ℕ). 2 ^ n) e ∙ pow-add 2 1 k in
    omega (arith, q, pow_some k)

pub ones_whole : (bits : ℕ) → bits ≤ 64 → 18446744073709551615 / 2 ^ (64 - bits) + 1 ≡ 2 ^ bits
ones_whole bits le =
    let k = 64 - bits in
    let p = 2 ^ bits - 1 in
    let a : p + 1 ≡ 2 ^ bits = omega (arith, pow_some bits) in
    let b : (p + 1) * 2 ^ k ≡ 2 ^ 64 = ap (λ (x : ℕ). x * 2 ^ k) a ∙ pow_below bits le in
    let c : p * 2 ^ k + 2 ^ k ≡ 2 ^ 64 = grind (arith, b) in
    let e : 18446744073709551615 ≡ p * 2 ^ k + (2 ^ k - 1) = omega (arith, c, pow_some k) in
    let f : 2 ^ k - 1 < 2 ^ k = omega (arith, pow_some k) in
    ap (λ (x : ℕ). x / 2 ^ k + 1) e ∙ ap (λ (x : ℕ). x + 1) (shr_high p k (2 ^ k - 1) f) ∙ a

pub ones_half : (bits : ℕ) → 0 < bits → bits ≤ 64 → 18446744073709551615 / 2 ^ (64 - bits) / 2 + 1 ≡ 2 ^ (bits - 1)
ones_half bits lt le = omega (arith, ones_whole bits le, pow_half bits lt)

pub pow_le : (bits : ℕ) → bits ≤ 64 → 2 ^ bits ≤ 2 ^ 64
pow_le bits le = let q = ones_whole bits le in let d : 18446744073709551615 / 2 ^ (64 - bits) ≤ 18446744073709551615 = shr_le 18446744073709551615 (64 - bits) in omega (arith, q, d)

pub high_fits : (bits high : ℕ) → 7 < bits → bits ≤ 64 → high < 2 ^ (bits - 7) → 128 * high + 128 ≤ 2 ^ 64
high_fits bits high lt le h =
    let q : bits - 7 + 7 ≡ bits = omega arith in
    let r : 2 ^ bits ≡ 2 ^ (bits - 7) * 128 = ap (λ (k : ℕ). 2 ^ k) (sym q) ∙ pow-add 2 (bits - 7) 7 in
    omega (arith, r, pow_le bits le)
