-- The bytes of a name are read one by one, and are UTF-8.
use Rattle.std.proofs.Common.{◌≡◌, ℕ, zero, suc, ◌+◌, ◌-◌, ◌*◌, ◌/◌, ◌%◌, ◌<◌, ◌≤◌, List, [], ◌∷◌, ◌++◌, length, replicate, Result, Ok, Err, Option, Some, None, Bool, true, false, refl, sym, ap, subst, ◌∙◌, arith, inl, inr, ◌⊎◌, ⊎_elim, rules, le-ltb, lt-ltb, eqb}
use Rattle.std.specs.Prelude.{if◌then◌else◌, unwrap_or}
use Rattle.std.specs.Str.{IsUtf8}
use Rattle.std.proofs.lemmas.Str.{IsUtf8-nil, IsUtf8-encode, IsUtf8-append, encode_ascii}
use Rattle.std.proofs.Math.Utf8.{encode}
use Rattle.std.proofs.lemmas.Bool.{ltb-true, eqb-true, cases_lt, cond-true, cond-false}
use Rattle.std.proofs.lemmas.Bool.Decides.{nat_tests}
use Rattle.std.specs.Char.{IsScalar, InScalarRange}
use Rattle.sim_base.specs.declared.fault.Fault.{Fault}
use Rattle.sim_base.specs.declared.fault.Fault.TheVariants as faults
use Rattle.sim_base.specs.declared.fault.Place.TheVariants as places
use Rattle.sim_refusals.specs.Refusals.{WasmUtf8}
use Rattle.wasm_binary.specs.declared.reader.Reader.{Reader}
use Rattle.wasm_binary.specs.Form.{any_byte, byte}
use Rattle.wasm_binary.specs.Reads.{Reads, Fails}
use Rattle.wasm_binary.specs.Lists.{is_zero, Run}
use Rattle.wasm_binary.specs.Names.{Span, any_tail, within, tails_of, InName, judge_lead, judge_tail, judge_in_name, tails_after, in_name, name_of_length}
use Rattle.wasm_binary.specs.NameViews.{spans}
use Rattle.wasm_binary.proofs.Steps.{judged_ends, judged_ok, judged_err}
use Rattle.wasm_binary.proofs.Runs.{HasRun, goes, run_fails, not_zero}

within_is : (l g b : ℕ) → l ≤ b → b ≤ g → within l g b ≡ true
within_is l g b p q = search rules

within_gives : (l g b : ℕ) → within l g b ≡ true → (l ≤ b) × (b ≤ g)
within_gives l g b e = search rules

unequal : (b n : ℕ) → eqb b n ≡ false → b ≡ n → ⊥
unequal b n e q = search rules

spans_any : (n : ℕ) → spans n 128 191 ≡ replicate n any_tail
spans_any zero = refl
spans_any (suc n) = refl

pub tail_stays : (n l g left b : ℕ) → 0 < n → l ≤ b → b ≤ g → (judge_in_name (record { left = left; tails = spans n l g }) b ≡ Ok b) × (spans (n - 1) 128 191 ≡ tails_after (spans n l g) b)
tail_stays zero l g left b lt p q = absurd (omega arith)
tail_stays (suc n) l g left b lt p q =
    let e : suc n - 1 ≡ n = omega arith in
    let x : Result ℕ ℕ = Ok b in
    let y : Result ℕ ℕ = Err WasmUtf8 in
    (ap (λ t. if t then x else y) (within_is l g b p q), ap (λ k. spans k 128 191) e ∙ spans_any n)

abbrev pub NameRun : Reader → Reader → ℕ → List ℕ → InName → Type 0
NameRun old now count bytes s = HasRun (λ (s : InName). byte (judge_in_name s)) in_name (λ s. is_zero s.left) old now (record { left = count; tails = [] }) bytes s

pub name_cut : (old mid : Reader) (count : ℕ) (bytes : List ℕ) (s : InName) (e : Fault) → NameRun old mid count bytes s → 0 < s.left → Fails any_byte mid e → Fails (name_of_length count) old e
name_cut old mid count bytes s e h lt f =
    run_fails (λ (s : InName). byte (judge_in_name s)) in_name (λ s. is_zero s.left) old mid (record { left = count; tails = [] }) bytes s e h (not_zero s.left lt) (judged_ends (judge_in_name s) mid e f)

pub name_faulty : (old mid new : Reader) (count : ℕ) (bytes : List ℕ) (s : InName) (b : ℕ) (e : Fault) → NameRun old mid count bytes s → 0 < s.left → Reads any_byte mid new b → judge_in_name s b ≡ Err WasmUtf8 → e ≡ faults.Refused (record { number = WasmUtf8; place = places.Byte mid.at }) → Fails (name_of_length count) old e
name_faulty old mid new count bytes s b e h lt r j is =
    let f = judged_err (judge_in_name s) mid new b WasmUtf8 r j in
    subst (λ x. Fails (name_of_length count) old x) (sym is) (run_fails (λ (s : InName). byte (judge_in_name s)) in_name (λ s. is_zero s.left) old mid (record { left = count; tails = [] }) bytes s (faults.Refused (record { number = WasmUtf8; place = places.Byte mid.at })) h (not_zero s.left lt) f)

pub name_goes : (old mid new : Reader) (count : ℕ) (bytes more : List ℕ) (left m : ℕ) (tails after : List Span) (b : ℕ) → NameRun old mid count bytes (record { left = left; tails = tails }) → 0 < left → Reads any_byte mid new b → judge_in_name (record { left = left; tails = tails }) b ≡ Ok b → after ≡ tails_after tails b → m ≡ left - 1 → more ≡ bytes ++ b ∷ [] → NameRun old new count more (record { left = m; tails = after })
name_goes old mid new count bytes more left m tails after b h lt r j ea em eb =
    let s : InName = record { left = left; tails = tails } in
    let g = goes (λ (s : InName). byte (judge_in_name s)) in_name (λ s. is_zero s.left) old mid new (record { left = count; tails = [] }) bytes s b h (not_zero left lt) (judged_ok (judge_in_name s) mid new b b r j) in
    subst (λ z. NameRun old new count z (record { left = m; tails = after })) (sym eb) (subst (λ z. NameRun old new count (bytes ++ b ∷ []) (record { left = m; tails = z })) (sym ea) (subst (λ z. NameRun old new count (bytes ++ b ∷ []) (record { left = z; tails = tails_after tails b })) (sym em) g))

-- ---- UTF-8

-- the bytes finish the character begun, and then are UTF-8
abbrev Finishes : List Span → List ℕ → Type 0
Finishes [] bytes = IsUtf8 bytes
Finishes (span ∷ tails) [] = ⊥
Finishes (span ∷ tails) (b ∷ bytes) = (span.0 ≤ b) × (b ≤ span.1) × Finishes tails bytes

encode_two : (c : ℕ) → 0x80 ≤ c → c < 0x800 → encode c ≡ (192 + c / 64) ∷ (128 + c % 64) ∷ []
unfolding encode
encode_two c low high = cond-false _ _ _ (le-ltb c 128 low) ∙ cond-true _ _ _ (lt-ltb c 2048 high)

encode_three : (c : ℕ) → 0x800 ≤ c → c < 0x1_0000 → encode c ≡ (224 + c / 4096) ∷ (128 + (c / 64) % 64) ∷ (128 + c % 64) ∷ []
unfolding encode
encode_three c low high =
    cond-false _ _ _ (le-ltb c 128 (omega arith)) ∙ cond-false _ _ _ (le-ltb c 2048 low) ∙ cond-true _ _ _ (lt-ltb c 65536 high)

encode_four : (c : ℕ) → 0x1_0000 ≤ c → encode c ≡ (240 + c / 262144) ∷ (128 + (c / 4096) % 64) ∷ (128 + (c / 64) % 64) ∷ (128 + c % 64) ∷ []
unfolding encode
encode_four c low =
    cond-false _ _ _ (le-ltb c 128 (omega arith)) ∙ cond-false _ _ _ (le-ltb c 2048 (omega arith)) ∙ cond-false _ _ _ (le-ltb c 65536 low)

is_scalar : (c : ℕ) → InScalarRange c → IsScalar c
is_scalar c h = grind (arith, nat_tests)

one_byte : (b : ℕ) → b < 128 → IsUtf8 (b ∷ [])
one_byte b h = subst (λ (l : List ℕ). IsUtf8 l) (encode_ascii b h) (IsUtf8-encode b (is_scalar b (inl (omega arith))))

two_bytes : (b c : ℕ) → 194 ≤ b → b ≤ 223 → 128 ≤ c → c ≤ 191 → IsUtf8 (b ∷ c ∷ [])
two_bytes b c h1 h2 h3 h4 =
    let n = (b - 192) * 64 + (c - 128) in
    let p : 192 + n / 64 ≡ b = omega arith in
    let q : 128 + n % 64 ≡ c = omega arith in
    subst (λ (l : List ℕ). IsUtf8 l) (encode_two n (omega arith) (omega arith) ∙ (λ k. p k ∷ q k ∷ [])) (IsUtf8-encode n (is_scalar n (inl (omega arith))))

three_scalar : (n : ℕ) → n < 65536 → (n < 55296) ⊎ (57344 ≤ n) → InScalarRange n
three_scalar n lt h = ⊎_elim (λ l. inl l) (λ g. inr (g, omega arith)) h

three_bytes : (b c d : ℕ) → 224 ≤ b → b ≤ 239 → 128 ≤ c → c ≤ 191 → 128 ≤ d → d ≤ 191 → (b ≡ 224 → 160 ≤ c) → (b ≡ 237 → c ≤ 159) → IsUtf8 (b ∷ c ∷ d ∷ [])
three_bytes b c d h1 h2 h3 h4 h5 h6 h7 h8 =
    let n = (b - 224) * 4096 + (c - 128) * 64 + (d - 128) in
    let p : 224 + n / 4096 ≡ b = omega arith in
    let q : 128 + n / 64 % 64 ≡ c = omega arith in
    let r : 128 + n % 64 ≡ d = omega arith in
    let lo : 2048 ≤ n = ⊎_elim (λ (g : 224 < b). omega arith) (λ (l : b ≤ 224). let e : b ≡ 224 = omega arith in omega (arith, h7 e)) (cases_lt 224 b) in
    let hi : n < 65536 = omega arith in
    let s : (n < 55296) ⊎ (57344 ≤ n) = ⊎_elim (λ (l : b < 238). inl (⊎_elim (λ (m : b < 237). omega arith) (λ (m : 237 ≤ b). let e : b ≡ 237 = omega arith in omega (arith, h8 e)) (cases_lt b 237))) (λ (g : 238 ≤ b). inr (omega arith)) (cases_lt b 238) in
    subst (λ (l : List ℕ). IsUtf8 l) (encode_three n lo hi ∙ (λ k. p k ∷ q k ∷ r k ∷ [])) (IsUtf8-encode n (is_scalar n (three_scalar n hi s)))

four_bytes : (b c d e : ℕ) → 240 ≤ b → b ≤ 244 → 128 ≤ c → c ≤ 191 → 128 ≤ d → d ≤ 191 → 128 ≤ e → e ≤ 191 → (b ≡ 240 → 144 ≤ c) → (b ≡ 244 → c ≤ 143) → IsUtf8 (b ∷ c ∷ d ∷ e ∷ [])
four_bytes b c d e h1 h2 h3 h4 h5 h6 h7 h8 h9 h10 =
    let n = (b - 240) * 262144 + (c - 128) * 4096 + (d - 128) * 64 + (e - 128) in
    let p : 240 + n / 262144 ≡ b = omega arith in
    let q : 128 + n / 4096 % 64 ≡ c = omega arith in
    let m : n / 64 ≡ (b - 240) * 4096 + (c - 128) * 64 + (d - 128) = omega arith in
    let r : 128 + n / 64 % 64 ≡ d = subst (λ (k : ℕ). 128 + k % 64 ≡ d) (sym m) (omega arith) in
    let t : 128 + n % 64 ≡ e = omega arith in
    let lo : 65536 ≤ n = ⊎_elim (λ (g : 240 < b). omega arith) (λ (l : b ≤ 240). let e' : b ≡ 240 = omega arith in omega (arith, h9 e')) (cases_lt 240 b) in
    let hi : n < 1114112 = ⊎_elim (λ (g : b < 244). omega arith) (λ (l : 244 ≤ b). let e' : b ≡ 244 = omega arith in omega (arith, h10 e')) (cases_lt b 244) in
    subst (λ (l : List ℕ). IsUtf8 l) (encode_four n lo ∙ (λ k. p k ∷ q k ∷ r k ∷ t k ∷ [])) (IsUtf8-encode n (is_scalar n (inr (omega arith, omega (arith, hi)))))

if_is : {A : Type 0} (b : Bool) (x y z : A) → (if b then x else y) ≡ z → ((b ≡ true) × (x ≡ z)) ⊎ ((b ≡ false) × (y ≡ z))
if_is true x y z e = inl (refl, e)
if_is false x y z e = inr (refl, e)

-- what follows a first byte makes it a character
abbrev Led : ℕ → List Span → Type 0
Led b tails = (bytes : List ℕ) → Finishes tails bytes → IsUtf8 (b ∷ bytes)

led_none : (b : ℕ) → b < 128 → Led b []
led_none b lt bytes f = IsUtf8-append (b ∷ []) bytes (one_byte b lt) f

led_one : (b : ℕ) → 194 ≤ b → b ≤ 223 → Led b (any_tail ∷ [])
led_one b l g [] f = absurd f
led_one b l g (c ∷ bytes) f = IsUtf8-append (b ∷ c ∷ []) bytes (two_bytes b c l g f.0 f.1) f.2

led_two : (b least greatest : ℕ) → 224 ≤ b → b ≤ 239 → 128 ≤ least → greatest ≤ 191 → (b ≡ 224 → 160 ≤ least) → (b ≡ 237 → greatest ≤ 159) → Led b ((least, greatest) ∷ any_tail ∷ [])
led_two b least greatest l g p q v w [] f = absurd f
led_two b least greatest l g p q v w (c ∷ []) f = absurd f.2
led_two b least greatest l g p q v w (c ∷ d ∷ bytes) f =
    IsUtf8-append (b ∷ c ∷ d ∷ []) bytes (three_bytes b c d l g (omega (arith, f.0)) (omega (arith, f.1)) f.2.0 f.2.1 (λ e. omega (arith, v e, f.0)) (λ e. omega (arith, w e, f.1))) f.2.2

led_three : (b least greatest : ℕ) → 240 ≤ b → b ≤ 244 → 128 ≤ least → greatest ≤ 191 → (b ≡ 240 → 144 ≤ least) → (b ≡ 244 → greatest ≤ 143) → Led b ((least, greatest) ∷ any_tail ∷ any_tail ∷ [])
led_three b least greatest l g p q v w [] f = absurd f
led_three b least greatest l g p q v w (c ∷ []) f = absurd f.2
led_three b least greatest l g p q v w (c ∷ d ∷ []) f = absurd f.2.2
led_three b least greatest l g p q v w (c ∷ d ∷ e ∷ bytes) f =
    IsUtf8-append (b ∷ c ∷ d ∷ e ∷ []) bytes (four_bytes b c d e l g (omega (arith, f.0)) (omega (arith, f.1)) f.2.0 f.2.1 f.2.2.0 f.2.2.1 (λ z. omega (arith, v z, f.0)) (λ z. omega (arith, w z, f.1))) f.2.2.2

some_led : (b : ℕ) (tails given : List Span) → Led b given → Some given ≡ Some tails → Led b tails
some_led b tails given h e = let q : given ≡ tails = cc in subst (λ x. Led b x) q h

led : (b : ℕ) (tails : List Span) → tails_of b ≡ Some tails → Led b tails
led b tails e =
    ⊎_elim (λ p. some_led b tails [] (led_none b (ltb-true b 0x80 p.0)) p.1) (λ n1.
    ⊎_elim (λ p. let w = within_gives 0xC2 0xDF b p.0 in some_led b tails (any_tail ∷ []) (led_one b w.0 w.1) p.1) (λ n2.
    ⊎_elim (λ p. let q = eqb-true b 0xE0 p.0 in some_led b tails ((0xA0, 0xBF) ∷ any_tail ∷ []) (led_two b 0xA0 0xBF (omega arith) (omega arith) (omega arith) (omega arith) (λ z. omega arith) (λ z. omega arith)) p.1) (λ n3.
    ⊎_elim (λ p. let q = eqb-true b 0xED p.0 in some_led b tails ((0x80, 0x9F) ∷ any_tail ∷ []) (led_two b 0x80 0x9F (omega arith) (omega arith) (omega arith) (omega arith) (λ z. omega arith) (λ z. omega arith)) p.1) (λ n4.
    ⊎_elim (λ p. let w = within_gives 0xE1 0xEF b p.0 in some_led b tails (any_tail ∷ any_tail ∷ []) (led_two b 0x80 0xBF (omega (arith, w.0)) w.1 (omega arith) (omega arith) (λ z. omega (arith, w.0)) (λ z. absurd (unequal b 0xED n4.0 z))) p.1) (λ n5.
    ⊎_elim (λ p. let q = eqb-true b 0xF0 p.0 in some_led b tails ((0x90, 0xBF) ∷ any_tail ∷ any_tail ∷ []) (led_three b 0x90 0xBF (omega arith) (omega arith) (omega arith) (omega arith) (λ z. omega arith) (λ z. omega arith)) p.1) (λ n6.
    ⊎_elim (λ p. let w = within_gives 0xF1 0xF3 b p.0 in some_led b tails (any_tail ∷ any_tail ∷ any_tail ∷ []) (led_three b 0x80 0xBF (omega (arith, w.0)) (omega (arith, w.1)) (omega arith) (omega arith) (λ z. omega (arith, w.0)) (λ z. omega (arith, w.1))) p.1) (λ n7.
    ⊎_elim (λ p. let q = eqb-true b 0xF4 p.0 in some_led b tails ((0x80, 0x8F) ∷ any_tail ∷ any_tail ∷ []) (led_three b 0x80 0x8F (omega arith) (omega arith) (omega arith) (omega arith) (λ z. omega arith) (λ z. omega arith)) p.1) (λ n8. absurd (let x = n8.1 in cc))
    (if_is _ _ _ _ n7.1)) (if_is _ _ _ _ n6.1)) (if_is _ _ _ _ n5.1)) (if_is _ _ _ _ n4.1)) (if_is _ _ _ _ n3.1)) (if_is _ _ _ _ n2.1)) (if_is _ _ _ _ n1.1)) (if_is _ _ _ _ e)

-- a judged byte is the byte, with room for what it asks for
lead_is : (left b x : ℕ) (o : Option (List Span)) → judge_lead left b o ≡ Ok x → (b ≡ x) × ((tails : List Span) × (o ≡ Some tails) × (length tails < left))
lead_is left b x None e = absurd cc
lead_is left b x (Some tails) e = ⊎_elim (λ p. let q : b ≡ x = let z = p.1 in cc in (q, (tails, refl, ltb-true (length tails) left p.0))) (λ p. absurd (let z = p.1 in cc)) (if_is _ _ _ _ e)

tail_is : (left : ℕ) (span : Span) (tails : List Span) (b x : ℕ) → judge_tail left b (span ∷ tails) ≡ Ok x → (b ≡ x) × (span.0 ≤ b) × (b ≤ span.1)
tail_is left span tails b x e = ⊎_elim (λ p. let q : b ≡ x = let z = p.1 in cc in let w = within_gives span.0 span.1 b p.0 in (q, w.0, w.1)) (λ p. absurd (let z = p.1 in cc)) (if_is _ _ _ _ e)

is_zero_gives : (n : ℕ) → is_zero n ≡ true → n ≡ 0
is_zero_gives zero e = refl
is_zero_gives (suc n) e = absurd cc

not_zero_gives : (n : ℕ) → is_zero n ≡ false → 0 < n
not_zero_gives zero e = absurd cc
not_zero_gives (suc n) e = omega arith

finishes : (left : ℕ) (tails : List Span) (a xs : List ℕ) (t : InName) → Run (λ (s : InName). byte (judge_in_name s)) in_name (λ s. is_zero s.left) (record { left = left; tails = tails }) a xs t → is_zero t.left ≡ true → length tails ≤ left → Finishes tails xs
finishes left [] a [] t r d f = IsUtf8-nil
finishes left (span ∷ tails) a [] t r d f =
    let z : left ≡ 0 = ap (λ (s : InName). s.left) r.1 ∙ is_zero_gives t.left d in absurd (omega (arith, z))
finishes left [] a (x ∷ xs) t r d f =
    let i = r.4 in
    let l = lead_is left i.0 x (tails_of i.0) i.2 in
    let e : tails_of x ≡ Some l.1.0 = ap tails_of (sym l.0) ∙ l.1.1 in
    let u : unwrap_or (tails_of x) [] ≡ l.1.0 = ap (λ o. unwrap_or o []) e in
    let g = finishes (left - 1) (unwrap_or (tails_of x) []) r.2 xs t r.5 d (omega (arith, ap length u, l.1.2)) in
    led x l.1.0 e xs (subst (λ z. Finishes z xs) u g)
finishes left (span ∷ tails) a (x ∷ xs) t r d f =
    let i = r.4 in
    let l = tail_is left span tails i.0 x i.2 in
    let p = not_zero_gives left r.0 in
    let g = finishes (left - 1) tails r.2 xs t r.5 d (omega arith) in
    (omega (arith, l.0, l.1), omega (arith, l.0, l.2), g)

pub name_is_utf8 : (count : ℕ) (a xs : List ℕ) → (name_of_length count).text a xs → IsUtf8 xs
name_is_utf8 count a xs h = finishes count [] a xs h.0 h.1 h.2 (omega arith)
