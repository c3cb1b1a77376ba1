-- One more draw, turn and lamp.
use Rattle.std.proofs.Common.{◌≡◌, ◌∙◌, ℕ, zero, suc, ◌+◌, ◌*◌, ◌/◌, ◌%◌, ◌<◌, ◌≤◌, ap, sym, refl, subst, arith}
use Rattle.std.proofs.Common.{◌++◌, List, [], ◌∷◌, length, length-append, true, replicate, codes}
use Rattle.std.proofs.lemmas.List.{append_assoc}
use Rattle.document_model.specs.declared.diagram.PartText.{PartText}
use Rattle.document_model.specs.declared.diagram.Wire.{Wire}
use Rattle.std.specs.List.{list_all}
use Rattle.std.proofs.lemmas.Fmt.{decimal_digit}
use Rattle.sim_base.specs.Names.{is_name, is_name_byte}
use Rattle.board_make.specs.Draws.{after, drawn}
use Rattle.board_make.specs.Firmware.{little, load, put, turn, turns, opening, flash_of, image}
use Rattle.board_make.specs.Board.{numbered, part, parts, wires, gate_wires, lamp_parts, lamp_wires, lamps_parts, lamps_wires}

digit_byte : (k : ℕ) → k < 10 → is_name_byte (48 + k) ≡ true
digit_byte k l = grind arith

named : (front : List ℕ) (b : ℕ) → is_name_byte b ≡ true → list_all is_name_byte front ≡ true → list_all is_name_byte (front ++ b ∷ []) ≡ true
named [] b e h = grind arith
named (x ∷ xs) b e h = grind (arith, named xs b e)

-- a digit behind name bytes
pub numbered_name : (front : List ℕ) (k : ℕ) → k < 10 → list_all is_name_byte front ≡ true → length front ≤ 8 → is_name (numbered front k) ≡ true
numbered_name front k l h short =
    let e = decimal_digit k l in
    let all : list_all is_name_byte (front ++ (48 + k) ∷ []) ≡ true = named front (48 + k) (digit_byte k l) h in
    let n : length (front ++ (48 + k) ∷ []) ≡ length front + 1 = length-append front ((48 + k) ∷ []) in
    subst (λ (d : List ℕ). is_name (front ++ d) ≡ true) (sym e) (grind (arith, all, n, short))

pub drawn_more : (seed n : ℕ) → drawn seed (n + 1) ≡ after (drawn seed n)
unfolding drawn
drawn_more seed n = let e : n + 1 ≡ suc n = omega arith in ap (drawn seed) e

pub drawn_one : (seed : ℕ) → drawn seed 1 ≡ after seed
unfolding drawn
drawn_one seed = refl

pub drawn_two : (seed : ℕ) → drawn seed 2 ≡ after (after seed)
unfolding drawn
drawn_two seed = refl

pub turns_none : (seed : ℕ) → turns seed 0 ≡ []
unfolding turns
turns_none seed = refl

pub turns_more : (seed j : ℕ) → turns seed (j + 1) ≡ turns seed j ++ turn seed j
unfolding turns
turns_more seed j = let e : j + 1 ≡ suc j = omega arith in ap (turns seed) e

-- two words a turn
pub length-turns : (seed j : ℕ) → length (turns seed j) ≡ 4 * j
unfolding turns
length-turns seed zero = refl
length-turns seed (suc j) = let n = length-append (turns seed j) (turn seed j) in omega (arith, n, length-turns seed j)

pub parts_none : lamps_parts 0 ≡ []
unfolding lamps_parts
parts_none = refl

pub wires_none : lamps_wires 0 ≡ []
unfolding lamps_wires
wires_none = refl

pub parts_more : (i : ℕ) → lamps_parts (i + 1) ≡ lamps_parts i ++ lamp_parts i
unfolding lamps_parts
parts_more i = let e : i + 1 ≡ suc i = omega arith in ap lamps_parts e

pub wires_more : (i : ℕ) → lamps_wires (i + 1) ≡ lamps_wires i ++ lamp_wires i
unfolding lamps_wires
wires_more i = let e : i + 1 ≡ suc i = omega arith in ap lamps_wires e

-- the two parts of a lamp
pub lamp_pushed : (i : ℕ) (old mid new : List PartText) (r led : List ℕ) → r ≡ numbered (codes "r") (i + 2) → led ≡ numbered (codes "led") (i + 2) →
    mid ≡ old ++ part (codes "wokwi-resistor") r ∷ [] → new ≡ mid ++ part (codes "wokwi-led") led ∷ [] → new ≡ old ++ lamp_parts i
lamp_pushed i old mid new r led er el em en =
    en ∙ ap (λ (l : List PartText). l ++ part (codes "wokwi-led") led ∷ []) em
    ∙ append_assoc old (part (codes "wokwi-resistor") r ∷ []) (part (codes "wokwi-led") led ∷ [])
    ∙ ap (λ (x : List ℕ). old ++ part (codes "wokwi-resistor") x ∷ (part (codes "wokwi-led") led ∷ [])) er
    ∙ ap (λ (x : List ℕ). old ++ part (codes "wokwi-resistor") (numbered (codes "r") (i + 2)) ∷ (part (codes "wokwi-led") x ∷ [])) el

-- a turn behind those before it
pub turn_written : (seed j x : ℕ) (old new : List ℕ) → x ≡ drawn seed (2 + j + 1) →
    ((bytes : List ℕ) → length bytes ≡ 2 * (3 + 2 * j) → old ≡ flash_of bytes → new ≡ flash_of (bytes ++ (little (load (x / 65536 % 256)) ++ little (put j)))) →
    old ≡ flash_of (opening ++ turns seed j) → new ≡ flash_of (opening ++ turns seed (j + 1))
turn_written seed j x old new drew wrote was =
    let n = length-append opening (turns seed j) in
    let long : length (opening ++ turns seed j) ≡ 2 * (3 + 2 * j) = omega (arith, n, length-turns seed j) in
    let e : 2 + j + 1 ≡ 3 + j = omega arith in
    let same : little (load (x / 65536 % 256)) ++ little (put j) ≡ turn seed j =
    ap (λ (y : ℕ). little (load (y / 65536 % 256)) ++ little (put j)) (drew ∙ ap (drawn seed) e) in
    wrote (opening ++ turns seed j) long was
    ∙ ap (λ (t : List ℕ). flash_of ((opening ++ turns seed j) ++ t)) same
    ∙ ap flash_of (append_assoc opening (turns seed j) (turn seed j) ∙ ap (λ (t : List ℕ). opening ++ t) (sym (turns_more seed j)))

-- the opening, the turns, and the way back behind them
pub image_written : (seed : ℕ) (blank opened turned new : List ℕ) → blank ≡ replicate 32768 255 → (blank ≡ flash_of [] → opened ≡ flash_of opening) →
    (opened ≡ flash_of opening → turned ≡ flash_of (opening ++ turns seed 64)) →
    ((bytes : List ℕ) → length bytes ≡ 2 * 131 → turned ≡ flash_of bytes → new ≡ flash_of (bytes ++ little 0xCF7F)) → new ≡ image seed
image_written seed blank opened turned new is opens turns_all wrote =
    let n = length-append opening (turns seed 64) in
    let long : length (opening ++ turns seed 64) ≡ 2 * 131 = omega (arith, n, length-turns seed 64) in
    wrote (opening ++ turns seed 64) long (turns_all (opens is))

joined : {A : Type 0} (l : List A) (a b d : A) → ((l ++ a ∷ []) ++ b ∷ []) ++ d ∷ [] ≡ l ++ (a ∷ (b ∷ (d ∷ [])))
joined l a b d = ap (λ (x : List _). x ++ d ∷ []) (append_assoc l (a ∷ []) (b ∷ [])) ∙ append_assoc l (a ∷ (b ∷ [])) (d ∷ [])

-- the parts behind the lamps
pub parts_pushed : (old one two new : List PartText) (i j k : List ℕ) → old ≡ part (codes "wokwi-arduino-uno") (codes "uno") ∷ [] ++ lamps_parts 8 →
    i ≡ codes "inv1" → j ≡ codes "inv2" → k ≡ codes "x1" → one ≡ old ++ part (codes "chip-inverter") i ∷ [] → two ≡ one ++ part (codes "chip-inverter") j ∷ [] →
    new ≡ two ++ part (codes "wokwi-gate-xor-2") k ∷ [] → new ≡ parts
parts_pushed old one two new i j k was ei ej ek e1 e2 en =
    let inv : List ℕ → PartText = part (codes "chip-inverter") in
    let gate : List ℕ → PartText = part (codes "wokwi-gate-xor-2") in
    let front : List PartText = part (codes "wokwi-arduino-uno") (codes "uno") ∷ [] ++ lamps_parts 8 in
    en ∙ ap (λ (l : List PartText). l ++ gate k ∷ []) (e2 ∙ ap (λ (l : List PartText). l ++ inv j ∷ []) e1)
    ∙ joined old (inv i) (inv j) (gate k)
    ∙ ap (λ (l : List PartText). l ++ (inv i ∷ (inv j ∷ (gate k ∷ [])))) was
    ∙ ap (λ (x : List ℕ). front ++ (inv x ∷ (inv j ∷ (gate k ∷ [])))) ei
    ∙ ap (λ (x : List ℕ). front ++ (inv (codes "inv1") ∷ (inv x ∷ (gate k ∷ [])))) ej
    ∙ ap (λ (x : List ℕ). front ++ (inv (codes "inv1") ∷ (inv (codes "inv2") ∷ (gate x ∷ [])))) ek

-- the wires behind the lamps, by the pins that were drawn
pub wires_pushed : (seed x y a b : ℕ) (old new : List Wire) (p q : List ℕ) → x ≡ after seed → y ≡ after x → a ≡ 2 + x / 65536 % 8 → b ≡ 2 + y / 65536 % 8 →
    p ≡ numbered [] a → q ≡ numbered [] b → old ≡ lamps_wires 8 → new ≡ old ++ gate_wires p q → new ≡ wires seed
wires_pushed seed x y a b old new p q ex ey ea eb ep eq was en =
    let pin : ℕ → List ℕ = λ n. numbered [] (2 + n / 65536 % 8) in
    let one : p ≡ pin (drawn seed 1) = ep ∙ ap (numbered []) ea ∙ ap pin (ex ∙ sym (drawn_one seed)) in
    let two : q ≡ pin (drawn seed 2) = eq ∙ ap (numbered []) eb ∙ ap pin (ey ∙ ap after ex ∙ sym (drawn_two seed)) in
    en ∙ ap (λ (l : List Wire). l ++ gate_wires p q) was
    ∙ ap (λ (z : List ℕ). lamps_wires 8 ++ gate_wires z q) one
    ∙ ap (λ (z : List ℕ). lamps_wires 8 ++ gate_wires (pin (drawn seed 1)) z) two
