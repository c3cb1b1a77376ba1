-- One cycle of an OLED, beside one cycle of the traffic on its lines.
use Rattle.std.proofs.Common.{◌≡◌, ℕ, ◌+◌, ◌*◌, ◌/◌, ◌%◌, ◌<◌, ◌≤◌, List, [], ◌∷◌, ◌++◌, ◌∙◌, length, Bool, true, false, refl, ap, sym, subst, inl, inr, arith, ltb-true, ltb-false, eqb-true, eq-eqb}
use Rattle.std.specs.Prelude.{◌==◌, nat_lt, if◌then◌else◌}
use Rattle.std.proofs.lemmas.Bool.{cases_lt}
use Rattle.std.proofs.lemmas.Bool.Decides.{eqb_tells}
use Rattle.slave_request.specs.declared.request.EngineRequest.TheVariants as requests
use Rattle.slave_i2c.specs.declared.lines.Lines.{Lines}
use Rattle.slave_i2c.specs.declared.slave.Phase.{Phase}
use Rattle.slave_i2c.specs.declared.slave.Phase.TheVariants.{Idle, Address, Data, Connecting, Judging, Accepting, Accepted}
use Rattle.slave_i2c.specs.I2c.{with_bit_in, byte_in, addressed, disconnects}
use Rattle.part_oled.specs.declared.stream.Stream.{Stream}
use Rattle.part_oled.specs.declared.stream.Stream.TheVariants.{Control}
use Rattle.part_oled.specs.Picture.{Picture}
use Rattle.part_oled.specs.Stream.{put, after}
use Rattle.part_oled.specs.Oled.{OledState, heard, oled_step}
use Rattle.law_oled.specs.Traffic.{Traffic, bytes, moved, written}
use Rattle.law_oled.specs.Shown.{picture_of, taken}
use Rattle.law_oled.proofs.BitLemmas.{IsBegun, bytes_none, bytes_stay, begun_next, begun_same, begun_last, begun_end, begun_none, ninth_same, ninth_end, short_more, nothing_begun}

-- one more byte of a write
taken_more : (w : Picture × Stream) (xs : List ℕ) (z : ℕ) → taken w (xs ++ z ∷ []) ≡ (put (taken w xs).0 (taken w xs).1 z, after (taken w xs).1 z)
taken_more w [] z = refl
taken_more w (x ∷ xs) z = taken_more (put w.0 w.1 x, after w.1 x) xs z

module _ (address : ℕ) where
  -- the bytes of a write to this address, and what the next byte of it is
  pub record Hits (p : Picture) (came : List ℕ) (stream : Stream) : Type 0 where
    pub rest : List ℕ
    pub begins : came ≡ 2 * address ∷ rest
    pub next : stream ≡ (taken (p, Control) rest).1

  -- the bytes of other traffic, the first of which has come
  abbrev pub Misses : List ℕ → Type 0
  Misses [] = ⊥
  Misses (first ∷ rest) = (first == 2 * address) ≡ false

  -- at the fall of SCL before the answer bit eight bits of the byte have come, and at its rise the answer too
  abbrev pub IsAnswered : Bool → ℕ → Type 0
  IsAnswered true n = n ≡ 0
  IsAnswered false n = n ≡ 8

  -- after these bits since the latest START, which began with this picture
  abbrev pub Within : Bool → Picture → List Bool → Stream → Phase → Type 0
  Within scl p bits stream Idle = Misses (bytes bits)
  Within scl p bits stream (Address k x) = IsBegun bits k x × (length bits ≤ 7)
  Within scl p bits stream (Data k x) = IsBegun bits k x × Hits p (bytes bits) stream
  Within scl p bits stream (Accepting false) = (scl ≡ true) × (length bits % 9 ≡ 8) × Hits p (bytes bits) stream
  Within scl p bits stream (Accepted false) = IsAnswered scl (length bits % 9) × Hits p (bytes bits) stream
  Within scl p bits stream phase = ⊥

  abbrev shown : Picture → List Bool → Picture
  shown p bits = (taken (p, Control) (written address (bytes bits))).0

  abbrev made : Picture → Stream → Bool → Bool → Phase → OledState
  made pic st c l ph = record { picture = pic; stream = st; slave = record { address = address; connected = c; low = l; phase = ph } }

  record Holds (scl : Bool) (p : Picture) (bits : List Bool) (s : OledState) : Type 0 where
    own : s.slave.address ≡ address
    picture : s.picture ≡ shown p bits
    place : Within scl p bits s.stream s.slave.phase

  miss_written : (came : List ℕ) → Misses came → written address came ≡ []
  miss_written [] miss = absurd miss
  miss_written (first ∷ rest) miss = ap (λ (b : Bool). if b then rest else []) miss

  miss_more : (came more : List ℕ) → Misses came → Misses (came ++ more)
  miss_more [] more miss = absurd miss
  miss_more (first ∷ rest) more miss = miss

  hit_written : (rest : List ℕ) → written address (2 * address ∷ rest) ≡ rest
  hit_written rest = ap (λ (b : Bool). if b then rest else []) (eq-eqb (2 * address) (2 * address) refl)

  -- ---- a rise of SCL

  module _ (pic : Picture) (st : Stream) (c l sda : Bool) (p : Picture) (bits : List Bool) (same : pic ≡ shown p bits) where
    rise_idle : Misses (bytes bits) → Holds true p (bits ++ sda ∷ []) (made pic st c l Idle)
    rise_idle miss =
        let m = bytes_stay bits sda in
        let miss' : Misses (bytes (bits ++ sda ∷ [])) = subst Misses (sym m.1) (miss_more (bytes bits) m.0 miss) in
        let was : written address (bytes bits) ≡ [] = miss_written (bytes bits) miss in
        let now : written address (bytes (bits ++ sda ∷ [])) ≡ [] = miss_written (bytes (bits ++ sda ∷ [])) miss' in
        record {
          own = refl;
          picture = same ∙ ap (λ (xs : List ℕ). (taken (p, Control) xs).0) (was ∙ sym now);
          place = miss';
        }

    -- the first byte
    abbrev asked : ℕ → Bool → Bool → OledState
    asked z b r = heard (made pic st c l (if b then Connecting r else Idle)) (if b then requests.Connect address r ∷ [] else [])

    asked_other : (z : ℕ) (st' : Stream) (c' : Bool) → bytes (bits ++ sda ∷ []) ≡ z ∷ [] → pic ≡ p → (z == 2 * address) ≡ false → Holds true p (bits ++ sda ∷ []) (made pic st' c' l Idle)
    asked_other z st' c' came begin other =
        let miss : Misses (bytes (bits ++ sda ∷ [])) = subst Misses (sym came) other in
        record {
          own = refl;
          picture = begin ∙ sym (ap (λ (xs : List ℕ). (taken (p, Control) xs).0) (miss_written (bytes (bits ++ sda ∷ [])) miss));
          place = miss;
        }

    asked_by : (z : ℕ) (b r : Bool) → (z / 2 == address) ≡ b → (z % 2 == 1) ≡ r → bytes (bits ++ sda ∷ []) ≡ z ∷ [] → length (bits ++ sda ∷ []) % 9 ≡ 8 → pic ≡ p → Holds true p (bits ++ sda ∷ []) (asked z b r)
    asked_by z false r d e came eight begin =
        asked_other z st c came begin
        (elim (eqb_tells z (2 * address)) [
          | inl yes' ↦ let half : z / 2 ≡ address = omega (arith, yes'.1) in let t : (z / 2 == address) ≡ true = eq-eqb (z / 2) address half in absurd cc
          | inr no' ↦ no'.0
        ])
    asked_by z true true d e came eight begin =
        let odd : z % 2 ≡ 1 = eqb-true (z % 2) 1 e in
        asked_other z Control false came begin
        (elim (eqb_tells z (2 * address)) [
          | inl yes' ↦ absurd (omega (arith, yes'.1, odd))
          | inr no' ↦ no'.0
        ])
    asked_by z true false d e came eight begin =
        let half : z / 2 ≡ address = eqb-true (z / 2) address d in
        let even : z % 2 ≡ 0 = elim (cases_lt (z % 2) 1) [
          | inl less ↦ omega (arith, less)
          | inr least ↦ let odd : z % 2 ≡ 1 = omega (arith, least) in let t : (z % 2 == 1) ≡ true = eq-eqb (z % 2) 1 odd in absurd cc
        ] in
        let twice : z ≡ 2 * address = omega (arith, half, even) in
        let hit : bytes (bits ++ sda ∷ []) ≡ 2 * address ∷ [] = came ∙ ap (λ (x : ℕ). x ∷ []) twice in
        record {
          own = refl;
          picture = begin ∙ sym (ap (λ (xs : List ℕ). (taken (p, Control) (written address xs)).0) hit ∙ ap (λ (xs : List ℕ). (taken (p, Control) xs).0) (hit_written []));
          place = (refl, eight, record { rest = []; begins = hit; next = refl });
        }

    abbrev in_address : ℕ → ℕ → Bool → OledState
    in_address k z b = heard (made pic st c l (if b then Address (k + 1) z else byte_in address z)) (if b then [] else addressed address z)

    address_by : (k x : ℕ) (b : Bool) → nat_lt k 7 ≡ b → IsBegun bits k x → length bits ≤ 7 → Holds true p (bits ++ sda ∷ []) (in_address k (with_bit_in x sda) b)
    address_by k x true t is short =
        let less : k < 7 = ltb-true k 7 t in
        record {
          own = refl;
          picture = same ∙ ap (λ (xs : List ℕ). (taken (p, Control) (written address xs)).0) (sym (begun_same bits sda k x is less));
          place = (begun_next bits sda k x is less, short_more bits sda k x is less short);
        }
    address_by k x false t is short =
        let least : 7 ≤ k = ltb-false k 7 t in
        let none : bytes bits ≡ [] = bytes_none bits short in
        asked_by (with_bit_in x sda) (with_bit_in x sda / 2 == address) (with_bit_in x sda % 2 == 1) refl refl
        (begun_last bits sda k x is least ∙ ap (λ (xs : List ℕ). xs ++ with_bit_in x sda ∷ []) none)
        (begun_end bits sda k x is least)
        (same ∙ ap (λ (xs : List ℕ). (taken (p, Control) (written address xs)).0) none)

    -- a byte after the first
    abbrev in_data : ℕ → ℕ → Bool → OledState
    in_data k z b = heard (made pic st c l (if b then Data (k + 1) z else Judging)) (if b then [] else requests.Write z ∷ [])

    data_by : (k x : ℕ) (b : Bool) → nat_lt k 7 ≡ b → IsBegun bits k x → Hits p (bytes bits) st → Holds true p (bits ++ sda ∷ []) (in_data k (with_bit_in x sda) b)
    data_by k x true t is hits =
        let less : k < 7 = ltb-true k 7 t in
        let stay : bytes (bits ++ sda ∷ []) ≡ bytes bits = begun_same bits sda k x is less in
        record {
          own = refl;
          picture = same ∙ ap (λ (xs : List ℕ). (taken (p, Control) (written address xs)).0) (sym stay);
          place = (begun_next bits sda k x is less, record { rest = hits.rest; begins = stay ∙ hits.begins; next = hits.next });
        }
    data_by k x false t is hits =
        let z = with_bit_in x sda in
        let w : Picture × Stream = (p, Control) in
        let rest = hits.rest in
        let least : 7 ≤ k = ltb-false k 7 t in
        let came : bytes (bits ++ sda ∷ []) ≡ 2 * address ∷ (rest ++ z ∷ []) = begun_last bits sda k x is least ∙ ap (λ (xs : List ℕ). xs ++ z ∷ []) hits.begins in
        let was : pic ≡ (taken w rest).0 = same ∙ ap (λ (xs : List ℕ). (taken w (written address xs)).0) hits.begins ∙ ap (λ (xs : List ℕ). (taken w xs).0) (hit_written rest) in
        let more : taken w (rest ++ z ∷ []) ≡ (put (taken w rest).0 (taken w rest).1 z, after (taken w rest).1 z) = taken_more w rest z in
        record {
          own = refl;
          picture =
              ap (λ (q : Picture). put q st z) was
              ∙ ap (λ (q : Stream). put (taken w rest).0 q z) hits.next
              ∙ ap (λ (v : Picture × Stream). v.0) (sym more)
              ∙ sym (ap (λ (xs : List ℕ). (taken w (written address xs)).0) came ∙ ap (λ (xs : List ℕ). (taken w xs).0) (hit_written (rest ++ z ∷ [])));
          place = (
            refl,
            begun_end bits sda k x is least,
            record {
              rest = rest ++ z ∷ [];
              begins = came;
              next = ap (λ (q : Stream). after q z) hits.next ∙ ap (λ (v : Picture × Stream). v.1) (sym more);
            },
          );
        }

    -- the answer bit
    rise_answer : length bits % 9 ≡ 8 → Hits p (bytes bits) st → Holds true p (bits ++ sda ∷ []) (made pic st c l (Accepted false))
    rise_answer eight hits =
        let stay : bytes (bits ++ sda ∷ []) ≡ bytes bits = ninth_same bits sda eight in
        record {
          own = refl;
          picture = same ∙ ap (λ (xs : List ℕ). (taken (p, Control) (written address xs)).0) (sym stay);
          place = (ninth_end bits sda eight, record { rest = hits.rest; begins = stay ∙ hits.begins; next = hits.next });
        }

    rise : (was : Bool) (ph : Phase) → Within false p bits st ph → Holds true p (bits ++ sda ∷ []) (oled_step (made pic st c l ph) (record { scl = false; sda = was }) (record { scl = true; sda = sda }))
    rise was Idle w = rise_idle w
    rise was (Address k x) w = address_by k x (nat_lt k 7) refl w.0 w.1
    rise was (Data k x) w = data_by k x (nat_lt k 7) refl w.0 w.1
    rise was (Accepting false) w = let no' : false ≡ true = w.0 in absurd cc
    rise was (Accepted false) w = rise_answer w.0 w.1
    rise was ph w = absurd w

    -- ---- a fall of SCL

    fall : (was : Bool) (ph : Phase) → Within true p bits st ph → Holds false p bits (oled_step (made pic st c l ph) (record { scl = true; sda = was }) (record { scl = false; sda = sda }))
    fall was Idle w = record { own = refl; picture = same; place = w }
    fall was (Address k x) w = record { own = refl; picture = same; place = w }
    fall was (Data k x) w = record { own = refl; picture = same; place = w }
    fall was (Accepting false) w = record { own = refl; picture = same; place = (w.1, w.2) }
    fall was (Accepted false) w =
        let none : length bits % 9 ≡ 0 = w.0 in
        record { own = refl; picture = same; place = (record { place = omega arith; count = none; number = sym (begun_none bits none) }, w.1) }
    fall was ph w = absurd w

  -- ---- any cycle

  abbrev pub Placed : Bool → Bool → List (List Bool) → Stream → Phase → Type 0
  Placed scl false strings stream phase = phase ≡ Idle
  Placed scl true [] stream phase = ⊥
  Placed scl true (bits ∷ earlier) stream phase = Within scl (picture_of address earlier) bits stream phase

  -- what an OLED is after traffic, where SCL reads so
  pub record Follows (scl : Bool) (t : Traffic) (s : OledState) : Type 0 where
    pub own : s.slave.address ≡ address
    pub picture : s.picture ≡ picture_of address t.strings
    pub place : Placed scl t.busy t.strings s.stream s.slave.phase

  held_on : (scl : Bool) (bits : List Bool) (earlier : List (List Bool)) (s : OledState) → Holds scl (picture_of address earlier) bits s → Follows scl (record { busy = true; strings = bits ∷ earlier }) s
  held_on scl bits earlier s h = record { own = h.own; picture = h.picture; place = h.place }

  module _ (pic : Picture) (st : Stream) (strings : List (List Bool)) (same : pic ≡ picture_of address strings) where
    started : (c : Bool) → Follows true (record { busy = true; strings = [] ∷ strings }) (heard (made pic st false false (Address 0 0)) (disconnects c))
    started true = record {
      own = refl;
      picture = same ∙ sym (ap (λ (xs : List ℕ). (taken (picture_of address strings, Control) (written address xs)).0) (bytes_none [] (omega arith)));
      place = (nothing_begun, omega arith);
    }
    started false = record {
      own = refl;
      picture = same ∙ sym (ap (λ (xs : List ℕ). (taken (picture_of address strings, Control) (written address xs)).0) (bytes_none [] (omega arith)));
      place = (nothing_begun, omega arith);
    }

    stopped : (c : Bool) → Follows true (record { busy = false; strings = strings }) (heard (made pic st false false Idle) (disconnects c))
    stopped true = record { own = refl; picture = same; place = refl }
    stopped false = record { own = refl; picture = same; place = refl }

  module _ (pic : Picture) (st : Stream) (c l : Bool) (ph : Phase) where
    rose : (was now busy : Bool) (strings : List (List Bool)) → pic ≡ picture_of address strings → Placed false busy strings st ph →
        Follows true (moved (record { busy = busy; strings = strings }) (record { scl = false; sda = was }) (record { scl = true; sda = now })) (oled_step (made pic st c l ph) (record { scl = false; sda = was }) (record { scl = true; sda = now }))
    rose was now false strings same w =
        subst (λ (q : Phase). Follows true (record { busy = false; strings = strings }) (oled_step (made pic st c l q) (record { scl = false; sda = was }) (record { scl = true; sda = now }))) (sym w)
        (record { own = refl; picture = same; place = refl })
    rose was now true [] same w = absurd w
    rose was now true (bits ∷ earlier) same w = held_on true (bits ++ now ∷ []) earlier _ (rise pic st c l now (picture_of address earlier) bits same was ph w)

    fell : (was now busy : Bool) (strings : List (List Bool)) → pic ≡ picture_of address strings → Placed true busy strings st ph →
        Follows false (record { busy = busy; strings = strings }) (oled_step (made pic st c l ph) (record { scl = true; sda = was }) (record { scl = false; sda = now }))
    fell was now false strings same w =
        subst (λ (q : Phase). Follows false (record { busy = false; strings = strings }) (oled_step (made pic st c l q) (record { scl = true; sda = was }) (record { scl = false; sda = now }))) (sym w)
        (record { own = refl; picture = same; place = refl })
    fell was now true [] same w = absurd w
    fell was now true (bits ∷ earlier) same w = held_on false bits earlier _ (fall pic st c l now (picture_of address earlier) bits same was ph w)

    by : (b n bd nd busy : Bool) (strings : List (List Bool)) → pic ≡ picture_of address strings → Placed b busy strings st ph →
        Follows n (moved (record { busy = busy; strings = strings }) (record { scl = b; sda = bd }) (record { scl = n; sda = nd })) (oled_step (made pic st c l ph) (record { scl = b; sda = bd }) (record { scl = n; sda = nd }))
    by true true true false busy strings same w = started pic st strings same c
    by true true false true busy strings same w = stopped pic st strings same c
    by true true true true busy strings same w = record { own = refl; picture = same; place = w }
    by true true false false busy strings same w = record { own = refl; picture = same; place = w }
    by true false bd nd busy strings same w = fell bd nd busy strings same w
    by false true bd nd busy strings same w = rose bd nd busy strings same w
    by false false bd nd busy strings same w = record { own = refl; picture = same; place = w }

  pub step : (s : OledState) (b n : Lines) (t : Traffic) → Follows b.scl t s → Follows n.scl (moved t b n) (oled_step s b n)
  step s b n t h =
      subst (λ (a : ℕ). Follows n.scl (moved t b n) (oled_step (record { picture = s.picture; stream = s.stream; slave = record { address = a; connected = s.slave.connected; low = s.slave.low; phase = s.slave.phase } }) b n)) (sym h.own)
      (by s.picture s.stream s.slave.connected s.slave.low s.slave.phase b.scl n.scl b.sda n.sda t.busy t.strings h.picture h.place)
