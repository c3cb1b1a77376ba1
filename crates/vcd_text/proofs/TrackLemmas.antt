-- What changes say of pins, change by change.
use Rattle.std.proofs.Common.{◌≡◌, ◌≢◌, ◌<◌, ◌≤◌, ◌+◌, ◌-◌, ℕ, zero, suc, List, [], ◌∷◌, ◌++◌, length, get_or, map, replicate, Bool, true, false}
use Rattle.std.proofs.Common.{Option, None, Some, refl, ap, arith, ◌∙◌, sym, inl, inr}
use Rattle.std.specs.Prelude.{slice_get, slice_set}
use Rattle.std.specs.List.{All, range_with_len}
use Rattle.std.specs.Option.{option_map_or}
use Rattle.std.proofs.lemmas.Bool.{cases_eq, eq-eqb, ne_eqb}
use Rattle.std.proofs.lemmas.List.{get_or-map, get_or-replicate, length-map, length-replicate, length-set, same_lists}
use Rattle.std.proofs.lemmas.List.Elements.{All-append}
use Rattle.std.proofs.lemmas.List.FromFn.{get_or-map-range_with_len, length-map-range_with_len}
use Rattle.std.proofs.lemmas.Option.{slice_get_within, slice_get-get_or, get_or_from_slice_get}
use Rattle.sim_base.specs.declared.signal.Drive.{Drive}
use Rattle.text_model.specs.Wave.{Source, Net, Strong, Weak, Variable, char_z}
use Rattle.wave_lines.specs.Gifts.{given_after}
use Rattle.wave_lines.specs.Reading.{Change}
use Rattle.wave_lines.specs.Same.{same_drive}
use Rattle.wave_lines.proofs.GivenLemmas.{set_same, set_other, given_more, given_none}
use Rattle.wave_lines.proofs.RowLemmas as row_lemmas
use Rattle.wave_lines.proofs.SameLemmas.{same_refl, same_means}
use Rattle.wave_lines.proofs.ValueLemmas.{value_other, value_before, value_now, value_still}
use Rattle.vcd_text.specs.Tracks.{is_strong, is_weak, shows, strong_at, weak_at, drive_of, drive_said, DriveRows, rows_to}
use Rattle.vcd_text.specs.TrackStates.{TrackState, TrackStates, blank, with_drive, strongly, weakly}
use Rattle.vcd_text.specs.TrackStates.{at_pin, pins_after, track_at, AreSaid}

-- the rows of drives
pub rows_same : (f g : ℕ → Drive) (n : ℕ) → ((u : ℕ) → u < n → f u ≡ g u) → rows_to f n ≡ rows_to g n
rows_same f g n agree = row_lemmas.rows_same same_drive same_refl same_means f g n agree

rows_still : (f : ℕ → Drive) (c k : ℕ) → ((u : ℕ) → c ≤ u → f u ≡ f c) → rows_to f (suc (c + k)) ≡ rows_to f (suc c)
rows_still f c k still = row_lemmas.rows_still same_drive same_refl same_means f c k still

-- from a cycle on another drive
rows_set : (f g : ℕ → Drive) (t : ℕ) → ((u : ℕ) → u < t → f u ≡ g u) → with_drive (rows_to f (suc t)) t (g t) ≡ rows_to g (suc t)
rows_set f g t agree = row_lemmas.rows_set same_drive same_refl same_means f g t agree

track_is : (a b c d : ℕ) (r s : DriveRows) → a ≡ b → c ≡ d → r ≡ s → ◌≡◌ {A = TrackState} (record { strong = a; weak = c; rows = r })
    (record { strong = b; weak = d; rows = s })
track_is a b c d r s e f g =
    ap (λ (x : ℕ). made x c r) e ∙ ap (λ (x : ℕ). made b x r) f ∙ ap (λ (x : DriveRows). made b d x) g
  where
    made : ℕ → ℕ → DriveRows → TrackState
    made x y z = record { strong = x; weak = y; rows = z }

pub drive_is : (a b c d : ℕ) → a ≡ b → c ≡ d → drive_of a c ≡ drive_of b d
drive_is a b c d e f = ap (λ (x : ℕ). drive_of x c) e ∙ ap (λ (x : ℕ). drive_of b x) f

module _ (vs : List Variable) (said : List Change) where
  -- later nothing else is said
  still_at : (k pin t : ℕ) → All (λ (d : Change). d.cycle ≤ k) said → k ≤ t → drive_said vs said pin t ≡ drive_said vs said pin k
  still_at k pin t all later =
      drive_is _ _ _ _ (value_still (shows vs (is_strong pin)) said char_z k t all later) (value_still (shows vs (is_weak pin)) said char_z k t all later)

  track_later : (k pin t : ℕ) → All (λ (d : Change). d.cycle ≤ k) said → k ≤ t → track_at vs said t pin ≡ track_at vs said k pin
  track_later k pin t all later =
      let e : k + (t - k) ≡ t = omega (arith, later) in
      track_is _ _ _ _ _ _ (value_still (shows vs (is_strong pin)) said char_z k t all later) (value_still (shows vs (is_weak pin)) said char_z k t all later)
      (ap (λ (n : ℕ). rows_to (drive_said vs said pin) (suc n)) (sym e) ∙ rows_still (drive_said vs said pin) k (t - k) (λ u p. still_at k pin u all p))

  module _ (c : Change) where
    abbrev more : List Change
    more = said ++ c ∷ []

    abbrev f : ℕ → ℕ → Drive
    f pin = drive_said vs said pin

    abbrev g : ℕ → ℕ → Drive
    g pin = drive_said vs more pin

    -- before the change all is as it was
    as_before : (pin u : ℕ) → u < c.cycle → f pin u ≡ g pin u
    as_before pin u less =
        sym (drive_is _ _ _ _ (value_before (shows vs (is_strong pin)) said char_z c u less) (value_before (shows vs (is_weak pin)) said char_z c u less))

    track_other : (pin : ℕ) → shows vs (is_strong pin) c ≡ false → shows vs (is_weak pin) c ≡ false →
        track_at vs more c.cycle pin ≡ track_at vs said c.cycle pin
    track_other pin a b =
        track_is _ _ _ _ _ _ (value_other (shows vs (is_strong pin)) said char_z c c.cycle a) (value_other (shows vs (is_weak pin)) said char_z c c.cycle b)
        (rows_same (g pin) (f pin) (suc c.cycle)
        (λ u p. drive_is _ _ _ _ (value_other (shows vs (is_strong pin)) said char_z c u a) (value_other (shows vs (is_weak pin)) said char_z c u b)))

    track_strong : (pin : ℕ) → shows vs (is_strong pin) c ≡ true → shows vs (is_weak pin) c ≡ false →
        track_at vs more c.cycle pin ≡ strongly (track_at vs said c.cycle pin) c.cycle c.value
    track_strong pin a b =
        let strong = value_now (shows vs (is_strong pin)) said char_z c c.cycle a (omega arith) in
        let weak = value_other (shows vs (is_weak pin)) said char_z c c.cycle b in
        let now : g pin c.cycle ≡ drive_of c.value (weak_at vs said pin c.cycle) = drive_is _ _ _ _ strong weak in
        track_is _ _ _ _ _ _ strong weak (sym (rows_set (f pin) (g pin) c.cycle (as_before pin))
        ∙ ap (λ (d : Drive). with_drive (rows_to (f pin) (suc c.cycle)) c.cycle d) now)

    track_weak : (pin : ℕ) → shows vs (is_strong pin) c ≡ false → shows vs (is_weak pin) c ≡ true →
        track_at vs more c.cycle pin ≡ weakly (track_at vs said c.cycle pin) c.cycle c.value
    track_weak pin a b =
        let strong = value_other (shows vs (is_strong pin)) said char_z c c.cycle a in
        let weak = value_now (shows vs (is_weak pin)) said char_z c c.cycle b (omega arith) in
        let now : g pin c.cycle ≡ drive_of (strong_at vs said pin c.cycle) c.value = drive_is _ _ _ _ strong weak in
        track_is _ _ _ _ _ _ strong weak (sym (rows_set (f pin) (g pin) c.cycle (as_before pin))
        ∙ ap (λ (d : Drive). with_drive (rows_to (f pin) (suc c.cycle)) c.cycle d) now)

at_same : (h : TrackState → TrackState) (pins : List TrackState) (p : ℕ) (s : TrackState) → slice_get pins p ≡ Some s →
    slice_get (at_pin h pins p) p ≡ Some (h s)
at_same h pins p s at = ap (λ (o : Option TrackState). slice_get (option_map_or (λ (s : TrackState). slice_set pins p (h s)) o pins) p) at
    ∙ set_same pins p (h s) (slice_get_within pins p s at)

at_other : (h : TrackState → TrackState) (pins : List TrackState) (q p : ℕ) → p < length pins → p ≢ q → slice_get (at_pin h pins q) p ≡ slice_get pins p
at_other h pins q p less far = go (slice_get pins q)
  where
    go : (o : Option TrackState) → slice_get (option_map_or (λ (s : TrackState). slice_set pins q (h s)) o pins) p ≡ slice_get pins p
    go None = refl
    go (Some s) = set_other pins q p (h s) less far

at_long : (h : TrackState → TrackState) (pins : List TrackState) (q : ℕ) → length (at_pin h pins q) ≡ length pins
at_long h pins q = go (slice_get pins q)
  where
    go : (o : Option TrackState) → length (option_map_or (λ (s : TrackState). slice_set pins q (h s)) o pins) ≡ length pins
    go None = refl
    go (Some s) = length-set pins q (h s)

after_long : (pins : List TrackState) (shows : Source) (cycle value : ℕ) → length (pins_after pins shows cycle value) ≡ length pins
after_long pins (Net n) cycle value = refl
after_long pins (Strong q) cycle value = at_long (λ s. strongly s cycle value) pins q
after_long pins (Weak q) cycle value = at_long (λ s. weakly s cycle value) pins q

module _ (vs : List Variable) (said : List Change) (c : Change) (v : Variable) (here : slice_get vs c.variable ≡ Some v) where
  shows_is : (test : Source → Bool) → shows vs test c ≡ test v.shows
  shows_is test = ap (λ (o : Option Variable). option_map_or (λ (v : Variable). test v.shows) o false) here

  pin_after : (source : Source) → v.shows ≡ source → (pins : List TrackState) (p : ℕ) → slice_get pins p ≡ Some (track_at vs said c.cycle p) →
      slice_get (pins_after pins source c.cycle c.value) p ≡ Some (track_at vs (said ++ c ∷ []) c.cycle p)
  pin_after (Net n) e pins p at = at
      ∙ ap Some (sym (track_other vs said c p (shows_is (is_strong p) ∙ ap (is_strong p) e) (shows_is (is_weak p) ∙ ap (is_weak p) e)))
  pin_after (Strong q) e pins p at = elim (cases_eq q p) [
    | inl same ↦ ap (λ (k : ℕ). slice_get (at_pin (λ (s : TrackState). strongly s c.cycle c.value) pins k) p) same
        ∙ at_same (λ s. strongly s c.cycle c.value) pins p (track_at vs said c.cycle p) at
        ∙ ap Some (sym (track_strong vs said c p (shows_is (is_strong p) ∙ ap (is_strong p) e ∙ eq-eqb q p same) (shows_is (is_weak p) ∙ ap (is_weak p) e)))
    | inr far ↦ at_other (λ s. strongly s c.cycle c.value) pins q p (slice_get_within pins p (track_at vs said c.cycle p) at) (λ e. far (sym e)) ∙ at
        ∙ ap Some (sym (track_other vs said c p (shows_is (is_strong p) ∙ ap (is_strong p) e ∙ ne_eqb q p far) (shows_is (is_weak p) ∙ ap (is_weak p) e)))
  ]
  pin_after (Weak q) e pins p at = elim (cases_eq q p) [
    | inl same ↦ ap (λ (k : ℕ). slice_get (at_pin (λ (s : TrackState). weakly s c.cycle c.value) pins k) p) same
        ∙ at_same (λ s. weakly s c.cycle c.value) pins p (track_at vs said c.cycle p) at
        ∙ ap Some (sym (track_weak vs said c p (shows_is (is_strong p) ∙ ap (is_strong p) e) (shows_is (is_weak p) ∙ ap (is_weak p) e ∙ eq-eqb q p same)))
    | inr far ↦ at_other (λ s. weakly s c.cycle c.value) pins q p (slice_get_within pins p (track_at vs said c.cycle p) at) (λ e. far (sym e)) ∙ at
        ∙ ap Some (sym (track_other vs said c p (shows_is (is_strong p) ∙ ap (is_strong p) e) (shows_is (is_weak p) ∙ ap (is_weak p) e ∙ ne_eqb q p far)))
  ]

module _ (vs : List Variable) (pins : ℕ) where
  -- one more change in the cycle
  pub said_more : (cycle value i : ℕ) (said : List Change) (s : TrackStates) (v : Variable) → slice_get vs i ≡ Some v → AreSaid vs pins cycle said s →
      AreSaid vs pins cycle (said ++ record { cycle = cycle; variable = i; value = value } ∷ [])
      (record { given = given_after s.given i cycle; pins = pins_after s.pins v.shows cycle value })
  said_more cycle value i said s v here is = record {
    so_far = All-append (λ (c : Change). c.cycle ≤ cycle) said (c ∷ []) is.so_far (λ k d p. one k d p);
    all_pins = after_long s.pins v.shows cycle value ∙ is.all_pins;
    tracks = λ p less. pin_after vs said c v here v.shows refl s.pins p (is.tracks p less);
    given = given_more (length vs) said c s.given is.given;
  }
    where
      c : Change
      c = record { cycle = cycle; variable = i; value = value }

      one : (k : ℕ) (d : Change) → k < 1 → (get_or (c ∷ []) k d).cycle ≤ cycle
      one zero d p = omega arith
      one (suc k) d p = absurd (omega (arith, p))

  -- a later cycle
  pub said_later : (cycle next : ℕ) (said : List Change) (s : TrackStates) → cycle ≤ next → AreSaid vs pins cycle said s → AreSaid vs pins next said s
  said_later cycle next said s later is = record {
    so_far = λ k d p. (let h = is.so_far k d p in omega (arith, h, later));
    all_pins = is.all_pins;
    tracks = λ p less. is.tracks p less ∙ ap Some (sym (track_later vs said cycle p next is.so_far later));
    given = is.given;
  }

  -- nothing is said yet
  pub said_none : (s : TrackStates) → s.given ≡ replicate (length vs) false → s.pins ≡ replicate pins blank → AreSaid vs pins 0 [] s
  said_none s e f = record {
    so_far = λ k d p. absurd (omega (arith, p));
    all_pins = ap (λ (l : List TrackState). length l) f ∙ length-replicate pins blank;
    tracks = λ p less. ap (λ (l : List TrackState). slice_get l p) f
        ∙ slice_get-get_or (replicate pins blank) p blank (omega (arith, less, length-replicate pins blank))
        ∙ ap Some (get_or-replicate pins p blank blank less);
    given = given_none (length vs) s.given e;
  }

  pub all_rows : (cycle : ℕ) (said : List Change) (s : TrackStates) → AreSaid vs pins cycle said s →
      map (λ (t : TrackState). t.rows) s.pins ≡ map (λ (pin : ℕ). rows_to (drive_said vs said pin) (suc cycle)) (range_with_len 0 pins)
  all_rows cycle said s is =
      same_lists (map (λ (t : TrackState). t.rows) s.pins) (map rows (range_with_len 0 pins))
      (length-map s.pins (λ (t : TrackState). t.rows) ∙ is.all_pins ∙ sym (length-map-range_with_len rows 0 pins))
      (λ k d p. (let inside : k < length s.pins = omega (arith, p, length-map s.pins (λ (t : TrackState). t.rows)) in
      let less : k < pins = omega (arith, inside, is.all_pins) in
      get_or-map (λ (t : TrackState). t.rows) s.pins k (track_at vs said cycle k) d inside
      ∙ ap (λ (t : TrackState). t.rows) (get_or_from_slice_get s.pins k (track_at vs said cycle k) (track_at vs said cycle k) (is.tracks k less))
      ∙ sym (get_or-map-range_with_len rows 0 pins k k d less (omega arith))))
    where
      rows : ℕ → DriveRows
      rows pin = rows_to (drive_said vs said pin) (suc cycle)
