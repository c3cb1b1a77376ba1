-- A watcher is handed one part after another.
use Rattle.board_run.proofs.Common.{◌≡◌, ℕ, ◌+◌, ◌<◌, List, [], ◌∷◌, ◌++◌, ◌∙◌, Option, None, Some, refl, ap, sym, subst, append_assoc, take, drop, length}
use Rattle.board_run.proofs.Common.{Bool, true, append-nil, get_or, take-append-drop, slice_get, option_to_list, Row, Appends, StopsWithin, AreFronts, Handed}
use Rattle.board_run.proofs.Common.{take_more, get_or_from_slice_get, options}
use Rattle.board_run.proofs.PartLemmas.{drop_item}

-- something is not nothing
pub some_none : {A B : Type 0} {x : A} → Some x ≡ None → B
some_none e = absurd cc

pub options-append : (xs ys : List (Option ℕ)) → options (xs ++ ys) ≡ options xs ++ options ys
options-append [] ys = refl
options-append (None ∷ xs) ys = options-append xs ys
options-append (Some x ∷ xs) ys = ap (λ (l : List ℕ). x ∷ l) (options-append xs ys)

pub nothing_more : {A : Type 0} (xs : List A) → xs ≡ xs ++ []
nothing_more xs = sym (append-nil xs)

-- the bytes of one more answer
pub options_more : (xs : List (Option ℕ)) (i : ℕ) (x : Option ℕ) → i < length xs → slice_get xs i ≡ Some x → options (take (i + 1) xs) ≡ options (take i xs) ++ options (x ∷ [])
options_more xs i x h e =
    rw (take_more xs i x h, options-append (take i xs) (get_or xs i x ∷ []), get_or_from_slice_get xs i x x e) refl

-- and the bytes of those that are left
pub options_split : (xs : List (Option ℕ)) (i : ℕ) (x : Option ℕ) → slice_get xs i ≡ Some x → options (take i xs) ++ (options (x ∷ []) ++ options (drop (i + 1) xs)) ≡ options xs
options_split xs i x e =
    ap (λ (l : List ℕ). options (take i xs) ++ l) (sym (options-append (x ∷ []) (drop (i + 1) xs))) ∙ sym (options-append (take i xs) (x ∷ drop (i + 1) xs))
    ∙ ap (λ (l : List (Option ℕ)). options (take i xs ++ l)) (sym (drop_item xs i x e)) ∙ ap options (take-append-drop i xs)

module _ {W : Type 0} (stands : W → List Row → List ℕ → Type 0) where
  pub appends_none : (w : W) → Appends (stands w) (stands w) [] []
  appends_none w rs bs h = subst (λ (l : List ℕ). stands w (rs ++ []) l) (nothing_more bs) (subst (λ (l : List Row). stands w l bs) (nothing_more rs) h)

  pub appends_then : (next : W → List Row → List ℕ → Type 0) (a b c : W) (r1 r2 : List Row) (b1 b2 : List ℕ) → Appends (stands a) (stands b) r1 b1 → Appends (stands b) (next c) r2 b2 → Appends (stands a) (next c) (r1 ++ r2) (b1 ++ b2)
  appends_then next a b c r1 r2 b1 b2 p q rs bs h = rw (← append_assoc {A = Row}, ← append_assoc {A = ℕ}) (q (rs ++ r1) (bs ++ b1) (p rs bs h))

  -- one that stops when it is handed more has stopped within all
  pub stops_after : (stopped : W → List Row → List ℕ → Type 0) (a b c : W) (r1 r2 rows : List Row) (b1 b2 bytes : List ℕ) →
      Appends (stands a) (stands b) r1 b1 → StopsWithin (stands b) (stopped c) r2 b2 → AreFronts (r1 ++ r2) (b1 ++ b2) rows bytes → StopsWithin (stands a) (stopped c) rows bytes
  stops_after stopped a b c r1 r2 rows b1 b2 bytes p q front =
      let f = q.2 in (
        r1 ++ q.0,
        b1 ++ q.1,
        record {
          more_rows = f.more_rows ++ front.more_rows;
          more_bytes = f.more_bytes ++ front.more_bytes;
          whole_rows = regroup r1 q.0 f.more_rows front.more_rows ∙ ap (λ (l : List Row). (r1 ++ l) ++ front.more_rows) f.whole_rows ∙ front.whole_rows;
          whole_bytes = regroup b1 q.1 f.more_bytes front.more_bytes ∙ ap (λ (l : List ℕ). (b1 ++ l) ++ front.more_bytes) f.whole_bytes ∙ front.whole_bytes;
        },
        appends_then stopped a b c r1 q.0 b1 q.1 p q.3,
      )
    where
      regroup : {A : Type 0} (a b c d : List A) → (a ++ b) ++ (c ++ d) ≡ (a ++ (b ++ c)) ++ d
      regroup a b c d = simp append_assoc

-- all of it is a first part
pub whole_front : (rows : List Row) (bytes : List ℕ) → AreFronts rows bytes rows bytes
whole_front rows bytes = record { more_rows = []; more_bytes = []; whole_rows = sym (nothing_more rows); whole_bytes = sym (nothing_more bytes) }

pub stops_whole : (old new : List Row → List ℕ → Type 0) (rows : List Row) (bytes : List ℕ) → Appends old new rows bytes → StopsWithin old new rows bytes
stops_whole old new rows bytes p = (rows, bytes, whole_front rows bytes, p)

module _ {W : Type 0} (whole : W → Bool) (faults : W → ℕ) (stands : W → List Row → List ℕ → Type 0) where
  pub handed_then : (a b c : W) (r1 r2 r : List Row) (b1 b2 bs : List ℕ) →
      Handed whole faults stands a b r1 b1 → Handed whole faults stands b c r2 b2 → r ≡ r1 ++ r2 → bs ≡ b1 ++ b2 → Handed whole faults stands a c r bs
  handed_then a b c r1 r2 r b1 b2 bs p q er eb = record {
    is_whole = q.is_whole;
    no_fault = q.no_fault ∙ p.no_fault;
    appended = rw (er, eb) (appends_then stands stands a b c r1 r2 b1 b2 p.appended q.appended);
  }

  -- rows and then bytes
  pub handed_both : (a b c : W) (r r' : List Row) (bs bs' : List ℕ) →
      Handed whole faults stands a b r [] → Handed whole faults stands b c [] bs → r ≡ r' → bs ≡ bs' → Handed whole faults stands a c r' bs'
  handed_both a b c r r' bs bs' p q er eb = handed_then a b c r [] r' [] bs bs' p q (sym er ∙ nothing_more r) (sym eb)

  pub stopped_second : (stopped : W → List Row → List ℕ → Type 0) (a b c : W) (r r' : List Row) (bs bs' : List ℕ) →
      Handed whole faults stands a b r [] → StopsWithin (stands b) (stopped c) [] bs → r ≡ r' → bs ≡ bs' → StopsWithin (stands a) (stopped c) r' bs'
  stopped_second stopped a b c r r' bs bs' p q er eb =
      stops_after stands stopped a b c r [] r' [] bs bs' p.appended q
      (record { more_rows = []; more_bytes = []; whole_rows = sym (nothing_more (r ++ [])) ∙ sym (nothing_more r) ∙ er; whole_bytes = sym (nothing_more bs) ∙ eb })

pub stopped_first : (old new : List Row → List ℕ → Type 0) (r r' : List Row) (bs : List ℕ) → Appends old new r [] → r ≡ r' → StopsWithin old new r' bs
stopped_first old new r r' bs p er = (r, [], record { more_rows = []; more_bytes = bs; whole_rows = sym (nothing_more r) ∙ er; whole_bytes = refl }, p)

-- one that stops at a byte has stopped within all bytes
pub bytes_stop : {W : Type 0} (whole : W → Bool) (faults : W → ℕ) (stands stopped : W → List Row → List ℕ → Type 0) (a b c : W) (xs : List (Option ℕ)) (i : ℕ) (x : Option ℕ) →
    Handed whole faults stands a b [] (options (take i xs)) → Appends (stands b) (stopped c) [] (options (x ∷ [])) → slice_get xs i ≡ Some x → StopsWithin (stands a) (stopped c) [] (options xs)
bytes_stop whole faults stands stopped a b c xs i x h p e =
    stops_after stands stopped a b c [] [] [] (options (take i xs)) (options (x ∷ [])) (options xs) h.appended (stops_whole (stands b) (stopped c) [] (options (x ∷ [])) p)
    (record { more_rows = []; more_bytes = options (drop (i + 1) xs); whole_rows = refl; whole_bytes = append_assoc (options (take i xs)) (options (x ∷ [])) (options (drop (i + 1) xs)) ∙ options_split xs i x e })

pub one_byte : (b : Option ℕ) → options (b ∷ []) ≡ option_to_list b
one_byte None = refl
one_byte (Some x) = refl

-- a watcher that was handed nothing
pub handed_nothing : {W : Type 0} (whole : W → Bool) (faults : W → ℕ) (stands : W → List Row → List ℕ → Type 0) (w : W) → whole w ≡ true → Handed whole faults stands w w [] []
handed_nothing whole faults stands w is = record { is_whole = is; no_fault = refl; appended = appends_none stands w }
