-- A body is accepted exactly where it is typed, and fails at the first instruction with which the beginning cannot be typed.
use Rattle.std.proofs.Common.{◌≡◌, ℕ, zero, suc, ◌+◌, ◌-◌, ◌<◌, ◌≤◌, List, [], ◌∷◌, ◌++◌, length, take, Option, Some, None, Bool, true, false, refl, sym, ap, subst, ◌∙◌, arith, inl, inr, append_assoc, length-append}
use Rattle.std.proofs.lemmas.Bool.{cases_lt}
use Rattle.std.specs.Prelude.{option_to_list}
use Rattle.wasm_code.specs.declared.types.ValType.{ValType}
use Rattle.wasm_code.specs.declared.instr.Instr.{Instr}
use Rattle.wasm_code.specs.declared.instr.Instr.TheVariants as instrs
use Rattle.wasm_code.specs.Code.{Kind, If, Code, Done, Then, In, Both, flat, head, is_plain, IsPlain, IsNested, Beginning, Here, Inside, InsideElse, flat_beginning}
use Rattle.wasm_code.proofs.Nesting.{IsPlainBeginning}
use Rattle.wasm_typing.specs.Typing.{Context, Enters, Types, IsBody, Begins, CanBegin}
use Rattle.wasm_typing.specs.Checking as checks
use Rattle.wasm_typing.specs.Checking.{Operand, Around, State, label_of, labels_of, opened, behind, step, run, start, total, total_around}
use Rattle.wasm_typing.proofs.Exact.{Denotes, least, no_shorter, frame_of, label_same, enter_to, enter_back, run_next, run_none, run_append, run_first, run_split, around_is, closes, closed_by, parts, parted_by, complete, sound}

abbrev fresh : List Around → State
fresh fs = record { known = []; missing = false; around = fs }

module _ (c : Context) where
  pub body_complete : (code : List Instr) → IsBody c code → (s : State) × (run c code (start c) ≡ Some s)
  body_complete code h =
      let f = around_is c checks.Block c.returns [] false in
      let x = complete c h.0 (start c) [] c.returns h.2 refl in
      let z = closes c x.0 f [] x.2 refl x.3 in
      (behind f [], ap (λ (y : List Instr). run c y (start c)) h.1 ∙ run_append c (flat h.0) (instrs.End ∷ []) (start c) x.0 x.1 ∙ run_next c instrs.End [] x.0 (behind f []) z ∙ run_none c (behind f []))

  pub body_sound : (code : List Instr) (s : State) → IsNested code → run c code (start c) ≡ Some s → IsBody c code
  body_sound code s n h =
      let f = around_is c checks.Block c.returns [] false in
      let sp = run_split c (flat n.0) (instrs.End ∷ []) (start c) s (ap (λ (x : List Instr). run c x (start c)) (sym n.2) ∙ h) in
      let g = sound c n.0 (start c) sp.0 n.1 sp.1 in
      let fe = run_first c instrs.End [] sp.0 s sp.2 in
      let x = closed_by c sp.0 fe.0 f [] g.0 fe.1 in
      let w = g.1 c.returns x.2 in
      (n.0, n.2, subst (λ y. Types c (c.returns ∷ []) n.0 y c.returns) w.1 w.2)

  pub begins_complete : (b : Beginning) (fs : List Around) (room : ℕ) → Begins c room (labels_of fs) b → (t : State) × (run c (flat_beginning b) (fresh fs) ≡ Some t) × (total t ≤ total_around fs + room)
  begins_complete (Here a) fs room h =
      let x = complete c a (fresh fs) [] h.0 h.1 refl in
      (x.0, x.1, omega (arith, ap total_around x.2, no_shorter x.0.known x.0.missing h.0 x.3, h.2))
  begins_complete (Inside a k r b) fs room h =
      let rs = option_to_list r in
      let x = complete c a (fresh fs) [] h.0 h.2 refl in
      let n = enter_to c k r x.0 h.0 h.1 h.3 x.3 in
      let f = around_is c (frame_of k) rs n.0 x.0.missing in
      let o = opened (frame_of k) rs n.0 x.0.missing x.0.around in
      let same : o ≡ fresh (f ∷ fs) = ap (λ (y : List Around). fresh (f ∷ y)) x.2 in
      let i = begins_complete b (f ∷ fs) (room - length h.1) (subst (λ (l : List ValType). Begins c (room - length h.1) (l ∷ labels_of fs) b) (sym (label_same k r)) h.5) in
      (i.0, run_append c (flat a) (head k r ∷ flat_beginning b) (fresh fs) x.0 x.1 ∙ run_next c (head k r) (flat_beginning b) x.0 o n.1 ∙ ap (λ (y : State). run c (flat_beginning b) y) same ∙ i.1, omega (arith, i.2, no_shorter n.0 x.0.missing h.1 n.2, h.4))
  begins_complete (InsideElse a r d b) fs room h =
      let rs = option_to_list r in
      let x = complete c a (fresh fs) [] h.0 h.2 refl in
      let n = enter_to c If r x.0 h.0 h.1 h.3 x.3 in
      let o = opened checks.If rs n.0 x.0.missing fs in
      let same : opened checks.If rs n.0 x.0.missing x.0.around ≡ o = ap (λ (y : List Around). opened checks.If rs n.0 x.0.missing y) x.2 in
      let y = complete c d o [] rs h.4 refl in
      let p = parts c y.0 rs n.0 x.0.missing fs y.2 y.3 in
      let f = around_is c checks.Else rs n.0 x.0.missing in
      let i = begins_complete b (f ∷ fs) (room - length h.1) h.6 in (
        i.0,
        run_append c (flat a) (instrs.If r ∷ (flat d ++ instrs.Else ∷ flat_beginning b)) (fresh fs) x.0 x.1
            ∙ run_next c (instrs.If r) (flat d ++ instrs.Else ∷ flat_beginning b) x.0 (opened checks.If rs n.0 x.0.missing x.0.around) n.1
            ∙ ap (λ (z : State). run c (flat d ++ instrs.Else ∷ flat_beginning b) z) same
            ∙ run_append c (flat d) (instrs.Else ∷ flat_beginning b) o y.0 y.1
            ∙ run_next c instrs.Else (flat_beginning b) y.0 (opened checks.Else rs n.0 x.0.missing fs) p
            ∙ i.1,
        omega (arith, i.2, no_shorter n.0 x.0.missing h.1 n.2, h.5),
      )

  -- what was run into a block, and what runs in it
  abbrev Into : Code → Kind → Option ValType → List Instr → List Around → State → Type 0
  Into a k r is fs t =
      (s : State) × (os : List Operand) × (run c (flat a) (fresh fs) ≡ Some s) × (s.around ≡ fs)
      × ((us : List ValType) → Denotes s.known s.missing us → (ts : List ValType) × Denotes [] false ts × Types c (labels_of fs) a ts us)
      × ((vs : List ValType) → Denotes os s.missing vs → (ts : List ValType) × Denotes s.known s.missing ts × Enters k ts vs)
      × (run c is (fresh (around_is c (frame_of k) (option_to_list r) os s.missing ∷ fs)) ≡ Some t)

  into : (a : Code) (k : Kind) (r : Option ValType) (is : List Instr) (fs : List Around) (t : State) → IsPlain a → run c (flat a ++ head k r ∷ is) (fresh fs) ≡ Some t → Into a k r is fs t
  into a k r is fs t p h =
      let sp = run_split c (flat a) (head k r ∷ is) (fresh fs) t h in
      let g = sound c a (fresh fs) sp.0 p sp.1 in
      let fe = run_first c (head k r) is sp.0 t sp.2 in
      let n = enter_back c k r sp.0 fe.0 fe.1 in
      let f = around_is c (frame_of k) (option_to_list r) n.0 sp.0.missing in
      let same : fe.0 ≡ fresh (f ∷ fs) = n.1 ∙ ap (λ (x : List Around). fresh (f ∷ x)) g.0 in
      (sp.0, n.0, sp.1, g.0, g.1, n.2, ap (λ (x : State). run c is x) (sym same) ∙ fe.2)

  -- what was run into the else of an if
  abbrev Past : Code → Option ValType → List Instr → List Operand → Bool → List Around → State → Type 0
  Past d r is os m fs t =
      Types c (option_to_list r ∷ labels_of fs) d [] (option_to_list r) × (run c is (fresh (around_is c checks.Else (option_to_list r) os m ∷ fs)) ≡ Some t)

  past : (d : Code) (r : Option ValType) (is : List Instr) (os : List Operand) (m : Bool) (fs : List Around) (t : State) → IsPlain d → run c (flat d ++ instrs.Else ∷ is) (fresh (around_is c checks.If (option_to_list r) os m ∷ fs)) ≡ Some t → Past d r is os m fs t
  past d r is os m fs t p h =
      let rs = option_to_list r in
      let o = opened checks.If rs os m fs in
      let sp = run_split c (flat d) (instrs.Else ∷ is) o t h in
      let g = sound c d o sp.0 p sp.1 in
      let fe = run_first c instrs.Else is sp.0 t sp.2 in
      let y = parted_by c sp.0 fe.0 rs os m fs g.0 fe.1 in
      let w = g.1 rs y.1 in
      (subst (λ (z : List ValType). Types c (rs ∷ labels_of fs) d z rs) w.1 w.2, ap (λ (x : State). run c is x) (sym y.0) ∙ fe.2)

  grows : (b : Beginning) (fs : List Around) (t : State) → IsPlainBeginning b → run c (flat_beginning b) (fresh fs) ≡ Some t → total_around fs ≤ total t
  grows (Here a) fs t p h = let g = sound c a (fresh fs) t p h in omega (arith, ap total_around g.0)
  grows (Inside a k r b) fs t p h =
      let n = into a k r (flat_beginning b) fs t p.0 h in
      let i = grows b (around_is c (frame_of k) (option_to_list r) n.1 n.0.missing ∷ fs) t p.1 n.6 in
      omega (arith, i)
  grows (InsideElse a r d b) fs t p h =
      let n = into a If r (flat d ++ instrs.Else ∷ flat_beginning b) fs t p.0 h in
      let q = past d r (flat_beginning b) n.1 n.0.missing fs t p.1 n.6 in
      let i = grows b (around_is c checks.Else (option_to_list r) n.1 n.0.missing ∷ fs) t p.2 q.1 in
      omega (arith, i)

  pub begins_sound : (b : Beginning) (fs : List Around) (t : State) (room : ℕ) → IsPlainBeginning b → run c (flat_beginning b) (fresh fs) ≡ Some t → total t ≤ total_around fs + room → Begins c room (labels_of fs) b
  begins_sound (Here a) fs t room p h le =
      let g = sound c a (fresh fs) t p h in
      let l = least t.known t.missing in
      let v = g.1 l.0 l.1 in
      (l.0, subst (λ x. Types c (labels_of fs) a x l.0) v.1 v.2, omega (arith, ap total_around g.0, l.2, le))
  begins_sound (Inside a k r b) fs t room p h le =
      let rs = option_to_list r in
      let n = into a k r (flat_beginning b) fs t p.0 h in
      let f = around_is c (frame_of k) rs n.1 n.0.missing in
      let up = grows b (f ∷ fs) t p.1 n.6 in
      let l = least n.1 n.0.missing in
      let en = n.5 l.0 l.1 in
      let v = n.4 en.0 en.1 in
      let i = begins_sound b (f ∷ fs) t (room - length l.0) p.1 n.6 (omega (arith, l.2, le, up)) in
      (en.0, l.0, subst (λ x. Types c (labels_of fs) a x en.0) v.1 v.2, en.2, omega (arith, l.2, le, up), subst (λ (z : List ValType). Begins c (room - length l.0) (z ∷ labels_of fs) b) (label_same k r) i)
  begins_sound (InsideElse a r d b) fs t room p h le =
      let rs = option_to_list r in
      let n = into a If r (flat d ++ instrs.Else ∷ flat_beginning b) fs t p.0 h in
      let q = past d r (flat_beginning b) n.1 n.0.missing fs t p.1 n.6 in
      let f = around_is c checks.Else rs n.1 n.0.missing in
      let up = grows b (f ∷ fs) t p.2 q.1 in
      let l = least n.1 n.0.missing in
      let en = n.5 l.0 l.1 in
      let v = n.4 en.0 en.1 in
      let i = begins_sound b (f ∷ fs) t (room - length l.0) p.2 q.1 (omega (arith, l.2, le, up)) in
      (en.0, l.0, subst (λ x. Types c (labels_of fs) a x en.0) v.1 v.2, en.2, q.0, omega (arith, l.2, le, up), i)

-- ---- beginnings of nested code

take_over : {X : Type 0} (xs ys : List X) (n m : ℕ) → n ≡ length xs + m → take n (xs ++ ys) ≡ xs ++ take m ys
take_over [] ys n m e = let q : n ≡ m = omega arith in ap (λ (k : ℕ). take k ys) q
take_over (x ∷ xs) ys zero m e = absurd (omega arith)
take_over (x ∷ xs) ys (suc n) m e = ap (λ zs. x ∷ zs) (take_over xs ys n m (omega arith))

take_within : {X : Type 0} (xs ys : List X) (n : ℕ) → n ≤ length xs → take n (xs ++ ys) ≡ take n xs
take_within [] ys zero e = refl
take_within [] ys (suc n) e = absurd (omega arith)
take_within (x ∷ xs) ys zero e = refl
take_within (x ∷ xs) ys (suc n) e = ap (λ zs. x ∷ zs) (take_within xs ys n (omega arith))

abbrev pub Cut : Code → ℕ → Type 0
Cut e n = (b : Beginning) × IsPlainBeginning b × (take n (flat e) ≡ flat_beginning b)

cut_then : (i : Instr) (e : Code) (n : ℕ) → is_plain i ≡ true → Cut e n → Cut (Then i e) (suc n)
cut_then i e n p x = with_beginning x.0 x.1 x.2
  where
    with_beginning : (b : Beginning) → IsPlainBeginning b → take n (flat e) ≡ flat_beginning b → Cut (Then i e) (suc n)
    with_beginning (Here a) q h = (Here (Then i a), (p, q), ap (λ (x : List Instr). i ∷ x) h)
    with_beginning (Inside a k r b) q h = (Inside (Then i a) k r b, ((p, q.0), q.1), ap (λ (x : List Instr). i ∷ x) h)
    with_beginning (InsideElse a r d b) q h = (InsideElse (Then i a) r d b, ((p, q.0), q.1, q.2), ap (λ (x : List Instr). i ∷ x) h)

cut_inside : (k : Kind) (r : Option ValType) (a : Code) (rest : List Instr) (n : ℕ) → n ≤ length (flat a) → Cut a n → (b : Beginning) × IsPlainBeginning b × (head k r ∷ take n (flat a ++ rest) ≡ flat_beginning b)
cut_inside k r a rest n le x = (Inside Done k r x.0, (tt, x.1), ap (λ (y : List Instr). head k r ∷ y) (take_within (flat a) rest n le ∙ x.2))

cut_behind : (k : Kind) (r : Option ValType) (a e : Code) (n m : ℕ) → IsPlain a → n ≡ length (flat a) + suc m → Cut e m → Cut (In k r a e) (suc n)
cut_behind k r a e n m p l x = with_beginning x.0 x.1 x.2
  where
    first : take n (flat a ++ instrs.End ∷ flat e) ≡ flat a ++ instrs.End ∷ take m (flat e)
    first = take_over (flat a) (instrs.End ∷ flat e) n (suc m) l

    with_beginning : (b : Beginning) → IsPlainBeginning b → take m (flat e) ≡ flat_beginning b → Cut (In k r a e) (suc n)
    with_beginning (Here a') q h = (Here (In k r a a'), (p, q), ap (λ (x : List Instr). head k r ∷ x) (first ∙ ap (λ (x : List Instr). flat a ++ instrs.End ∷ x) h))
    with_beginning (Inside a' k' r' b) q h =
        (Inside (In k r a a') k' r' b, ((p, q.0), q.1), ap (λ (x : List Instr). head k r ∷ x) (first ∙ ap (λ (x : List Instr). flat a ++ instrs.End ∷ x) h ∙ sym (append_assoc (flat a) (instrs.End ∷ flat a') (head k' r' ∷ flat_beginning b))))
    with_beginning (InsideElse a' r' d b) q h =
        (InsideElse (In k r a a') r' d b, ((p, q.0), q.1, q.2), ap (λ (x : List Instr). head k r ∷ x) (first ∙ ap (λ (x : List Instr). flat a ++ instrs.End ∷ x) h ∙ sym (append_assoc (flat a) (instrs.End ∷ flat a') (instrs.If r' ∷ (flat d ++ instrs.Else ∷ flat_beginning b)))))

cut_parted : (r : Option ValType) (a b e : Code) (n m : ℕ) → IsPlain a → n ≡ length (flat a) + suc m → m ≤ length (flat b) → Cut b m → Cut (Both r a b e) (suc n)
cut_parted r a b e n m p l le x = (
  InsideElse Done r a x.0,
  (tt, p, x.1),
  ap (λ (y : List Instr). instrs.If r ∷ y) (take_over (flat a) (instrs.Else ∷ (flat b ++ instrs.End ∷ flat e)) n (suc m) l
      ∙ ap (λ (y : List Instr). flat a ++ instrs.Else ∷ y) (take_within (flat b) (instrs.End ∷ flat e) m le ∙ x.2)),
)

cut_past : (r : Option ValType) (a b e : Code) (n m q : ℕ) → IsPlain a → IsPlain b → n ≡ length (flat a) + suc m → m ≡ length (flat b) + suc q → Cut e q → Cut (Both r a b e) (suc n)
cut_past r a b e n m q p1 p2 l1 l2 x = with_beginning x.0 x.1 x.2
  where
    first : take n (flat a ++ instrs.Else ∷ (flat b ++ instrs.End ∷ flat e)) ≡ flat a ++ instrs.Else ∷ (flat b ++ instrs.End ∷ take q (flat e))
    first = take_over (flat a) (instrs.Else ∷ (flat b ++ instrs.End ∷ flat e)) n (suc m) l1 ∙ ap (λ (y : List Instr). flat a ++ instrs.Else ∷ y) (take_over (flat b) (instrs.End ∷ flat e) m (suc q) l2)

    whole : (w : List Instr) → take q (flat e) ≡ w → take (suc n) (flat (Both r a b e)) ≡ instrs.If r ∷ (flat a ++ instrs.Else ∷ (flat b ++ instrs.End ∷ w))
    whole w h = ap (λ (x : List Instr). instrs.If r ∷ x) (first ∙ ap (λ (x : List Instr). flat a ++ instrs.Else ∷ (flat b ++ instrs.End ∷ x)) h)

    regroup : (v w : List Instr) → instrs.If r ∷ (flat a ++ instrs.Else ∷ (flat b ++ instrs.End ∷ (v ++ w))) ≡ (instrs.If r ∷ (flat a ++ instrs.Else ∷ (flat b ++ instrs.End ∷ v))) ++ w
    regroup v w =
        ap (λ (x : List Instr). instrs.If r ∷ (flat a ++ instrs.Else ∷ x)) (sym (append_assoc (flat b) (instrs.End ∷ v) w))
        ∙ ap (λ (x : List Instr). instrs.If r ∷ x) (sym (append_assoc (flat a) (instrs.Else ∷ (flat b ++ instrs.End ∷ v)) w))

    with_beginning : (y : Beginning) → IsPlainBeginning y → take q (flat e) ≡ flat_beginning y → Cut (Both r a b e) (suc n)
    with_beginning (Here a') z h = (Here (Both r a b a'), (p1, p2, z), whole (flat a') h)
    with_beginning (Inside a' k' r' y) z h = (Inside (Both r a b a') k' r' y, ((p1, p2, z.0), z.1), whole (flat a' ++ head k' r' ∷ flat_beginning y) h ∙ regroup (flat a') (head k' r' ∷ flat_beginning y))
    with_beginning (InsideElse a' r' d y) z h =
        (InsideElse (Both r a b a') r' d y, ((p1, p2, z.0), z.1, z.2), whole (flat a' ++ instrs.If r' ∷ (flat d ++ instrs.Else ∷ flat_beginning y)) h ∙ regroup (flat a') (instrs.If r' ∷ (flat d ++ instrs.Else ∷ flat_beginning y)))

take_nil : (n : ℕ) → take n (flat Done) ≡ []
take_nil zero = refl
take_nil (suc n) = refl

pub cut : (e : Code) (n : ℕ) → IsPlain e → Cut e n
cut Done n p = (Here Done, tt, take_nil n)
cut (Then i e) zero p = (Here Done, tt, refl)
cut (Then i e) (suc n) p = cut_then i e n p.0 (cut e n p.1)
cut (In k r a e) zero p = (Here Done, tt, refl)
cut (In k r a e) (suc n) p =
    elim (cases_lt (length (flat a)) n) [
      | inl lt ↦ cut_behind k r a e n (n - length (flat a) - 1) p.0 (omega arith) (cut e (n - length (flat a) - 1) p.1)
      | inr le ↦ cut_inside k r a (instrs.End ∷ flat e) n le (cut a n p.0)
    ]
cut (Both r a b e) zero p = (Here Done, tt, refl)
cut (Both r a b e) (suc n) p =
    elim (cases_lt (length (flat a)) n) [
      | inl lt ↦ cut_else (n - length (flat a) - 1) (omega arith) (cut b (n - length (flat a) - 1) p.1) (cut e (n - length (flat a) - 1 - length (flat b) - 1) p.2)
      | inr le ↦ cut_inside If r a (instrs.Else ∷ (flat b ++ instrs.End ∷ flat e)) n le (cut a n p.0)
    ]
  where
    cut_else : (m : ℕ) → n ≡ length (flat a) + suc m → Cut b m → Cut e (m - length (flat b) - 1) → Cut (Both r a b e) (suc n)
    cut_else m l x y =
        elim (cases_lt (length (flat b)) m) [
          | inl lt ↦ cut_past r a b e n m (m - length (flat b) - 1) p.0 p.1 l (omega arith) y
          | inr le ↦ cut_parted r a b e n m p.0 l le x
        ]

-- what ran through can be typed, and what did not cannot
module _ (c : Context) where
  pub can_begin : (code : List Instr) (n room : ℕ) (t : State) → IsNested code → n < length code → run c (take n code) (start c) ≡ Some t → total t ≤ room → CanBegin c room (take n code)
  can_begin code n room t nest lt h le =
      let x = cut nest.0 n nest.1 in
      let e : take n code ≡ flat_beginning x.0 = ap (λ (y : List Instr). take n y) nest.2 ∙ take_within (flat nest.0) (instrs.End ∷ []) n (omega (arith, ap length nest.2, length-append (flat nest.0) (instrs.End ∷ []))) ∙ x.2 in
      let f = around_is c checks.Block c.returns [] false in
      (x.0, e, begins_sound c x.0 (f ∷ []) t room x.1 (ap (λ (y : List Instr). run c y (start c)) (sym e) ∙ h) (omega arith))

  pub cannot_begin : (is : List Instr) (room : ℕ) → run c is (start c) ≡ None → CanBegin c room is → ⊥
  cannot_begin is room e h =
      let f = around_is c checks.Block c.returns [] false in
      let x = begins_complete c h.0 (f ∷ []) room h.2 in
      let q : run c is (start c) ≡ Some x.0 = ap (λ (y : List Instr). run c y (start c)) h.1 ∙ x.1 in
      let n : None ≡ Some x.0 = sym e ∙ q in
      absurd cc

  pub too_many : (is : List Instr) (room : ℕ) (t : State) → run c is (start c) ≡ Some t → room < total t → CanBegin c room is → ⊥
  too_many is room t e lt h =
      let f = around_is c checks.Block c.returns [] false in
      let x = begins_complete c h.0 (f ∷ []) room h.2 in
      let q : Some x.0 ≡ Some t = sym (ap (λ (y : List Instr). run c y (start c)) h.1 ∙ x.1) ∙ e in
      let s : x.0 ≡ t = cc in
      omega (arith, ap total s, x.2)
