-- Texts that are written up to an end that is left.
use Rattle.std.proofs.Common.{◌≡◌, ◌<◌, ◌≤◌, ◌+◌, ◌-◌, ◌*◌, ℕ, suc, List, [], ◌∷◌, ◌++◌, length, get_or, take, drop, Bool, true, false, not, refl, sym, ap, subst, ◌∙◌, arith}
use Rattle.std.specs.Prelude.{◌==◌, if◌then◌else◌}
use Rattle.std.specs.List.{flat_map}
use Rattle.std.proofs.Math.Nat.{suc-mul, mul_comm, mul_assoc}
use Rattle.std.proofs.lemmas.Nat.{mul-le}
use Rattle.std.proofs.lemmas.List.{append_assoc, append-nil, at_drop_more, at_drop_all, length-drop}
use Rattle.sim_base.specs.declared.bench.Port.TheVariants as ports
use Rattle.sim_base.specs.declared.bench.WriteEnd.{WriteEnd}
use Rattle.sim_base.specs.Outside.{Outside}
use Rattle.sim_outcome_model.specs.Work.{Wrote, WroteOn}
use Rattle.sim_report.specs.Lines.{hex_byte}
use Rattle.chip_report.specs.Lines.{console_opening, console_text, is_drawn, row_opening, row_text, rows_text}
use Rattle.chip_report.specs.Writing.{IsLeft, Goes, written, byte_text, line_end, rest_text}
use Rattle.chip_report.proofs.LineLemmas.{console_is}

-- nothing is written
pub goes_none : (e : WriteEnd) (x y : List ℕ) (b : Outside) → x ≡ y → Goes e x e y b b
goes_none e x y b same = λ a text left. subst (λ (l : List ℕ). IsLeft e l text a b) same left

pub goes_on : (e f k : WriteEnd) (x y z : List ℕ) (b c d : Outside) → Goes e x f y b c → Goes f y k z c d → Goes e x k z b d
goes_on e f k x y z b c d one more = λ a text left. more a text (one a text left)

pub left_same : (e f : WriteEnd) (x y z : List ℕ) (b c : Outside) → y ≡ z → Goes e x f y b c → Goes e x f z b c
left_same e f x y z b c same goes = subst (λ (l : List ℕ). Goes e x f l b c) same goes

-- a piece is written, and the rest is left
pub goes_by : (e f : WriteEnd) (piece rest : List ℕ) (b c : Outside) → WroteOn e f ports.Report piece b c → Goes e (piece ++ rest) f rest b c
goes_by e f piece rest b c wrote = λ a text left. (left.0 ++ piece, wrote a left.0 left.1, append_assoc left.0 piece rest ∙ left.2)

-- what was kept is written, and nothing is kept
pub goes_out : (e f : WriteEnd) (piece kept rest : List ℕ) (b c : Outside) → kept ≡ [] → WroteOn e f ports.Report piece b c → Goes e (piece ++ rest) f (kept ++ rest) b c
goes_out e f piece kept rest b c none wrote = left_same e f (piece ++ rest) rest (kept ++ rest) b c (ap (λ (l : List ℕ). l ++ rest) (sym none)) (goes_by e f piece rest b c wrote)

-- bytes are added to what is kept
pub goes_in : (e f : WriteEnd) (whole kept more new rest : List ℕ) (b c : Outside) → new ≡ kept ++ more → Goes e whole f (kept ++ (more ++ rest)) b c → Goes e whole f (new ++ rest) b c
goes_in e f whole kept more new rest b c is goes =
    left_same e f whole (kept ++ (more ++ rest)) (new ++ rest) b c (sym (append_assoc kept more rest) ∙ ap (λ (l : List ℕ). l ++ rest) (sym is)) goes

-- what was kept is written, and then more
pub goes_out_by : (e f k : WriteEnd) (piece kept bytes rest : List ℕ) (b c d : Outside) → kept ≡ [] → WroteOn e f ports.Report piece b c → WroteOn f k ports.Report bytes c d
    → Goes e (piece ++ (bytes ++ rest)) k (kept ++ rest) b d
goes_out_by e f k piece kept bytes rest b c d none one more =
    goes_on e f k (piece ++ (bytes ++ rest)) (bytes ++ rest) (kept ++ rest) b c d (goes_by e f piece (bytes ++ rest) b c one)
    (left_same f k (bytes ++ rest) rest (kept ++ rest) c d (ap (λ (l : List ℕ). l ++ rest) (sym none)) (goes_by f k bytes rest c d more))

-- it is left from another text that is the same
pub goes_from : (e f : WriteEnd) (x y z : List ℕ) (b c : Outside) → x ≡ y → Goes e y f z b c → Goes e x f z b c
goes_from e f x y z b c same goes = goes_on e e f x y z b b c (goes_none e x y b same) goes

-- two and three texts are added, one after the other
pub goes_two : (e f k : WriteEnd) (old p new one two rest : List ℕ) (b c d : Outside)
    → Goes e (old ++ (one ++ (two ++ rest))) f (p ++ (two ++ rest)) b c → Goes f (p ++ (two ++ rest)) k (new ++ rest) c d
    → Goes e (old ++ ((one ++ two) ++ rest)) k (new ++ rest) b d
goes_two e f k old p new one two rest b c d first second =
    goes_from e k (old ++ ((one ++ two) ++ rest)) (old ++ (one ++ (two ++ rest))) (new ++ rest) b d (ap (λ (l : List ℕ). old ++ l) (append_assoc one two rest))
    (goes_on e f k (old ++ (one ++ (two ++ rest))) (p ++ (two ++ rest)) (new ++ rest) b c d first second)

pub goes_three : (e f k m : WriteEnd) (old p q new one two three rest : List ℕ) (b c d h : Outside)
    → Goes e (old ++ (one ++ (two ++ (three ++ rest)))) f (p ++ (two ++ (three ++ rest))) b c → Goes f (p ++ (two ++ (three ++ rest))) k (q ++ (three ++ rest)) c d
    → Goes k (q ++ (three ++ rest)) m (new ++ rest) d h → Goes e (old ++ ((one ++ (two ++ three)) ++ rest)) m (new ++ rest) b h
goes_three e f k m old p q new one two three rest b c d h first second third =
    goes_from e m (old ++ ((one ++ (two ++ three)) ++ rest)) (old ++ (one ++ (two ++ (three ++ rest)))) (new ++ rest) b h
    (ap (λ (l : List ℕ). old ++ l) (append_assoc one (two ++ three) rest ∙ ap (λ (l : List ℕ). one ++ l) (append_assoc two three rest)))
    (goes_on e f m (old ++ (one ++ (two ++ (three ++ rest)))) (p ++ (two ++ (three ++ rest))) (new ++ rest) b c h first
    (goes_on f k m (p ++ (two ++ (three ++ rest))) (q ++ (three ++ rest)) (new ++ rest) c d h second third))

-- all that is left is written
pub ends : (e f k : WriteEnd) (whole left piece : List ℕ) (b c d : Outside) → Goes e whole f left b c → piece ≡ left → WroteOn f k ports.Report piece c d
    → WroteOn e k ports.Report whole b d
ends e f k whole left piece b c d goes same wrote =
    λ a before w.
    let l = goes a (before ++ whole) (before, w, refl) in
    subst (λ (t : List ℕ). Wrote k ports.Report t a d) (ap (λ (x : List ℕ). l.0 ++ x) same ∙ l.2) (wrote a l.0 l.1)

-- nothing is left
pub nothing_left : (e f : WriteEnd) (whole left : List ℕ) (b c : Outside) → Goes e whole f left b c → left ≡ [] → WroteOn e f ports.Report whole b c
nothing_left e f whole left b c goes none =
    λ a before w.
    let l = goes a (before ++ whole) (before, w, refl) in
    subst (λ (t : List ℕ). Wrote f ports.Report t a c) (sym (append-nil l.0) ∙ ap (λ (x : List ℕ). l.0 ++ x) (sym none) ∙ l.2) l.1

pub wrote_same : (e f : WriteEnd) (x y : List ℕ) (b c : Outside) → x ≡ y → WroteOn e f ports.Report x b c → WroteOn e f ports.Report y b c
wrote_same e f x y b c same wrote = subst (λ (t : List ℕ). WroteOn e f ports.Report t b c) same wrote

-- two texts are written, one after the other
pub wrote_both : (e f k : WriteEnd) (x y : List ℕ) (b c d : Outside) → WroteOn e f ports.Report x b c → WroteOn f k ports.Report y c d → WroteOn e k ports.Report (x ++ y) b d
wrote_both e f k x y b c d one more = λ a before w.
    subst (λ (t : List ℕ). Wrote k ports.Report t a d) (append_assoc before x y) (more a (before ++ x) (one a before w))

-- ---- the console

-- nothing is printed
pub console_none : (e : WriteEnd) (id text : List ℕ) (b : Outside) → length text ≡ 0 → WroteOn e e ports.Report (console_text id text) b b
console_none e id [] b none = λ a before w. subst (λ (t : List ℕ). Wrote e ports.Report t a b) (sym (append-nil before)) w
console_none e id (n ∷ ns) b none = absurd cc

-- by whether a line is begun
pub byte_begun : (e k : WriteEnd) (old new word rest : List ℕ) (begun : Bool) (n : ℕ) (b d : Outside) → begun ≡ true → Goes e (old ++ ((written n ∷ []) ++ rest)) k (new ++ rest) b d
    → Goes e (old ++ (byte_text word begun n ++ rest)) k (new ++ rest) b d
byte_begun e k old new word rest begun n b d is goes = subst (λ (t : Bool). Goes e (old ++ (byte_text word t n ++ rest)) k (new ++ rest) b d) (sym is) goes

pub byte_first : (e f k : WriteEnd) (old p new word rest : List ℕ) (begun : Bool) (n : ℕ) (b c d : Outside) → begun ≡ false
    → Goes e (old ++ (word ++ ((written n ∷ []) ++ rest))) f (p ++ ((written n ∷ []) ++ rest)) b c → Goes f (p ++ ((written n ∷ []) ++ rest)) k (new ++ rest) c d
    → Goes e (old ++ (byte_text word begun n ++ rest)) k (new ++ rest) b d
byte_first e f k old p new word rest begun n b c d is first second =
    subst (λ (t : Bool). Goes e (old ++ (byte_text word t n ++ rest)) k (new ++ rest) b d) (sym is) (goes_two e f k old p new word (written n ∷ []) rest b c d first second)

pub end_begun : (e k : WriteEnd) (old new rest : List ℕ) (begun : Bool) (b d : Outside) → begun ≡ true → Goes e (old ++ ((10 ∷ []) ++ rest)) k (new ++ rest) b d
    → Goes e (old ++ (line_end begun ++ rest)) k (new ++ rest) b d
end_begun e k old new rest begun b d is goes = subst (λ (t : Bool). Goes e (old ++ (line_end t ++ rest)) k (new ++ rest) b d) (sym is) goes

pub end_none : (e : WriteEnd) (old rest : List ℕ) (begun : Bool) (b : Outside) → begun ≡ false → Goes e (old ++ (line_end begun ++ rest)) e (old ++ rest) b b
end_none e old rest begun b is = goes_none e (old ++ (line_end begun ++ rest)) (old ++ rest) b (ap (λ (t : Bool). old ++ (line_end t ++ rest)) is)

-- one byte more
pub byte_more : (e f k : WriteEnd) (whole word text kept new : List ℕ) (begun : Bool) (i : ℕ) (b c d : Outside) → i < length text
    → Goes e whole f (kept ++ rest_text word begun (drop i text)) b c
    → ((rest : List ℕ) → Goes f (kept ++ (byte_text word begun (get_or text i 0) ++ rest)) k (new ++ rest) c d)
    → Goes e whole k (new ++ rest_text word (not (get_or text i 0 == 10)) (drop (i + 1) text)) b d
byte_more e f k whole word text kept new begun i b c d l goes more =
    goes_on e f k whole (kept ++ (byte_text word begun (get_or text i 0) ++ rest)) (new ++ rest) b c d
    (left_same e f whole (kept ++ rest_text word begun (drop i text)) (kept ++ (byte_text word begun (get_or text i 0) ++ rest)) b c
    (ap (λ (t : List ℕ). kept ++ t) (at_drop_more (rest_text word begun) text i 0 l)) goes)
    (more rest)
  where
    rest : List ℕ
    rest = rest_text word (not (get_or text i 0 == 10)) (drop (i + 1) text)

-- all bytes, and the end of the last line
pub console_written : (e f k m : WriteEnd) (id text kept new slice : List ℕ) (begun : Bool) (i : ℕ) (b c d h : Outside) → length text ≤ i
    → Goes e (rest_text (console_opening id) false text) f (kept ++ rest_text (console_opening id) begun (drop i text)) b c
    → ((rest : List ℕ) → Goes f (kept ++ (line_end begun ++ rest)) k (new ++ rest) c d) → slice ≡ new → WroteOn k m ports.Report slice d h
    → WroteOn e m ports.Report (console_text id text) b h
console_written e f k m id text kept new slice begun i b c d h past goes more is wrote =
    wrote_same e m whole (console_text id text) b h (console_is id text)
    (ends e k m whole (new ++ []) slice b d h (goes_on e f k whole (kept ++ (line_end begun ++ [])) (new ++ []) b c d left (more [])) (is ∙ sym (append-nil new)) wrote)
  where
    whole : List ℕ
    whole = rest_text (console_opening id) false text

    left : Goes e whole f (kept ++ (line_end begun ++ [])) b c
    left = left_same e f whole (kept ++ rest_text (console_opening id) begun (drop i text)) (kept ++ (line_end begun ++ [])) b c
        (ap (λ (t : List ℕ). kept ++ t) (at_drop_all (rest_text (console_opening id) begun) text i past ∙ sym (append-nil (line_end begun)))) goes

-- ---- the display

abbrev row_end : List ℕ → List ℕ
row_end row = flat_map hex_byte row ++ 10 ∷ []

-- the digits of one byte more
pub digits_more : (e f k : WriteEnd) (whole row kept new digits : List ℕ) (i : ℕ) (b c d : Outside) → i < length row
    → Goes e whole f (kept ++ (flat_map hex_byte (drop i row) ++ 10 ∷ [])) b c → digits ≡ hex_byte (get_or row i 0)
    → ((rest : List ℕ) → Goes f (kept ++ (digits ++ rest)) k (new ++ rest) c d)
    → Goes e whole k (new ++ (flat_map hex_byte (drop (i + 1) row) ++ 10 ∷ [])) b d
digits_more e f k whole row kept new digits i b c d l goes is more =
    goes_on e f k whole (kept ++ (digits ++ rest)) (new ++ rest) b c d (left_same e f whole (kept ++ row_end (drop i row)) (kept ++ (digits ++ rest)) b c (ap (λ (t : List ℕ). kept ++ t) same) goes) (more rest)
  where
    rest : List ℕ
    rest = row_end (drop (i + 1) row)

    same : row_end (drop i row) ≡ digits ++ rest
    same = at_drop_more row_end row i 0 l ∙ ap (λ (t : List ℕ). t ++ rest) (sym is)

pub row_written : (e f k m : WriteEnd) (id row kept new slice : List ℕ) (y i : ℕ) (b c d h : Outside) → is_drawn row ≡ true → length row ≤ i
    → Goes e (row_opening id y ++ (flat_map hex_byte row ++ 10 ∷ [])) f (kept ++ (flat_map hex_byte (drop i row) ++ 10 ∷ [])) b c
    → ((rest : List ℕ) → Goes f (kept ++ ((10 ∷ []) ++ rest)) k (new ++ rest) c d) → slice ≡ new → WroteOn k m ports.Report slice d h
    → WroteOn e m ports.Report (row_text id y row) b h
row_written e f k m id row kept new slice y i b c d h drawn past goes more is wrote =
    wrote_same e m whole (row_text id y row) b h (ap by_test (sym drawn))
    (ends e k m whole (new ++ []) slice b d h (goes_on e f k whole (kept ++ ((10 ∷ []) ++ [])) (new ++ []) b c d left (more [])) (is ∙ sym (append-nil new)) wrote)
  where
    whole : List ℕ
    whole = row_opening id y ++ row_end row

    by_test : Bool → List ℕ
    by_test t = if t then whole else []

    left : Goes e whole f (kept ++ ((10 ∷ []) ++ [])) b c
    left = left_same e f whole (kept ++ row_end (drop i row)) (kept ++ ((10 ∷ []) ++ [])) b c (ap (λ (t : List ℕ). kept ++ t) (at_drop_all row_end row i past)) goes

-- its size in bytes is that of all rows
pub size_begin : (w h n : ℕ) → n ≡ 4 * (w * h) → n ≡ (h - 0) * (4 * w)
size_begin w h n size =
    let none : h - 0 ≡ h = omega arith in
    size ∙ sym (mul_assoc 4 w h) ∙ mul_comm (4 * w) h ∙ ap (λ (k : ℕ). k * (4 * w)) (sym none)

-- one row more
module _ (y height count : ℕ) (below : y < height) where
  one_more : height - y ≡ suc (height - (y + 1))
  one_more = omega arith

  pub row_fits : (pixels : ℕ) → pixels ≡ (height - y) * count → count ≤ pixels
  row_fits pixels size = omega (arith, size, mul-le 1 count (height - y) count (omega arith) (omega arith))

  pub size_left : (rest others : List ℕ) → length rest ≡ (height - y) * count → others ≡ drop count rest → length others ≡ (height - (y + 1)) * count
  size_left rest others size is =
      let all : length rest ≡ (height - (y + 1)) * count + count = size ∙ ap (λ (n : ℕ). n * count) one_more ∙ suc-mul (height - (y + 1)) count in
      let left : length others ≡ length rest - count = ap length is ∙ length-drop count rest in
      omega (arith, all, left)

  pub rows_more : (e f k : WriteEnd) (whole id rest row others : List ℕ) (b c d : Outside) → row ≡ take count rest → others ≡ drop count rest
      → Goes e whole f (rows_text id count y (height - y) rest) b c → WroteOn f k ports.Report (row_text id y row) c d
      → Goes e whole k (rows_text id count (y + 1) (height - (y + 1)) others) b d
  rows_more e f k whole id rest row others b c d first after goes wrote =
      goes_on e f k whole (row_text id y row ++ left) left b c d (left_same e f whole (rows_text id count y (height - y) rest) (row_text id y row ++ left) b c same goes) (goes_by f k (row_text id y row) left c d wrote)
    where
      left : List ℕ
      left = rows_text id count (y + 1) (height - (y + 1)) others

      same : rows_text id count y (height - y) rest ≡ row_text id y row ++ left
      same =
          ap (λ (n : ℕ). rows_text id count y n rest) one_more
          ∙ ap (λ (l : List ℕ). row_text id y l ++ rows_text id count (y + 1) (height - (y + 1)) (drop count rest)) (sym first)
          ∙ ap (λ (l : List ℕ). row_text id y row ++ rows_text id count (y + 1) (height - (y + 1)) l) (sym after)

pub rows_begin : (e : WriteEnd) (id pixels : List ℕ) (count height : ℕ) (b : Outside) → Goes e (rows_text id count 0 height pixels) e (rows_text id count 0 (height - 0) pixels) b b
rows_begin e id pixels count height b =
    let none : height ≡ height - 0 = omega arith in
    goes_none e (rows_text id count 0 height pixels) (rows_text id count 0 (height - 0) pixels) b (ap (λ (n : ℕ). rows_text id count 0 n pixels) none)

pub rows_end : (e f : WriteEnd) (whole id rest : List ℕ) (count y height : ℕ) (b c : Outside) → height ≤ y → Goes e whole f (rows_text id count y (height - y) rest) b c
    → WroteOn e f ports.Report whole b c
rows_end e f whole id rest count y height b c past goes =
    let none : height - y ≡ 0 = omega arith in
    nothing_left e f whole (rows_text id count y (height - y) rest) b c goes (ap (λ (n : ℕ). rows_text id count y n rest) none)
