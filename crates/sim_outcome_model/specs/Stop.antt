-- What ends the work before its texts: a file that is missing or refused (profile).
use Rattle.std.specs.Prelude.{◌≡◌, ℕ, nat_lt, if◌then◌else◌, List, [], length, Option, Some, None, Result, Ok, Err, codes}
use Rattle.std.specs.FinMap.{get}
use Rattle.sim_base.specs.declared.fault.Refusal.{Refusal}
use Rattle.sim_base.specs.declared.fault.Place.TheVariants as places
use Rattle.sim_refusals.specs.Refusals.{FileTooLong}
use Rattle.sim_base.specs.Outside.{Files}

-- the first event that ends the work: a file that is missing, or a refusal with the file that it names
pub data Stop : Type 0 where
  Missing : List ℕ → Stop
  Refused : List ℕ → Refusal → Stop

-- a text, and the name of the file that it goes to
pub record Output : Type 0 where
  pub name : List ℕ
  pub text : List ℕ

-- a text for standard output
abbrev pub printed : List ℕ → Output
printed text = record { name = codes "-"; text = text }

-- The texts on the ports: what Serial gets, and what Wave and Report hold where they are opened. They cost so many wakes of
-- parts.
pub record Texts : Type 0 where
  pub serial : List ℕ
  pub wave : Option Output
  pub report : Option Output
  pub wakes : ℕ

-- a text on Report alone
abbrev pub report_alone : Output → Texts
report_alone out = record { serial = []; wave = None; report = Some out; wakes = 0 }

-- what is said of an input that keeps all rules
abbrev pub accepted : Texts
accepted = report_alone (printed (codes "accepted\n"))

infixl 10 ◌>>=◌
abbrev pub ◌>>=◌ : {A B : Type 0} → Result A Stop → (A → Result B Stop) → Result B Stop
(Ok x) >>= f = f x
(Err e) >>= f = Err e

abbrev pub refused_in : {X : Type 0} → List ℕ → Result X Refusal → Result X Stop
refused_in name (Ok x) = Ok x
refused_in name (Err r) = Err (Refused name r)

-- a file is missing, or too long (10), or refused by its reading, or what its bytes stand for
abbrev pub read_from : {X : Type 0} → List ℕ → ℕ → (List ℕ → Result X Refusal) → Option (List ℕ) → Result X Stop
read_from name limit reading None = Err (Missing name)
read_from name limit reading (Some bytes) =
    if nat_lt limit (length bytes) then Err (Refused name (record { number = FileTooLong; place = places.Whole }))
    else refused_in name (reading bytes)

-- a file of at most so many bytes
abbrev pub file_within : {X : Type 0} → ℕ → Files → List ℕ → (List ℕ → Result X Refusal) → Result X Stop
file_within limit files name reading = read_from name limit reading (get files name)

-- what some bytes of a file give by a relation between bytes and what they give; a refusal names the file
abbrev pub JudgedAs : {X : Type 0} → List ℕ → (Result X Refusal → Type 0) → Result X Stop → Type 0
JudgedAs name judges (Ok x) = judges (Ok x)
JudgedAs name judges (Err (Missing other)) = ⊥
JudgedAs name judges (Err (Refused other r)) = (other ≡ name) × judges (Err r)
