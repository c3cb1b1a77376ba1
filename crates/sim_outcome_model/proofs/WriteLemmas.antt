-- Writing a text by its parts.
use Rattle.std.proofs.Common.{◌≡◌, ◌<◌, ◌+◌, ℕ, zero, suc, List, [], ◌∷◌, ◌++◌, length, get_or, take, drop, map, refl, ap, sym, ◌∙◌, arith, add-one, Option, Some, None, inl, inr}
use Rattle.std.specs.Option.{option_map}
use Rattle.std.specs.List.{concat}
use Rattle.std.proofs.lemmas.List.{append_assoc, append-nil, drop_more}
use Rattle.sim_base.specs.declared.bench.Port.{Port}
use Rattle.sim_base.specs.declared.bench.Port.TheVariants as ports
use Rattle.sim_base.specs.declared.bench.WriteEnd.{WriteEnd}
use Rattle.sim_base.specs.declared.bench.WriteEnd.TheVariants as writes
use Rattle.sim_base.specs.Causes.{WriteCause}
use Rattle.sim_base.specs.Outside.{Outside, Files, SameOthers, Becomes, Grows, IsFront, IsNamed, WriteLeaves}
use Rattle.sim_outcome_model.specs.Outcome.{Complains}
use Rattle.sim_outcome_model.specs.Work.{Wrote}
use Rattle.sim_outcome_model.proofs.ReadLemmas.{if_some}

pub grows_more : (a b c : Option (List ℕ)) (xs ys zs : List ℕ) → Grows a b xs → Grows b c ys → xs ++ ys ≡ zs → Grows a c zs
grows_more None b c xs ys zs p q e = q ∙ ap (option_map (λ (l : List ℕ). l ++ ys)) p
grows_more (Some w) b c xs ys zs p q e = q ∙ ap (option_map (λ (l : List ℕ). l ++ ys)) p ∙ ap Some (append_assoc w xs ys ∙ ap (λ (l : List ℕ). w ++ l) e)

pub grows_same : (a b : Option (List ℕ)) → b ≡ a → Grows a b []
grows_same None b e = e
grows_same (Some w) b e = e ∙ ap Some (sym (append-nil w))

-- a first part behind a whole text
pub front_after : (text front bytes : List ℕ) → IsFront front bytes → IsFront (text ++ front) (text ++ bytes)
front_after text front bytes f = record { rest = f.rest; whole = append_assoc text front f.rest ∙ ap (λ (l : List ℕ). text ++ l) f.whole }

pub front_all : (text : List ℕ) → IsFront text text
front_all text = record { rest = []; whole = append-nil text }

pub front_none : (text : List ℕ) → IsFront [] text
front_none text = record { rest = text; whole = refl }

pub wrote_start : (p : Port) (a : Outside) → Wrote writes.Ok p [] a a
wrote_start p a = (grows_same (a.written p) (a.written p) refl, refl)

pub wrote_next : (r : WriteEnd) (p : Port) (a b c : Outside) (text bytes : List ℕ) → Wrote writes.Ok p text a b →
    WriteLeaves r (b.written p) (c.written p) bytes → WriteCause r (b.faults p) (c.faults p) → Wrote r p (text ++ bytes) a c
wrote_next writes.Ok p a b c text bytes w leaves cause = (grows_more _ _ _ text bytes (text ++ bytes) w.0 leaves refl, cause ∙ w.1)
wrote_next writes.Failed p a b c text bytes w leaves cause = (
  (
    text ++ leaves.0,
    front_after text leaves.0 bytes leaves.1,
    grows_more _ _ _ text leaves.0 (text ++ leaves.0) w.0 leaves.2 refl,
  ),
  rw (← w.1) cause.1,
)

module _ {X : Type 0} (f : X → List ℕ) where
  part_suc : (ps : List X) (i : ℕ) (d : X) → i < length ps → concat (map f (take i ps)) ++ f (get_or ps i d) ≡ concat (map f (take (suc i) ps))
  part_suc [] i d p = absurd (omega arith)
  part_suc (q ∷ ps) zero d p = sym (append-nil (f q))
  part_suc (q ∷ ps) (suc i) d p = append_assoc (f q) (concat (map f (take i ps))) (f (get_or ps i d)) ∙ ap (λ (l : List ℕ). f q ++ l) (part_suc ps i d (omega arith))

  pub part_more : (ps : List X) (i : ℕ) (d : X) → i < length ps → concat (map f (take i ps)) ++ f (get_or ps i d) ≡ concat (map f (take (i + 1) ps))
  part_more ps i d p = rw (add-one i) (part_suc ps i d p)

  parts_split : (ps : List X) (i : ℕ) → concat (map f (take i ps)) ++ concat (map f (drop i ps)) ≡ concat (map f ps)
  parts_split ps zero = refl
  parts_split [] (suc i) = refl
  parts_split (q ∷ ps) (suc i) = append_assoc (f q) (concat (map f (take i ps))) (concat (map f (drop i ps))) ∙ ap (λ (l : List ℕ). f q ++ l) (parts_split ps i)

  -- a first part of a part, behind all parts before it
  pub part_within : (ps : List X) (i : ℕ) (d : X) (front : List ℕ) → i < length ps → IsFront front (f (get_or ps i d)) → IsFront (concat (map f (take i ps)) ++ front) (concat (map f ps))
  part_within ps i d front p within = record {
    rest = within.rest ++ concat (map f (drop (i + 1) ps));
    whole =
        append_assoc (concat (map f (take i ps))) front (within.rest ++ concat (map f (drop (i + 1) ps)))
        ∙ ap (λ (l : List ℕ). concat (map f (take i ps)) ++ l) (sym (append_assoc front within.rest (concat (map f (drop (i + 1) ps))))
        ∙ ap (λ (l : List ℕ). l ++ concat (map f (drop (i + 1) ps))) within.whole
        ∙ ap (λ (l : List X). concat (map f l)) (sym (drop_more ps i d p)))
        ∙ parts_split ps i;
  }

-- others are as before after two calls on one port
pub others_more : (p : Port) (a b c : Outside) → SameOthers p a b → SameOthers p b c → SameOthers p a c
others_more p a b c x y = record {
  files = y.files ∙ x.files;
  requests = y.requests ∙ x.requests;
  written = λ q ne. y.written q ne ∙ x.written q ne;
  name = λ q ne. y.name q ne ∙ x.name q ne;
  opened = λ q ne. y.opened q ne ∙ x.opened q ne;
  faults = λ q ne. y.faults q ne ∙ x.faults q ne;
  reads = y.reads ∙ x.reads;
}

pub complains : (r : WriteEnd) (line : List ℕ) (a b : Outside) → Wrote r ports.Complaint line a b → Complains line a b
complains writes.Ok line a b w = record { said = line; front = front_all line; grown = w.0; whole = inl refl }
complains writes.Failed line a b w = record { said = w.0.0; front = w.0.1; grown = w.0.2; whole = inr w.1 }

pub complains_since : (line : List ℕ) (a m b : Outside) → (m.written ports.Complaint ≡ a.written ports.Complaint) × (m.faults ports.Complaint ≡ a.faults ports.Complaint) → Complains line m b → Complains line a b
complains_since line a m b s x = record { said = x.said; front = x.front; grown = rw (← s.0) x.grown; whole = rw (← s.1) x.whole }

-- what grows from nothing is that text
pub becomes : (a b c : Option (List ℕ)) (text : List ℕ) → Becomes a b [] → Grows b c text → Becomes a c text
becomes None b c text p q = q ∙ ap (option_map (λ (l : List ℕ). l ++ text)) p
becomes (Some w) b c text p q = q ∙ ap (option_map (λ (l : List ℕ). l ++ text)) p

-- a name that stays over writes
pub still_named : (p : Port) (name : List ℕ) (a m b : Outside) → IsNamed p name a m → b.name p ≡ m.name p → IsNamed p name a b
still_named p name a m b named same = if_some a.files _ _ (λ (files : Files) (e : m.name p ≡ Some name). same ∙ e) named
