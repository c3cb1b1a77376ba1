-- What one line makes of an image.
use Rattle.std.proofs.Common.{◌≡◌, ◌+◌, ℕ, suc, List, [], ◌∷◌, ap, add-one, sym, ◌∙◌, Result, Err}
use Rattle.sim_base.specs.declared.fault.Refusal.{Refusal}
use Rattle.sim_base.specs.declared.fault.Place.TheVariants as places
use Rattle.text_model.specs.Hex.{Verdict, verdict, image_of, after}

-- the rest of the reading, after a line with this verdict
pub line_read : (image : List ℕ) (base k : ℕ) (ls : List (List ℕ)) (line : List ℕ) (rest : List (List ℕ)) (r : Result (List ℕ) Refusal) (v : Verdict) →
    image_of image base k ls ≡ r → ls ≡ line ∷ rest → v ≡ verdict base line → r ≡ after v image base k (λ i b. image_of i b (k + 1) rest)
unfolding image_of
line_read image base k ls line rest r v reads is e =
    rw (add-one k) (sym reads ∙ ap (image_of image base k) is ∙ ap (λ (u : Verdict). after u image base k (λ (i : List ℕ) (b : ℕ). image_of i b (suc k) rest)) (sym e))

pub no_line : (image : List ℕ) (base k : ℕ) (ls : List (List ℕ)) (r : Result (List ℕ) Refusal) → image_of image base k ls ≡ r → ls ≡ [] → r ≡ Err (record { number = 26; place = places.Line k })
unfolding image_of
no_line image base k ls r reads is = sym reads ∙ ap (image_of image base k) is
