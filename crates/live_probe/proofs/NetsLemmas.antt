-- Nets that are told drives and contacts from the first on.
use Rattle.std.proofs.Common.{◌≡◌, ℕ, ◌∙◌, List, Bool, take, length, ap, sym, arith}
use Rattle.sim_base.specs.declared.signal.Drive.{Drive}
use Rattle.board_model.proofs.Lists.{take_whole}
use Rattle.net_resolve.specs.NetsView.{NetsView}

pub more_drives : (old now new : NetsView) (ds : List Drive) → now ≡ record old { drives = now.drives } → new ≡ record now { drives = ds } → new ≡ record old { drives = new.drives }
more_drives old now new ds e f =
    f ∙ ap (λ (v : NetsView). record v { drives = ds }) e ∙ ap (λ (d : List Drive). record old { drives = d }) (sym (ap (λ (v : NetsView). v.drives) f))

pub more_closed : (old now new : NetsView) (cs : List Bool) → now ≡ record old { closed = now.closed } → new ≡ record now { closed = cs } → new ≡ record old { closed = new.closed }
more_closed old now new cs e f =
    f ∙ ap (λ (v : NetsView). record v { closed = cs }) e ∙ ap (λ (l : List Bool). record old { closed = l }) (sym (ap (λ (v : NetsView). v.closed) f))

-- as many are the same as there are
pub all_same : {A : Type 0} (n : ℕ) (xs ys : List A) → length xs ≡ n → length ys ≡ n → take n xs ≡ take n ys → xs ≡ ys
all_same n xs ys h k e = sym (take_whole n xs (omega (arith, h))) ∙ e ∙ take_whole n ys (omega (arith, k))
