-- What holds of nets holds of what is the same.
use Rattle.net_resolve.proofs.Common.{◌≡◌, ℕ, List, Bool, ArePairs, Drive, resolve, AreGroups}

pub pairs_moved : {ps qs : List (ℕ × ℕ)} {m n : ℕ} → ps ≡ qs → m ≡ n →
    ArePairs m ps → ArePairs n qs
pairs_moved es en it = rw (← es, ← en) it

pub groups_moved : {cs ds : List (ℕ × ℕ)} {cl dl : List Bool} {gs hs : List ℕ} → cs ≡ ds → cl ≡ dl → gs ≡ hs → AreGroups cs cl gs → AreGroups ds dl hs
groups_moved ec el eg it = rw (← ec, ← el, ← eg) it

pub resolve_moved : {m n : ℕ} {ns ms : List ℕ} {cs ds rs ss : List (ℕ × ℕ)} (closed : List Bool) (drives : List Drive) → m ≡ n → ns ≡ ms → cs ≡ ds → rs ≡ ss →
    resolve m ns cs rs closed drives ≡ resolve n ms ds ss closed drives
resolve_moved closed drives en es ec er = cc
