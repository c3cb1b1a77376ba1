-- Levels by the same drives and contacts are the same.
use Rattle.net_resolve.proofs.Common.{◌≡◌, List, Bool, true, false, if◌then◌else◌, Drive, WholeView, levels_of, IsResolution, AreResolutions, last_of}
use Rattle.net_resolve.proofs.Common.{Resolution}
use Rattle.net_resolve.specs.declared.resolution.Kept.{Kept}

pub levels_same : (w : WholeView) {cs es : List Bool} {ds fs : List Drive} → cs ≡ es → ds ≡ fs → levels_of w cs ds ≡ levels_of w es fs
levels_same w closed drives = cc

either_is : (w : WholeView) (flag : Bool) (a b : Resolution) → IsResolution w a → IsResolution w b → IsResolution w (if flag then a else b)
either_is w true a b at bt = at
either_is w false a b at bt = bt

pub last_is : (w : WholeView) (k : Kept) → AreResolutions w k → IsResolution w (last_of k)
last_is w k it = either_is w k.flipped k.second k.first it.second it.first
