-- What saying a text leaves.
use Rattle.std.specs.Prelude.{◌≡◌, ◌≤◌, ℕ, List, ◌++◌}
use Rattle.sim_base.specs.declared.bench.WriteEnd.{WriteEnd}
use Rattle.sim_base.specs.declared.bench.WriteEnd.TheVariants as writes
use Rattle.sim_base.specs.Outside.{Outside}
use Rattle.part_law.specs.declared.part.Part.{Ghosts}
use Rattle.vcd_text.specs.Ports.{BreaksOff}
use Rattle.live_leg.specs.Said.{HasSaid}
use Rattle.live_leg.specs.Talks.{MayTalk, tied_of, begun_texts}
use Rattle.live_leg.specs.declared.talk.Talk.{Talk}

module _ {P : Type 0} (part : Ghosts P) where
  -- from b to c this was said on Serial, and nothing else has happened
  pub record HasSpoken (text : List ℕ) (old new : Talk P) (a b c : Outside) : Type 0 where
    pub live : new.live ≡ old.live
    pub sent : new.sent ≡ old.sent
    pub tied : tied_of new ≡ tied_of old
    pub talks : MayTalk part new a c
    pub said : HasSaid b c text

  -- a write failed, and each port has a first part of what was to be there
  abbrev pub HasFallenSilent : List ℕ → Talk P → Outside → Outside → Outside → Type 0
  HasFallenSilent text old a b c = (said : List ℕ) → HasSaid a b said → BreaksOff (begun_texts part old old.live.cycle (said ++ text)) a c

  abbrev pub Says : List ℕ → WriteEnd → Talk P → Talk P → Outside → Outside → Outside → Type 0
  Says text writes.Ok old new a b c = HasSpoken text old new a b c
  Says text writes.Failed old new a b c = HasFallenSilent text old a b c
