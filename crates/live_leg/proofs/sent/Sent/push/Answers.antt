use Rattle.std.proofs.Common.{arith}
use Rattle.live_leg.proofs.SentLemmas.{byte_kept, byte_lost}
use Rattle.live_leg.proofs.sent.Sent.push.Goals as goal

pub returns-in-Ok : goal.returns-in-Ok
returns-in-Ok c =
    let i = c.self.inside in
    rw (← c.self.view_is) (byte_kept i.bytes.items c.push.new.self.items c.args.b i.total c.saturating_add-self-inside.result i.first c.in-Ok.ensures.items c.saturating_add-self-inside.ensures (omega (arith, c.len.ensures, c.if-len-lt-ROOM.true)))

pub returns-else-len-lt-ROOM : goal.returns-else-len-lt-ROOM
returns-else-len-lt-ROOM c =
    let i = c.self.inside in
    rw (← c.self.view_is) (byte_lost i.bytes.items c.args.b i.total c.saturating_add-self-inside.result i.first c.saturating_add-self-inside.ensures (omega (arith, c.len.ensures, c.if-len-lt-ROOM.false, c.self.invariant.short)))
