use Rattle.tc_fixed.specs.Limits.{limit_of}
use Rattle.tc_fixed.proofs.channel.FixedChannelWith.drop_oldest.Goals as goal

pub returns-then-not-drop_packet-clause-waits : goal.returns-then-not-drop_packet-clause-waits
returns-then-not-drop_packet-clause-waits g c = rw (← c.self.view_is, ← c.if-not-drop_packet.true) (c.drop_packet.ensures.waits (limit_of c.self.inside.limits) c.self.inside.settings (g.N.Noted.noted c.self.inside.journal) c.self.invariant.rooms)
