use Rattle.std.proofs.Common.{◌∙◌}
use Rattle.node_arena.proofs.Making.{made}
use Rattle.node_arena.proofs.links.Links.make.Goals as goal

pub returns-clause-after : goal.returns-clause-after
returns-clause-after c =
    made (record { nodes = c.self.inside.nodes.items; slots = c.self.inside.slots.items; places = c.self.inside.places.items }) _ _ _ _ _ _ _ _ _ _ _ c.self.view_is c.slots.ensures.slots
    (c.len-node.ensures ∙ c.self.inside.nodes.ok.0) (c.len-base.ensures ∙ c.self.inside.slots.ok.0) c.self.inside.slots.ok.0 c.self.inside.places.ok.0
    c.keep.ensures.items c.push_slots.ensures.slots c.push_slots.ensures.places
