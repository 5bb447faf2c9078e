use Rattle.std.proofs.Common.{◌≤◌, ◌-◌}
use Rattle.codemod_cmd.specs.Session.{outside}
use Rattle.codemod_cmd.proofs.Going.{Gone}
use Rattle.codemod_cmd.proofs.walking.+walk.Given as goal

-- folders are listed on 65 levels
abbrev pub decreases-walk : goal.decreases-walk
decreases-walk g l = 66 - l.level

abbrev pub invariant-loop-pending : goal.invariant-loop-pending
invariant-loop-pending g l = Gone (g.E.Engine.says l.job.engine.now) l.job.command.now l.level l.names l.initial.counts
    (outside (g.S.Store.contents l.initial.store) (g.S.Store.fault_count l.initial.store) (g.O.Sink.taken_bytes l.initial.out))
    l.pending-index l.counts
    (outside (g.S.Store.contents l.store) (g.S.Store.fault_count l.store) (g.O.Sink.taken_bytes l.out))
    × (g.O.Sink.fault_count l.initial.out ≤ g.O.Sink.fault_count l.out)
