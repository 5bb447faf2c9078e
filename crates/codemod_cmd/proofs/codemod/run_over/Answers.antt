use Rattle.codemod_cmd.proofs.RunEnded.{run_ends}
use Rattle.codemod_cmd.specs.RunEndings.{left_of}
use Rattle.codemod_cmd.proofs.codemod.run_over.Goals as goal

pub returns : goal.returns
returns c =
    run_ends c.args.codemod.now.fuel c.args.source.now
    (left_of c.in_ok-ran.ran c.run.new.host.prints c.run.new.host.arena)
    c.ending_of.result
    (record { parsed = c.args.parsed.now; tree = c.requires; unspent = c.in_ok-ran.ensures })
    c.ending_of.ensures
