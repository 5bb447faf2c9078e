use Rattle.codemod_cmd.specs.Session.{outside, asked}
use Rattle.codemod_cmd.proofs.Kept.{finished_dry, stopped_dry, no_script}
use Rattle.codemod_cmd.proofs.running.run.Goals as goal

pub returns-in-Ok-clause-no_script : goal.returns-in-Ok-clause-no_script
returns-in-Ok-clause-no_script g c =
    let words = c.args.words.now in
    let w = outside (g.S.Store.contents c.args.store.now) (g.S.Store.fault_count c.args.store.now) (g.O.Sink.taken_bytes c.args.out.now) in
    let v = outside (g.S.Store.contents c.run_words.new.store) (g.S.Store.fault_count c.run_words.new.store) (g.O.Sink.taken_bytes c.run_words.new.out) in
    λ command asks lacks. no_script (asked words) w v c.in-Ok.status command asks lacks c.in-Ok.ensures.finishes

pub returns-in-Ok-clause-dry : goal.returns-in-Ok-clause-dry
returns-in-Ok-clause-dry g c =
    let words = c.args.words.now in
    let w = outside (g.S.Store.contents c.args.store.now) (g.S.Store.fault_count c.args.store.now) (g.O.Sink.taken_bytes c.args.out.now) in
    let v = outside (g.S.Store.contents c.run_words.new.store) (g.S.Store.fault_count c.run_words.new.store) (g.O.Sink.taken_bytes c.run_words.new.out) in
    λ command asks dry. finished_dry (asked words) w v command asks dry c.in-Ok.status c.in-Ok.ensures.finishes

pub returns-in-Err-NoMemory-clause-dry : goal.returns-in-Err-NoMemory-clause-dry
returns-in-Err-NoMemory-clause-dry g c =
    let words = c.args.words.now in
    let w = outside (g.S.Store.contents c.args.store.now) (g.S.Store.fault_count c.args.store.now) (g.O.Sink.taken_bytes c.args.out.now) in
    let v = outside (g.S.Store.contents c.run_words.new.store) (g.S.Store.fault_count c.run_words.new.store) (g.O.Sink.taken_bytes c.run_words.new.out) in
    λ command asks dry. stopped_dry (asked words) w v command asks dry c.in-Err-NoMemory.ensures.stops

pub returns-in-Err-OutputFault-clause-dry : goal.returns-in-Err-OutputFault-clause-dry
returns-in-Err-OutputFault-clause-dry g c =
    let words = c.args.words.now in
    let w = outside (g.S.Store.contents c.args.store.now) (g.S.Store.fault_count c.args.store.now) (g.O.Sink.taken_bytes c.args.out.now) in
    let v = outside (g.S.Store.contents c.run_words.new.store) (g.S.Store.fault_count c.run_words.new.store) (g.O.Sink.taken_bytes c.run_words.new.out) in
    λ command asks dry. stopped_dry (asked words) w v command asks dry c.in-Err-OutputFault.ensures.stops
