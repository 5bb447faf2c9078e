use Rattle.std.proofs.Common.{rules, ◌≡◌, ◌∙◌, sym, ap, Some}
use Rattle.std.specs.FinMap.{get}
use Rattle.cm_store.specs.Files.{files_of}
use Rattle.cm_store.proofs.Lookup.{get-at, get-nowhere}
use Rattle.cm_store.proofs.stored.read_file.Goals as goal

pub returns-in_default-clause-answer : goal.returns-in_default-clause-answer
returns-in_default-clause-answer c = get-nowhere c.args.name.now c.args.files.now (search rules)

pub returns-then-bytes-most-clause-answer : goal.returns-then-bytes-most-clause-answer
returns-then-bytes-most-clause-answer c =
    let f = c.index-files-place.result in
    let bytes : c.get-bytes.result.now ≡ f.bytes = c.get-bytes.ensures ∙ ap (λ g. g.bytes) (sym c.index-files-place.is) in
    let held : get (files_of c.args.files.now) c.args.name.now ≡ Some f.bytes = get-at c.args.name.now c.args.files.now c.in-Some.place f (search rules) c.index-files-place.is in
    rw (held, ← bytes) c.if-bytes-most.true

pub returns-in-Ok-clause-answer : goal.returns-in-Ok-clause-answer
returns-in-Ok-clause-answer c =
    let f = c.index-files-place.result in
    let bytes : c.get-bytes.result.now ≡ f.bytes = c.get-bytes.ensures ∙ ap (λ g. g.bytes) (sym c.index-files-place.is) in
    let held : get (files_of c.args.files.now) c.args.name.now ≡ Some f.bytes = get-at c.args.name.now c.args.files.now c.in-Some.place f (search rules) c.index-files-place.is in
    let copied : c.in-Ok.copy.items ≡ c.get-bytes.result.now = search rules in
    (held ∙ ap Some (sym (copied ∙ bytes)), rw copied c.if-bytes-most.false)
