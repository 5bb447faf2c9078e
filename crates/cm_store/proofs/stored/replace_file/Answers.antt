use Rattle.std.proofs.Common.{rules, ◌≡◌, ◌∙◌, ap, Some, None}
use Rattle.std.specs.List.{position}
use Rattle.std.specs.FinMap.{insert}
use Rattle.cm_store.specs.Files.{files_of}
use Rattle.cm_store.proofs.Lookup.{is_named}
use Rattle.cm_store.proofs.Replacing.{files_of-set, files_of-push}
use Rattle.cm_store.proofs.stored.replace_file.Goals as goal

pub returns-in_default-clause-done : goal.returns-in_default-clause-done
returns-in_default-clause-done c =
    let g = c.in_ok-file.file in
    let named : g.name ≡ c.args.name.now = search rules in
    let filled : g.bytes ≡ c.args.bytes.now = search rules in
    let none : position (is_named g.name) c.args.files.now ≡ None = rw named (search rules) in
    ap files_of c.in_ok-push.ensures.ok ∙ files_of-push c.args.files.now g none ∙ ap (λ n. insert (files_of c.args.files.now) n g.bytes) named ∙ ap (insert (files_of c.args.files.now) c.args.name.now) filled

pub returns-clause-done : goal.returns-clause-done
returns-clause-done c =
    let g = c.in_ok-file.file in
    let named : g.name ≡ c.args.name.now = search rules in
    let filled : g.bytes ≡ c.args.bytes.now = search rules in
    let place : position (is_named g.name) c.args.files.now ≡ Some c.in-Some.place = rw named (search rules) in
    ap files_of c.set.ensures ∙ files_of-set c.args.files.now c.in-Some.place g place ∙ ap (λ n. insert (files_of c.args.files.now) n g.bytes) named ∙ ap (insert (files_of c.args.files.now) c.args.name.now) filled
