use Rattle.std.proofs.Common.{rules, ◌≡◌, ◌∙◌, sym, ap, Some, None, unwrap_or}
use Rattle.std.specs.Option.{option_map}
use Rattle.std.specs.Str.{bytes_eq}
use Rattle.std.specs.List.{find}
use Rattle.cm_store.proofs.Lookup.{get-counts_of}
use Rattle.cm_store.proofs.folders.count_of.Goals as goal

pub returns-in-Some : goal.returns-in-Some
returns-in-Some c =
    let found : find (λ n. bytes_eq c.args.name.now n.name) c.args.counts.now ≡ Some c.in-Some.count.now = search rules in
    sym (ap (λ o. unwrap_or o 0) (get-counts_of c.args.name.now c.args.counts.now) ∙ ap (λ o. unwrap_or (option_map (λ n. n.count) o) 0) found)

pub returns-in-None : goal.returns-in-None
returns-in-None c =
    let found : find (λ n. bytes_eq c.args.name.now n.name) c.args.counts.now ≡ None = search rules in
    sym (ap (λ o. unwrap_or o 0) (get-counts_of c.args.name.now c.args.counts.now) ∙ ap (λ o. unwrap_or (option_map (λ n. n.count) o) 0) found)
