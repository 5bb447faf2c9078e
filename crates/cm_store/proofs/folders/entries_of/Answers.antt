use Rattle.std.proofs.Common.{rules, ◌≡◌, ◌∙◌, ap, sym, subst, IsTrue, ◌↔◌, [], ◌∷◌, ◌++◌, map, All, None, string_bytes}
use Rattle.std.proofs.lemmas.List.{map-append, map-id}
use Rattle.std.proofs.lemmas.Map.Iter.{iter_end}
use Rattle.std.proofs.lemmas.List.Elements.{All-push}
use Rattle.std.specs.List.Sorted.{IsStrictlySortedBy}
use Rattle.std.specs.Ordering.{nat_cmp}
use Rattle.std.specs.Cmp.Lexicographic.{slice_cmp}
use Rattle.std.specs.FinMap.{get}
use Rattle.cm_store.specs.Files.{files_of}
use Rattle.cm_store.specs.declared.store.Entry.{Entry}
use Rattle.cm_store.proofs.Ordered.{sorted_bytes}
use Rattle.cm_store.proofs.folders.entries_of.Goals as goal

pub loop-part-preserved : goal.loop-part-preserved
loop-part-preserved c =
    let entry = c.in_ok-entry_of.field-0 in
    let texts = c.loop-part.yielded in
    let pushed : c.push.new.self ≡ c.loop-part.entries ++ entry ∷ [] = search rules in
    let named : entry.name ≡ string_bytes c.in-Some.part = search rules in
    let IsRight : Entry → Type 0 = λ e. IsTrue e.folder ↔ (get (files_of c.args.files.now) (c.args.front.now ++ e.name) ≡ None) in (
      ap (map (λ e. e.name)) pushed
          ∙ map-append (λ e. e.name) c.loop-part.entries (entry ∷ [])
          ∙ ap (λ names. names ++ entry.name ∷ []) c.loop-part.invariant.0
          ∙ ap (λ n. map (λ s. string_bytes s) texts ++ n ∷ []) named
          ∙ sym (map-append (λ s. string_bytes s) texts (c.in-Some.part ∷ [])),
      subst (All IsRight) (sym pushed) (All-push IsRight c.loop-part.entries entry c.loop-part.invariant.1 c.in_ok-entry_of.ensures.folder),
    )

pub returns-clause-order : goal.returns-clause-order
returns-clause-order c =
    let all : map (λ s. s) c.loop-part.yielded ≡ c.args.parts.keys = search (rules, iter_end) in
    let names : map (λ e. e.name) c.loop-part.entries ≡ map (λ s. string_bytes s) c.args.parts.keys = c.loop-part.invariant.0 ∙ ap (map (λ s. string_bytes s)) (sym (map-id c.loop-part.yielded) ∙ all) in
    subst (IsStrictlySortedBy (slice_cmp nat_cmp)) (sym names) (sorted_bytes c.args.parts.keys c.into_iter-part-iterator.ensures.into_iter_gives.4)
