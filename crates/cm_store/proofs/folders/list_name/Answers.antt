use Rattle.std.proofs.Common.{rules, ◌≡◌, subst, true, false, is_none, ℕ, List}
use Rattle.std.specs.List.{list_any}
use Rattle.std.specs.FinMap.{get}
use Rattle.cm_store.specs.Below.{is_below}
use Rattle.cm_store.specs.Files.{files_of}
use Rattle.cm_store.specs.Listing.{front_of, HasEntries}
use Rattle.cm_store.proofs.Lookup.{none_is}
use Rattle.cm_store.proofs.Parts.{IsFolder-from_any, any-from_IsFolder}
use Rattle.cm_store.proofs.folders.list_name.Goals as goal

pub returns-then-not-has_below-clause-answer : goal.returns-then-not-has_below-clause-answer
returns-then-not-has_below-clause-answer c =
    let absent : is_none (get (files_of c.args.files.now) c.args.name.now) ≡ true = search rules in
    let front : c.deref.result.now ≡ front_of c.args.name.now = search rules in
    let any : list_any (λ f. is_below c.deref.result.now f.name) c.args.files.now ≡ false = search rules in
    let alone : list_any (λ f. is_below (front_of c.args.name.now) f.name) c.args.files.now ≡ false = subst (λ (p : List ℕ). list_any (λ f. is_below p f.name) c.args.files.now ≡ false) front any in
    (none_is _ absent, λ folder. cc (alone, any-from_IsFolder c.args.files.now (front_of c.args.name.now) folder))

pub returns-clause-answer : goal.returns-clause-answer
returns-clause-answer c =
    let absent : is_none (get (files_of c.args.files.now) c.args.name.now) ≡ true = search rules in
    let front : c.deref.result.now ≡ front_of c.args.name.now = search rules in
    let any : list_any (λ f. is_below c.deref.result.now f.name) c.args.files.now ≡ true = search rules in
    let below : list_any (λ f. is_below (front_of c.args.name.now) f.name) c.args.files.now ≡ true = subst (λ (p : List ℕ). list_any (λ f. is_below p f.name) c.args.files.now ≡ true) front any in
    let again : c.deref-2.result.now ≡ front_of c.args.name.now = search rules in
    let entries : HasEntries (files_of c.args.files.now) (front_of c.args.name.now) c.in-Ok-entries_below.entries = subst (λ (p : List ℕ). HasEntries (files_of c.args.files.now) p c.in-Ok-entries_below.entries) again c.in-Ok-entries_below.ensures in
    (none_is _ absent, IsFolder-from_any c.args.files.now (front_of c.args.name.now) below, entries, c.count_of-unnamed.ensures)
