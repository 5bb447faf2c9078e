-- The names in a folder, one entry after another.
use Rattle.std.proofs.Common.{◌≡◌, ℕ, ◌+◌, ◌-◌, ◌<◌, Bool, true, false, cond, nat_eq, List, [], ◌∷◌, ◌++◌, length, get_or, take, drop, map, refl, sym, ap, ◌∙◌, arith}
use Rattle.std.specs.Prelude.{if◌then◌else◌}
use Rattle.std.specs.Cmp.Lexicographic.{pointwise}
use Rattle.std.specs.List.{filter, ends_with}
use Rattle.std.proofs.lemmas.List.{drop_more, map-append}
use Rattle.std.proofs.lemmas.List.Elements.{filter_more}
use Rattle.cm_store.specs.declared.store.Entry.{Entry}
use Rattle.codemod_cmd.specs.Folders.{inner, inside, is_taken, has_extension}

under_test : {X Y : Type 0} (f : X → Y) (b : Bool) (x : X) → map f (cond b (x ∷ []) []) ≡ (if b then f x ∷ [] else [])
under_test f true x = refl
under_test f false x = refl

pub inside_more : (extensions : List (List ℕ)) (folder : List ℕ) (entries : List Entry) (i : ℕ) (entry : Entry) → i < length entries → entry ≡ get_or entries i entry
    → inside extensions folder (take (i + 1) entries) ≡ inside extensions folder (take i entries) ++ (if is_taken extensions entry then inner folder entry ∷ [] else [])
inside_more extensions folder entries i entry lt at =
    let front = inside extensions folder (take i entries) in
    let x = get_or entries i entry in
    ap (map (inner folder)) (filter_more (is_taken extensions) entries i entry lt)
    ∙ map-append (inner folder) (filter (is_taken extensions) (take i entries)) (cond (is_taken extensions x) (x ∷ []) [])
    ∙ ap (λ l. front ++ l) (under_test (inner folder) (is_taken extensions x) x)
    ∙ ap (λ e. front ++ (if is_taken extensions e then inner folder e ∷ [] else [])) (sym at)

-- behind a dot the name ends in the extension
pub dotted : (name extension : List ℕ) (dot : ℕ) → length extension < length name → dot ≡ length name - length extension - 1 → get_or name dot 0 ≡ 46
    → ends_with nat_eq name extension ≡ has_extension name extension
dotted name extension dot lt is byte =
    let at : length name - length (46 ∷ extension) ≡ dot = omega (arith, lt, is) in
    let next : dot + 1 ≡ length name - length extension = omega (arith, lt, is) in
    let rest : drop dot name ≡ 46 ∷ drop (length name - length extension) name =
    drop_more name dot 0 (omega (arith, lt, is)) ∙ ap (λ b. b ∷ drop (dot + 1) name) byte ∙ ap (λ n. 46 ∷ drop n name) next in
    sym (ap (λ l. pointwise nat_eq (46 ∷ extension) l) (ap (λ n. drop n name) at ∙ rest))
