-- Where no identifier has the old name, or that is the new one, the text stays.
use Rattle.std.proofs.Common.{◌≡◌, ◌+◌, ◌&&◌, ℕ, Bool, true, false, cond, List, [], ◌∷◌, ◌++◌, length, Option, refl, sym, ◌∙◌, ap, subst, arith, append-nil}
use Rattle.std.proofs.lemmas.Slice.Eq.{bytes_eq-Decides}
use Rattle.std.proofs.lemmas.List.Folds.{drop_split}
use Rattle.tree_core.specs.declared.scalars.Scalar.{Scalar}
use Rattle.tree_core.specs.declared.scalars.Scalar.TheVariants.{Text, Truth, Null}
use Rattle.tree_core.specs.declared.span.Span.{Span}
use Rattle.tree_core.specs.Syntax.{Syntax, node, Slots, no_slots, slot, Places, no_places, hole, place}
use Rattle.type_defs.specs.declared.kind.Kind.{Kind as NodeKind}
use Rattle.first_grammar.specs.declared.table.Category.TheVariants as c
use Rattle.first_grammar.specs.Spells.{At, Whole}
use Rattle.first_rename.specs.Names.{is_identifier, is_named, is_name, renamed, renamed_slots, renamed_places, count_of, count_slots, count_places}
use Rattle.first_rename.specs.Edits.{stretch, edits, slot_edits, place_edits, patched}
use Rattle.first_rename.proofs.Spans.{between}
use Rattle.first_rename.proofs.Same.{owns, same_tree, unmoved}

none : (named : Bool) (n : ℕ) → cond named 1 0 + n ≡ 0 → (named ≡ false) × (n ≡ 0)
none false n e = (refl, omega (arith, e))
none true n e = absurd (omega (arith, e))

module _ (old : List ℕ) (spans : List Span) where
  no_own : (named : Bool) (from : Option ℕ) → named ≡ false → cond named (stretch spans from) [] ≡ []
  no_own named from e = ap (λ (b : Bool). cond b (stretch spans from) []) e

  both_none : (ds es : List Span) → ds ≡ [] → es ≡ [] → ds ++ es ≡ []
  both_none ds es d e = ap (λ v. v ++ es) d ∙ e

  mutual
    pub no_edits : (t : Syntax) → count_of old t ≡ 0 → edits old spans t ≡ []
    no_edits (node kind scalars slots notes from) e =
        let o = none (is_named old kind scalars) (count_slots old slots) e in both_none _ _ (no_own (is_named old kind scalars) from o.0) (no_slot_edits slots o.1)

    no_slot_edits : (slots : Slots) → count_slots old slots ≡ 0 → slot_edits old spans slots ≡ []
    no_slot_edits no_slots e = refl
    no_slot_edits (slot list places others) e = both_none _ _ (no_place_edits places (omega (arith, e))) (no_slot_edits others (omega (arith, e)))

    no_place_edits : (places : Places) → count_places old places ≡ 0 → place_edits old spans places ≡ []
    no_place_edits no_places e = refl
    no_place_edits (hole name others) e = no_place_edits others e
    no_place_edits (place name t others) e = both_none _ _ (no_edits t (omega (arith, e))) (no_place_edits others (omega (arith, e)))

second_true : (x y : Bool) → (x && y) ≡ true → y ≡ true
second_true true y e = e
second_true false y e = cc

module _ (w : List ℕ) where
  name_is : (scalars : List Scalar) → is_name w scalars ≡ true → Text w ∷ [] ≡ scalars
  name_is [] e = absurd cc
  name_is (Text v ∷ []) e = ap (λ z. Text z ∷ []) (sym ((bytes_eq-Decides v w).0 e))
  name_is (Truth b ∷ []) e = absurd cc
  name_is (Null ∷ []) e = absurd cc
  name_is (x ∷ y ∷ more) e = absurd cc

  own_is : (kind : NodeKind) (scalars : List Scalar) (named : Bool) → is_named w kind scalars ≡ named → cond named (Text w ∷ []) scalars ≡ scalars
  own_is kind scalars false e = refl
  own_is kind scalars true e = name_is scalars (second_true (is_identifier kind) _ e)

  mutual
    pub renamed_same : (t : Syntax) → renamed w w t ≡ t
    renamed_same (node kind scalars slots notes from) =
        ap (λ v. node kind v (renamed_slots w w slots) notes from) (own_is kind scalars (is_named w kind scalars) refl) ∙ ap (λ v. node kind scalars v notes from) (slots_same slots)

    slots_same : (slots : Slots) → renamed_slots w w slots ≡ slots
    slots_same no_slots = refl
    slots_same (slot list places others) = ap (λ v. slot list v (renamed_slots w w others)) (places_same places) ∙ ap (λ v. slot list places v) (slots_same others)

    places_same : (places : Places) → renamed_places w w places ≡ places
    places_same no_places = refl
    places_same (hole name others) = ap (hole name) (places_same others)
    places_same (place name t others) = ap (λ v. place name v (renamed_places w w others)) (renamed_same t) ∙ ap (place name t) (places_same others)

pub no_patch : (s new old : List ℕ) (spans : List Span) (t : Syntax) → count_of old t ≡ 0 → patched s new 0 (edits old spans t) ≡ s
no_patch s new old spans t e = ap (λ v. patched s new 0 v) (no_edits old spans t e)

same_patch : (s new : List ℕ) (spans : List Span) (t : Syntax) → Whole (At spans) s t → patched s new 0 (edits new spans t) ≡ s
same_patch s new spans t d =
    let again : Whole (At spans) s (renamed new new t) = subst (λ v. Whole (At spans) s v) (sym (renamed_same new t)) d in
    let ds = edits new spans t in
    ap (λ v. patched s new 0 v) (sym (append-nil ds))
    ∙ (unmoved s new 0 (length s) ds [] (between s spans new 0 (length s) c.Program 1 t d (omega arith)) (same_tree s new new spans t (owns s spans new 0 (length s) c.Program 1 (renamed new new t) again)) (omega arith, omega arith)
    ∙ sym (drop_split s 0 (length s) (omega arith)))

pub same_name : (s new old : List ℕ) (spans : List Span) (t : Syntax) → Whole (At spans) s t → old ≡ new → patched s new 0 (edits old spans t) ≡ s
same_name s new old spans t d e = ap (λ v. patched s new 0 (edits v spans t)) e ∙ same_patch s new spans t d
