-- Where the source spells the renamed tree, the identifiers of the old name have the new one there already.
use Rattle.std.proofs.Common.{◌≡◌, ◌+◌, ◌&&◌, ℕ, Bool, true, false, cond, List, [], ◌∷◌, ◌++◌, length, Option, Some, None, refl, sym, ◌∙◌, ap, subst, arith, append_assoc}
use Rattle.std.specs.Prelude.{slice_get, slice_range}
use Rattle.std.specs.Str.{bytes_eq}
use Rattle.std.proofs.lemmas.Slice.Eq.{bytes_eq-Decides}
use Rattle.tree_core.specs.declared.scalars.Scalar.{Scalar}
use Rattle.tree_core.specs.declared.scalars.Scalar.TheVariants.{Text}
use Rattle.tree_core.specs.declared.span.Span.{Span}
use Rattle.tree_core.specs.Syntax.{Syntax, node, Slots, no_slots, slot, Places, no_places, hole, place}
use Rattle.type_defs.specs.declared.kind.Kind.{Kind as NodeKind}
use Rattle.tree_core.specs.View.{Spot, Row, slots_of, places_of}
use Rattle.first_grammar.specs.declared.table.Kind.{Kind}
use Rattle.first_grammar.specs.declared.table.Kind.TheVariants as k
use Rattle.first_grammar.specs.declared.table.Category.{Category}
use Rattle.first_grammar.specs.declared.table.Part.{Part}
use Rattle.first_grammar.specs.Spells.{Spells, Node, Fills, Listed, InRow, formed, built, no_parts, a_token, a_name, free_name, a_child, empty_list, a_list, a_body, last, more, row_end, row_next, HasSpan, At}
use Rattle.first_rename.specs.Names.{is_identifier, is_named, is_name, renamed, renamed_slots, renamed_places}
use Rattle.first_rename.specs.Edits.{known, stretch, edits, slot_edits, place_edits, patched}
use Rattle.first_rename.proofs.Stretches.{Between, After, order, split, range_split, Rest, rest_length, past, front_range}
use Rattle.first_rename.proofs.Tokens.{no_blank_before}
use Rattle.first_rename.proofs.Spans.{one_stretch}

-- an identifier of this name stands on it
abbrev Own : List ℕ → List Span → List ℕ → NodeKind → List Scalar → Option ℕ → Type 0
Own s spans w kind scalars from = (i j : ℕ) → is_named w kind scalars ≡ true → HasSpan spans from i j → slice_range s i j ≡ w

abbrev mutual
  -- and each one below
  pub Owns : List ℕ → List Span → List ℕ → Syntax → Type 0
  Owns s spans w (node kind scalars slots notes from) = Own s spans w kind scalars from × SlotsOwn s spans w slots

  SlotsOwn : List ℕ → List Span → List ℕ → Slots → Type 0
  SlotsOwn s spans w no_slots = Unit {0}
  SlotsOwn s spans w (slot list places others) = PlacesOwn s spans w places × SlotsOwn s spans w others

  PlacesOwn : List ℕ → List Span → List ℕ → Places → Type 0
  PlacesOwn s spans w no_places = Unit {0}
  PlacesOwn s spans w (hole _ others) = PlacesOwn s spans w others
  PlacesOwn s spans w (place _ t others) = Owns s spans w t × PlacesOwn s spans w others

module _ (s : List ℕ) (spans : List Span) (w : List ℕ) where
  own_name : (i j b e : ℕ) (from : Option ℕ) → b ≡ i → e ≡ j → HasSpan spans from i j → bytes_eq (slice_range s b e) w ≡ true
      → (i' j' : ℕ) → HasSpan spans from i' j' → slice_range s i' j' ≡ w
  own_name i j b e from at end has y i' j' h =
      let q = one_stretch spans from i' j' i j h has in
      ap (λ x. slice_range s x j') (q.0 ∙ sym at) ∙ (ap (λ x. slice_range s b x) (q.1 ∙ sym end) ∙ (bytes_eq-Decides (slice_range s b e) w).0 y)

  mutual
    -- what the source spells stands there under its own name
    pub owns : (i j : ℕ) (c : Category) (l : ℕ) (x : Syntax) → Spells (At spans) s i j c l x → Owns s spans w x
    owns _ _ _ _ _ (formed i j c l x kind bel high m) = owns_node kind i j x m

    owns_node : (kind : Kind) (i j : ℕ) (x : Syntax) → Node (At spans) s kind i j x → Owns s spans w x
    owns_node _ _ _ _ (built k.Identifier i j _ _ from n (a_name _ _ b e _ _ _ scan (no_parts _)) has) = (λ i' j' y h. own_name i j b j from (no_blank_before s i b scan.blank n) refl has y i' j' h, tt)
    owns_node _ _ _ _ (built k.PropertyName i j _ _ from n (free_name word _ _ b e _ _ _ _ scan (no_parts _)) has) =
        (λ i' j' y h. own_name i j b j from (no_blank_before s i b scan.blank n) refl has y i' j' h, tt)
    owns_node _ _ _ _ (built k.Member i j scalars rows from n g has) = (λ i' j' y h. absurd cc, owns_fills _ i j scalars rows g)
    owns_node _ _ _ _ (built k.Call i j scalars rows from n g has) = (λ i' j' y h. absurd cc, owns_fills _ i j scalars rows g)
    owns_node _ _ _ _ (built k.Assignment i j scalars rows from n g has) = (λ i' j' y h. absurd cc, owns_fills _ i j scalars rows g)
    owns_node _ _ _ _ (built k.Program i j scalars rows from n g has) = (λ i' j' y h. absurd cc, owns_fills _ i j scalars rows g)
    owns_node _ _ _ _ (built k.ExpressionStatement i j scalars rows from n g has) = (λ i' j' y h. absurd cc, owns_fills _ i j scalars rows g)

    owns_fills : (qs : List Part) (i j : ℕ) (scalars : List Scalar) (rows : List Row) → Fills (At spans) s qs i j scalars rows → SlotsOwn s spans w (slots_of rows)
    owns_fills _ _ _ _ _ (no_parts i) = tt
    owns_fills _ _ _ _ _ (a_token word qs i b e j scalars rows scan g) = owns_fills qs e j scalars rows g
    owns_fills _ _ _ _ _ (a_name qs i b e j scalars rows scan g) = owns_fills qs e j scalars rows g
    owns_fills _ _ _ _ _ (free_name word qs i b e j scalars rows y scan g) = owns_fills qs e j scalars rows g
    owns_fills _ _ _ _ _ (a_child c l qs i b e j name x scalars rows blank d g) = ((owns b e c l x d, tt), owns_fills qs e j scalars rows g)
    owns_fills _ _ _ _ _ (empty_list c l close qs i j scalars rows g) = (tt, owns_fills qs i j scalars rows g)
    owns_fills _ _ _ _ _ (a_list c l close qs i e j xs scalars rows d g) = (owns_listed c l i e xs d, owns_fills qs e j scalars rows g)
    owns_fills _ _ _ _ _ (a_body c close qs i e j xs scalars rows d g) = (owns_row c i e xs d, owns_fills qs e j scalars rows g)

    owns_listed : (c : Category) (l i j : ℕ) (xs : List Spot) → Listed (At spans) s c l i j xs → PlacesOwn s spans w (places_of xs)
    owns_listed _ _ _ _ _ (last c l i b e name x blank d) = (owns b e c l x d, tt)
    owns_listed _ _ _ _ _ (more c l i b e b' e' j name x xs blank d scan g) = (owns b e c l x d, owns_listed c l e' j xs g)

    owns_row : (c : Category) (i j : ℕ) (xs : List Spot) → InRow (At spans) s c i j xs → PlacesOwn s spans w (places_of xs)
    owns_row _ _ _ _ (row_end c i) = tt
    owns_row _ _ _ _ (row_next c i b e j name x xs blank d g) = (owns b e c 1 x d, owns_row c e j xs g)

both_true : (x y : Bool) → (x && y) ≡ true → x ≡ true
both_true true y e = refl
both_true false y e = cc

-- the name stands on each stretch already
abbrev pub Same : List ℕ → List ℕ → List Span → Type 0
Same s new [] = Unit {0}
Same s new (e ∷ es) = (slice_range s e.start e.end ≡ new) × Same s new es

same_both : (s new : List ℕ) (ds es : List Span) → Same s new ds → Same s new es → Same s new (ds ++ es)
same_both s new [] es g h = h
same_both s new (d ∷ ds) es g h = (g.0, same_both s new ds es g.1 h)

same_found : (s new : List ℕ) (found : Option Span) → ((i j : ℕ) → found ≡ Some (record { start = i; end = j }) → slice_range s i j ≡ new) → Same s new (known found)
same_found s new None h = tt
same_found s new (Some x) h = (h x.start x.end refl, tt)

same_known : (s new : List ℕ) (spans : List Span) (from : Option ℕ) → ((i j : ℕ) → HasSpan spans from i j → slice_range s i j ≡ new) → Same s new (stretch spans from)
same_known s new spans None h = tt
same_known s new spans (Some n) h = same_found s new (slice_get spans n) h

named_new : (new old : List ℕ) (kind : NodeKind) (scalars : List Scalar) → is_named old kind scalars ≡ true → is_named new kind (Text new ∷ []) ≡ true
named_new new old kind scalars e = rw (both_true (is_identifier kind) (is_name old scalars) e) ((bytes_eq-Decides new new).1 refl)

module _ (s new old : List ℕ) (spans : List Span) where
  own_same : (kind : NodeKind) (scalars : List Scalar) (from : Option ℕ) (named : Bool) → is_named old kind scalars ≡ named → Own s spans new kind (cond named (Text new ∷ []) scalars) from
      → Same s new (cond named (stretch spans from) [])
  own_same kind scalars from false e h = tt
  own_same kind scalars from true e h = same_known s new spans from (λ i j has. h i j (named_new new old kind scalars e) has)

  mutual
    pub same_tree : (t : Syntax) → Owns s spans new (renamed old new t) → Same s new (edits old spans t)
    same_tree (node kind scalars slots notes from) h = same_both s new _ _ (own_same kind scalars from (is_named old kind scalars) refl h.0) (same_slots slots h.1)

    same_slots : (slots : Slots) → SlotsOwn s spans new (renamed_slots old new slots) → Same s new (slot_edits old spans slots)
    same_slots no_slots h = tt
    same_slots (slot list places others) h = same_both s new _ _ (same_places places h.0) (same_slots others h.1)

    same_places : (places : Places) → PlacesOwn s spans new (renamed_places old new places) → Same s new (place_edits old spans places)
    same_places no_places h = tt
    same_places (hole name others) h = same_places others h
    same_places (place name t others) h = same_both s new _ _ (same_tree t h.0) (same_places others h.1)

-- then the stretch is as it was
pub unmoved : (s new : List ℕ) (i j : ℕ) (ds es : List Span) → Between s i j ds → Same s new ds → After s j es → patched s new i (ds ++ es) ≡ slice_range s i j ++ patched s new j es
unmoved s new i j [] es g same h = split s new i j es g.0 h
unmoved s new i j (d ∷ ds) es g same h =
    let o = order s d.end j ds g.4 in
    let tail = patched s new j es in
    let a = slice_range s i d.start in
    let b = slice_range s d.start d.end in
    let c = slice_range s d.end j in
    let rest = unmoved s new d.end j ds es g.4 same.1 h in
    ap (λ v. a ++ (v ++ patched s new d.end (ds ++ es))) (sym same.0)
    ∙ (ap (λ v. a ++ (b ++ v)) rest
    ∙ (ap (λ v. a ++ v) (sym (append_assoc b c tail) ∙ ap (λ v. v ++ tail) (sym (range_split s d.start d.end j g.3 o.0)))
    ∙ (sym (append_assoc a (slice_range s d.start j) tail) ∙ ap (λ v. v ++ tail) (sym (range_split s i d.start j g.0 (omega (arith, g.3, o.0)))))))

pub kept : (s new out : List ℕ) (i j p to : ℕ) (ds es : List Span) → Between s i j ds → Same s new ds → After s j es → Rest out p (patched s new i (ds ++ es)) → Rest out to (patched s new j es)
    → slice_range out p to ≡ slice_range s i j
kept s new out i j p to ds es g same h r1 r2 =
    let w = slice_range s i j in
    let tail = patched s new j es in
    let two : Rest out p (w ++ tail) = subst (λ v. Rest out p v) (unmoved s new i j ds es g same h) r1 in
    let n1 = rest_length out (p + length w) tail (past out p w tail two) in
    let n2 = rest_length out to tail r2 in
    let e : p + length w ≡ to = omega (arith, n1, n2) in
    subst (λ v. slice_range out p v ≡ w) e (front_range out p w tail two)
