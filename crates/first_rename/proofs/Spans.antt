-- The stretch of a node, and of the identifiers in it.
use Rattle.std.proofs.Common.{◌≡◌, ◌≤◌, ◌<◌, ℕ, Bool, true, false, cond, List, [], ◌∷◌, ◌++◌, length, Option, Some, None, refl, sym, ◌∙◌, ap, subst, arith, append-nil}
use Rattle.std.specs.Prelude.{slice_index, slice_range}
use Rattle.tree_core.specs.declared.scalars.Scalar.{Scalar}
use Rattle.tree_core.specs.declared.scalars.Scalar.TheVariants.{Text}
use Rattle.tree_core.specs.declared.span.Span.{Span}
use Rattle.tree_core.specs.Syntax.{Syntax}
use Rattle.tree_core.specs.View.{Spot, Row, slots_of, places_of}
use Rattle.type_defs.specs.declared.kind.Kind.TheVariants.{Identifier}
use Rattle.first_grammar.specs.declared.table.Kind.{Kind}
use Rattle.first_grammar.specs.declared.table.Kind.TheVariants as k
use Rattle.first_grammar.specs.declared.table.Word.{Word}
use Rattle.first_grammar.specs.declared.table.Word.TheVariants as w
use Rattle.first_grammar.specs.declared.table.Category.{Category}
use Rattle.first_grammar.specs.declared.table.Part.{Part}
use Rattle.first_grammar.specs.Words.{is_start, is_name_word, NameAt, Stands}
use Rattle.first_grammar.specs.Spells.{Said, Spells, Node, Fills, Listed, InRow, formed, built, no_parts, a_token, a_name, free_name, a_child, empty_list, a_list, a_body, last, more, row_end, row_next, HasSpan, At}
use Rattle.first_rename.specs.Names.{is_named}
use Rattle.first_rename.specs.Edits.{known, stretch, edits, slot_edits, place_edits}
use Rattle.first_rename.proofs.Stretches.{Between, order, earlier, between_both}
use Rattle.first_rename.proofs.Tokens.{scan_order, no_blank_before}

node_said : (P : Said) (s : List ℕ) (kind : Kind) (i j : ℕ) (x : Syntax) → Node P s kind i j x → P x i j
node_said P s _ _ _ _ (built kind i j scalars rows from n g said) = said

pub said : (P : Said) (s : List ℕ) (i j : ℕ) (c : Category) (l : ℕ) (x : Syntax) → Spells P s i j c l x → P x i j
said P s _ _ _ _ _ (formed i j c l x kind bel high m) = node_said P s kind i j x m

abbrev start_of : Option Span → ℕ
start_of None = 0
start_of (Some x) = x.start

abbrev end_of : Option Span → ℕ
end_of None = 0
end_of (Some x) = x.end

-- a number has one stretch
pub one_stretch : (spans : List Span) (from : Option ℕ) (i j i' j' : ℕ) → HasSpan spans from i j → HasSpan spans from i' j' → (i ≡ i') × (j ≡ j')
one_stretch spans None i j i' j' a b = absurd a
one_stretch spans (Some n) i j i' j' a b =
    let e : ◌≡◌ {A = Option Span} (Some (record { start = i; end = j })) (Some (record { start = i'; end = j' })) = sym a ∙ b in (ap start_of e, ap end_of e)

pub stretch_is : (spans : List Span) (from : Option ℕ) (i j : ℕ) → HasSpan spans from i j → stretch spans from ≡ record { start = i; end = j } ∷ []
stretch_is spans None i j h = absurd h
stretch_is spans (Some n) i j h = ap known h

-- the token is a name from b to e
pub record Named (s : List ℕ) (b e : ℕ) : Type 0 where
  pub begins : is_start (slice_index s b) ≡ true
  pub order : b < e
  pub within : e ≤ length s
  pub name : NameAt s b e

named_at : (s : List ℕ) (b e : ℕ) → NameAt s b e → Named s b e
named_at s b e h = record { begins = h.first; order = omega (arith, h.rest.order); within = h.rest.within; name = h }

pub name_word : (s : List ℕ) (word : Word) (b e : ℕ) → is_name_word word ≡ true → Stands s word b e → Named s b e
name_word s w.Name b e y h = named_at s b e h.name
name_word s w.Reserved b e y h = named_at s b e h.name
name_word s w.End b e y h = absurd cc
name_word s w.OpenParen b e y h = absurd cc
name_word s w.CloseParen b e y h = absurd cc
name_word s w.Comma b e y h = absurd cc
name_word s w.Dot b e y h = absurd cc
name_word s w.Assign b e y h = absurd cc
name_word s w.Semicolon b e y h = absurd cc
name_word s w.Other b e y h = absurd cc

module _ (s : List ℕ) (spans : List Span) (old : List ℕ) where
  pub one_name : (named : Bool) (from : Option ℕ) (i j b : ℕ) → b ≡ i → Named s b j → HasSpan spans from i j → Between s i j (cond named (stretch spans from) [] ++ [])
  one_name false from i j b at n has = (omega (arith, at, n.order), n.within)
  one_name true from i j b at n has =
      subst (λ v. Between s i j (v ++ [])) (sym (stretch_is spans from i j has))
      (omega arith, omega (arith, at, n.order, n.within), subst (λ x. is_start (slice_index s x) ≡ true) at n.begins, omega (arith, at, n.order), (omega arith, n.within))

  mutual
    -- the identifiers of a tree stand in order in its stretch
    pub between : (i j : ℕ) (c : Category) (l : ℕ) (x : Syntax) → Spells (At spans) s i j c l x → j ≤ length s → Between s i j (edits old spans x)
    between _ _ _ _ _ (formed i j c l x kind bel high m) le = between_node kind i j x m le

    pub between_node : (kind : Kind) (i j : ℕ) (x : Syntax) → Node (At spans) s kind i j x → j ≤ length s → Between s i j (edits old spans x)
    between_node _ _ _ _ (built k.Identifier i j _ _ from n (a_name _ _ b e _ _ _ scan (no_parts _)) has) le =
        one_name (is_named old Identifier (Text (slice_range s b j) ∷ [])) from i j b (no_blank_before s i b scan.blank n) (name_word s w.Name b j refl scan.stands) has
    between_node _ _ _ _ (built k.PropertyName i j _ _ from n (free_name word _ _ b e _ _ _ y scan (no_parts _)) has) le =
        one_name (is_named old Identifier (Text (slice_range s b j) ∷ [])) from i j b (no_blank_before s i b scan.blank n) (name_word s word b j y scan.stands) has
    between_node _ _ _ _ (built k.Member i j scalars rows from n g has) le = between_fills _ i j scalars rows g le
    between_node _ _ _ _ (built k.Call i j scalars rows from n g has) le = between_fills _ i j scalars rows g le
    between_node _ _ _ _ (built k.Assignment i j scalars rows from n g has) le = between_fills _ i j scalars rows g le
    between_node _ _ _ _ (built k.Program i j scalars rows from n g has) le = between_fills _ i j scalars rows g le
    between_node _ _ _ _ (built k.ExpressionStatement i j scalars rows from n g has) le = between_fills _ i j scalars rows g le

    pub between_fills : (qs : List Part) (i j : ℕ) (scalars : List Scalar) (rows : List Row) → Fills (At spans) s qs i j scalars rows → j ≤ length s → Between s i j (slot_edits old spans (slots_of rows))
    between_fills _ _ _ _ _ (no_parts i) le = (omega arith, le)
    between_fills _ _ _ _ _ (a_token word qs i b e j scalars rows scan g) le = earlier s i e j _ (scan_order s i word b e scan) (between_fills qs e j scalars rows g le)
    between_fills _ _ _ _ _ (a_name qs i b e j scalars rows scan g) le = earlier s i e j _ (scan_order s i w.Name b e scan) (between_fills qs e j scalars rows g le)
    between_fills _ _ _ _ _ (free_name word qs i b e j scalars rows y scan g) le = earlier s i e j _ (scan_order s i word b e scan) (between_fills qs e j scalars rows g le)
    between_fills _ _ _ _ _ (a_child c l qs i b e j name x scalars rows blank d g) le =
        let rest = between_fills qs e j scalars rows g le in
        let here = between b e c l x d (omega (arith, (order s e j _ rest).0, le)) in
        between_both s i e j _ _ (subst (λ v. Between s i e v) (sym (append-nil (edits old spans x))) (earlier s i b e _ blank.order here)) rest
    between_fills _ _ _ _ _ (empty_list c l close qs i j scalars rows g) le = between_fills qs i j scalars rows g le
    between_fills _ _ _ _ _ (a_list c l close qs i e j xs scalars rows d g) le =
        let rest = between_fills qs e j scalars rows g le in between_both s i e j _ _ (between_listed c l i e xs d (omega (arith, (order s e j _ rest).0, le))) rest
    between_fills _ _ _ _ _ (a_body c close qs i e j xs scalars rows d g) le =
        let rest = between_fills qs e j scalars rows g le in between_both s i e j _ _ (between_row c i e xs d (omega (arith, (order s e j _ rest).0, le))) rest

    pub between_listed : (c : Category) (l i j : ℕ) (xs : List Spot) → Listed (At spans) s c l i j xs → j ≤ length s → Between s i j (place_edits old spans (places_of xs))
    between_listed _ _ _ _ _ (last c l i b e name x blank d) le = subst (λ v. Between s i e v) (sym (append-nil (edits old spans x))) (earlier s i b e _ blank.order (between b e c l x d le))
    between_listed _ _ _ _ _ (more c l i b e b' e' j name x xs blank d scan g) le =
        let rest = earlier s e e' j _ (scan_order s e w.Comma b' e' scan) (between_listed c l e' j xs g le) in
        between_both s i e j _ _ (earlier s i b e _ blank.order (between b e c l x d (omega (arith, (order s e j _ rest).0, le)))) rest

    pub between_row : (c : Category) (i j : ℕ) (xs : List Spot) → InRow (At spans) s c i j xs → j ≤ length s → Between s i j (place_edits old spans (places_of xs))
    between_row _ _ _ _ (row_end c i) le = (omega arith, le)
    between_row _ _ _ _ (row_next c i b e j name x xs blank d g) le =
        let rest = between_row c e j xs g le in between_both s i e j _ _ (earlier s i b e _ blank.order (between b e c 1 x d (omega (arith, (order s e j _ rest).0, le)))) rest
