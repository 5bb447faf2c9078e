-- The patched text spells the renamed tree.
use Rattle.std.proofs.Common.{◌≡◌, ◌≤◌, ◌+◌, ℕ, Bool, true, false, cond, List, [], ◌∷◌, ◌++◌, length, drop, Option, Some, None, refl, sym, ◌∙◌, ap, subst, arith, append_assoc, append-nil}
use Rattle.std.specs.Prelude.{slice_range}
use Rattle.tree_core.specs.declared.scalars.Scalar.{Scalar}
use Rattle.tree_core.specs.declared.scalars.Scalar.TheVariants.{Text}
use Rattle.tree_core.specs.declared.span.Span.{Span}
use Rattle.tree_core.specs.Syntax.{Syntax, node, Slots, no_slots, slot, Places, no_places, hole, place}
use Rattle.type_defs.specs.declared.kind.Kind.{Kind as NodeKind}
use Rattle.type_defs.specs.declared.kind.Kind.TheVariants.{Identifier}
use Rattle.tree_core.specs.View.{Spot, Row, slots_of, places_of}
use Rattle.first_grammar.specs.declared.table.Kind.{Kind}
use Rattle.first_grammar.specs.declared.table.Kind.TheVariants as k
use Rattle.first_grammar.specs.declared.table.Word.TheVariants as w
use Rattle.first_grammar.specs.declared.table.Category.{Category}
use Rattle.first_grammar.specs.declared.table.Category.TheVariants as c
use Rattle.first_grammar.specs.declared.table.Part.{Part}
use Rattle.first_grammar.specs.declared.table.Part.TheVariants as part
use Rattle.first_grammar.specs.Table.{node_kind, fixed, is_whole, form}
use Rattle.first_grammar.specs.Words.{WordAt}
use Rattle.first_grammar.specs.Spells.{Said, node_of, bare_notes, Begins, Spells, Node, Fills, Listed, InRow, formed, built, no_parts, a_token, a_name, free_name, a_child, empty_list, a_list, a_body, last, more, row_end, row_next, Anything, HasSpan, At, Whole, Reads}
use Rattle.first_rename.specs.Names.{IsPlainName, is_named, renamed, renamed_slots, renamed_places}
use Rattle.first_rename.specs.Edits.{Ordered, stretch, edits, slot_edits, place_edits, patched, Keeps}
use Rattle.first_rename.proofs.Stretches.{Between, After, order, ordered, earlier, between_both, empty_range, Rest, past, front_range, Reached}
use Rattle.first_rename.proofs.Tokens.{scan_order, no_blank, no_blank_before, at_end, scan_moved, blank_moved, name_put, begins_moved}
use Rattle.first_rename.proofs.Spans.{Named, said, one_stretch, stretch_is, name_word, one_name, between, between_node, between_fills, between_listed, between_row}
use Rattle.first_rename.proofs.Same.{owns, same_tree, kept}

abbrev named : List ℕ → Syntax → Bool
named old (node kind scalars slots notes from) = is_named old kind scalars

by_truth : {X : Type 0} (b : Bool) → (b ≡ false → X) → (b ≡ true → X) → X
by_truth false f g = f refl
by_truth true f g = g refl

-- the edits of a tree, and then others
module _ (old : List ℕ) (spans : List Span) where
  abbrev own_then : Bool → Option ℕ → List Span → List Span
  own_then named from es = cond named (stretch spans from) [] ++ es

  abbrev mutual
    tree_then : Syntax → List Span → List Span
    tree_then (node kind scalars slots notes from) es = own_then (is_named old kind scalars) from (slots_then slots es)

    slots_then : Slots → List Span → List Span
    slots_then no_slots es = es
    slots_then (slot list places others) es = places_then places (slots_then others es)

    places_then : Places → List Span → List Span
    places_then no_places es = es
    places_then (hole name others) es = places_then others es
    places_then (place name t others) es = tree_then t (places_then others es)

  mutual
    tree_is : (t : Syntax) (es : List Span) → edits old spans t ++ es ≡ tree_then t es
    tree_is (node kind scalars slots notes from) es =
        let own = cond (is_named old kind scalars) (stretch spans from) [] in append_assoc own (slot_edits old spans slots) es ∙ ap (λ v. own ++ v) (slots_is slots es)

    slots_is : (slots : Slots) (es : List Span) → slot_edits old spans slots ++ es ≡ slots_then slots es
    slots_is no_slots es = refl
    slots_is (slot list places others) es =
        append_assoc (place_edits old spans places) (slot_edits old spans others) es ∙ (ap (λ v. place_edits old spans places ++ v) (slots_is others es) ∙ places_is places (slots_then others es))

    places_is : (places : Places) (es : List Span) → place_edits old spans places ++ es ≡ places_then places es
    places_is no_places es = refl
    places_is (hole name others) es = places_is others es
    places_is (place name t others) es =
        append_assoc (edits old spans t) (place_edits old spans others) es ∙ (ap (λ v. edits old spans t ++ v) (places_is others es) ∙ tree_is t (places_then others es))

-- spots and rows of a renamed tree
module _ (old new : List ℕ) where
  abbrev renamed_spots : List Spot → List Spot
  renamed_spots [] = []
  renamed_spots ((name, None) ∷ xs) = (name, None) ∷ renamed_spots xs
  renamed_spots ((name, Some t) ∷ xs) = (name, Some (renamed old new t)) ∷ renamed_spots xs

  abbrev renamed_rows : List Row → List Row
  renamed_rows [] = []
  renamed_rows (x ∷ xs) = (x.0, renamed_places old new x.1) ∷ renamed_rows xs

  spots_are : (xs : List Spot) → places_of (renamed_spots xs) ≡ renamed_places old new (places_of xs)
  spots_are [] = refl
  spots_are ((name, None) ∷ xs) = ap (hole name) (spots_are xs)
  spots_are ((name, Some t) ∷ xs) = ap (place name (renamed old new t)) (spots_are xs)

  rows_are : (xs : List Row) → slots_of (renamed_rows xs) ≡ renamed_slots old new (slots_of xs)
  rows_are [] = refl
  rows_are (x ∷ xs) = ap (slot x.0 (renamed_places old new x.1)) (rows_are xs)

  -- a node that is no identifier of the old name
  node_is : (kind : Kind) (scalars : List Scalar) (rows : List Row) (from : Option ℕ) → is_named old (node_kind kind) (fixed kind ++ scalars) ≡ false
      → node_of kind scalars (renamed_rows rows) from ≡ renamed old new (node_of kind scalars rows from)
  node_is kind scalars rows from e =
      ap (λ v. node (node_kind kind) (fixed kind ++ scalars) v bare_notes from) (rows_are rows)
      ∙ ap (λ b. node (node_kind kind) (cond b (Text new ∷ []) (fixed kind ++ scalars)) (renamed_slots old new (slots_of rows)) bare_notes from) (sym e)

  -- an identifier of the old name
  name_is : (kind : NodeKind) (scalars : List Scalar) (from : Option ℕ) → is_named old kind scalars ≡ true
      → node kind (Text new ∷ []) no_slots bare_notes from ≡ renamed old new (node kind scalars no_slots bare_notes from)
  name_is kind scalars from e = ap (λ b. node kind (cond b (Text new ∷ []) scalars) no_slots bare_notes from) (sym e)

module _ (s new out : List ℕ) (plain : IsPlainName new) (spans : List Span) (old : List ℕ) where
  -- the edits of what is spelled, and then others, follow each other
  after_tree : (i j : ℕ) (c : Category) (l : ℕ) (x : Syntax) → Spells (At spans) s i j c l x → (es : List Span) → After s j es → After s i (tree_then old spans x es)
  after_tree i j c l x d es h =
      subst (λ v. After s i v) (tree_is old spans x es) (between_both s i j (length s) (edits old spans x) es (between s spans old i j c l x d (order s j (length s) es h).0) h)

  after_fills : (qs : List Part) (i j : ℕ) (scalars : List Scalar) (rows : List Row) → Fills (At spans) s qs i j scalars rows → (es : List Span) → After s j es → After s i (slots_then old spans (slots_of rows) es)
  after_fills qs i j scalars rows d es h =
      subst (λ v. After s i v) (slots_is old spans (slots_of rows) es)
      (between_both s i j (length s) (slot_edits old spans (slots_of rows)) es (between_fills s spans old qs i j scalars rows d (order s j (length s) es h).0) h)

  after_listed : (c : Category) (l i j : ℕ) (xs : List Spot) → Listed (At spans) s c l i j xs → (es : List Span) → After s j es → After s i (places_then old spans (places_of xs) es)
  after_listed c l i j xs d es h =
      subst (λ v. After s i v) (places_is old spans (places_of xs) es)
      (between_both s i j (length s) (place_edits old spans (places_of xs)) es (between_listed s spans old c l i j xs d (order s j (length s) es h).0) h)

  after_row : (c : Category) (i j : ℕ) (xs : List Spot) → InRow (At spans) s c i j xs → (es : List Span) → After s j es → After s i (places_then old spans (places_of xs) es)
  after_row c i j xs d es h =
      subst (λ v. After s i v) (places_is old spans (places_of xs) es)
      (between_both s i j (length s) (place_edits old spans (places_of xs)) es (between_row s spans old c i j xs d (order s j (length s) es h).0) h)

  after_own : (i j b : ℕ) (from : Option ℕ) (es : List Span) → Begins false s i → b ≡ i → Named s b j → HasSpan spans from i j → After s j es
      → After s i (tree_then old spans (node Identifier (Text (slice_range s b j) ∷ []) no_slots bare_notes from) es)
  after_own i j b from es n at name has h =
      let x = node Identifier (Text (slice_range s b j) ∷ []) no_slots bare_notes from in
      subst (λ v. After s i v) (tree_is old spans x es) (between_both s i j (length s) (edits old spans x) es (one_name s spans old (is_named old Identifier (Text (slice_range s b j) ∷ [])) from i j b at name has) h)

  -- what is said of each node of the patched text follows from where the node stood
  abbrev pub Follows : Said → Type 0
  Follows Q = (x : Syntax) (i j p to : ℕ) (es : List Span) → At spans x i j → Between s i j (edits old spans x) → After s j es → Rest out p (patched s new i (edits old spans x ++ es)) → Rest out to (patched s new j es)
      → Q (renamed old new x) p to

  keeps_follows : Follows (Keeps s spans out)
  keeps_follows (node kind scalars slots notes from) i j p to es has g h r1 r2 i' j' c l d =
      let x = node kind scalars slots notes from in
      let q = one_stretch spans from i j i' j' has (said (At spans) s i' j' c l (renamed old new x) d) in
      kept s new out i j p to (edits old spans x) es g (same_tree s new old spans x (owns s spans new i' j' c l (renamed old new x) d)) h r1 r2
      ∙ (ap (λ v. slice_range s v j) q.0 ∙ ap (λ v. slice_range s i' v) q.1)

  module _ (Q : Said) (follows : Follows Q) where
    said_moved : (x : Syntax) (i j p to : ℕ) (es : List Span) → At spans x i j → Between s i j (edits old spans x) → After s j es → Rest out p (patched s new i (tree_then old spans x es))
        → Rest out to (patched s new j es) → Q (renamed old new x) p to
    said_moved x i j p to es has g h r1 r2 = follows x i j p to es has g h (subst (λ v. Rest out p (patched s new i v)) (sym (tree_is old spans x es)) r1) r2

    -- the new name stands where the old one did
    put : (kind : Kind) (i j b p : ℕ) (from : Option ℕ) (es : List Span) → ((w : List ℕ) → node_of kind (Text w ∷ []) [] from ≡ node Identifier (Text w ∷ []) no_slots bare_notes from)
        → Begins false s i → b ≡ i → Named s b j → HasSpan spans from i j → After s j es → is_named old Identifier (Text (slice_range s b j) ∷ []) ≡ true
        → Rest out p (patched s new i (tree_then old spans (node Identifier (Text (slice_range s b j) ∷ []) no_slots bare_notes from) es))
        → ((q : ℕ) → WordAt false out p q → Begins false out p → Q (node_of kind (Text (slice_range out p q) ∷ []) [] from) p q → Node Q out kind p q (node_of kind (Text (slice_range out p q) ∷ []) [] from))
        → Reached s new out (λ q. Node Q out kind p q (renamed old new (node Identifier (Text (slice_range s b j) ∷ []) no_slots bare_notes from))) j es
    put kind i j b p from es is n at name has h e r make =
        let x = node Identifier (Text (slice_range s b j) ∷ []) no_slots bare_notes from in
        let tail = patched s new j es in
        let one : Rest out p (slice_range s i i ++ (new ++ tail)) = subst (λ v. Rest out p (patched s new i (v ++ es))) (ap (λ (v : Bool). cond v (stretch spans from) []) e ∙ stretch_is spans from i j has) r in
        let two : Rest out p (new ++ tail) = subst (λ v. Rest out p (v ++ (new ++ tail))) (empty_range s i) one in
        let q = p + length new in
        let rest = past out p new tail two in
        let word = name_put s new out plain j p es h name.name.last two in
        let begins = begins_moved s new out plain false i p (tree_then old spans x es) n (after_own i j b from es n at name has h) r in
        let same = is (slice_range out p q) ∙ (ap (λ v. node Identifier (Text v ∷ []) no_slots bare_notes from) (front_range out p new tail two) ∙ name_is old new Identifier (Text (slice_range s b j) ∷ []) from e) in
        let here = said_moved x i j p q es has (one_name s spans old (is_named old Identifier (Text (slice_range s b j) ∷ [])) from i j b at name has) h r rest in
        record { to = q; is = subst (λ v. Node Q out kind p q v) same (make q word begins (subst (λ v. Q v p q) (sym same) here)); rest = rest }

    put_named : (kind : Kind) (i j : ℕ) (x : Syntax) → Node (At spans) s kind i j x → named old x ≡ true → (p : ℕ) (es : List Span) → After s j es → Rest out p (patched s new i (tree_then old spans x es))
        → Reached s new out (λ q. Node Q out kind p q (renamed old new x)) j es
    put_named _ _ _ _ (built k.Identifier i j _ _ from n (a_name _ _ b e _ _ _ scan (no_parts _)) has) y p es h r =
        put k.Identifier i j b p from es (λ w. refl) n (no_blank_before s i b scan.blank n) (name_word s w.Name b j refl scan.stands) has h y r
        (λ q word begins here. built k.Identifier p q _ [] from begins (a_name [] p p q q [] [] (record { blank = no_blank out p (omega (arith, begins.0)); stands = word }) (no_parts q)) here)
    put_named _ _ _ _ (built k.PropertyName i j _ _ from n (free_name word _ _ b e _ _ _ any scan (no_parts _)) has) y p es h r =
        put k.PropertyName i j b p from es (λ w. refl) n (no_blank_before s i b scan.blank n) (name_word s word b j any scan.stands) has h y r
        (λ q word begins here. built k.PropertyName p q _ [] from begins (free_name w.Name [] p p q q [] [] refl (record { blank = no_blank out p (omega (arith, begins.0)); stands = word }) (no_parts q)) here)
    put_named _ _ _ _ (built k.Member i j scalars rows from n g has) y p es h r = absurd cc
    put_named _ _ _ _ (built k.Call i j scalars rows from n g has) y p es h r = absurd cc
    put_named _ _ _ _ (built k.Assignment i j scalars rows from n g has) y p es h r = absurd cc
    put_named _ _ _ _ (built k.Program i j scalars rows from n g has) y p es h r = absurd cc
    put_named _ _ _ _ (built k.ExpressionStatement i j scalars rows from n g has) y p es h r = absurd cc

    -- a node that is no identifier of the old name, from its parts
    built_anew : (kind : Kind) (i j p : ℕ) (scalars : List Scalar) (rows : List Row) (from : Option ℕ) (es : List Span) → Begins (is_whole kind) s i → Fills (At spans) s (form kind) i j scalars rows → HasSpan spans from i j
        → is_named old (node_kind kind) (fixed kind ++ scalars) ≡ false → After s j es → Rest out p (patched s new i (tree_then old spans (node_of kind scalars rows from) es))
        → (Rest out p (patched s new i (slots_then old spans (slots_of rows) es)) → Reached s new out (λ q. Fills Q out (form kind) p q scalars (renamed_rows old new rows)) j es)
        → Reached s new out (λ q. Node Q out kind p q (renamed old new (node_of kind scalars rows from))) j es
    built_anew kind i j p scalars rows from es n g has e h r go =
        let x = node_of kind scalars rows from in
        let r2 : Rest out p (patched s new i (slots_then old spans (slots_of rows) es)) = subst (λ v. Rest out p (patched s new i (own_then old spans v from (slots_then old spans (slots_of rows) es)))) e r in
        let m = go r2 in
        let same = node_is old new kind scalars rows from e in
        let begins = begins_moved s new out plain (is_whole kind) i p _ n (after_fills (form kind) i j scalars rows g es h) r2 in
        let here = said_moved x i j p m.to es has (between_node s spans old kind i j x (built kind i j scalars rows from n g has) (order s j (length s) es h).0) h r m.rest in
        record { to = m.to; is = subst (λ v. Node Q out kind p m.to v) same (built kind p m.to scalars (renamed_rows old new rows) from begins m.is (subst (λ v. Q v p m.to) (sym same) here)); rest = m.rest }

    mutual
      moved : (i j : ℕ) (c : Category) (l : ℕ) (x : Syntax) → Spells (At spans) s i j c l x → (p : ℕ) (es : List Span) → After s j es → Rest out p (patched s new i (tree_then old spans x es))
          → Reached s new out (λ q. Spells Q out p q c l (renamed old new x)) j es
      moved _ _ _ _ _ (formed i j c l x kind bel high m) p es h r =
          let y = moved_node kind i j x m p es h r in
          record { to = y.to; is = formed p y.to c l (renamed old new x) kind bel high y.is; rest = y.rest }

      moved_node : (kind : Kind) (i j : ℕ) (x : Syntax) → Node (At spans) s kind i j x → (p : ℕ) (es : List Span) → After s j es → Rest out p (patched s new i (tree_then old spans x es))
          → Reached s new out (λ q. Node Q out kind p q (renamed old new x)) j es
      moved_node _ _ _ _ (built kind i j scalars rows from n g has) p es h r =
          by_truth (is_named old (node_kind kind) (fixed kind ++ scalars))
          (λ e. built_anew kind i j p scalars rows from es n g has e h r (λ r2. moved_fills (form kind) i j scalars rows g p es h r2))
          (λ e. put_named kind i j (node_of kind scalars rows from) (built kind i j scalars rows from n g has) e p es h r)

      moved_fills : (qs : List Part) (i j : ℕ) (scalars : List Scalar) (rows : List Row) → Fills (At spans) s qs i j scalars rows → (p : ℕ) (es : List Span) → After s j es
          → Rest out p (patched s new i (slots_then old spans (slots_of rows) es)) → Reached s new out (λ q. Fills Q out qs p q scalars (renamed_rows old new rows)) j es
      moved_fills _ _ _ _ _ (no_parts i) p es h r = record { to = p; is = no_parts p; rest = r }
      moved_fills _ _ _ _ _ (a_token word qs i b e j scalars rows scan g) p es h r =
          let t = scan_moved s new out plain word i b e p _ scan (after_fills qs e j scalars rows g es h) r in
          let y = moved_fills qs e j scalars rows g t.to es h t.rest in
          record { to = y.to; is = a_token word qs p t.is.start t.to y.to scalars (renamed_rows old new rows) t.is.scan y.is; rest = y.rest }
      moved_fills _ _ _ _ _ (a_name qs i b e j scalars rows scan g) p es h r =
          let t = scan_moved s new out plain w.Name i b e p _ scan (after_fills qs e j scalars rows g es h) r in
          let y = moved_fills qs e j scalars rows g t.to es h t.rest in
          record {
            to = y.to;
            is = subst (λ v. Fills Q out (part.Name ∷ qs) p y.to (Text v ∷ scalars) (renamed_rows old new rows)) t.is.text (a_name qs p t.is.start t.to y.to scalars (renamed_rows old new rows) t.is.scan y.is);
            rest = y.rest;
          }
      moved_fills _ _ _ _ _ (free_name word qs i b e j scalars rows any scan g) p es h r =
          let t = scan_moved s new out plain word i b e p _ scan (after_fills qs e j scalars rows g es h) r in
          let y = moved_fills qs e j scalars rows g t.to es h t.rest in
          record {
            to = y.to;
            is = subst (λ v. Fills Q out (part.AnyName ∷ qs) p y.to (Text v ∷ scalars) (renamed_rows old new rows)) t.is.text (free_name word qs p t.is.start t.to y.to scalars (renamed_rows old new rows) any t.is.scan y.is);
            rest = y.rest;
          }
      moved_fills _ _ _ _ _ (a_child c l qs i b e j name x scalars rows blank d g) p es h r =
          let behind = after_fills qs e j scalars rows g es h in
          let m = blank_moved s new out plain i b p _ blank (after_tree b e c l x d _ behind) r in
          let z = moved b e c l x d m.to _ behind m.rest in
          let y = moved_fills qs e j scalars rows g z.to es h z.rest in
          record { to = y.to; is = a_child c l qs p m.to z.to y.to name (renamed old new x) scalars (renamed_rows old new rows) m.is z.is y.is; rest = y.rest }
      moved_fills _ _ _ _ _ (empty_list c l close qs i j scalars rows g) p es h r =
          let y = moved_fills qs i j scalars rows g p es h r in record { to = y.to; is = empty_list c l close qs p y.to scalars (renamed_rows old new rows) y.is; rest = y.rest }
      moved_fills _ _ _ _ _ (a_list c l close qs i e j xs scalars rows d g) p es h r =
          let behind = after_fills qs e j scalars rows g es h in
          let z = moved_listed c l i e xs d p _ behind r in
          let y = moved_fills qs e j scalars rows g z.to es h z.rest in
          record {
            to = y.to;
            is = subst (λ v. Fills Q out (part.List c l close ∷ qs) p y.to scalars ((true, v) ∷ renamed_rows old new rows)) (spots_are old new xs)
                (a_list c l close qs p z.to y.to (renamed_spots old new xs) scalars (renamed_rows old new rows) z.is y.is);
            rest = y.rest;
          }
      moved_fills _ _ _ _ _ (a_body c close qs i e j xs scalars rows d g) p es h r =
          let behind = after_fills qs e j scalars rows g es h in
          let z = moved_row c i e xs d p _ behind r in
          let y = moved_fills qs e j scalars rows g z.to es h z.rest in
          record {
            to = y.to;
            is = subst (λ v. Fills Q out (part.Body c close ∷ qs) p y.to scalars ((true, v) ∷ renamed_rows old new rows)) (spots_are old new xs)
                (a_body c close qs p z.to y.to (renamed_spots old new xs) scalars (renamed_rows old new rows) z.is y.is);
            rest = y.rest;
          }

      moved_listed : (c : Category) (l i j : ℕ) (xs : List Spot) → Listed (At spans) s c l i j xs → (p : ℕ) (es : List Span) → After s j es → Rest out p (patched s new i (places_then old spans (places_of xs) es))
          → Reached s new out (λ q. Listed Q out c l p q (renamed_spots old new xs)) j es
      moved_listed _ _ _ _ _ (last c l i b e name x blank d) p es h r =
          let m = blank_moved s new out plain i b p _ blank (after_tree b e c l x d _ h) r in
          let z = moved b e c l x d m.to _ h m.rest in
          record { to = z.to; is = last c l p m.to z.to name (renamed old new x) m.is z.is; rest = z.rest }
      moved_listed _ _ _ _ _ (more c l i b e b' e' j name x xs blank d scan g) p es h r =
          let behind = after_listed c l e' j xs g es h in
          let before = earlier s e e' (length s) _ (scan_order s e w.Comma b' e' scan) behind in
          let m = blank_moved s new out plain i b p _ blank (after_tree b e c l x d _ before) r in
          let z = moved b e c l x d m.to _ before m.rest in
          let t = scan_moved s new out plain w.Comma e b' e' z.to _ scan behind z.rest in
          let y = moved_listed c l e' j xs g t.to es h t.rest in
          record { to = y.to; is = more c l p m.to z.to t.is.start t.to y.to name (renamed old new x) (renamed_spots old new xs) m.is z.is t.is.scan y.is; rest = y.rest }

      moved_row : (c : Category) (i j : ℕ) (xs : List Spot) → InRow (At spans) s c i j xs → (p : ℕ) (es : List Span) → After s j es → Rest out p (patched s new i (places_then old spans (places_of xs) es))
          → Reached s new out (λ q. InRow Q out c p q (renamed_spots old new xs)) j es
      moved_row _ _ _ _ (row_end c i) p es h r = record { to = p; is = row_end c p; rest = r }
      moved_row _ _ _ _ (row_next c i b e j name x xs blank d g) p es h r =
          let behind = after_row c e j xs g es h in
          let m = blank_moved s new out plain i b p _ blank (after_tree b e c 1 x d _ behind) r in
          let z = moved b e c 1 x d m.to _ behind m.rest in
          let y = moved_row c e j xs g z.to es h z.rest in
          record { to = y.to; is = row_next c p m.to z.to y.to name (renamed old new x) (renamed_spots old new xs) m.is z.is y.is; rest = y.rest }

    -- the whole text
    whole_moved : (t : Syntax) → Whole (At spans) s t → out ≡ patched s new 0 (edits old spans t) → Whole Q out (renamed old new t)
    whole_moved t d e =
        let le : length s ≤ length s = omega arith in
        let start : drop 0 out ≡ patched s new 0 (tree_then old spans t []) = e ∙ ap (λ v. patched s new 0 v) (sym (append-nil (edits old spans t)) ∙ tree_is old spans t []) in
        let m = moved 0 (length s) c.Program 1 t d 0 [] (le, le) (record { within = omega arith; is = start }) in
        subst (λ v. Spells Q out 0 v c.Program 1 (renamed old new t)) (at_end s new out plain (length s) m.to [] refl (le, le) m.rest) m.is

module _ (s new : List ℕ) (plain : IsPlainName new) (spans : List Span) (old : List ℕ) (t : Syntax) (spelled : Whole (At spans) s t) where
  pub reads_renamed : (out : List ℕ) → out ≡ patched s new 0 (edits old spans t) → Reads out (renamed old new t)
  reads_renamed out e = whole_moved s new out plain spans old Anything (λ x i j p to es has g h r1 r2. tt) t spelled e

  pub keeps_renamed : (out : List ℕ) → out ≡ patched s new 0 (edits old spans t) → Whole (Keeps s spans out) out (renamed old new t)
  keeps_renamed out e = whole_moved s new out plain spans old (Keeps s spans out) (keeps_follows s new out plain spans old) t spelled e

  pub ordered_edits : Ordered s 0 (edits old spans t)
  ordered_edits = ordered s 0 (edits old spans t) (between s spans old 0 (length s) c.Program 1 t spelled (omega arith))
