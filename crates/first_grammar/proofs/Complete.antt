-- The reader arrives where a spelled tree ends, with that tree up to its numbers and place names.
use Rattle.std.proofs.Common.{◌≡◌, ◌≤◌, ◌<◌, ◌+◌, ◌-◌, ℕ, zero, suc, Bool, true, false, nat_le, ◌⊎◌, inl, inr, List, [], ◌∷◌, ◌++◌, Option, Some, None, Ok, Err, refl, sym, ◌∙◌, ap, subst, arith, length, append-nil}
use Rattle.std.specs.Prelude.{IsTrue, nat_lt, if◌then◌else◌, slice_index, slice_range}
use Rattle.std.proofs.lemmas.Bool.{and_from, le-leb, leb-false, ltb-true, ltb-false}
use Rattle.tree_core.specs.declared.scalars.Scalar.{Scalar}
use Rattle.tree_core.specs.declared.scalars.Scalar.TheVariants as scalar
use Rattle.tree_core.specs.declared.span.Span.{Span}
use Rattle.tree_core.specs.declared.tree.PlaceName.{PlaceName}
use Rattle.tree_core.specs.Syntax.{Syntax}
use Rattle.tree_core.specs.View.{Spot, Row}
use Rattle.tree_core.specs.Bare.{bare}
use Rattle.tree_core.specs.Height.{height}
use Rattle.first_grammar.specs.declared.cursor.Token.{Token}
use Rattle.first_grammar.specs.declared.table.Kind.{Kind}
use Rattle.first_grammar.specs.declared.table.Word.{Word}
use Rattle.first_grammar.specs.declared.table.Word.TheVariants as w
use Rattle.first_grammar.specs.declared.table.Category.{Category}
use Rattle.first_grammar.specs.declared.table.Category.TheVariants as c
use Rattle.first_grammar.specs.declared.table.Part.{Part}
use Rattle.first_grammar.specs.declared.table.Part.TheVariants as p
use Rattle.first_grammar.specs.declared.error.ReadError.TheVariants.{Nesting}
use Rattle.first_grammar.specs.Table.{same_word, level, belongs, is_whole, left, infix_word, tail, form, led_by, begun_by}
use Rattle.first_grammar.specs.Words.{is_name_word, is_blank, Blank, Scan}
use Rattle.first_grammar.specs.Spells.{Said, Begins, Spells, formed, Node, built, Fills, no_parts, a_token, a_name, free_name, a_child, empty_list, a_list, a_body, Listed, last, more, InRow, row_end, row_next, node_of, one, all, Whole}
use Rattle.first_grammar.specs.Input.{Input, Outcome, and_then, scan, word, opening, next, start_of, settled, sees, eat, pure, numbered, begin}
use Rattle.first_grammar.specs.Reading.{Read, made, Kinded, with_scalar, with_row, unnamed, shallow, choose, listed_from, listed, in_row_from, in_row, part, parts, filled, begun, first, climb, climbed, whole, node}
use Rattle.first_grammar.proofs.Tokens.{scan_is, scan_after, scan_begins, is_end, stands_order}
use Rattle.first_grammar.proofs.Forms.{read_in, is_program, may_open, Halts, Yields, Inner, MayFollow, MayEnd, FirstToken, moves, form_moves, led_parts, plain_parts, inner_kind, left_inner, left_level, leads_back, led_not_end, led_inner, name_not_end, belongs_where_read, left_where_read, form_opens, chooses, leads_none, program_halts, tail_may_end}
use Rattle.first_grammar.proofs.Bares.{bare_spots, bare_rows, spots_height, rows_height, all_alike, one_alike, node_alike, height_alike, some_height, Adds, adds_none, adds_scalar, adds_row, adds_through, spots_last, spots_more}
use Rattle.first_grammar.proofs.Reach.{put, Reached, reached_then, seen_word, unseen_word, sees_it, goes_past, part_token, part_name, part_any_name, chooses_none, chooses_kind, climb_halts}

-- the reader comes from i to a tree that begins at b
abbrev Arrives : Bool → List ℕ → ℕ → ℕ → Type 0
Arrives true s i b = i ≡ b
Arrives false s i b = Blank s i b

-- What a place of a least level makes of a tree that ends at e: it goes on from a tree like it.
abbrev GoesOn : List ℕ → ℕ → ℕ → ℕ → Category → Syntax → Kind → Outcome Syntax → Type 0
GoesOn s e depth least c x kind r =
    ((n : ℕ) × (start : ℕ) × (u : Syntax) × (spans : List Span) × (length s ≤ e + n) × (bare u ≡ bare x) × (r ≡ climb depth (node depth) c least start n u kind (put s e spans)))
    ⊎ ((at : ℕ) × (r ≡ Err (Nesting at)) × (depth + 1 < height x))

-- how a tree that stands from b to e is read
record TreeRead (s : List ℕ) (b e : ℕ) (d : Category) (l : ℕ) (x : Syntax) : Type 0 where
  kind : Kind
  belongs_there : belongs kind d ≡ true
  order : b ≤ e
  longer : is_whole kind ≡ false → b < e
  begins : Begins (is_whole kind) s b
  starts : may_open d (scan s b).word ≡ true
  high : l ≤ level kind
  reads : (depth least i : ℕ) (spans : List Span) → least ≤ l → Yields (read_in d) l (scan s e).word → Arrives (is_whole kind) s i b
      → GoesOn s e depth least (read_in d) x kind (whole depth (node depth) (read_in d) least (put s i spans))

record PartsMet (s : List ℕ) (qs : List Part) (i j : ℕ) (scalars : List Scalar) (rows : List Row) : Type 0 where
  reads : (depth : ℕ) (r : Read) (spans : List Span) → MayEnd qs (scan s j).word → Reached (Adds r scalars rows) s j (rows_height rows) depth (parts (node depth) qs r (put s i spans))

record TokenFirst (s : List ℕ) (k : Word) (qs : List Part) (i j : ℕ) (scalars : List Scalar) (rows : List Row) : Type 0 where
  start : ℕ
  end : ℕ
  token : Scan s i k start end
  order : end ≤ j
  remains : PartsMet s qs end j scalars rows

abbrev TokenLed : List ℕ → List Part → ℕ → ℕ → List Scalar → List Row → Type 0
TokenLed s (p.Token k ∷ qs) i j scalars rows = TokenFirst s k qs i j scalars rows
TokenLed s _ i j scalars rows = Unit {0}

record ChildFirst (s : List ℕ) (d : Category) (l : ℕ) (qs : List Part) (i j : ℕ) (scalars : List Scalar) (rows : List Row) : Type 0 where
  start : ℕ
  end : ℕ
  name : Option PlaceName
  x : Syntax
  rest : List Row
  rows_are : rows ≡ one name x ∷ rest
  blank : Blank s i start
  child : TreeRead s start end d l x
  remains : TokenLed s qs end j scalars rest

abbrev ChildLed : List ℕ → List Part → ℕ → ℕ → List Scalar → List Row → Type 0
ChildLed s (p.Child d l ∷ qs) i j scalars rows = ChildFirst s d l qs i j scalars rows
ChildLed s _ i j scalars rows = Unit {0}

record FormMet (s : List ℕ) (qs : List Part) (i j : ℕ) (scalars : List Scalar) (rows : List Row) : Type 0 where
  all_parts : PartsMet s qs i j scalars rows
  worded : TokenLed s qs i j scalars rows
  led : ChildLed s qs i j scalars rows
  first_of : FirstToken qs (scan s i).word
  order : i ≤ j
  longer : moves qs ≡ true → i < j

abbrev Grown : List Spot → List Spot → List Spot → Type 0
Grown found xs ys = bare_spots ys ≡ bare_spots found ++ bare_spots xs

record ListMet (s : List ℕ) (d : Category) (l i j : ℕ) (xs : List Spot) : Type 0 where
  order : i ≤ j
  starts : is_program d ≡ false → may_open d (scan s i).word ≡ true
  reads : (depth n : ℕ) (found : List Spot) (spans : List Span) → length s ≤ i + n → Inner d → Halts d l (scan s j).word → same_word (scan s j).word w.Comma ≡ false
      → Reached (Grown found xs) s j (spots_height xs) depth (listed_from (node depth) d l n found (put s i spans))

record RowMet (s : List ℕ) (d : Category) (i j : ℕ) (xs : List Spot) : Type 0 where
  order : i ≤ j
  reads : (depth n : ℕ) (close : Word) (found : List Spot) (spans : List Span) → length s ≤ i + n → Inner d → ((other : Word) → Halts d 1 other) → (scan s j).word ≡ close → may_open d close ≡ false
      → Reached (Grown found xs) s j (spots_height xs) depth (in_row_from (node depth) d close n found (put s i spans))

-- ---- one tree

halts_yields : (d : Category) (l : ℕ) (word : Word) → Halts d l word → Yields d l word
halts_yields d l word stop kind e b = inl (stop kind e b)

node_met : (s : List ℕ) (b e : ℕ) (d : Category) (l : ℕ) (x : Syntax) (t : TreeRead s b e d l x) (depth i : ℕ) (spans : List Span) → Halts (read_in d) l (scan s e).word → Arrives (is_whole t.kind) s i b
    → Reached (λ u. bare u ≡ bare x) s e (height x) depth (node depth (read_in d) l (put s i spans))
unfolding node
node_met s b e d l x t zero i spans stop arrives = inr (opening (put s i spans), refl, some_height x)
node_met s b e d l x t (suc depth) i spans stop arrives =
    elim (t.reads depth l i spans (omega arith) (halts_yields (read_in d) l (scan s e).word stop) arrives) [
      | inl h ↦ inl (h.2, h.3, h.6 ∙ climb_halts depth (node depth) (read_in d) l h.1 h.0 h.2 t.kind (put s e h.3) (chooses_none (read_in d) l t.kind (scan s e).word stop), h.5)
      | inr h ↦ inr (h.0, h.1, omega arith)
    ]

child_begins : (s : List ℕ) (b e : ℕ) (d : Category) (l : ℕ) (x : Syntax) (t : TreeRead s b e d l x) → is_program d ≡ false → Begins false s b
child_begins s b e d l x t inner = subst (λ z. Begins z s b) (inner_kind t.kind d t.belongs_there inner) t.begins

child_opens : (s : List ℕ) (i b e : ℕ) (d : Category) (l : ℕ) (x : Syntax) (t : TreeRead s b e d l x) → Blank s i b → is_program d ≡ false → may_open d (scan s i).word ≡ true
child_opens s i b e d l x t blank inner = subst (λ (z : Token). may_open d z.word ≡ true) (sym (scan_after s i b blank (child_begins s b e d l x t inner))) t.starts

-- where the place is read as itself
child_met : (s : List ℕ) (b e : ℕ) (d : Category) (l : ℕ) (x : Syntax) (t : TreeRead s b e d l x) (depth i : ℕ) (spans : List Span) → Blank s i b → Inner d → Halts d l (scan s e).word
    → Reached (λ u. bare u ≡ bare x) s e (height x) depth (node depth d l (put s i spans))
child_met s b e d l x t depth i spans blank inner stop =
    subst (λ z. Reached (λ u. bare u ≡ bare x) s e (height x) depth (node depth z l (put s i spans))) inner.0
    (node_met s b e d l x t depth i spans (subst (λ z. Halts z l (scan s e).word) (sym inner.0) stop)
    (subst (λ z. Arrives z s i b) (sym (inner_kind t.kind d t.belongs_there inner.1)) blank))

-- ---- parts

follows_next : (P : Said) (s : List ℕ) (q : Part) (qs : List Part) (k j : ℕ) (scalars : List Scalar) (rows : List Row) → Fills P s qs k j scalars rows → MayEnd (q ∷ qs) (scan s j).word
    → MayFollow q (scan s k).word × MayEnd qs (scan s j).word
follows_next P s q _ _ _ _ _ (no_parts i) e = (e, tt)
follows_next P s q _ _ _ _ _ (a_token k qs i b m j scalars rows token fills) e = (e.0 (scan s i).word (ap (λ (z : Token). z.word) (scan_is s i k b m token)), e.1)
follows_next P s q _ _ _ _ _ (a_name qs i b m j scalars rows token fills) e = (e.0 (scan s i).word tt, e.1)
follows_next P s q _ _ _ _ _ (free_name k qs i b m j scalars rows is token fills) e = (e.0 (scan s i).word tt, e.1)
follows_next P s q _ _ _ _ _ (a_child d l qs i b m j name x scalars rows blank t fills) e = (e.0 (scan s i).word tt, e.1)
follows_next P s q _ _ _ _ _ (empty_list d l close qs i j scalars rows fills) e = (e.0 (scan s i).word tt, e.1)
follows_next P s q _ _ _ _ _ (a_list d l close qs i m j xs scalars rows t fills) e = (e.0 (scan s i).word tt, e.1)
follows_next P s q _ _ _ _ _ (a_body d close qs i m j xs scalars rows t fills) e = (e.0 (scan s i).word tt, e.1)

part_child : (s : List ℕ) (i b e : ℕ) (d : Category) (l : ℕ) (x : Syntax) (name : Option PlaceName) (t : TreeRead s b e d l x) → Blank s i b → (depth : ℕ) (r : Read) (spans : List Span) → MayFollow (p.Child d l) (scan s e).word
    → Reached (Adds r [] (one name x ∷ [])) s e (height x) depth (part (node depth) (p.Child d l) r (put s i spans))
unfolding part
part_child s i b e d l x name t blank depth r spans f =
    reached_then (λ u. bare u ≡ bare x) (Adds r [] (one name x ∷ [])) s e e (height x) (height x) (height x) depth (node depth d l (put s i spans)) (λ u. pure (with_row r (one None u))) (omega arith) (omega arith)
    (child_met s b e d l x t depth i spans blank f.0 f.1)
    (λ u spans' like. inl (with_row r (one None u), spans', refl, adds_row r (one None u) (one name x) (one_alike None name u x like)))

part_empty : (s : List ℕ) (i : ℕ) (d : Category) (l : ℕ) (close : Word) (depth : ℕ) (r : Read) (spans : List Span) → (scan s i).word ≡ close
    → Reached (Adds r [] (all [] ∷ [])) s i 0 depth (part (node depth) (p.List d l close) r (put s i spans))
unfolding part listed
part_empty s i d l close depth r spans e = inl (with_row r (all []), spans, rw (seen_word (scan s i).word close e) refl, adds_row r (all []) (all []) refl)

part_list : (s : List ℕ) (i e : ℕ) (d : Category) (l : ℕ) (close : Word) (xs : List Spot) (t : ListMet s d l i e xs) (depth : ℕ) (r : Read) (spans : List Span) → MayFollow (p.List d l close) (scan s e).word
    → Reached (Adds r [] (all xs ∷ [])) s e (spots_height xs) depth (part (node depth) (p.List d l close) r (put s i spans))
unfolding part listed
part_list s i e d l close xs t depth r spans f =
    let no : sees close (put s i spans) ≡ false = unseen_word (may_open d) (scan s i).word close (t.starts f.0.1) f.4 in
    let comma : same_word (scan s e).word w.Comma ≡ false = subst (λ z. same_word z w.Comma ≡ false) (sym f.2) f.3 in
    let got = t.reads depth (length s - i) [] spans (omega arith) f.0 f.1 comma in
    let all_of : Reached (Grown [] xs) s e (spots_height xs) depth (listed (node depth) d l close (put s i spans)) = rw no got in
    reached_then (Grown [] xs) (Adds r [] (all xs ∷ [])) s e e (spots_height xs) (spots_height xs) (spots_height xs) depth (listed (node depth) d l close (put s i spans)) (λ ys. pure (with_row r (all ys))) (omega arith) (omega arith) all_of
    (λ ys spans' like. inl (with_row r (all ys), spans', refl, adds_row r (all ys) (all xs) (all_alike ys xs like)))

part_body : (s : List ℕ) (i e : ℕ) (d : Category) (close : Word) (xs : List Spot) (t : RowMet s d i e xs) (depth : ℕ) (r : Read) (spans : List Span) → MayFollow (p.Body d close) (scan s e).word
    → Reached (Adds r [] (all xs ∷ [])) s e (spots_height xs) depth (part (node depth) (p.Body d close) r (put s i spans))
unfolding part in_row
part_body s i e d close xs t depth r spans f =
    reached_then (Grown [] xs) (Adds r [] (all xs ∷ [])) s e e (spots_height xs) (spots_height xs) (spots_height xs) depth (in_row (node depth) d close (put s i spans)) (λ ys. pure (with_row r (all ys))) (omega arith) (omega arith)
    (t.reads depth (length s - i) close [] spans (omega arith) f.0 f.1 f.2 f.3)
    (λ ys spans' like. inl (with_row r (all ys), spans', refl, adds_row r (all ys) (all xs) (all_alike ys xs like)))

no_parts_read : (s : List ℕ) (i : ℕ) → PartsMet s [] i i [] []
no_parts_read s i = record { reads = λ depth r spans ends. inl (r, spans, refl, adds_none r) }

-- a part and those behind it
one_more : (P : Said) (s : List ℕ) (q : Part) (qs : List Part) (i k j : ℕ) (n scalars : List Scalar) (ss rows : List Row) (h : ℕ) → h ≤ rows_height (ss ++ rows) → rows_height rows ≤ rows_height (ss ++ rows)
    → Fills P s qs k j scalars rows → PartsMet s qs k j scalars rows
    → ((depth : ℕ) (r : Read) (spans : List Span) → MayFollow q (scan s k).word → Reached (Adds r n ss) s k h depth (part (node depth) q r (put s i spans)))
    → PartsMet s (q ∷ qs) i j (n ++ scalars) (ss ++ rows)
one_more P s q qs i k j n scalars ss rows h le lh fills f reads = record {
  reads = λ depth r spans ends.
      let split = follows_next P s q qs k j scalars rows fills ends in
      reached_then (Adds r n ss) (Adds r (n ++ scalars) (ss ++ rows)) s k j h (rows_height rows) (rows_height (ss ++ rows)) depth (part (node depth) q r (put s i spans)) (parts (node depth) qs) le lh (reads depth r spans split.0)
      (λ new spans' a. elim (f.reads depth new spans' split.1) [
        | inl g ↦ inl (g.0, g.1, g.2, adds_through r new g.0 n scalars ss rows a g.3)
        | inr g ↦ inr g
      ]);
}

-- ---- from parts to trees

shallow_met : (s : List ℕ) (depth h j : ℕ) (new : Read) (spans : List Span) → rows_height new.1 ≤ h → Reached (λ _. Unit {0}) s j h depth (shallow depth new (put s j spans))
shallow_met s depth h j new spans low = go (nat_le (rows_height new.1) depth) refl
  where
    go : (v : Bool) → nat_le (rows_height new.1) depth ≡ v → Reached (λ _. Unit {0}) s j h depth (shallow depth new (put s j spans))
    go true e = inl (tt, spans, rw e refl, tt)
    go false e = inr (opening (put s j spans), rw e refl, omega (arith, leb-false _ _ e, low))

-- a node no higher than h over the root, whose children are as high as h
filled_met : (s : List ℕ) (kind : Kind) (i j : ℕ) (scalars : List Scalar) (rows : List Row) (f : PartsMet s (tail kind) i j scalars rows) (x : Syntax) (h depth start : ℕ) (r : Read) (spans : List Span)
    → rows_height rows ≤ h → height x ≤ suc h → MayEnd (tail kind) (scan s j).word → ((new : Read) (from : ℕ) → Adds r scalars rows new → bare (made kind new from) ≡ bare x)
    → Reached (λ u. bare u ≡ bare x) s j h depth (filled depth (node depth) kind start r (put s i spans))
unfolding filled numbered
filled_met s kind i j scalars rows f x h depth start r spans below high ends like =
    reached_then (Adds r scalars rows) (λ u. bare u ≡ bare x) s j j (rows_height rows) h h depth (parts (node depth) (tail kind) r (put s i spans))
    (λ new. λ i. and_then (shallow depth new i) (λ _. λ i. and_then (numbered start i) (λ from. pure (made kind new from))))
    below (omega arith) (f.reads depth r spans ends)
    (λ new spans' a.
    let same : height (made kind new 0) ≡ height x = height_alike (made kind new 0) x (like new 0 a) in
    reached_then (λ _. Unit {0}) (λ u. bare u ≡ bare x) s j j h h h depth (shallow depth new (put s j spans')) (λ _. λ i. and_then (numbered start i) (λ from. pure (made kind new from)))
    (omega arith) (omega arith) (shallow_met s depth h j new spans' (omega (arith, same, high)))
    (λ _ later _. inl (made kind new (length later), later ++ record { start = start; end = j } ∷ [], refl, like new (length later) a)))

arrives_word : (whole : Bool) (s : List ℕ) (i b : ℕ) → Arrives whole s i b → Begins whole s b → (scan s i).word ≡ (scan s b).word
arrives_word true s i b is begins = ap (λ z. (scan s z).word) is
arrives_word false s i b blank begins = ap (λ (z : Token). z.word) (scan_after s i b blank begins)

arrives_settled : (s : List ℕ) (kind : Kind) (i b : ℕ) (spans : List Span) → Arrives (is_whole kind) s i b → Begins (is_whole kind) s b → settled kind (put s i spans) ≡ put s b spans
arrives_settled s kind i b spans = go (is_whole kind) refl
  where
    go : (v : Bool) → is_whole kind ≡ v → Arrives v s i b → Begins v s b → settled kind (put s i spans) ≡ put s b spans
    go true e is begins = rw e (ap (λ z. put s z spans) is)
    go false e blank begins = rw e (ap (λ z. put s z spans) (ap (λ (z : Token). z.start) (scan_after s i b blank begins) ∙ scan_begins s b begins))

abbrev Like : Syntax → Kind → Kinded → Type 0
Like x kind u = (bare u.0 ≡ bare x) × (u.1 ≡ kind)

begun_met : (s : List ℕ) (d : Category) (least : ℕ) (kind : Kind) (b e : ℕ) (scalars : List Scalar) (rows : List Row) (f : PartsMet s (tail kind) b e scalars rows) (from : Option ℕ) (depth i : ℕ) (spans : List Span)
    → belongs kind d ≡ true → least ≤ level kind → begun_by d (scan s b).word ≡ Some kind → Begins (is_whole kind) s b → MayEnd (tail kind) (scan s e).word → Arrives (is_whole kind) s i b
    → Reached (Like (node_of kind scalars rows from) kind) s e (rows_height rows) depth (first depth (node depth) d least (put s i spans))
unfolding first
begun_met s d least kind b e scalars rows f from depth i spans here le pre begins ends arrives =
    let x : Syntax = node_of kind scalars rows from in
    let start : ℕ = start_of kind i (opening (put s i spans)) in
    let read = filled_met s kind b e scalars rows f x (rows_height rows) depth start ([], []) spans (omega arith) (omega arith) ends (λ new from' a. node_alike kind new.0 scalars new.1 rows (Some from') from a.scalars_are a.rows_are) in
    let pair : Reached (Like x kind) s e (rows_height rows) depth (and_then (filled depth (node depth) kind start ([], []) (put s b spans)) (λ u. pure (u, kind))) =
    reached_then (λ u. bare u ≡ bare x) (Like x kind) s e e (rows_height rows) (rows_height rows) (rows_height rows) depth (filled depth (node depth) kind start ([], []) (put s b spans)) (λ u. pure (u, kind))
    (omega arith) (omega arith) read (λ u spans' like. inl ((u, kind), spans', refl, (like, refl))) in
    let there : Reached (Like x kind) s e (rows_height rows) depth (and_then (filled depth (node depth) kind start ([], []) (settled kind (put s i spans))) (λ u. pure (u, kind))) =
    subst (λ z. Reached (Like x kind) s e (rows_height rows) depth (and_then (filled depth (node depth) kind start ([], []) z) (λ u. pure (u, kind)))) (sym (arrives_settled s kind i b spans arrives begins)) pair in
    let tested : Reached (Like x kind) s e (rows_height rows) depth (begun depth (node depth) (Some kind) d least (put s i spans)) =
    rw (and_from (belongs kind d) (nat_le least (level kind)) here (le-leb _ _ le)) there in
    let word_is : begun_by d (scan s i).word ≡ Some kind = ap (λ z. begun_by d z) (arrives_word (is_whole kind) s i b arrives begins) ∙ pre in
    subst (λ z. Reached (Like x kind) s e (rows_height rows) depth (begun depth (node depth) z d least (put s i spans))) (sym word_is) tested

-- from the first tree the climb goes on
first_met : (s : List ℕ) (e h depth : ℕ) (d : Category) (least : ℕ) (x : Syntax) (kind : Kind) (i : Input) → h < height x → Reached (Like x kind) s e h depth (first depth (node depth) d least i)
    → GoesOn s e depth least d x kind (whole depth (node depth) d least i)
unfolding whole climbed
first_met s e h depth d least x kind i low (inl g) =
    let start : ℕ = start_of (g.0).1 i.at (opening i) in
    let on = λ (u : Kinded). climbed depth (node depth) d least (start_of u.1 i.at (opening i)) u in
    subst (λ z. GoesOn s e depth least d x z (and_then (first depth (node depth) d least i) on)) g.3.1
    (inl (
      length s - e,
      start,
      (g.0).0,
      g.1,
      omega arith,
      g.3.0,
      subst (λ z. and_then z on ≡ climb depth (node depth) d least start (length s - e) (g.0).0 (g.0).1 (put s e g.1)) (sym g.2) refl,
    ))
first_met s e h depth d least x kind i low (inr g) =
    let on = λ (u : Kinded). climbed depth (node depth) d least (start_of u.1 i.at (opening i)) u in
    inr (g.0, subst (λ z. and_then z on ≡ Err (Nesting g.0)) (sym g.1) refl, omega arith)

plain_met : (s : List ℕ) (d : Category) (l : ℕ) (kind : Kind) (b e : ℕ) (scalars : List Scalar) (rows : List Row) (from : Option ℕ) → belongs kind d ≡ true → l ≤ level kind → Begins (is_whole kind) s b → infix_word kind ≡ None
    → FormMet s (form kind) b e scalars rows → TreeRead s b e d l (node_of kind scalars rows from)
plain_met s d l kind b e scalars rows from here le begins none f =
    let g : PartsMet s (tail kind) b e scalars rows = subst (λ z. PartsMet s z b e scalars rows) (plain_parts kind none) f.all_parts in
    record {
      kind = kind;
      belongs_there = here;
      order = f.order;
      longer = λ inner. f.longer (form_moves kind inner);
      begins = begins;
      starts = form_opens kind d (scan s b).word here f.first_of;
      high = le;
      reads = λ depth least i spans low safe arrives.
          first_met s e (rows_height rows) depth (read_in d) least (node_of kind scalars rows from) kind (put s i spans) (omega arith)
          (begun_met s (read_in d) least kind b e scalars rows g from depth i spans (belongs_where_read kind d here) (omega arith) (chooses kind d (scan s b).word here none f.first_of) begins
          (tail_may_end kind d l (scan s e).word here le safe) arrives);
    }

-- one turn of the climb, over the token between the first child and the rest
climb_met : (s : List ℕ) (e b' e' j h depth : ℕ) (d : Category) (least start n : ℕ) (u x : Syntax) (was kind : Kind) (k : Word) (spans : List Span) → choose d least was (scan s e).word ≡ Some kind → Scan s e k b' e' → is_end k ≡ false
    → length s ≤ e + n → e' ≤ j → h < height x → Reached (λ y. bare y ≡ bare x) s j h depth (filled depth (node depth) kind start ([], one None u ∷ []) (put s e' spans))
    → GoesOn s j depth least d x kind (climb depth (node depth) d least start n u was (put s e spans))
unfolding climb
climb_met s e b' e' j h depth d least start zero u x was kind k spans ch token some room le low got =
    let order = stands_order s k b' e' token.stands in
    absurd (omega (arith, order.within some, token.blank.order))
climb_met s e b' e' j h depth d least start (suc n) u x was kind k spans ch token some room le low got =
    let order = stands_order s k b' e' token.stands in
    let on = λ (y : Syntax). climb depth (node depth) d least start n y kind in
    let all_of : GoesOn s j depth least d x kind (and_then (filled depth (node depth) kind start ([], one None u ∷ []) (next (put s e spans))) on) =
    subst (λ z. GoesOn s j depth least d x kind (and_then (filled depth (node depth) kind start ([], one None u ∷ []) z) on)) (sym (goes_past s k e b' e' spans token))
    (elim got [
      | inl g ↦ inl (n, start, g.0, g.1, omega (arith, order.moves some, token.blank.order), g.3, subst (λ z. and_then z on ≡ climb depth (node depth) d least start n g.0 kind (put s j g.1)) (sym g.2) refl)
      | inr g ↦ inr (g.0, subst (λ z. and_then z on ≡ Err (Nesting g.0)) (sym g.1) refl, omega arith)
    ]) in
    rw ch all_of

left_yields : (kind : Kind) (k : Word) (d : Category) (word : Word) → led_by k ≡ Some kind → word ≡ k → Yields d (left kind).1 word
left_yields kind k d word led is other e here =
    let same_kind : Some kind ≡ Some other = sym led ∙ ap led_by (sym is) ∙ e in
    let same : kind ≡ other = cc in
    inr (subst (λ z. (left z).1 ≤ (left kind).1) same (omega arith))

blank_through : (s : List ℕ) (i j k : ℕ) → Blank s i j → Blank s j k → Blank s i k
blank_through s i j k a b = record {
  order = omega (arith, a.order, b.order);
  within = b.within;
  bytes = λ m lo hi. go m (nat_lt m j) refl lo hi;
}
  where
    go : (m : ℕ) (v : Bool) → nat_lt m j ≡ v → i ≤ m → m < k → IsTrue (is_blank (slice_index s m))
    go m true e lo hi = a.bytes m lo (ltb-true m j e)
    go m false e lo hi = b.bytes m (ltb-false m j e) hi

-- a form that a child leads
led_from_child : (s : List ℕ) (d : Category) (l : ℕ) (kind : Kind) (k : Word) (b b1 e1 b2 e2 e : ℕ) (name : Option PlaceName) (y : Syntax) (scalars : List Scalar) (rows : List Row) (from : Option ℕ)
    → belongs kind d ≡ true → l ≤ level kind → infix_word kind ≡ Some k → is_whole kind ≡ false → Begins (is_whole kind) s b → Blank s b b1 → (child : TreeRead s b1 e1 (left kind).0 (left kind).1 y) → Scan s e1 k b2 e2
    → (remains : PartsMet s (tail kind) e2 e scalars rows) → e2 ≤ e → FormMet s (form kind) b e scalars (one name y ∷ rows) → TreeRead s b e d l (node_of kind scalars (one name y ∷ rows) from)
led_from_child s d l kind k b b1 e1 b2 e2 e name y scalars rows from here le led inner begins blank child token remains past f = record {
  kind = kind;
  belongs_there = here;
  order = f.order;
  longer = λ _. f.longer (form_moves kind inner);
  begins = begins;
  starts = form_opens kind d (scan s b).word here f.first_of;
  high = le;
  reads = λ depth least i spans low safe arrives.
      let x : Syntax = node_of kind scalars (one name y ∷ rows) from in
      let blanks : Blank s i b = subst (λ z. Arrives z s i b) inner arrives in
      let back = leads_back kind k led in
      let word_is : (scan s e1).word ≡ k = ap (λ (z : Token). z.word) (scan_is s e1 k b2 e2 token) in
      let come : Arrives (is_whole child.kind) s i b1 = subst (λ z. Arrives z s i b1) (sym (inner_kind child.kind (left kind).0 child.belongs_there (left_inner kind))) (blank_through s i b b1 blanks blank) in
      let read = child.reads depth least i spans (omega (arith, left_level kind k led)) (left_yields kind k (read_in (left kind).0) (scan s e1).word back word_is) come in
      let moved : GoesOn s e1 depth least (read_in d) y child.kind (whole depth (node depth) (read_in d) least (put s i spans)) =
      subst (λ z. GoesOn s e1 depth least z y child.kind (whole depth (node depth) z least (put s i spans))) (left_where_read kind d k led here) read in
      let high = child.high in
      elim moved [
        | inl h ↦
            let led_there : led_by (scan s e1).word ≡ Some kind = ap led_by word_is ∙ back in
            let ch = chooses_kind (read_in d) least child.kind (scan s e1).word kind led_there (belongs_where_read kind d here) (omega arith) child.belongs_there high in
            let below : ℕ = rows_height (one name y ∷ rows) in
            let got = filled_met s kind e2 e scalars rows remains x below depth h.1 ([], one None h.2 ∷ []) h.3 (omega arith) (omega arith) (tail_may_end kind d l (scan s e).word here le safe)
            (λ new from' a. node_alike kind new.0 scalars new.1 (one name y ∷ rows) (Some from') from a.scalars_are (a.rows_are ∙ ap (λ z. z ∷ bare_rows rows) (one_alike None name h.2 y h.5))) in
            let on = climb_met s e1 b2 e2 e below depth (read_in d) least h.1 h.0 h.2 x child.kind kind k h.3 ch token (led_not_end kind k led) h.4 past (omega arith) got in
            subst (λ z. GoesOn s e depth least (read_in d) x kind z) (sym h.6) on
        | inr h ↦ inr (h.0, h.1, omega arith)
      ];
}

led_met : (s : List ℕ) (d : Category) (l : ℕ) (kind : Kind) (k : Word) (b e : ℕ) (scalars : List Scalar) (rows : List Row) (from : Option ℕ) → belongs kind d ≡ true → l ≤ level kind → Begins (is_whole kind) s b → infix_word kind ≡ Some k
    → FormMet s (form kind) b e scalars rows → TreeRead s b e d l (node_of kind scalars rows from)
led_met s d l kind k b e scalars rows from here le begins led f =
    let g : FormMet s (p.Child (left kind).0 (left kind).1 ∷ p.Token k ∷ tail kind) b e scalars rows = subst (λ z. FormMet s z b e scalars rows) (led_parts kind k led) f in
    let a : ChildFirst s (left kind).0 (left kind).1 (p.Token k ∷ tail kind) b e scalars rows = g.led in
    let v : TokenFirst s k (tail kind) a.end e scalars a.rest = a.remains in
    let f' : FormMet s (form kind) b e scalars (one a.name a.x ∷ a.rest) = subst (λ z. FormMet s (form kind) b e scalars z) a.rows_are f in
    let built = led_from_child s d l kind k b a.start a.end v.start v.end e a.name a.x scalars a.rest from here le led (led_inner kind k led) begins a.blank a.child v.token v.remains v.order f' in
    subst (λ z. TreeRead s b e d l (node_of kind scalars z from)) (sym a.rows_are) built

form_tree_met : (s : List ℕ) (d : Category) (l : ℕ) (kind : Kind) (b e : ℕ) (scalars : List Scalar) (rows : List Row) (from : Option ℕ) → belongs kind d ≡ true → l ≤ level kind → Begins (is_whole kind) s b
    → FormMet s (form kind) b e scalars rows → TreeRead s b e d l (node_of kind scalars rows from)
form_tree_met s d l kind b e scalars rows from here le begins f = go (infix_word kind) refl
  where
    go : (o : Option Word) → infix_word kind ≡ o → TreeRead s b e d l (node_of kind scalars rows from)
    go None none = plain_met s d l kind b e scalars rows from here le begins none f
    go (Some k) led = led_met s d l kind k b e scalars rows from here le begins led f

-- ---- commas and rows

last_met : (s : List ℕ) (d : Category) (l i b e : ℕ) (name : Option PlaceName) (x : Syntax) (t : TreeRead s b e d l x) → Blank s i b → (depth n : ℕ) (found : List Spot) (spans : List Span) → length s ≤ i + n → Inner d → Halts d l (scan s e).word
    → same_word (scan s e).word w.Comma ≡ false → Reached (Grown found ((name, Some x) ∷ [])) s e (height x) depth (listed_from (node depth) d l n found (put s i spans))
unfolding listed_from
last_met s d l i b e name x t blank depth zero found spans room inner stop comma = absurd (omega (arith, (child_begins s b e d l x t inner.1).0, blank.order))
last_met s d l i b e name x t blank depth (suc n) found spans room inner stop comma =
    reached_then (λ u. bare u ≡ bare x) (Grown found ((name, Some x) ∷ [])) s e e (height x) (height x) (height x) depth (node depth d l (put s i spans))
    (λ u. λ i. and_then (eat w.Comma i) (λ more. if more then listed_from (node depth) d l n (found ++ unnamed u ∷ []) else pure (found ++ unnamed u ∷ [])))
    (omega arith) (omega arith) (child_met s b e d l x t depth i spans blank inner stop)
    (λ u spans' like. inl (found ++ unnamed u ∷ [], spans', rw comma refl, spots_last found name u x like))

more_met : (s : List ℕ) (d : Category) (l i b e b' e' j : ℕ) (name : Option PlaceName) (x : Syntax) (xs : List Spot) (t : TreeRead s b e d l x) → Blank s i b → Scan s e w.Comma b' e' → (r : ListMet s d l e' j xs)
    → (depth n : ℕ) (found : List Spot) (spans : List Span) → length s ≤ i + n → Inner d → Halts d l (scan s j).word
    → same_word (scan s j).word w.Comma ≡ false → Reached (Grown found ((name, Some x) ∷ xs)) s j (spots_height ((name, Some x) ∷ xs)) depth (listed_from (node depth) d l n found (put s i spans))
unfolding listed_from
more_met s d l i b e b' e' j name x xs t blank token r depth zero found spans room inner stop comma = absurd (omega (arith, (child_begins s b e d l x t inner.1).0, blank.order))
more_met s d l i b e b' e' j name x xs t blank token r depth (suc n) found spans room inner stop comma =
    let order = stands_order s w.Comma b' e' token.stands in
    let ahead : length s ≤ e' + n = omega (arith, room, order.moves refl, token.blank.order, t.order, blank.order) in
    let word_is : (scan s e).word ≡ w.Comma = ap (λ (z : Token). z.word) (scan_is s e w.Comma b' e' token) in
    reached_then (λ u. bare u ≡ bare x) (Grown found ((name, Some x) ∷ xs)) s e j (height x) (spots_height xs) (spots_height ((name, Some x) ∷ xs)) depth (node depth d l (put s i spans))
    (λ u. λ i. and_then (eat w.Comma i) (λ more. if more then listed_from (node depth) d l n (found ++ unnamed u ∷ []) else pure (found ++ unnamed u ∷ [])))
    (omega arith) (omega arith) (child_met s b e d l x t depth i spans blank inner (leads_none d l w.Comma refl (scan s e).word word_is))
    (λ u spans' like.
    let go : Reached (Grown found ((name, Some x) ∷ xs)) s j (spots_height xs) depth (listed_from (node depth) d l n (found ++ unnamed u ∷ []) (put s e' spans')) =
    elim (r.reads depth n (found ++ unnamed u ∷ []) spans' ahead inner stop comma) [
      | inl g ↦ inl (g.0, g.1, g.2, g.3 ∙ spots_more found xs name u x like)
      | inr g ↦ inr g
    ] in
    let past : Reached (Grown found ((name, Some x) ∷ xs)) s j (spots_height xs) depth (listed_from (node depth) d l n (found ++ unnamed u ∷ []) (next (put s e spans'))) =
    subst (λ z. Reached (Grown found ((name, Some x) ∷ xs)) s j (spots_height xs) depth (listed_from (node depth) d l n (found ++ unnamed u ∷ []) z)) (sym (goes_past s w.Comma e b' e' spans' token)) go in
    rw (sees_it s w.Comma e b' e' spans' token) past)

row_met : (s : List ℕ) (d : Category) (i b e j : ℕ) (name : Option PlaceName) (x : Syntax) (xs : List Spot) (t : TreeRead s b e d 1 x) → Blank s i b → (r : RowMet s d e j xs)
    → (depth n : ℕ) (close : Word) (found : List Spot) (spans : List Span) → length s ≤ i + n → Inner d → ((other : Word) → Halts d 1 other) → (scan s j).word ≡ close → may_open d close ≡ false
    → Reached (Grown found ((name, Some x) ∷ xs)) s j (spots_height ((name, Some x) ∷ xs)) depth (in_row_from (node depth) d close n found (put s i spans))
unfolding in_row_from
row_met s d i b e j name x xs t blank r depth zero close found spans room inner stop ends bar = absurd (omega (arith, (child_begins s b e d 1 x t inner.1).0, blank.order))
row_met s d i b e j name x xs t blank r depth (suc n) close found spans room inner stop ends bar =
    let ahead : length s ≤ e + n = omega (arith, room, t.longer (inner_kind t.kind d t.belongs_there inner.1), blank.order) in
    let starts = child_opens s i b e d 1 x t blank inner.1 in
    rw (unseen_word (may_open d) (scan s i).word close starts bar)
    (reached_then (λ u. bare u ≡ bare x) (Grown found ((name, Some x) ∷ xs)) s e j (height x) (spots_height xs) (spots_height ((name, Some x) ∷ xs)) depth (node depth d 1 (put s i spans))
    (λ u. in_row_from (node depth) d close n (found ++ unnamed u ∷ []))
    (omega arith) (omega arith) (child_met s b e d 1 x t depth i spans blank inner (stop (scan s e).word))
    (λ u spans' like. elim (r.reads depth n close (found ++ unnamed u ∷ []) spans' ahead inner stop ends bar) [
      | inl g ↦ inl (g.0, g.1, g.2, g.3 ∙ spots_more found xs name u x like)
      | inr g ↦ inr g
    ]))

row_ends : (s : List ℕ) (d : Category) (i depth n : ℕ) (close : Word) (found : List Spot) (spans : List Span) → (scan s i).word ≡ close → in_row_from (node depth) d close n found (put s i spans) ≡ Ok (found, put s i spans)
unfolding in_row_from
row_ends s d i depth zero close found spans e = refl
row_ends s d i depth (suc n) close found spans e = rw (seen_word (scan s i).word close e) refl

-- ---- over all that is spelled

child_moves : (d : Category) (l : ℕ) (qs : List Part) → moves (p.Child d l ∷ qs) ≡ true → is_program d ≡ false
child_moves c.Program l qs e = absurd cc
child_moves c.Statement l qs e = refl
child_moves c.Expression l qs e = refl
child_moves c.Target l qs e = refl
child_moves c.Property l qs e = refl

mutual
  tree_met : {P : Said} {s : List ℕ} {i j : ℕ} {d : Category} {l : ℕ} {x : Syntax} → Spells P s i j d l x → TreeRead s i j d l x
  tree_met (formed i j d l x kind here le made) = made_met d l here le made

  made_met : {P : Said} {s : List ℕ} {kind : Kind} {i j : ℕ} {x : Syntax} (d : Category) (l : ℕ) → belongs kind d ≡ true → l ≤ level kind → Node P s kind i j x → TreeRead s i j d l x
  made_met {P} {s} d l here le (built kind i j scalars rows from begins fills said) = form_tree_met s d l kind i j scalars rows from here le begins (form_met fills)

  form_met : {P : Said} {s : List ℕ} {qs : List Part} {i j : ℕ} {scalars : List Scalar} {rows : List Row} → Fills P s qs i j scalars rows → FormMet s qs i j scalars rows
  form_met {P} {s} (no_parts i) = record { all_parts = no_parts_read s i; worded = tt; led = tt; first_of = tt; order = omega arith; longer = λ is. absurd cc }
  form_met {P} {s} (a_token k qs i b e j scalars rows token fills) =
      let f = form_met fills in
      let order = (stands_order s k b e token.stands).order in
      record {
        all_parts = one_more P s (p.Token k) qs i e j [] scalars [] rows 0 (omega arith) (omega arith) fills f.all_parts (λ depth r spans _. inl (r, spans, part_token (node depth) s k r i b e spans token, adds_none r));
        worded = record { start = b; end = e; token = token; order = f.order; remains = f.all_parts };
        led = tt;
        first_of = ap (λ (z : Token). z.word) (scan_is s i k b e token);
        order = omega (arith, f.order, token.blank.order);
        longer = λ is. absurd cc;
      }
  form_met {P} {s} (a_name qs i b e j scalars rows token fills) =
      let f = form_met fills in
      let order = (stands_order s w.Name b e token.stands).moves refl in
      record {
        all_parts = one_more P s p.Name qs i e j (scalar.Text (slice_range s b e) ∷ []) scalars [] rows 0 (omega arith) (omega arith) fills f.all_parts
            (λ depth r spans _. inl (with_scalar r (slice_range s b e), spans, part_name (node depth) s r i b e spans token, adds_scalar r (scalar.Text (slice_range s b e))));
        worded = tt;
        led = tt;
        first_of = ap (λ (z : Token). z.word) (scan_is s i w.Name b e token);
        order = omega (arith, f.order, token.blank.order);
        longer = λ is. omega (arith, f.order, token.blank.order);
      }
  form_met {P} {s} (free_name k qs i b e j scalars rows is token fills) =
      let f = form_met fills in
      let order = (stands_order s k b e token.stands).moves (name_not_end k is) in
      record {
        all_parts = one_more P s p.AnyName qs i e j (scalar.Text (slice_range s b e) ∷ []) scalars [] rows 0 (omega arith) (omega arith) fills f.all_parts
            (λ depth r spans _. inl (with_scalar r (slice_range s b e), spans, part_any_name (node depth) s k r i b e spans is token, adds_scalar r (scalar.Text (slice_range s b e))));
        worded = tt;
        led = tt;
        first_of = ap (λ (z : Token). is_name_word z.word) (scan_is s i k b e token) ∙ is;
        order = omega (arith, f.order, token.blank.order);
        longer = λ _. omega (arith, f.order, token.blank.order);
      }
  form_met {P} {s} (a_child d l qs i b e j name x scalars rows blank child fills) =
      let f = form_met fills in
      let t = tree_met child in
      record {
        all_parts = one_more P s (p.Child d l) qs i e j [] scalars (one name x ∷ []) rows (height x) (omega arith) (omega arith) fills f.all_parts (part_child s i b e d l x name t blank);
        worded = tt;
        led = record { start = b; end = e; name = name; x = x; rest = rows; rows_are = refl; blank = blank; child = t; remains = f.worded };
        first_of = λ inner. child_opens s i b e d l x t blank inner;
        order = omega (arith, f.order, t.order, blank.order);
        longer = λ is. omega (arith, f.order, blank.order, t.longer (inner_kind t.kind d t.belongs_there (child_moves d l qs is)));
      }
  form_met {P} {s} (empty_list d l close qs i j scalars rows fills) =
      let f = form_met fills in
      record {
        all_parts = one_more P s (p.List d l close) qs i i j [] scalars (all [] ∷ []) rows 0 (omega arith) (omega arith) fills f.all_parts (λ depth r spans follows. part_empty s i d l close depth r spans follows.2);
        worded = tt;
        led = tt;
        first_of = tt;
        order = f.order;
        longer = λ is. absurd cc;
      }
  form_met {P} {s} (a_list d l close qs i e j xs scalars rows trees fills) =
      let f = form_met fills in
      let t = list_met trees in
      record {
        all_parts = one_more P s (p.List d l close) qs i e j [] scalars (all xs ∷ []) rows (spots_height xs) (omega arith) (omega arith) fills f.all_parts (part_list s i e d l close xs t);
        worded = tt;
        led = tt;
        first_of = tt;
        order = omega (arith, f.order, t.order);
        longer = λ is. absurd cc;
      }
  form_met {P} {s} (a_body d close qs i e j xs scalars rows trees fills) =
      let f = form_met fills in
      let t = rows_met trees in
      record {
        all_parts = one_more P s (p.Body d close) qs i e j [] scalars (all xs ∷ []) rows (spots_height xs) (omega arith) (omega arith) fills f.all_parts (part_body s i e d close xs t);
        worded = tt;
        led = tt;
        first_of = tt;
        order = omega (arith, f.order, t.order);
        longer = λ is. absurd cc;
      }

  list_met : {P : Said} {s : List ℕ} {d : Category} {l i j : ℕ} {xs : List Spot} → Listed P s d l i j xs → ListMet s d l i j xs
  list_met {P} {s} (last d l i b e name x blank tree) =
      let t = tree_met tree in
      record {
        order = omega (arith, t.order, blank.order);
        starts = child_opens s i b e d l x t blank;
        reads = λ depth n found spans room inner stop comma. elim (last_met s d l i b e name x t blank depth n found spans room inner stop comma) [ inl g ↦ inl g | inr g ↦ inr (g.0, g.1, omega arith) ];
      }
  list_met {P} {s} (more d l i b e b' e' j name x xs blank tree token others) =
      let t = tree_met tree in
      let r = list_met others in
      let order = (stands_order s w.Comma b' e' token.stands).order in
      record {
        order = omega (arith, t.order, blank.order, token.blank.order, r.order);
        starts = child_opens s i b e d l x t blank;
        reads = more_met s d l i b e b' e' j name x xs t blank token r;
      }

  rows_met : {P : Said} {s : List ℕ} {d : Category} {i j : ℕ} {xs : List Spot} → InRow P s d i j xs → RowMet s d i j xs
  rows_met {P} {s} (row_end d i) = record {
    order = omega arith;
    reads = λ depth n close found spans room inner stop ends bar. inl (found, spans, row_ends s d i depth n close found spans ends, sym (append-nil (bare_spots found)));
  }
  rows_met {P} {s} (row_next d i b e j name x xs blank tree others) =
      let t = tree_met tree in
      let r = rows_met others in
      record { order = omega (arith, t.order, blank.order, r.order); reads = row_met s d i b e j name x xs t blank r }

-- a whole text that spells a tree
pub whole_met : (P : Said) (s : List ℕ) (x : Syntax) → Whole P s x → (depth : ℕ) → Reached (λ u. bare u ≡ bare x) s (length s) (height x) depth (node depth c.Program 1 (begin s))
whole_met P s x spells depth =
    let t = tree_met spells in
    node_met s 0 (length s) c.Program 1 x t depth 0 [] (program_halts 1 (scan s (length s)).word) (subst (λ z. Arrives z s 0 0) (sym t.belongs_there) refl)
