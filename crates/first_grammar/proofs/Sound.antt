-- What is read is spelled so, with the spans of its nodes.
use Rattle.std.proofs.Common.{◌≡◌, ◌≤◌, ℕ, zero, suc, Bool, true, false, ◌&&◌, nat_le, ◌⊎◌, inl, inr, List, [], ◌∷◌, ◌++◌, Option, Some, None, Ok, refl, sym, ◌∙◌, ap, subst, arith, length, append_assoc, append-nil}
use Rattle.std.specs.Prelude.{slice_range}
use Rattle.std.proofs.lemmas.Bool.{and_parts, leb-true}
use Rattle.tree_core.specs.declared.span.Span.{Span}
use Rattle.tree_core.specs.declared.scalars.Scalar.{Scalar}
use Rattle.tree_core.specs.declared.scalars.Scalar.TheVariants as scalar
use Rattle.tree_core.specs.Syntax.{Syntax}
use Rattle.tree_core.specs.View.{Spot, Row}
use Rattle.first_grammar.specs.declared.table.Kind.{Kind}
use Rattle.first_grammar.specs.declared.table.Kind.TheVariants as k
use Rattle.first_grammar.specs.declared.table.Word.{Word}
use Rattle.first_grammar.specs.declared.table.Word.TheVariants as w
use Rattle.first_grammar.specs.declared.table.Category.{Category}
use Rattle.first_grammar.specs.declared.table.Category.TheVariants as c
use Rattle.first_grammar.specs.declared.table.Part.{Part}
use Rattle.first_grammar.specs.declared.table.Part.TheVariants as p
use Rattle.first_grammar.specs.Table.{led_by, infix_word, level, belongs, is_whole, left, tail, form, led, begun_by, begins_expression, begins_statement, begins_property}
use Rattle.first_grammar.specs.Words.{is_blank, is_name_word, Blank}
use Rattle.first_grammar.specs.Spells.{Said, Spells, Node, Fills, Listed, InRow, formed, built, no_parts, a_token, a_name, free_name, a_child, empty_list, a_list, a_body, last, more, row_end, row_next, one, all, Begins, At, HasSpan, Whole}
use Rattle.first_grammar.specs.Input.{Input, Outcome, Reader, and_then, pure, word, opening, turns, next, expect, name, any_name, numbered, sees, begin, start_of, settled}
use Rattle.first_grammar.specs.Reading.{Read, Kinded, unnamed, shallow, listed_from, listed, in_row_from, in_row, part, parts, filled, begun, first, takes, if_takes, choose, onward, climb, climbed, whole, node, program, max_nesting, with_row, made}
use Rattle.first_grammar.proofs.Ahead.{known, empty_stretch}
use Rattle.first_grammar.proofs.Passed.{bound, same_ok, shallow_ok, branch, branch_at, Grows, unchanged, grows_on, Inside, Move, stay, move_on, passed, seen, after_seen, after_unseen, expect_ok, name_ok, any_name_ok, numbered_ok, name_begins, name_stands, name_known}

-- what holds after the way from i to j, also when more spans were added
pub record After (s : List ℕ) (i j : Input) (T : List Span → Type 0) : Type 0 where
  pub move : Move s i j
  pub holds : (z : List Span) → Grows j.spans z → T z

abbrev pub is_program : Category → Bool
is_program c.Program = true
is_program _ = false

-- a tree that is read: it begins behind blanks, a whole text at once
pub record Tree (s : List ℕ) (c : Category) (l : ℕ) (i j : Input) (x : Syntax) : Type 0 where
  pub start : ℕ
  pub blank : Blank s i.at start
  pub at_once : is_program c ≡ true → start ≡ i.at
  pub after : After s i j (λ z. Spells (At z) s start j.at c l x)

abbrev pub IsSound : List ℕ → (Category → ℕ → Reader Syntax) → Type 0
IsSound s node = (c : Category) (l : ℕ) (i j : Input) (x : Syntax) → Inside s i → node c l i ≡ Ok (x, j) → Tree s c l i j x

-- a part stands from i to j, with these scalars and slots before those of the parts behind it
pub record Leads (s : List ℕ) (z : List Span) (q : Part) (i j : ℕ) (scalars : List Scalar) (rows : List Row) : Type 0 where
  pub leads : (qs : List Part) (k : ℕ) (ms : List Scalar) (rs : List Row) → Fills (At z) s qs j k ms rs → Fills (At z) s (q ∷ qs) i k (scalars ++ ms) (rows ++ rs)

-- what is new in what is read of a form
pub record Adds (s : List ℕ) (i j : Input) (T : List Span → List Scalar → List Row → Type 0) (old new : Read) : Type 0 where
  pub scalars : List Scalar
  pub rows : List Row
  pub scalars_are : new.0 ≡ old.0 ++ scalars
  pub rows_are : new.1 ≡ old.1 ++ rows
  pub after : After s i j (λ z. T z scalars rows)

-- the table

record Infix (word : Word) (kind : Kind) : Type 0 where
  infix_is : infix_word kind ≡ Some word
  is_known : known word ≡ true
  no_whole : is_whole kind ≡ false

led_infix : (word : Word) (kind : Kind) → led_by word ≡ Some kind → Infix word kind
led_infix w.OpenParen kind e = let is : k.Call ≡ kind = cc in subst (Infix w.OpenParen) is (record { infix_is = refl; is_known = refl; no_whole = refl })
led_infix w.Dot kind e = let is : k.Member ≡ kind = cc in subst (Infix w.Dot) is (record { infix_is = refl; is_known = refl; no_whole = refl })
led_infix w.Assign kind e = let is : k.Assignment ≡ kind = cc in subst (Infix w.Assign) is (record { infix_is = refl; is_known = refl; no_whole = refl })
led_infix _ kind e = absurd cc

led_form : (kind : Kind) (word : Word) → infix_word kind ≡ Some word → form kind ≡ p.Child (left kind).0 (left kind).1 ∷ p.Token word ∷ tail kind
led_form kind word e = ap (λ o. led (left kind) o (tail kind)) e

bare_form : (kind : Kind) → infix_word kind ≡ None → form kind ≡ tail kind
bare_form kind e = ap (λ o. led (left kind) o (tail kind)) e

-- a kind whose form the token begins: a whole text, or a form that begins with a name
record Begun (word : Word) (kind : Kind) : Type 0 where
  bare : infix_word kind ≡ None
  begins_with : (is_whole kind ≡ true) ⊎ ((is_whole kind ≡ false) × (is_name_word word ≡ true))

begun_statement : (word : Word) (kind : Kind) → begins_statement word ≡ Some kind → Begun word kind
begun_statement w.Name kind e = let is : k.ExpressionStatement ≡ kind = cc in subst (Begun w.Name) is (record { bare = refl; begins_with = inr (refl, refl) })
begun_statement _ kind e = absurd cc

begun_property : (word : Word) (kind : Kind) → begins_property word ≡ Some kind → Begun word kind
begun_property w.Name kind e = let is : k.PropertyName ≡ kind = cc in subst (Begun w.Name) is (record { bare = refl; begins_with = inr (refl, refl) })
begun_property w.Reserved kind e = let is : k.PropertyName ≡ kind = cc in subst (Begun w.Reserved) is (record { bare = refl; begins_with = inr (refl, refl) })
begun_property _ kind e = absurd cc

begun_expression : (word : Word) (kind : Kind) → begins_expression word ≡ Some kind → Begun word kind
begun_expression w.Name kind e = let is : k.Identifier ≡ kind = cc in subst (Begun w.Name) is (record { bare = refl; begins_with = inr (refl, refl) })
begun_expression _ kind e = absurd cc

begun_ok : (c : Category) (word : Word) (kind : Kind) → begun_by c word ≡ Some kind → Begun word kind
begun_ok c.Program word kind e = let is : k.Program ≡ kind = cc in subst (Begun word) is (record { bare = refl; begins_with = inl refl })
begun_ok c.Statement word kind e = begun_statement word kind e
begun_ok c.Property word kind e = begun_property word kind e
begun_ok c.Expression word kind e = begun_expression word kind e
begun_ok c.Target word kind e = begun_expression word kind e

-- the first child of a form is no whole text
no_whole_expression : (first : Kind) → belongs first c.Expression ≡ true → is_whole first ≡ false
no_whole_expression k.Program e = absurd cc
no_whole_expression _ e = refl

no_whole_target : (first : Kind) → belongs first c.Target ≡ true → is_whole first ≡ false
no_whole_target k.Program e = absurd cc
no_whole_target _ e = refl

no_whole_left : (kind first : Kind) → belongs first (left kind).0 ≡ true → is_whole first ≡ false
no_whole_left k.Assignment first e = no_whole_target first e
no_whole_left k.Identifier first e = no_whole_expression first e
no_whole_left k.PropertyName first e = no_whole_expression first e
no_whole_left k.Member first e = no_whole_expression first e
no_whole_left k.Call first e = no_whole_expression first e
no_whole_left k.Program first e = no_whole_expression first e
no_whole_left k.ExpressionStatement first e = no_whole_expression first e

starts_at_once : (c : Category) (kind : Kind) (at to : ℕ) → belongs kind c ≡ true → is_program c ≡ true → start_of kind at to ≡ at
starts_at_once c.Program kind at to there e = rw there refl
starts_at_once c.Statement kind at to there e = absurd cc
starts_at_once c.Expression kind at to there e = absurd cc
starts_at_once c.Target kind at to there e = absurd cc
starts_at_once c.Property kind at to there e = absurd cc

record Chosen (c : Category) (least : ℕ) (first : Kind) (word : Word) (kind : Kind) : Type 0 where
  leads : led_by word ≡ Some kind
  there : belongs kind c ≡ true
  high : least ≤ level kind
  first_there : belongs first (left kind).0 ≡ true
  first_high : (left kind).1 ≤ level first

if_takes_ok : (c : Category) (least : ℕ) (first : Kind) (o : Option Kind) (kind : Kind) → if_takes c least first o ≡ Some kind → (o ≡ Some kind) × (takes c least first kind ≡ true)
if_takes_ok c least first None kind e = absurd cc
if_takes_ok c least first (Some that) kind e = elim (branch (takes c least first that) _ _ _ e) [
  | inl h ↦ let is : that ≡ kind = cc in (h.1, subst (λ z. takes c least first z ≡ true) is h.0)
  | inr h ↦ absurd cc
]

choose_ok : (c : Category) (least : ℕ) (first : Kind) (word : Word) (kind : Kind) → choose c least first word ≡ Some kind → Chosen c least first word kind
unfolding choose
choose_ok c least first word kind e =
    let h = if_takes_ok c least first (led_by word) kind e in
    let a = and_parts _ _ h.1 in
    let b = and_parts _ _ a.0 in
    let d = and_parts _ _ b.0 in
    record { leads = h.0; there = d.0; high = leb-true _ _ d.1; first_there = b.1; first_high = leb-true _ _ a.1 }

pub onward_ok : {A : Type 0} (stop : Outcome A) (o : Option Kind) (go : Kind → Outcome A) (z : Outcome A) → onward stop o go ≡ z → (stop ≡ z) ⊎ ((kind : Kind) × (o ≡ Some kind) × (go kind ≡ z))
onward_ok stop None go z e = inl e
onward_ok stop (Some kind) go z e = inr (kind, refl, e)

abbrev part_known : Part → Bool
part_known (p.Token word) = known word
part_known _ = true

abbrev parts_known : List Part → Bool
parts_known [] = true
parts_known (q ∷ qs) = part_known q && parts_known qs

tail_known : (kind : Kind) → parts_known (tail kind) ≡ true
tail_known k.Identifier = refl
tail_known k.PropertyName = refl
tail_known k.Member = refl
tail_known k.Call = refl
tail_known k.Assignment = refl
tail_known k.Program = refl
tail_known k.ExpressionStatement = refl

-- nodes

node_begins : (P : Said) (s : List ℕ) (kind : Kind) (i j : ℕ) (x : Syntax) → Node P s kind i j x → Begins (is_whole kind) s i
node_begins P s _ _ _ _ (built kind i j scalars rows from begins fills said) = begins

-- a node from its parts
node_built : (s : List ℕ) (z : List Span) (kind : Kind) (b e : ℕ) (r : Read) (n : ℕ) (scalars : List Scalar) (rows : List Row) (x : Syntax) → r.0 ≡ scalars → r.1 ≡ rows → made kind r n ≡ x
    → Begins (is_whole kind) s b → Fills (At z) s (form kind) b e scalars rows → HasSpan z (Some n) b e → Node (At z) s kind b e x
node_built s z kind b e r n scalars rows x es er ex begins fills has =
    subst (Node (At z) s kind b e) ex
    (subst (λ v. Node (At z) s kind b e (made kind (v, r.1) n)) (sym es)
    (subst (λ v. Node (At z) s kind b e (made kind (scalars, v) n)) (sym er) (built kind b e scalars rows (Some n) begins fills has)))

module _ (s : List ℕ) (depth : ℕ) (node : Category → ℕ → Reader Syntax) (sound : IsSound s node) where
  -- trees that are read behind those that were found
  record Trees (i j : Input) (found xs : List Spot) (T : List Span → ℕ → ℕ → List Spot → Type 0) : Type 0 where
    new : List Spot
    are : xs ≡ found ++ new
    after : After s i j (λ z. T z i.at j.at new)

  abbrev ListedHere : Category → ℕ → List Span → ℕ → ℕ → List Spot → Type 0
  ListedHere c l z i j xs = Listed (At z) s c l i j xs

  abbrev RowHere : Category → List Span → ℕ → ℕ → List Spot → Type 0
  RowHere c z i j xs = InRow (At z) s c i j xs

  listed_from_ok : (c : Category) (l n : ℕ) (found xs : List Spot) (i j : Input) → Inside s i → listed_from node c l n found i ≡ Ok (xs, j) → Trees i j found xs (ListedHere c l)
  unfolding listed_from
  listed_from_ok c l zero found xs i j h e = absurd cc
  listed_from_ok c l (suc n) found xs i j h e =
      let a = bound (node c l i) _ _ e in
      let x = a.0 in
      let m = a.1 in
      let f = sound c l i m x h a.2 in
      elim (branch_at (sees w.Comma m) _ _ _ _ a.3) [
        | inl g ↦
            let comma = seen s w.Comma m f.after.move.inside refl g.0 in
            let on = listed_from_ok c l n (found ++ unnamed x ∷ []) xs (next m) j comma.move.inside (subst (λ y. listed_from node c l n (found ++ unnamed x ∷ []) y ≡ Ok (xs, j)) (after_seen w.Comma m g.0) g.1) in
            let rest = move_on s m (next m) j comma.move on.after.move in
            record {
              new = unnamed x ∷ on.new;
              are = on.are ∙ append_assoc found (unnamed x ∷ []) on.new;
              after = record {
                move = move_on s i m j f.after.move rest;
                holds = λ z gr. more c l i.at f.start m.at (opening m) (next m).at j.at None x on.new f.blank (f.after.holds z (grows_on m.spans j.spans z rest.grows gr)) comma.scan (on.after.holds z gr);
              };
            }
        | inr g ↦
            let end = same_ok _ _ _ _ g.1 in
            subst (λ y. Trees i y found xs (ListedHere c l)) (sym (after_unseen w.Comma m g.0) ∙ end.1)
            (record { new = unnamed x ∷ []; are = sym end.0; after = record { move = f.after.move; holds = λ z gr. last c l i.at f.start m.at None x f.blank (f.after.holds z gr) } })
      ]

  row_ends : (c : Category) (found xs : List Spot) (i j : Input) → Inside s i → (let end : Outcome (List Spot) = Ok (found, i) in end ≡ Ok (xs, j)) → Trees i j found xs (RowHere c)
  row_ends c found xs i j h e =
      let end = same_ok _ _ _ _ e in
      subst (λ y. Trees i y found xs (RowHere c)) end.1 (record { new = []; are = sym end.0 ∙ sym (append-nil found); after = record { move = stay s i h; holds = λ z gr. row_end c i.at } })

  in_row_from_ok : (c : Category) (close : Word) (n : ℕ) (found xs : List Spot) (i j : Input) → Inside s i → in_row_from node c close n found i ≡ Ok (xs, j) → Trees i j found xs (RowHere c)
  unfolding in_row_from
  in_row_from_ok c close zero found xs i j h e = row_ends c found xs i j h e
  in_row_from_ok c close (suc n) found xs i j h e =
      elim (branch (sees close i) _ _ _ e) [
        | inl g ↦ row_ends c found xs i j h g.1
        | inr g ↦
            let a = bound (node c 1 i) _ _ g.1 in
            let x = a.0 in
            let m = a.1 in
            let f = sound c 1 i m x h a.2 in
            let on = in_row_from_ok c close n (found ++ unnamed x ∷ []) xs m j f.after.move.inside a.3 in
            record {
              new = unnamed x ∷ on.new;
              are = on.are ∙ append_assoc found (unnamed x ∷ []) on.new;
              after = record {
                move = move_on s i m j f.after.move on.after.move;
                holds = λ z gr. row_next c i.at f.start m.at j.at None x on.new f.blank (f.after.holds z (grows_on m.spans j.spans z on.after.move.grows gr)) (on.after.holds z gr);
              };
            }
      ]

  -- a part of one slot
  a_row : (q : Part) (row : Row) (r new : Read) (i m j : Input) → with_row r row ≡ new → m ≡ j → After s i m (λ z. Leads s z q i.at m.at [] (row ∷ [])) → Adds s i j (λ z. Leads s z q i.at j.at) r new
  a_row q row r new i m j e f a =
      record {
        scalars = [];
        rows = row ∷ [];
        scalars_are = ap (λ (z : Read). z.0) (sym e) ∙ sym (append-nil r.0);
        rows_are = ap (λ (z : Read). z.1) (sym e);
        after = subst (λ y. After s i y (λ z. Leads s z q i.at y.at [] (row ∷ []))) f a;
      }

  listed_ok : (c : Category) (l : ℕ) (close : Word) (xs : List Spot) (i j : Input) → Inside s i → listed node c l close i ≡ Ok (xs, j) → After s i j (λ z. Leads s z (p.List c l close) i.at j.at [] (all xs ∷ []))
  unfolding listed
  listed_ok c l close xs i j h e =
      elim (branch (sees close i) _ _ _ e) [
        | inl g ↦
            let end = same_ok _ _ _ _ g.1 in
            subst (λ y. After s i y (λ z. Leads s z (p.List c l close) i.at y.at [] (all xs ∷ []))) end.1
            (subst (λ v. After s i i (λ z. Leads s z (p.List c l close) i.at i.at [] (all v ∷ []))) end.0
            (record { move = stay s i h; holds = λ z gr. record { leads = λ qs k ms rs f. empty_list c l close qs i.at k ms rs f } }))
        | inr g ↦
            let r = listed_from_ok c l (turns i) [] xs i j h g.1 in
            record { move = r.after.move; holds = λ z gr. record { leads = λ qs k ms rs f. a_list c l close qs i.at j.at k xs ms rs (subst (ListedHere c l z i.at j.at) (sym r.are) (r.after.holds z gr)) f } }
      ]

  in_row_ok : (c : Category) (close : Word) (xs : List Spot) (i j : Input) → Inside s i → in_row node c close i ≡ Ok (xs, j) → After s i j (λ z. Leads s z (p.Body c close) i.at j.at [] (all xs ∷ []))
  unfolding in_row
  in_row_ok c close xs i j h e =
      let r = in_row_from_ok c close (turns i) [] xs i j h e in
      record { move = r.after.move; holds = λ z gr. record { leads = λ qs k ms rs f. a_body c close qs i.at j.at k xs ms rs (subst (RowHere c z i.at j.at) (sym r.are) (r.after.holds z gr)) f } }

  -- a part of one scalar, a name's text
  a_text : (q : Part) (units : List ℕ) (r new : Read) (i j : Input) → Inside s i → Move s i (next i) → units ≡ slice_range i.text (opening i) (next i).at → (r.0 ++ scalar.Text units ∷ [], r.1) ≡ new → next i ≡ j
      → ((z : List Span) → Leads s z q i.at (next i).at (scalar.Text (slice_range s (opening i) (next i).at) ∷ []) []) → Adds s i j (λ z. Leads s z q i.at j.at) r new
  a_text q units r new i j h move is e f there =
      let text_is : units ≡ slice_range s (opening i) (next i).at = is ∙ ap (λ v. slice_range v (opening i) (next i).at) h.text_is in
      subst (λ y. Adds s i y (λ z. Leads s z q i.at y.at) r new) f
      (record {
        scalars = scalar.Text (slice_range s (opening i) (next i).at) ∷ [];
        rows = [];
        scalars_are = ap (λ (z : Read). z.0) (sym e) ∙ ap (λ v. r.0 ++ scalar.Text v ∷ []) text_is;
        rows_are = ap (λ (z : Read). z.1) (sym e) ∙ sym (append-nil r.1);
        after = record { move = move; holds = λ z gr. there z };
      })

  part_ok : (q : Part) (r new : Read) (i j : Input) → part_known q ≡ true → Inside s i → part node q r i ≡ Ok (new, j) → Adds s i j (λ z. Leads s z q i.at j.at) r new
  unfolding part
  part_ok (p.Token word) r new i j kn h e =
      let a = bound (expect word i) _ _ e in
      let u = expect_ok word i a.1 a.0 a.2 in
      let t = seen s word i h kn u.0 in
      let end = same_ok _ _ _ _ a.3 in
      subst (λ y. Adds s i y (λ z. Leads s z (p.Token word) i.at y.at) r new) (u.1 ∙ end.1)
      (record {
        scalars = [];
        rows = [];
        scalars_are = ap (λ (z : Read). z.0) (sym end.0) ∙ sym (append-nil r.0);
        rows_are = ap (λ (z : Read). z.1) (sym end.0) ∙ sym (append-nil r.1);
        after = record { move = t.move; holds = λ z gr. record { leads = λ qs k ms rs f. a_token word qs i.at (opening i) (next i).at k ms rs t.scan f } };
      })
  part_ok p.Name r new i j kn h e =
      let a = bound (name i) _ _ e in
      let u = name_ok i a.1 a.0 a.2 in
      let t = seen s w.Name i h refl u.0 in
      let end = same_ok _ _ _ _ a.3 in
      a_text p.Name a.0 r new i j h t.move u.1 end.0 (u.2 ∙ end.1) (λ z. record { leads = λ qs k ms rs f. a_name qs i.at (opening i) (next i).at k ms rs t.scan f })
  part_ok p.AnyName r new i j kn h e =
      let a = bound (any_name i) _ _ e in
      let u = any_name_ok i a.1 a.0 a.2 in
      let t = passed s i h (name_known (word i) u.0) in
      let end = same_ok _ _ _ _ a.3 in
      a_text p.AnyName a.0 r new i j h t.move u.1 end.0 (u.2 ∙ end.1) (λ z. record { leads = λ qs k ms rs f. free_name (word i) qs i.at (opening i) (next i).at k ms rs u.0 t.scan f })
  part_ok (p.Child c l) r new i j kn h e =
      let a = bound (node c l i) _ _ e in
      let end = same_ok _ _ _ _ a.3 in
      let f = sound c l i a.1 a.0 h a.2 in
      a_row (p.Child c l) (one None a.0) r new i a.1 j end.0 end.1
      (record { move = f.after.move; holds = λ z gr. record { leads = λ qs k ms rs g. a_child c l qs i.at f.start a.1.at k None a.0 ms rs f.blank (f.after.holds z gr) g } })
  part_ok (p.List c l close) r new i j kn h e =
      let a = bound (listed node c l close i) _ _ e in
      let end = same_ok _ _ _ _ a.3 in
      a_row (p.List c l close) (all a.0) r new i a.1 j end.0 end.1 (listed_ok c l close a.0 i a.1 h a.2)
  part_ok (p.Body c close) r new i j kn h e =
      let a = bound (in_row node c close i) _ _ e in
      let end = same_ok _ _ _ _ a.3 in
      a_row (p.Body c close) (all a.0) r new i a.1 j end.0 end.1 (in_row_ok c close a.0 i a.1 h a.2)

  parts_ok : (qs : List Part) (r new : Read) (i j : Input) → parts_known qs ≡ true → Inside s i → parts node qs r i ≡ Ok (new, j) → Adds s i j (λ z. Fills (At z) s qs i.at j.at) r new
  parts_ok [] r new i j kn h e =
      let end = same_ok _ _ _ _ e in
      subst (λ y. Adds s i y (λ z. Fills (At z) s [] i.at y.at) r new) end.1
      (record {
        scalars = [];
        rows = [];
        scalars_are = ap (λ (z : Read). z.0) (sym end.0) ∙ sym (append-nil r.0);
        rows_are = ap (λ (z : Read). z.1) (sym end.0) ∙ sym (append-nil r.1);
        after = record { move = stay s i h; holds = λ z gr. no_parts i.at };
      })
  parts_ok (q ∷ qs) r new i j kn h e =
      let a = bound (part node q r i) _ _ e in
      let both = and_parts _ _ kn in
      let t = part_ok q r a.0 i a.1 both.0 h a.2 in
      let u = parts_ok qs a.0 new a.1 j both.1 t.after.move.inside a.3 in
      record {
        scalars = t.scalars ++ u.scalars;
        rows = t.rows ++ u.rows;
        scalars_are = u.scalars_are ∙ ap (λ z. z ++ u.scalars) t.scalars_are ∙ append_assoc r.0 t.scalars u.scalars;
        rows_are = u.rows_are ∙ ap (λ z. z ++ u.rows) t.rows_are ∙ append_assoc r.1 t.rows u.rows;
        after = record {
          move = move_on s i a.1 j t.after.move u.after.move;
          holds = λ z gr. (t.after.holds z (grows_on a.1.spans j.spans z u.after.move.grows gr)).leads qs j.at u.scalars u.rows (u.after.holds z gr);
        };
      }

  -- the rest of a node that begins at the offset
  record Filled (kind : Kind) (start : ℕ) (i j : Input) (r : Read) (x : Syntax) : Type 0 where
    new : Read
    number : ℕ
    is : made kind new number ≡ x
    adds : Adds s i j (λ z. Fills (At z) s (tail kind) i.at j.at) r new
    has : (z : List Span) → Grows j.spans z → HasSpan z (Some number) start j.at

  filled_ok : (kind : Kind) (start : ℕ) (r : Read) (x : Syntax) (i j : Input) → Inside s i → filled depth node kind start r i ≡ Ok (x, j) → Filled kind start i j r x
  unfolding filled
  filled_ok kind start r x i j h e =
      let a = bound (parts node (tail kind) r i) _ _ e in
      let low = bound (shallow depth a.0 a.1) (λ _. λ i. and_then (numbered start i) (λ from. pure (made kind a.0 from))) (x, j) a.3 in
      let here = shallow_ok depth a.0 a.1 low.1 low.0 low.2 in
      let b = bound (numbered start a.1) (λ from. pure (made kind a.0 from)) (x, j) (subst (λ y. and_then (numbered start y) (λ from. pure (made kind a.0 from)) ≡ Ok (x, j)) (sym here.1) low.3) in
      let end = same_ok _ _ _ _ b.3 in
      let t = parts_ok (tail kind) r a.0 i a.1 (tail_known kind) h a.2 in
      let n = numbered_ok start b.0 a.1 b.1 b.2 in
      let on : Move s a.1 b.1 = record { inside = record { text_is = n.text_is ∙ t.after.move.inside.text_is; within = omega (arith, n.at_is, t.after.move.inside.within) }; grows = n.grows } in
      subst (λ y. Filled kind start i y r x) end.1
      (record {
        new = a.0;
        number = b.0;
        is = end.0;
        adds = record {
          scalars = t.scalars;
          rows = t.rows;
          scalars_are = t.scalars_are;
          rows_are = t.rows_are;
          after = record {
            move = move_on s i a.1 b.1 t.after.move on;
            holds = λ z gr. subst (λ v. Fills (At z) s (tail kind) i.at v t.scalars t.rows) (sym n.at_is) (t.after.holds z (grows_on a.1.spans b.1.spans z n.grows gr));
          };
        };
        has = n.has;
      })

  -- a node of this kind from b on, read from i to j
  abbrev NodeAfter : Kind → ℕ → Input → Input → Syntax → Type 0
  NodeAfter kind b i j x = After s i j (λ z. Node (At z) s kind b j.at x)

  abbrev SpellsAfter : Category → ℕ → ℕ → Input → Input → Syntax → Type 0
  SpellsAfter c l b i j x = After s i j (λ z. Spells (At z) s b j.at c l x)

  climb_ends : (c : Category) (least b : ℕ) (x : Syntax) (kind : Kind) (y : Syntax) (i0 i j : Input) → (let end : Outcome Syntax = Ok (x, i) in end ≡ Ok (y, j)) → belongs kind c ≡ true → least ≤ level kind
      → NodeAfter kind b i0 i x → SpellsAfter c least b i0 j y
  climb_ends c least b x kind y i0 i j e there high m =
      let end = same_ok _ _ _ _ e in
      subst (λ v. SpellsAfter c least b i0 v y) end.1
      (subst (λ v. SpellsAfter c least b i0 i v) end.0 (record { move = m.move; holds = λ z gr. formed b i.at c least x kind there high (m.holds z gr) }))

  climb_ok : (c : Category) (least b n : ℕ) (x : Syntax) (kind : Kind) (y : Syntax) (i0 i j : Input) → climb depth node c least b n x kind i ≡ Ok (y, j) → belongs kind c ≡ true → least ≤ level kind
      → NodeAfter kind b i0 i x → SpellsAfter c least b i0 j y
  unfolding climb
  climb_ok c least b zero x kind y i0 i j e there high m = climb_ends c least b x kind y i0 i j e there high m
  climb_ok c least b (suc n) x kind y i0 i j e there high m =
      elim (onward_ok (Ok (x, i)) (choose c least kind (word i)) _ _ e) [
        | inl g ↦ climb_ends c least b x kind y i0 i j g there high m
        | inr g ↦
            let longer = g.0 in
            let f = choose_ok c least kind (word i) longer g.1 in
            let led = led_infix (word i) longer f.leads in
            let t = passed s i m.move.inside led.is_known in
            let a = bound (filled depth node longer b ([], one None x ∷ []) (next i)) _ _ g.2 in
            let r = filled_ok longer b ([], one None x ∷ []) a.0 (next i) a.1 t.move.inside a.2 in
            let begins = subst (λ v. Begins v s b) (no_whole_left longer kind f.first_there) (node_begins (At i.spans) s kind b i.at x (m.holds i.spans (unchanged i.spans))) in
            let rest = move_on s i (next i) a.1 t.move r.adds.after.move in
            climb_ok c least b n a.0 longer y i0 a.1 j a.3 f.there f.high
            (record {
              move = move_on s i0 i a.1 m.move rest;
              holds = λ z gr.
                  let fills = a_child (left longer).0 (left longer).1 (p.Token (word i) ∷ tail longer) b b i.at a.1.at None x r.adds.scalars r.adds.rows (empty_stretch is_blank s b (omega (arith, begins.0)))
                  (formed b i.at (left longer).0 (left longer).1 x kind f.first_there f.first_high (m.holds z (grows_on i.spans a.1.spans z rest.grows gr)))
                  (a_token (word i) (tail longer) i.at (opening i) (next i).at a.1.at r.adds.scalars r.adds.rows t.scan (r.adds.after.holds z gr)) in
                  node_built s z longer b a.1.at r.new r.number r.adds.scalars (one None x ∷ r.adds.rows) a.0 r.adds.scalars_are r.adds.rows_are r.is (subst (λ v. Begins v s b) (sym led.no_whole) begins)
                  (subst (λ v. Fills (At z) s v b a.1.at r.adds.scalars (one None x ∷ r.adds.rows)) (sym (led_form longer (word i) led.infix_is)) fills) (r.has z gr);
            })
      ]

  -- where a node begins whose form a token begins
  start_ok : (i : Input) (kind : Kind) → Inside s i → Begun (word i) kind → Begins (is_whole kind) s (start_of kind i.at (opening i)) × Blank s i.at (start_of kind i.at (opening i))
  start_ok i kind h b = elim b.begins_with [
    | inl g ↦ rw g (tt, empty_stretch is_blank s i.at h.within)
    | inr g ↦ let t = passed s i h (name_known (word i) g.1) in rw g.0 (name_begins s (opening i) (next i).at (name_stands s (word i) _ _ g.1 t.scan.stands), t.scan.blank)
  ]

  record First (c : Category) (least : ℕ) (i j : Input) (x : Kinded) : Type 0 where
    there : belongs x.1 c ≡ true
    high : least ≤ level x.1
    blank : Blank s i.at (start_of x.1 i.at (opening i))
    after : NodeAfter x.1 (start_of x.1 i.at (opening i)) i j x.0

  first_ok : (o : Option Kind) (c : Category) (least : ℕ) (x : Kinded) (i j : Input) → ((kind : Kind) → o ≡ Some kind → Begun (word i) kind) → Inside s i
      → begun depth node o c least i ≡ Ok (x, j) → First c least i j x
  first_ok None c least x i j begun_so h e = absurd cc
  first_ok (Some kind) c least x i j begun_so h e =
      elim (branch (belongs kind c && nat_le least (level kind)) _ _ _ e) [
        | inl g ↦
            let start = start_of kind i.at (opening i) in
            let a = bound (filled depth node kind start ([], []) (settled kind i)) _ _ g.1 in
            let b = begun_so kind refl in
            let here = start_ok i kind h b in
            let on : Move s i (settled kind i) = record { inside = record { text_is = h.text_is; within = here.1.within }; grows = unchanged i.spans } in
            let r = filled_ok kind start ([], []) a.0 (settled kind i) a.1 on.inside a.2 in
            let end = same_ok _ _ _ _ a.3 in
            let both = and_parts _ _ g.0 in
            subst (λ y. First c least i y x) end.1
            (subst (λ v. First c least i a.1 v) end.0
            (record {
              there = both.0;
              high = leb-true _ _ both.1;
              blank = here.1;
              after = record {
                move = move_on s i (settled kind i) a.1 on r.adds.after.move;
                holds = λ z gr.
                    node_built s z kind start a.1.at r.new r.number r.adds.scalars r.adds.rows a.0 r.adds.scalars_are r.adds.rows_are r.is here.0
                    (subst (λ v. Fills (At z) s v start a.1.at r.adds.scalars r.adds.rows) (sym (bare_form kind b.bare)) (r.adds.after.holds z gr)) (r.has z gr);
              };
            }))
        | inr g ↦ absurd cc
      ]

  whole_ok : (c : Category) (least : ℕ) (y : Syntax) (i j : Input) → Inside s i → whole depth node c least i ≡ Ok (y, j) → Tree s c least i j y
  unfolding whole climbed first
  whole_ok c least y i j h e =
      let a = bound (first depth node c least i) _ _ e in
      let x = a.0 in
      let f = first_ok (begun_by c (word i)) c least x i a.1 (λ kind. begun_ok c (word i) kind) h a.2 in
      let start = start_of x.1 i.at (opening i) in
      record { start = start; blank = f.blank; at_once = starts_at_once c x.1 i.at (opening i) f.there; after = climb_ok c least start (turns a.1) x.0 x.1 y i a.1 j a.3 f.there f.high f.after }

pub node_ok : (s : List ℕ) (depth : ℕ) → IsSound s (node depth)
unfolding node
node_ok s zero c l i j x h e = absurd cc
node_ok s (suc depth) c l i j x h e = whole_ok s depth (node depth) (node_ok s depth) c l x i j h e

ends_with : (s : List ℕ) (b e : ℕ) → (b ≡ length s) × (e ≡ b) → e ≡ length s
ends_with s b e h = h.1 ∙ h.0

program_node_ends : (P : Said) (s : List ℕ) (b j : ℕ) (x : Syntax) → Node P s k.Program b j x → j ≡ length s
program_node_ends P s _ _ _ (built k.Program i j scalars rows from b (a_body _ _ _ _ _ _ _ _ _ row (a_token _ _ _ _ _ _ _ _ scan (no_parts _))) said) = ends_with s _ _ scan.stands

whole_node_ends : (P : Said) (s : List ℕ) (kind : Kind) (b j : ℕ) (x : Syntax) → is_whole kind ≡ true → Node P s kind b j x → j ≡ length s
whole_node_ends P s k.Program b j x e n = program_node_ends P s b j x n
whole_node_ends P s _ b j x e n = absurd cc

-- a program ends with the text
pub program_ends : (P : Said) (s : List ℕ) (b j l : ℕ) (x : Syntax) → Spells P s b j c.Program l x → j ≡ length s
program_ends P s _ _ _ _ (formed b j _ l x kind there high n) = whole_node_ends P s kind b j x there n

pub program_ok : (s : List ℕ) (j : Input) (y : Syntax) → program (begin s) ≡ Ok (y, j) → Whole (At j.spans) s y
unfolding program
program_ok s j y e =
    let f = node_ok s max_nesting c.Program 1 (begin s) j y (record { text_is = refl; within = omega arith }) e in
    let h = subst (λ v. Spells (At j.spans) s v j.at c.Program 1 y) (f.at_once refl) (f.after.holds j.spans (unchanged j.spans)) in
    subst (λ v. Spells (At j.spans) s 0 v c.Program 1 y) (program_ends (At j.spans) s 0 j.at 1 y h) h
