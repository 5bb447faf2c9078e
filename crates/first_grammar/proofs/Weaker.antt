-- Where one thing is said of each node, what follows from it may be said too.
use Rattle.std.proofs.Common.{ℕ, List}
use Rattle.tree_core.specs.declared.span.Span.{Span}
use Rattle.tree_core.specs.declared.scalars.Scalar.{Scalar}
use Rattle.tree_core.specs.Syntax.{Syntax}
use Rattle.tree_core.specs.View.{Spot, Row}
use Rattle.first_grammar.specs.declared.table.Kind.{Kind}
use Rattle.first_grammar.specs.declared.table.Category.{Category}
use Rattle.first_grammar.specs.declared.table.Part.{Part}
use Rattle.first_grammar.specs.Spells.{Said, Spells, Node, Fills, Listed, InRow, formed, built, no_parts, a_token, a_name, free_name, a_child, empty_list, a_list, a_body, last, more, row_end, row_next, Anything, At, Whole, Reads}

module _ (P Q : Said) (follows : (t : Syntax) (i j : ℕ) → P t i j → Q t i j) (s : List ℕ) where
  mutual
    pub spells : (i j : ℕ) (c : Category) (l : ℕ) (x : Syntax) → Spells P s i j c l x → Spells Q s i j c l x
    spells _ _ _ _ _ (formed i j c l x kind there high n) = formed i j c l x kind there high (node kind i j x n)

    node : (kind : Kind) (i j : ℕ) (x : Syntax) → Node P s kind i j x → Node Q s kind i j x
    node _ _ _ _ (built kind i j scalars rows from begins h said) = built kind i j scalars rows from begins (fills _ i j scalars rows h) (follows _ i j said)

    fills : (qs : List Part) (i j : ℕ) (scalars : List Scalar) (rows : List Row) → Fills P s qs i j scalars rows → Fills Q s qs i j scalars rows
    fills _ _ _ _ _ (no_parts i) = no_parts i
    fills _ _ _ _ _ (a_token word qs i b e j scalars rows scan h) = a_token word qs i b e j scalars rows scan (fills qs e j scalars rows h)
    fills _ _ _ _ _ (a_name qs i b e j scalars rows scan h) = a_name qs i b e j scalars rows scan (fills qs e j scalars rows h)
    fills _ _ _ _ _ (free_name word qs i b e j scalars rows is scan h) = free_name word qs i b e j scalars rows is scan (fills qs e j scalars rows h)
    fills _ _ _ _ _ (a_child c l qs i b e j name x scalars rows blank g h) = a_child c l qs i b e j name x scalars rows blank (spells b e c l x g) (fills qs e j scalars rows h)
    fills _ _ _ _ _ (empty_list c l close qs i j scalars rows h) = empty_list c l close qs i j scalars rows (fills qs i j scalars rows h)
    fills _ _ _ _ _ (a_list c l close qs i e j xs scalars rows g h) = a_list c l close qs i e j xs scalars rows (listed c l i e xs g) (fills qs e j scalars rows h)
    fills _ _ _ _ _ (a_body c close qs i e j xs scalars rows g h) = a_body c close qs i e j xs scalars rows (in_row c i e xs g) (fills qs e j scalars rows h)

    listed : (c : Category) (l i j : ℕ) (xs : List Spot) → Listed P s c l i j xs → Listed Q s c l i j xs
    listed _ _ _ _ _ (last c l i b e name x blank g) = last c l i b e name x blank (spells b e c l x g)
    listed _ _ _ _ _ (more c l i b e b' e' j name x xs blank g scan h) = more c l i b e b' e' j name x xs blank (spells b e c l x g) scan (listed c l e' j xs h)

    in_row : (c : Category) (i j : ℕ) (xs : List Spot) → InRow P s c i j xs → InRow Q s c i j xs
    in_row _ _ _ _ (row_end c i) = row_end c i
    in_row _ _ _ _ (row_next c i b e j name x xs blank g h) = row_next c i b e j name x xs blank (spells b e c 1 x g) (in_row c e j xs h)

pub reads : (spans : List Span) (s : List ℕ) (x : Syntax) → Whole (At spans) s x → Reads s x
reads spans s x h = spells (At spans) Anything (λ t i j said. tt) s _ _ _ _ x h
