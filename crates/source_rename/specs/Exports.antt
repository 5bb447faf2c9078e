-- Exports behind which the name `from` would be read as the word of a source (ECMA-262, clause 16.2.3).
use Rattle.std.specs.Prelude.{ℕ, ◌-◌, Bool, true, false, ◌&&◌, ◌==◌, if◌then◌else◌, List, [], ◌∷◌, ◌++◌, Option, Some, None, Result, Ok, Err, length, nat_le, nat_lt, slice_get, slice_index}
use Rattle.js_tokens.specs.declared.token.Goal.TheVariants.{Div}
use Rattle.js_tokens.specs.declared.token.Token.{Token}
use Rattle.js_lexer.specs.declared.fault.LexFault.{LexFault}
use Rattle.js_lexer.specs.Scan.{scan}
use Rattle.tree_core.specs.declared.span.Span.{Span}
use Rattle.tree_core.specs.Syntax.{Syntax, node, Slots, no_slots, slot, Places, no_places, hole, place}
use Rattle.tree_core.specs.View.{Row}
use Rattle.type_defs.specs.declared.kind.Kind.{Kind}
use Rattle.type_defs.specs.declared.kind.Kind.TheVariants.{ExportNamedDeclaration}
use Rattle.source_rename.specs.declared.edits.Edit.{Edit}
use Rattle.source_rename.specs.declared.exports.OpenEnd.{OpenEnd}
use Rattle.source_rename.specs.declared.places.Spelling.TheVariants.{End}

abbrev pub is_hole : Places → Bool
is_hole (hole _ no_places) = true
is_hole _ = false

-- a slot of one place, in which nothing stands
abbrev pub is_empty : Row → Bool
is_empty row = if row.0 then false else is_hole row.1

-- neither a declaration nor a source, which have the first and the third slot
abbrev pub lacks_both : Slots → Bool
lacks_both (slot l p (slot _ _ (slot m q _))) = is_empty (l, p) && is_empty (m, q)
lacks_both _ = false

-- the byte before the offset is a `;`
abbrev pub has_semicolon : List ℕ → ℕ → Bool
has_semicolon s end = (nat_lt 0 end && nat_le end (length s)) && (slice_index s (end - 1) == 59)

abbrev pub start_found : Result Token LexFault → Option ℕ
start_found (Ok token) = Some token.start
start_found (Err _) = None

-- where the token behind the offset begins
abbrev pub start_behind : List ℕ → ℕ → Option ℕ
start_behind s at = if nat_le at (length s) then start_found (scan s at Div) else None

abbrev pub open_to : ℕ → Option ℕ → Option OpenEnd
open_to end None = None
open_to end (Some next) = Some (record { end = end; next = next })

abbrev pub open_behind : List ℕ → ℕ → Option OpenEnd
open_behind s end = if has_semicolon s end then None else open_to end (start_behind s end)

-- the end of an export at this stretch, where it has no `;`
abbrev pub open_at : List ℕ → Option Span → Option OpenEnd
open_at s None = None
open_at s (Some span) = open_behind s span.end

abbrev pub span_of : List Span → Option ℕ → Option Span
span_of spans None = None
span_of spans (Some n) = slice_get spans n

abbrev pub exports_names : Kind → Bool
exports_names ExportNamedDeclaration = true
exports_names kind = false

-- the end of the tree, where it is an export of the module's own names without a `;`
abbrev pub open_end : List ℕ → List Span → Syntax → Option OpenEnd
open_end s spans (node kind scalars slots notes from) = if exports_names kind && lacks_both slots then open_at s (span_of spans from) else None

abbrev pub known : Option OpenEnd → List OpenEnd
known None = []
known (Some end) = end ∷ []

abbrev pub open_ends : List ℕ → List Span → Places → List OpenEnd
open_ends s spans no_places = []
open_ends s spans (hole _ more) = open_ends s spans more
open_ends s spans (place _ t more) = known (open_end s spans t) ++ open_ends s spans more

-- the ends from the first on whose next token is not before the offset
abbrev pub left_of : ℕ → List OpenEnd → List OpenEnd
left_of start [] = []
left_of start (e ∷ es) = if nat_le start e.next then e ∷ es else left_of start es

-- the `;` of the end whose next token begins at the offset
abbrev pub end_before : ℕ → Option OpenEnd → List Edit
end_before start None = []
end_before start (Some e) = if e.next == start then record { span = record { start = e.end; end = e.end }; spelling = End } ∷ [] else []

-- the edits, each behind the `;` of the end that its name would join
abbrev pub ended : List OpenEnd → List Edit → List Edit
ended ends [] = []
ended ends (e ∷ es) = let left = left_of e.span.start ends in end_before e.span.start (slice_get left 0) ++ (e ∷ ended left es)

abbrev pub ended_row : List ℕ → List Span → Row → List Edit → List Edit
ended_row s spans row es = if row.0 then ended (open_ends s spans row.1) es else es

-- the edits with the ends of the exports in the first slot
abbrev pub ended_slots : List ℕ → List Span → Slots → List Edit → List Edit
ended_slots s spans no_slots es = es
ended_slots s spans (slot list places more) es = ended_row s spans (list, places) es

abbrev pub ended_in : List ℕ → List Span → Syntax → List Edit → List Edit
ended_in s spans (node kind scalars slots notes from) es = ended_slots s spans slots es
