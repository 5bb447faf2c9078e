-- A source in which the stretches of identifiers give way to a name.
use Rattle.std.specs.Prelude.{ℕ, Bool, ◌&&◌, if◌then◌else◌, List, [], ◌∷◌, ◌++◌, Option, Some, None, length, drop, nat_le, slice_range, slice_get}
use Rattle.js_tokens.specs.declared.word.Word.{Word}
use Rattle.tree_core.specs.declared.span.Span.{Span}
use Rattle.tree_core.specs.Syntax.{Syntax, node, Slots, no_slots, slot, Places, no_places, hole, place}
use Rattle.first_rename.specs.Names.{is_named}
use Rattle.source_rename.specs.declared.edits.Edit.{Edit}
use Rattle.source_rename.specs.declared.places.Seat.{Seat}
use Rattle.source_rename.specs.declared.places.Seat.TheVariants.{Free}
use Rattle.source_rename.specs.declared.places.Spelling.{Spelling}
use Rattle.source_rename.specs.declared.places.Spelling.TheVariants.{Name, Grouped, Ended, End}
use Rattle.source_rename.specs.Seats.{first_seat, spelling_at}

abbrev pub edit_of : List ℕ → Seat → Option Span → List Edit
edit_of s seat None = []
edit_of s seat (Some span) = record { span = span; spelling = spelling_at s span seat } ∷ []

-- the stretch of the node of this number, where it has one
abbrev pub stretch : List ℕ → List Span → Seat → Option ℕ → List Edit
stretch s spans seat None = []
stretch s spans seat (Some n) = edit_of s seat (slice_get spans n)

abbrev pub in_slot : Bool → Seat → Seat
in_slot list seat = if list then Free else seat

abbrev mutual
  -- the identifiers of the old name in preorder, in a tree in this seat and a rename to this word
  pub edits : List ℕ → List Span → List ℕ → Word → Seat → Syntax → List Edit
  edits s spans old word seat (node kind scalars slots notes from) =
      (if is_named old kind scalars then stretch s spans seat from else []) ++ slot_edits s spans old word (first_seat word kind scalars) slots

  pub slot_edits : List ℕ → List Span → List ℕ → Word → Seat → Slots → List Edit
  slot_edits s spans old word seat no_slots = []
  slot_edits s spans old word seat (slot list places more) = place_edits s spans old word (in_slot list seat) places ++ slot_edits s spans old word Free more

  pub place_edits : List ℕ → List Span → List ℕ → Word → Seat → Places → List Edit
  place_edits s spans old word seat no_places = []
  place_edits s spans old word seat (hole _ more) = place_edits s spans old word seat more
  place_edits s spans old word seat (place _ t more) = edits s spans old word seat t ++ place_edits s spans old word seat more

-- what is written in the place of a stretch
abbrev pub spelled : List ℕ → Spelling → List ℕ
spelled new Name = new
spelled new Grouped = 40 ∷ (new ++ 41 ∷ [])
spelled new Ended = new ++ 59 ∷ []
spelled new End = 59 ∷ []

-- the stretch lies behind the offset, in a text of this length
abbrev pub lies_in : ℕ → ℕ → Span → Bool
lies_in at len span = (nat_le at span.start && nat_le span.start span.end) && nat_le span.end len

-- the text from an offset on with the edits made; one that begins before the offset is passed over
abbrev pub patched : List ℕ → List ℕ → ℕ → List Edit → List ℕ
patched s new at [] = drop at s
patched s new at (e ∷ es) =
    if lies_in at (length s) e.span then slice_range s at e.span.start ++ (spelled new e.spelling ++ patched s new e.span.end es) else patched s new at es
