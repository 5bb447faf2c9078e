-- What bytes in ASCII spell that have no escapes and no carriage returns.
use Rattle.std.proofs.Common.{◌≡◌, ◌<◌, ◌+◌, ◌-◌, ℕ, suc, List, [], ◌∷◌, ◌++◌, length, get_or, Bool, true, false, Option, Some, Ok, Err, refl, ap, sym, ◌∙◌, arith}
use Rattle.std.specs.Option.{option_map_or}
use Rattle.std.proofs.lemmas.Bool.{lt-ltb, ne_eqb}
use Rattle.std.proofs.lemmas.Grind.{same_number_lists}
use Rattle.js_tokens.specs.Characters.{first_char}
use Rattle.js_tokens.specs.Pieces.{character, coded}
use Rattle.js_tokens.specs.Texts.{piece_units, plain_piece, cooked_piece, plain_units, cooked_units, before, code_units}
use Rattle.js_tokens.specs.declared.piece.Piece.{Piece}
use Rattle.js_tokens.specs.declared.text.Spelled.{Spelled}
use Rattle.js_tokens.specs.declared.text.Spelled.TheVariants.{AsWritten, InTemplate, InName}
use Rattle.js_tokens.specs.declared.text.Cooked.TheVariants.{OfString}
use Rattle.leaf_spellings.specs.Plain.{SpellsPlainly}

abbrev Low : List ℕ → Type 0
Low bytes = (k : ℕ) → k < length bytes → get_or bytes k 0 < 0x80

abbrev Lacks : ℕ → List ℕ → Type 0
Lacks byte bytes = (k : ℕ) → k < length bytes → get_or bytes k 0 ≡ byte → ⊥

low-character : (byte : ℕ) (bytes : List ℕ) → byte < 0x80 → character (byte ∷ bytes) ≡ coded byte 1
unfolding first_char
low-character byte bytes low = let is = lt-ltb byte 0x80 low in rw is refl

low-units : (byte : ℕ) → byte < 0x80 → piece_units (coded byte 1) ≡ byte ∷ []
low-units byte low = let is = lt-ltb byte 0x1_0000 (omega arith) in rw is refl

low-piece : (how : Spelled) (byte : ℕ) (bytes : List ℕ) → byte < 0x80 → (byte ≡ 0x5C → ⊥) → (byte ≡ 0x0D → ⊥) → plain_piece how (byte ∷ bytes) ≡ coded byte 1
low-piece AsWritten byte bytes low no_escape no_return = low-character byte bytes low
low-piece InTemplate byte bytes low no_escape no_return = let is = ne_eqb byte 0x0D no_return in rw is (low-character byte bytes low)
low-piece InName byte bytes low no_escape no_return = let is = ne_eqb byte 0x5C no_escape in rw is (low-character byte bytes low)

low-step : (how : Spelled) (byte : ℕ) (bytes : List ℕ) → byte < 0x80 → (byte ≡ 0x5C → ⊥) → (byte ≡ 0x0D → ⊥) → plain_units how 0 (byte ∷ bytes) ≡ byte ∷ plain_units how 0 bytes
unfolding plain_units
low-step how byte bytes low no_escape no_return =
    ap (λ (piece : Piece). piece_units piece ++ plain_units how (piece.len - 1) bytes) (low-piece how byte bytes low no_escape no_return)
    ∙ ap (λ (units : List ℕ). units ++ plain_units how 0 bytes) (low-units byte low)

plain-units : (how : Spelled) (bytes : List ℕ) → Low bytes → Lacks 0x5C bytes → Lacks 0x0D bytes → plain_units how 0 bytes ≡ bytes
unfolding plain_units
plain-units how [] low no_escape no_return = refl
plain-units how (byte ∷ bytes) low no_escape no_return =
    low-step how byte bytes (low 0 (omega arith)) (no_escape 0 (omega arith)) (no_return 0 (omega arith))
    ∙ ap (λ (units : List ℕ). byte ∷ units)
    (plain-units how bytes (λ k inside. low (suc k) (omega arith)) (λ k inside. no_escape (suc k) (omega arith)) (λ k inside. no_return (suc k) (omega arith)))

string-step : (at byte : ℕ) (bytes : List ℕ) → byte < 0x80 → (byte ≡ 0x5C → ⊥) → cooked_units OfString at 0 (byte ∷ bytes) ≡ before (byte ∷ []) (cooked_units OfString (at + 1) 0 bytes)
unfolding cooked_units
string-step at byte bytes low no_escape =
    let is = ne_eqb byte 0x5C no_escape in
    let piece : cooked_piece OfString (byte ∷ bytes) ≡ Some (coded byte 1) = rw is (ap Some (low-character byte bytes low)) in
    ap (λ (o : Option Piece). option_map_or (λ (p : Piece). before (piece_units p) (cooked_units OfString (at + 1) (p.len - 1) bytes)) o (Err at)) piece
    ∙ ap (λ (units : List ℕ). before units (cooked_units OfString (at + 1) 0 bytes)) (low-units byte low)

string-units : (at : ℕ) (bytes : List ℕ) → Low bytes → Lacks 0x5C bytes → cooked_units OfString at 0 bytes ≡ Ok bytes
unfolding cooked_units
string-units at [] low no_escape = refl
string-units at (byte ∷ bytes) low no_escape =
    string-step at byte bytes (low 0 (omega arith)) (no_escape 0 (omega arith))
    ∙ ap (before (byte ∷ [])) (string-units (at + 1) bytes (λ k inside. low (suc k) (omega arith)) (λ k inside. no_escape (suc k) (omega arith)))

pub plain_texts : (bytes units : List ℕ) → length bytes ≡ length units → Low bytes → Lacks 0x5C bytes → Lacks 0x0D bytes
    → ((k : ℕ) → k < length bytes → get_or bytes k 0 ≡ get_or units k 0) → SpellsPlainly bytes units
plain_texts bytes units long low no_escape no_return same =
    let is : units ≡ bytes = sym (same_number_lists bytes units long same) in record {
      name = is ∙ sym (plain-units InName bytes low no_escape no_return);
      written = is ∙ sym (plain-units AsWritten bytes low no_escape no_return);
      in_template = is ∙ sym (plain-units InTemplate bytes low no_escape no_return);
      in_quotes = string-units 0 bytes low no_escape ∙ ap Ok (sym is);
    }

pub plain_written : (bytes units : List ℕ) (template : Bool) → SpellsPlainly bytes units → units ≡ code_units template bytes
plain_written bytes units true plain = plain.in_template
plain_written bytes units false plain = plain.written
