-- The words that begin as a name does are enough to tell which word it is.
use Rattle.std.proofs.Common.{◌≡◌, ◌∙◌, sym, subst, ⊎_elim, ℕ, Bool, true, false, List, [], ◌∷◌, filter, refl}
use Rattle.std.specs.Prelude.{slice_index, bytes_eq, ◌==◌}
use Rattle.std.proofs.lemmas.Bool.{cases_eq, ne_eqb}
use Rattle.js_tokens.specs.Words.{words, word_spellings, word_spelling, begins_with, words_on, first_spelled, word_of}
use Rattle.js_tokens.specs.declared.word.Word.{Word}

abbrev on : ℕ → List Word → List Word
on byte ws = filter (λ word. begins_with byte (word_spelling word)) ws

unlike : (byte : ℕ) (rest xs : List ℕ) → begins_with byte xs ≡ false → bytes_eq xs (byte ∷ rest) ≡ false
unlike byte rest [] h = refl
unlike byte rest (x ∷ xs) h = rw h refl

more : (byte : ℕ) (rest : List ℕ) (word : Word) (ws : List Word) (b : Bool) → begins_with byte (word_spelling word) ≡ b
    → first_spelled (on byte ws) (byte ∷ rest) ≡ first_spelled ws (byte ∷ rest) → first_spelled (on byte (word ∷ ws)) (byte ∷ rest) ≡ first_spelled (word ∷ ws) (byte ∷ rest)
more byte rest word ws true h e = rw (h, e) refl
more byte rest word ws false h e = rw (h, unlike byte rest (word_spelling word) h) e

enough : (byte : ℕ) (rest : List ℕ) (ws : List Word) → first_spelled (on byte ws) (byte ∷ rest) ≡ first_spelled ws (byte ∷ rest)
enough byte rest [] = refl
enough byte rest (word ∷ ws) = more byte rest word ws (begins_with byte (word_spelling word)) refl (enough byte rest ws)

none : first_spelled (words_on 0) [] ≡ word_of []
unfolding words word_spellings words_on
none = refl

enough_of : (byte : ℕ) (rest : List ℕ) → first_spelled (words_on byte) (byte ∷ rest) ≡ word_of (byte ∷ rest)
unfolding words_on
enough_of byte rest = enough byte rest words

pub words_on_enough : (name : List ℕ) (ws : List Word) (first : ℕ) → first ≡ slice_index name 0 → ws ≡ words_on first → first_spelled ws name ≡ word_of name
words_on_enough [] ws first is at = rw (at, is) none
words_on_enough (byte ∷ rest) ws first is at = rw (at, is) (enough_of byte rest)

same_numbers : (x y : ℕ) → (x == y) ≡ (y == x)
same_numbers x y =
    ⊎_elim (λ e. subst (λ z. (x == z) ≡ (z == x)) e refl) (λ other. ne_eqb x y other ∙ sym (ne_eqb y x (λ e. other (sym e)))) (cases_eq x y)

same_ways : (xs ys : List ℕ) → bytes_eq xs ys ≡ bytes_eq ys xs
same_ways [] [] = refl
same_ways [] (y ∷ ys) = refl
same_ways (x ∷ xs) [] = refl
same_ways (x ∷ xs) (y ∷ ys) = rw (same_numbers x y, same_ways xs ys) refl

pub turned : (xs ys : List ℕ) (b : Bool) → b ≡ bytes_eq xs ys → b ≡ bytes_eq ys xs
turned xs ys b e = e ∙ same_ways xs ys
