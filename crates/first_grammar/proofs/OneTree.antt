-- A text that reads as a tree is answered by that tree alone, or the tree nests too deep.
use Rattle.std.proofs.Common.{◌≡◌, ◌<◌, ◌+◌, ℕ, ◌⊎◌, inl, inr, List, Result, Ok, Err, sym, ◌∙◌, ap, arith, length}
use Rattle.tree_core.specs.Syntax.{Syntax}
use Rattle.tree_core.specs.Bare.{bare}
use Rattle.tree_core.specs.Height.{height}
use Rattle.first_grammar.specs.declared.error.ReadError.{ReadError}
use Rattle.first_grammar.specs.declared.error.ReadError.TheVariants.{NoMemory, Unexpected, Nesting}
use Rattle.first_grammar.specs.Spells.{Said, Anything, Whole, Reads}
use Rattle.first_grammar.specs.Input.{Input, Outcome, Gives, begin}
use Rattle.first_grammar.specs.Reading.{program, max_nesting}
use Rattle.first_grammar.specs.Whole.{Answers}
use Rattle.first_grammar.proofs.Complete.{whole_met}

ok_tree : (a b : Syntax) (i j : Input) → let one : Outcome Syntax = Ok (a, i) in one ≡ Ok (b, j) → a ≡ b
ok_tree a b i j e = let pair : ◌≡◌ {A = Syntax × Input} (a, i) (b, j) = cc in ap (λ (q : Syntax × Input). q.0) pair

-- one text has one tree, up to numbers and place names
pub one_tree : (P Q : Said) (s : List ℕ) (t u : Syntax) → Whole P s t → Whole Q s u → bare t ≡ bare u
one_tree P Q s t u spells also =
    let depth : ℕ = height t + height u in
    elim (whole_met P s t spells depth) [
      | inl a ↦ elim (whole_met Q s u also depth) [
        | inl b ↦ let same : a.0 ≡ b.0 = ok_tree a.0 b.0 _ _ (sym a.2 ∙ b.2) in sym a.3 ∙ ap bare same ∙ b.3
        | inr b ↦ absurd (omega arith)
      ]
      | inr a ↦ absurd (omega arith)
    ]

-- it is read, or it nests too deep
pub complete : (s : List ℕ) (t : Syntax) → Reads s t
    → ((u : Syntax) × (j : Input) × (program (begin s) ≡ Ok (u, j)) × (bare u ≡ bare t)) ⊎ ((at : ℕ) × (program (begin s) ≡ Err (Nesting at)) × (max_nesting < height t))
unfolding program
complete s t reads = elim (whole_met Anything s t reads max_nesting) [
  | inl a ↦ inl (a.0, record { text = s; at = length s; spans = a.1 }, a.2, a.3)
  | inr a ↦ inr a
]

-- what reads as a tree is not refused
pub no_refusal : (s : List ℕ) (t : Syntax) (at : ℕ) → program (begin s) ≡ Err (Unexpected at) → Reads s t → ⊥
no_refusal s t at e reads = elim (complete s t reads) [
  | inl a ↦ cc (e, a.2)
  | inr a ↦ cc (e, a.1)
]

-- it nests too deep only where it does
pub deep : (s : List ℕ) (t : Syntax) (at : ℕ) → program (begin s) ≡ Err (Nesting at) → Reads s t → max_nesting < height t
deep s t at e reads = elim (complete s t reads) [
  | inl a ↦ absurd (cc (e, a.2))
  | inr a ↦ a.2
]

-- what is read is the tree
pub the_tree : (s : List ℕ) (t u : Syntax) (j : Input) → program (begin s) ≡ Ok (u, j) → Reads s t → bare t ≡ bare u
the_tree s t u j e reads = elim (complete s t reads) [
  | inl a ↦ let same : a.0 ≡ u = ok_tree a.0 u _ _ (sym a.2 ∙ e) in sym a.3 ∙ ap bare same
  | inr a ↦ absurd (cc (e, a.1))
]

-- what a function answers that gives what the reader gives
pub answers : {A : Type 0} (view : A → Syntax) (s : List ℕ) (new : Input) (r : Result A ReadError) → Gives view (program (begin s)) r new → (t : Syntax) → Reads s t → Answers view r t
answers {A} view s new (Ok a) gives t reads = sym (the_tree s t (view a) new gives reads)
answers {A} view s new (Err NoMemory) gives t reads = tt
answers {A} view s new (Err (Unexpected at)) gives t reads = no_refusal s t at (gives (λ e. cc)) reads
answers {A} view s new (Err (Nesting at)) gives t reads = deep s t at (gives (λ e. cc)) reads
