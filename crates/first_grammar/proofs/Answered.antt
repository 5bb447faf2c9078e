-- What the answer to a whole text tells.
use Rattle.std.proofs.Common.{◌≡◌, ℕ, List, Result, Ok, Err, sym, ◌∙◌, ap, subst, [], ◌++◌, ◌≤◌, length, arith}
use Rattle.std.specs.Prelude.{IsErr, IfErr}
use Rattle.tree_core.specs.declared.span.Span.{Span}
use Rattle.tree_core.specs.Syntax.{Syntax}
use Rattle.tree_core.specs.Bare.{bare}
use Rattle.tree_core.specs.Height.{height}
use Rattle.first_grammar.specs.declared.error.ReadError.{ReadError}
use Rattle.first_grammar.specs.declared.error.ReadError.TheVariants.{NoMemory, Unexpected, Nesting}
use Rattle.first_grammar.specs.Spells.{At, Whole, Reads}
use Rattle.first_grammar.specs.Input.{Input, Outcome}
use Rattle.first_grammar.specs.Numbers.{count, numbered, spans_of}
use Rattle.first_grammar.specs.Reading.{max_nesting}
use Rattle.first_grammar.specs.Parse.{with_spans, raw, Refused}
use Rattle.first_grammar.specs.Whole.{Answers}
use Rattle.first_grammar.proofs.Bares.{height_alike}
use Rattle.first_grammar.proofs.Heights.{program_low}
use Rattle.first_grammar.proofs.Numberings.{spans_count, count_numbered, numbered_bare, numbered_again}
use Rattle.first_grammar.proofs.Renumbered.{spelled_anew}
use Rattle.first_grammar.proofs.Sound.{program_ok}
use Rattle.first_grammar.proofs.OneTree.{no_refusal, deep, the_tree}

-- the outcome behind a tree with its spans
record Behind (o : Outcome Syntax) (x : Syntax) (spans : List Span) : Type 0 where
  input : Input
  is : o ≡ Ok (x, input)
  spans_are : input.spans ≡ spans

behind : (o : Outcome Syntax) (x : Syntax) (spans : List Span) → with_spans o ≡ Ok (x, spans) → Behind o x spans
behind (Err e) x spans is = absurd cc
behind (Ok r) x spans is =
    let pairs : ◌≡◌ {A = Syntax × List Span} (r.0, r.1.spans) (x, spans) = cc in
    let tree : r.0 ≡ x = ap (λ (q : Syntax × List Span). q.0) pairs in
    record { input = r.1; is = ap (λ z. Ok (z, r.1)) tree; spans_are = ap (λ (q : Syntax × List Span). q.1) pairs }

-- a tree that is read and numbered
pub record Parsing (s : List ℕ) (y : Syntax) (spans : List Span) : Type 0 where
  pub spelled : Whole (At spans) s y
  pub numbered_so : y ≡ numbered 0 y
  pub spans_number : length spans ≡ count y
  pub low : height y ≤ max_nesting
  pub alone : (t : Syntax) → Reads s t → bare y ≡ bare t

pub parsing : (s : List ℕ) (x y : Syntax) (old seen start spans : List Span) → raw s ≡ Ok (x, old) → seen ≡ old → start ≡ [] → y ≡ numbered (length start) x → spans ≡ start ++ spans_of seen x → Parsing s y spans
parsing s x y old seen start spans e same none named given =
    let b = behind _ x old e in
    let is : numbered 0 x ≡ y = sym (named ∙ ap (λ z. numbered (length z) x) none) in
    let are : spans_of old x ≡ spans = sym (given ∙ ap (λ z. start ++ spans_of z x) same ∙ ap (λ z. z ++ spans_of old x) none) in
    subst (λ z. Parsing s y z) are
    (subst (λ z. Parsing s z (spans_of old x)) is
    (record {
      spelled = spelled_anew s old x (subst (λ z. Whole (At z) s x) b.spans_are (program_ok s b.input x b.is));
      numbered_so = sym (numbered_again 0 x);
      spans_number = spans_count old x ∙ sym (count_numbered 0 x);
      low = omega (arith, program_low x _ b.input b.is, height_alike (numbered 0 x) x (numbered_bare 0 x));
      alone = λ t reads. numbered_bare 0 x ∙ sym (the_tree s t x b.input b.is reads);
    }))

-- what is refused reads as no tree, or as one that nests too deep
pub refused_alone : {A : Type 0} (view : A → Syntax) (s : List ℕ) (r : Result A ReadError) → IsErr r → IfErr r (λ e. Refused s e) → (t : Syntax) → Reads s t → Answers view r t
refused_alone view s (Ok a) is refused t reads = absurd cc
refused_alone view s (Err NoMemory) is refused t reads = tt
refused_alone view s (Err (Unexpected at)) is refused t reads = no_refusal s t at (refused (λ e. cc)) reads
refused_alone view s (Err (Nesting at)) is refused t reads = deep s t at (refused (λ e. cc)) reads
