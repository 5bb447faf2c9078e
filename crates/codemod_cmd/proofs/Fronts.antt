-- Bytes that grow by a front of a text, and then by more.
use Rattle.std.proofs.Common.{◌≡◌, ℕ, List, [], ◌++◌, Some, None, Ok, Err, refl, sym, ap, subst, ◌∙◌, append_assoc, append-nil}
use Rattle.std.specs.Prelude.{Option, Result, OnErr}
use Rattle.std.specs.Io.KnownBytes.{Appends}
use Rattle.cm_store.specs.Writing.{AppendsFront}

pub on_err : {A E : Type 0} (Q : Type 0) (r : Result A E) → Q → OnErr r Q
on_err Q (Ok x) q = tt
on_err Q (Err e) q = q

pub on_err_from : {A E : Type 0} (P Q : Type 0) (r : Result A E) → OnErr r P → (P → Q) → OnErr r Q
on_err_from P Q (Ok x) p f = tt
on_err_from P Q (Err e) p f = f p

pub appends_both : (old mid new : Option (List ℕ)) (a b : List ℕ) → Appends old mid a → Appends mid new b → Appends old new (a ++ b)
appends_both None mid new a b p q = tt
appends_both (Some xs) None new a b p q = absurd p
appends_both (Some xs) (Some ys) None a b p q = q
appends_both (Some xs) (Some ys) (Some zs) a b p q = q ∙ ap (λ x. x ++ b) p ∙ append_assoc xs a b

-- a front of a text is one of a longer text
pub front_more : (old new : Option (List ℕ)) (a b : List ℕ) → AppendsFront old new a → AppendsFront old new (a ++ b)
front_more old new a b h = (h.0, h.1 ++ b, ap (λ x. x ++ b) h.2 ∙ append_assoc h.0 h.1 b, h.3)

-- and so is a text with a front of what follows it
pub front_after : (old mid new : Option (List ℕ)) (a b : List ℕ) → Appends old mid a → AppendsFront mid new b → AppendsFront old new (a ++ b)
front_after old mid new a b p h = (a ++ h.0, h.1, ap (λ x. a ++ x) h.2 ∙ sym (append_assoc a h.0 h.1), appends_both old mid new a h.0 p h.3)

pub nothing_appended : (a : Option (List ℕ)) → Appends a a []
nothing_appended None = tt
nothing_appended (Some x) = sym (append-nil x)

-- nothing is a front of each text
pub front_none : (old new : Option (List ℕ)) (a : List ℕ) → new ≡ old → AppendsFront old new a
front_none old new a e = ([], a, refl, subst (λ t. Appends old t []) (sym e) (nothing_appended old))
