-- Walks down a tree by so many levels.
use Rattle.std.proofs.Common.{◌≡◌, ◌<◌, ◌+◌, ℕ, zero, suc, true, false, Option, Some, None, Bor, refl, arith}
use Rattle.std.specs.Option.{option_copied, option_map}
use Rattle.tree_core.specs.declared.tree.Tree.{Tree}
use Rattle.tree_core.specs.Syntax.{Syntax}
use Rattle.tree_core.specs.View.{syntax}
use Rattle.tree_check.specs.Parts.{ends_in_open_if, is_open_if, last_statement, has_optional_link, is_optional_link, link_below}

abbrev pub seen : Option (Bor Tree) → Option Syntax
seen o = option_map syntax (option_copied o)

pub open_none : (m : ℕ) (o : Option Syntax) → o ≡ None → ends_in_open_if m o ≡ false
unfolding ends_in_open_if
open_none zero o e = refl
open_none (suc m) o e = rw e refl

pub open_end : (m : ℕ) (o : Option Syntax) → m ≡ 0 → ends_in_open_if m o ≡ false
unfolding ends_in_open_if
open_end zero o e = refl
open_end (suc m) o e = absurd (omega arith)

pub open_here : (m : ℕ) (o : Option Syntax) (x : Syntax) → o ≡ Some x → 0 < m → is_open_if x ≡ true → ends_in_open_if m o ≡ true
unfolding ends_in_open_if
open_here zero o x e h t = absurd (omega arith)
open_here (suc m) o x e h t = rw (e, t) refl

pub open_past : (m n : ℕ) (o p : Option Syntax) (x : Syntax) → o ≡ Some x → m ≡ n + 1 → is_open_if x ≡ false → p ≡ last_statement x → ends_in_open_if m o ≡ ends_in_open_if n p
unfolding ends_in_open_if
open_past zero n o p x e h t b = absurd (omega arith)
open_past (suc m) n o p x e h t b = let same : m ≡ n = omega arith in rw (e, t, b, same) refl

pub link_none : (m : ℕ) (o : Option Syntax) → o ≡ None → has_optional_link m o ≡ false
unfolding has_optional_link
link_none zero o e = refl
link_none (suc m) o e = rw e refl

pub link_end : (m : ℕ) (o : Option Syntax) → m ≡ 0 → has_optional_link m o ≡ false
unfolding has_optional_link
link_end zero o e = refl
link_end (suc m) o e = absurd (omega arith)

pub link_here : (m : ℕ) (o : Option Syntax) (x : Syntax) → o ≡ Some x → 0 < m → is_optional_link x ≡ true → has_optional_link m o ≡ true
unfolding has_optional_link
link_here zero o x e h t = absurd (omega arith)
link_here (suc m) o x e h t = rw (e, t) refl

pub link_past : (m n : ℕ) (o p : Option Syntax) (x : Syntax) → o ≡ Some x → m ≡ n + 1 → is_optional_link x ≡ false → p ≡ link_below x → has_optional_link m o ≡ has_optional_link n p
unfolding has_optional_link
link_past zero n o p x e h t b = absurd (omega arith)
link_past (suc m) n o p x e h t b = let same : m ≡ n = omega arith in rw (e, t, b, same) refl
