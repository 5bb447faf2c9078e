-- How high the trees are that are read.
use Rattle.std.proofs.Common.{◌≡◌, ◌≤◌, ℕ, zero, suc, ◌&&◌, nat_le, inl, inr, [], ◌∷◌, Option, Some, None, Ok, subst, arith}
use Rattle.tree_core.specs.Height.{height}
use Rattle.tree_core.specs.Syntax.{Syntax}
use Rattle.first_grammar.specs.declared.table.Kind.{Kind}
use Rattle.first_grammar.specs.declared.table.Category.{Category}
use Rattle.first_grammar.specs.declared.table.Category.TheVariants as c
use Rattle.first_grammar.specs.Table.{tail, level, belongs, begun_by}
use Rattle.first_grammar.specs.Spells.{one}
use Rattle.first_grammar.specs.Input.{Input, Reader, word, opening, turns, next, numbered, start_of, settled}
use Rattle.first_grammar.specs.Reading.{Read, Kinded, parts, shallow, filled, begun, first, choose, climb, climbed, whole, node, program, max_nesting}
use Rattle.first_grammar.proofs.Passed.{bound, same_ok, branch, shallow_ok}
use Rattle.first_grammar.proofs.Sound.{onward_ok}

module _ (depth : ℕ) (node : Category → ℕ → Reader Syntax) where
  filled_low : (kind : Kind) (start : ℕ) (r : Read) (x : Syntax) (i j : Input) → filled depth node kind start r i ≡ Ok (x, j) → height x ≤ suc depth
  unfolding filled
  filled_low kind start r x i j e =
      let a = bound (parts node (tail kind) r i) _ _ e in
      let low = bound (shallow depth a.0 a.1) _ _ a.3 in
      let b = bound (numbered start low.1) _ _ low.3 in
      subst (λ y. height y ≤ suc depth) (same_ok _ _ _ _ b.3).0 (omega (arith, (shallow_ok depth a.0 a.1 low.1 low.0 low.2).0))

  first_low : (o : Option Kind) (c : Category) (least : ℕ) (x : Kinded) (i j : Input) → begun depth node o c least i ≡ Ok (x, j) → height x.0 ≤ suc depth
  first_low None c least x i j e = absurd cc
  first_low (Some kind) c least x i j e =
      elim (branch (belongs kind c && nat_le least (level kind)) _ _ _ e) [
        | inl g ↦
            let a = bound (filled depth node kind (start_of kind i.at (opening i)) ([], []) (settled kind i)) _ _ g.1 in
            subst (λ (y : Kinded). height y.0 ≤ suc depth) (same_ok _ _ _ _ a.3).0 (filled_low kind _ ([], []) a.0 _ a.1 a.2)
        | inr g ↦ absurd cc
      ]

  climb_low : (c : Category) (least start n : ℕ) (x : Syntax) (kind : Kind) (y : Syntax) (i j : Input) → climb depth node c least start n x kind i ≡ Ok (y, j) → height x ≤ suc depth → height y ≤ suc depth
  unfolding climb
  climb_low c least start zero x kind y i j e low = subst (λ z. height z ≤ suc depth) (same_ok _ _ _ _ e).0 low
  climb_low c least start (suc n) x kind y i j e low =
      elim (onward_ok (Ok (x, i)) (choose c least kind (word i)) _ _ e) [
        | inl g ↦ subst (λ z. height z ≤ suc depth) (same_ok _ _ _ _ g).0 low
        | inr g ↦
            let a = bound (filled depth node g.0 start ([], one None x ∷ []) (next i)) _ _ g.2 in
            climb_low c least start n a.0 g.0 y a.1 j a.3 (filled_low g.0 start ([], one None x ∷ []) a.0 (next i) a.1 a.2)
      ]

  whole_low : (c : Category) (least : ℕ) (y : Syntax) (i j : Input) → whole depth node c least i ≡ Ok (y, j) → height y ≤ suc depth
  unfolding whole climbed first
  whole_low c least y i j e =
      let a = bound (first depth node c least i) _ _ e in
      climb_low c least (start_of a.0.1 i.at (opening i)) (turns a.1) a.0.0 a.0.1 y a.1 j a.3 (first_low (begun_by c (word i)) c least a.0 i a.1 a.2)

-- a tree is no higher than the depth at which it is read
pub node_low : (depth : ℕ) (c : Category) (least : ℕ) (y : Syntax) (i j : Input) → node depth c least i ≡ Ok (y, j) → height y ≤ depth
unfolding node
node_low zero c least y i j e = absurd cc
node_low (suc depth) c least y i j e = whole_low depth (node depth) c least y i j e

pub program_low : (y : Syntax) (i j : Input) → program i ≡ Ok (y, j) → height y ≤ max_nesting
unfolding program
program_low y i j e = node_low max_nesting c.Program 1 y i j e
