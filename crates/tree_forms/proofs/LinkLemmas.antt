-- The links below those of a node that goes on a chain.
use Rattle.std.proofs.Common.{◌≡◌, ◌∙◌, ◌<◌, ◌-◌, ◌+◌, ℕ, min, zero, suc, false, Option, Some, None, ap, sym, subst, arith}
use Rattle.std.specs.Prelude.{◌==◌}
use Rattle.std.proofs.lemmas.Bool.{ne_eqb}
use Rattle.tree_core.specs.Syntax.{Syntax, node, Slots, no_slots, slot, no_places, hole, place}
use Rattle.js_forms.specs.declared.category.Category.TheVariants as c
use Rattle.js_forms.specs.declared.form.Link.{Link}
use Rattle.js_forms.specs.declared.form.Link.TheVariants as link
use Rattle.tree_forms.specs.declared.variant.Variant.{Variant}
use Rattle.tree_forms.specs.Choice.{form}
use Rattle.tree_forms.specs.Edges.{left_end, first_edge, below_links, links_with, link_of}
use Rattle.tree_forms.specs.Reading.{child, child_in}

first_is : (slots : Slots) (t : Syntax) → child_in 0 slots ≡ Some t → below_links (first_edge slots) ≡ (left_end t).links
first_is no_slots t e = absurd cc
first_is (slot list no_places more) t e = absurd cc
first_is (slot list (hole name rest) more) t e = absurd cc
first_is (slot list (place name x rest) more) t e = let same : x ≡ t = cc in ap (λ (z : Syntax). (left_end z).links) same

with_some : (l : Link) (below n : ℕ) → n ≡ links_with (Some l) below → n < 4294967295 → n - 1 ≡ below
with_some link.Plain zero n e h = omega arith
with_some link.Optional zero n e h = omega arith
with_some l (suc below) n e h =
    let some : (suc below == 0) ≡ false = ne_eqb (suc below) 0 (λ z. omega (arith, z)) in
    let over : n ≡ min (suc below + 1) 4294967295 = rw some at e in
    omega arith

pub links_step : (x t : Syntax) (n : ℕ) (v : Option Variant) (l : Link) → n ≡ (left_end x).links → child 0 x ≡ Some t → v ≡ form c.Expression x → Some l ≡ link_of v → n < 4294967295 → n - 1 ≡ (left_end t).links
links_step (node kind found slots notes from) t n v l e k f is h =
    let which : link_of (form c.Expression (node kind found slots notes from)) ≡ Some l = ap link_of (sym f) ∙ sym is in
    let over : n ≡ links_with (Some l) (below_links (first_edge slots)) = e ∙ ap (λ (o : Option Link). links_with o (below_links (first_edge slots))) which in
    with_some l (below_links (first_edge slots)) n over h ∙ first_is slots t k
