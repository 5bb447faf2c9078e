-- Trees that are the same with their comments are the same without them.
use Rattle.std.proofs.Common.{◌≡◌, None, refl, sym, ap, ◌∙◌}
use Rattle.text_guard.specs.Plain.{no_notes, plain, plain_slots, plain_places}
use Rattle.tree_core.specs.Bare.{bare, bare_slots, bare_places}
use Rattle.tree_core.specs.Syntax.{Syntax, node, Slots, no_slots, slot, Places, no_places, hole, place}

mutual
  plain_of_bare : (x : Syntax) → plain (bare x) ≡ plain x
  plain_of_bare (node kind scalars slots notes from) = ap (λ s. node kind scalars s no_notes None) (slots_of_bare slots)

  slots_of_bare : (s : Slots) → plain_slots (bare_slots s) ≡ plain_slots s
  slots_of_bare no_slots = refl
  slots_of_bare (slot list places more) = ap (λ p. slot list p (plain_slots (bare_slots more))) (places_of_bare places) ∙ ap (slot list (plain_places places)) (slots_of_bare more)

  places_of_bare : (p : Places) → plain_places (bare_places p) ≡ plain_places p
  places_of_bare no_places = refl
  places_of_bare (hole name more) = ap (hole None) (places_of_bare more)
  places_of_bare (place name x more) = ap (λ y. place None y (plain_places (bare_places more))) (plain_of_bare x) ∙ ap (place None (plain x)) (places_of_bare more)

pub same_nodes_of_same : (a b : Syntax) → bare a ≡ bare b → plain a ≡ plain b
same_nodes_of_same a b e = sym (plain_of_bare a) ∙ (ap plain e ∙ plain_of_bare b)
