-- The arena's rows beside the forest keep up with it.
use Rattle.std.proofs.Common.{◌≡◌, ⊎_elim, sym, ◌∙◌, ap, subst, refl, ℕ, suc, ◌+◌, ◌-◌, ◌<◌, ◌≤◌, ◌^◌, Bool, true, false, List, [], ◌∷◌, ◌++◌, length, map, max, count_by, not, cond, Option, Some, None, slice_get, slice_set, replicate, drop, arith, length-append, length-drop, length-set, zero-add}
use Rattle.std.proofs.lemmas.List.{length-map, length-replicate, length-take}
use Rattle.std.proofs.lemmas.List.Sums.{sum_by-cons}
use Rattle.std.proofs.lemmas.Option.{slice_get_within}
use Rattle.tree_core.specs.declared.scalars.Scalar.{Scalar}
use Rattle.tree_core.specs.declared.scalars.Scalar.TheVariants.{Null}
use Rattle.tree_core.specs.declared.comment.Comment.{Comment}
use Rattle.tree_core.specs.declared.tree.PlaceName.{PlaceName}
use Rattle.type_defs.specs.declared.kind.Kind.{Kind}
use Rattle.type_defs.specs.Fields.{lists_at, scalar_count}
use Rattle.type_defs.proofs.FieldTable.{scalar_count_few}
use Rattle.node_arena.specs.declared.payload.Facts.{Facts}
use Rattle.node_arena.specs.Rows.{edit, new_node, standing_at}
use Rattle.node_arena.specs.Lists.{insert_after, insert_before}
use Rattle.node_arena.specs.Forest.{Forest, Place, Linked, linked_of, make_of, new_places, empty_place, holding, reseated, cleared, clear_of, put_of, grown, given, at_slot, left, list_at, node_at, insert_first_of, insert_after_of, insert_before_of, unlink_of}
use Rattle.node_arena.specs.Payload.{Said, said_of, no_facts, with_node, with_copy, with_place, copied_facts, scalars_from, first_in, scalar_number, commented, coming_from}
use Rattle.node_arena.specs.Reads.{kind_at, kind_in}
use Rattle.node_arena.specs.Store.{kind_of, IsStore, single_count}
use Rattle.node_arena.proofs.Edits.{length_edit, was_kept}
use Rattle.node_arena.proofs.Pushes.{item_at, mapped, push_cases, map_append, map_edit_kept}

-- how many places a new node has
count_more : (b : Bool) (bs : List Bool) → count_by not (b ∷ bs) ≡ cond (not b) 1 0 + count_by not bs
count_more b bs = sum_by-cons (λ x. cond (not x) 1 0) b bs

new_places_length : (s : ℕ) (bs : List Bool) → length (new_places s bs) ≡ count_by not bs
new_places_length s [] = refl
new_places_length s (true ∷ bs) = new_places_length (suc s) bs ∙ sym (count_more true bs ∙ zero-add (count_by not bs))
new_places_length s (false ∷ bs) = let e = new_places_length (suc s) bs in let h = count_more false bs in omega arith

pub places_made : (F : Forest) (kind : Kind) → length (make_of F kind).places ≡ length F.places + single_count kind
places_made F kind =
    let a = length-append F.places (new_places (length F.slots) (lists_at kind)) in
    let b = new_places_length (length F.slots) (lists_at kind) in
    omega arith

length_from : (xs : List Scalar) (first count : ℕ) → first + count ≤ length xs → length (scalars_from xs first count) ≡ count
length_from xs first count h = let a = length-take (first + count - first) (drop first xs) in let b = length-drop first xs in omega arith

-- A new node.
store_row : (a : Linked) (p : Said) (kind : Kind) (n s : ℕ) (new : Facts) (more : List Scalar) → IsStore a p → n ≤ s → new.first_scalar ≡ length p.scalars → length more ≡ scalar_count kind → IsStore (linked_of (make_of a.forest kind) n) (record { facts = p.facts ++ new ∷ []; scalars = p.scalars ++ more; names = p.names ++ replicate (single_count kind) None; spare = s })
store_row a p kind n s new more w le first nulls =
    let F = a.forest in
    let facts = length-append p.facts (new ∷ []) in
    let nodes = length-append F.nodes (new_node kind (length F.slots) ∷ []) in
    let names = length-append p.names (replicate (single_count kind) None) in
    let none : Option PlaceName = None in
    let unnamed = length-replicate (single_count kind) none in
    let places = places_made F kind in
    let had = w.facts in
    let named = w.names in
    let scalars = length-append p.scalars more in
    let few = scalar_count_few kind in
    let were = w.few in
    record {
      facts = omega arith;
      names = omega arith;
      scalars = λ j k f g h.
          let kinds : slice_get (map kind_of F.nodes ++ kind ∷ []) j ≡ Some k = ap (λ z. slice_get z j) (sym (map_append kind_of F.nodes (new_node kind (length F.slots) ∷ []))) ∙ g in
          let long = length-map F.nodes kind_of in
          ⊎_elim
          (λ e.
          ⊎_elim (λ d. let old = w.scalars j k f e d in omega arith)
          (λ d. let lt = slice_get_within (map kind_of F.nodes) j k e in let at = d.0 in absurd (omega arith))
          (push_cases p.facts j new f h))
          (λ e.
          ⊎_elim (λ d. let lt = slice_get_within p.facts j f d in let at = e.0 in absurd (omega arith))
          (λ d.
          let begins : f.first_scalar ≡ new.first_scalar = ap (λ (z : Facts). z.first_scalar) d.1 in
          let count : scalar_count k ≡ scalar_count kind = ap scalar_count e.1 in
          omega arith)
          (push_cases p.facts j new f h))
          (push_cases (map kind_of F.nodes) j kind k kinds);
      few = omega arith;
      spare = le;
    }

store_with : (a : Linked) (p : Said) (kind : Kind) (n s : ℕ) → IsStore a p → n ≤ s → IsStore (linked_of (make_of a.forest kind) n) (record { facts = p.facts ++ no_facts (length p.scalars) ∷ []; scalars = p.scalars ++ replicate (scalar_count kind) Null; names = p.names ++ replicate (single_count kind) None; spare = s })
store_with a p kind n s w le = store_row a p kind n s (no_facts (length p.scalars)) (replicate (scalar_count kind) Null) w le refl (length-replicate (scalar_count kind) Null)

-- the scalars of a node are among all
pub scalars_within : (a : Linked) (p : Said) (j : ℕ) → IsStore a p → j < length a.forest.nodes → first_in (slice_get p.facts j) + scalar_count (kind_at a.forest j) ≤ length p.scalars
scalars_within a p j w lt =
    let m = item_at a.forest.nodes j lt in
    let e = w.facts in
    let f = item_at p.facts j (omega arith) in
    subst (λ z. first_in z + scalar_count (kind_at a.forest j) ≤ length p.scalars) (sym f.1)
    (subst (λ z. f.0.first_scalar + scalar_count (kind_in z) ≤ length p.scalars) (sym m.1) (w.scalars j m.0.kind f.0 (mapped kind_of a.forest.nodes j m.0 m.1) f.1))

-- a new node that says what another says
pub store_copied : (a b : Linked) (p q : Said) (j : ℕ) (kind : Kind) (scalars places : ℕ) → IsStore a p → j < length a.forest.nodes → 0 < a.spare → kind ≡ kind_at a.forest j → scalars ≡ scalar_count kind → places ≡ single_count kind → q ≡ with_copy p j scalars places → b ≡ linked_of (make_of a.forest kind) (a.spare - 1) → IsStore b q
store_copied a b p q j kind scalars places w lt some k e f g h =
    let had = w.spare in
    let within : first_in (slice_get p.facts j) + scalar_count kind ≤ length p.scalars = subst (λ z. first_in (slice_get p.facts j) + scalar_count z ≤ length p.scalars) (sym k) (scalars_within a p j w lt) in
    let more : List Scalar = scalars_from p.scalars (first_in (slice_get p.facts j)) (scalar_count kind) in
    let long : length more ≡ scalar_count kind = length_from p.scalars (first_in (slice_get p.facts j)) (scalar_count kind) within in
    subst (λ z. IsStore z q) (sym h)
    (subst (λ z. IsStore (linked_of (make_of a.forest kind) (a.spare - 1)) z) (sym (g ∙ (ap (λ z. with_copy p j z places) e ∙ ap (λ z. with_copy p j (scalar_count kind) z) f)))
    (store_row a p kind (a.spare - 1) (p.spare - 1) (copied_facts (length p.scalars) (slice_get p.facts j)) more w (omega arith) refl long))

store_room : (a b : Linked) (p q : Said) → IsStore a p → b.forest ≡ a.forest → q ≡ said_of p.facts p.scalars p.names q.spare → b.spare ≤ q.spare → IsStore b q
store_room a b p q w e h le =
    let facts : q.facts ≡ p.facts = ap (λ (z : Said). z.facts) h in
    let scalars : q.scalars ≡ p.scalars = ap (λ (z : Said). z.scalars) h in
    let names : q.names ≡ p.names = ap (λ (z : Said). z.names) h in
    record {
      facts = ap length facts ∙ (w.facts ∙ ap (λ (z : Forest). length z.nodes) (sym e));
      names = ap length names ∙ (w.names ∙ ap (λ (z : Forest). length z.places) (sym e));
      scalars = λ j k f g d.
          let old = w.scalars j k f (ap (λ (z : Forest). slice_get (map kind_of z.nodes) j) (sym e) ∙ g) (ap (λ z. slice_get z j) (sym facts) ∙ d) in
          let long = ap length scalars in
          omega arith;
      few = let few = w.few in let long = ap length scalars in let nodes = ap (λ (z : Forest). length z.nodes) e in omega arith;
      spare = le;
    }

pub store_made : (a b c : Linked) (p q r : Said) (kind : Kind) (scalars places : ℕ) → IsStore a p → b ≡ linked_of a.forest (max a.spare 1) → q ≡ said_of p.facts p.scalars p.names q.spare → b.spare ≤ q.spare
    → scalars ≡ scalar_count kind → places ≡ single_count kind → c ≡ linked_of (make_of b.forest kind) (b.spare - 1) → r ≡ with_node q scalars places → IsStore c r
store_made a b c p q r kind scalars places w eb eq le es ep ec er =
    let v = store_room a b p q w (ap (λ (z : Linked). z.forest) eb) eq le in
    let k = store_with b q kind (b.spare - 1) (q.spare - 1) v (omega arith) in
    let same : r ≡ with_node q (scalar_count kind) (single_count kind) = er ∙ (ap (λ z. with_node q z places) es ∙ ap (with_node q (scalar_count kind)) ep) in
    subst (λ z. IsStore z r) (sym ec) (subst (IsStore (linked_of (make_of b.forest kind) (b.spare - 1))) (sym same) k)

-- Changes of the forest.
kinds_reseated : (F : Forest) (j p : ℕ) (at to : Option ℕ) → map kind_of (reseated F j p at to).nodes ≡ map kind_of F.nodes
kinds_reseated F j p at to = map_edit_kept kind_of (standing_at at) F.nodes j (λ x e. refl)

places_reseated : (F : Forest) (j p : ℕ) (at to : Option ℕ) → length (reseated F j p at to).places ≡ length F.places
places_reseated F j p at to = length_edit F.places p (holding to)

kinds_cleared : (F : Forest) (p : ℕ) (o : Option ℕ) → map kind_of (cleared F p o).nodes ≡ map kind_of F.nodes
kinds_cleared F p None = refl
kinds_cleared F p (Some j) = kinds_reseated F j p None None

places_cleared : (F : Forest) (p : ℕ) (o : Option ℕ) → length (cleared F p o).places ≡ length F.places
places_cleared F p None = refl
places_cleared F p (Some j) = places_reseated F j p None None

kinds_given : (F : Forest) (p : ℕ) (o : Option ℕ) → map kind_of (given F p o).nodes ≡ map kind_of F.nodes
kinds_given F p None = refl
kinds_given F p (Some j) = kinds_reseated F j p (Some p) (Some j)

places_given : (F : Forest) (p : ℕ) (o : Option ℕ) → length (given F p o).places ≡ length F.places
places_given F p None = refl
places_given F p (Some j) = places_reseated F j p (Some p) (Some j)

places_grown : (F : Forest) (s : ℕ) (f : List ℕ → List ℕ) → length (grown F s f).places ≡ length F.places + 1
places_grown F s f = length-append F.places (empty_place s ∷ [])

-- a forest of the same nodes and places
store_same : (a : Linked) (p : Said) (G : Forest) (n : ℕ) → IsStore a p → map kind_of G.nodes ≡ map kind_of a.forest.nodes → length G.places ≡ length a.forest.places → n ≤ p.spare → IsStore (linked_of G n) p
store_same a p G n w k l le =
    let long = length-map a.forest.nodes kind_of in
    let wide = length-map G.nodes kind_of in
    let same = ap length k in
    let facts = w.facts in
    let few = w.few in
    record {
      facts = omega arith;
      names = w.names ∙ sym l;
      scalars = λ j kind f g h. w.scalars j kind f (ap (λ z. slice_get z j) (sym k) ∙ g) h;
      few = omega arith;
      spare = le;
    }

-- and one with one place more
store_more : (a : Linked) (p : Said) (G : Forest) (n s : ℕ) → IsStore a p → map kind_of G.nodes ≡ map kind_of a.forest.nodes → length G.places ≡ length a.forest.places + 1 → n ≤ s
    → IsStore (linked_of G n) (said_of p.facts p.scalars (p.names ++ None ∷ []) s)
store_more a p G n s w k l le =
    let none : Option PlaceName = None in
    let long = length-map a.forest.nodes kind_of in
    let wide = length-map G.nodes kind_of in
    let same = ap length k in
    let facts = w.facts in
    let names = w.names in
    let more = length-append p.names (none ∷ []) in
    let few = w.few in
    record {
      facts = omega arith;
      names = omega arith;
      scalars = λ j kind f g h. w.scalars j kind f (ap (λ z. slice_get z j) (sym k) ∙ g) h;
      few = omega arith;
      spare = le;
    }

pub store_clear : (a b : Linked) (p : Said) (x : ℕ) → IsStore a p → b ≡ linked_of (clear_of a.forest x) a.spare → IsStore b p
store_clear a b p x w e =
    subst (λ z. IsStore z p) (sym e) (store_same a p (clear_of a.forest x) a.spare w (kinds_cleared a.forest x (node_at a.forest x)) (places_cleared a.forest x (node_at a.forest x)) w.spare)

pub store_put : (a b : Linked) (p : Said) (x j : ℕ) → IsStore a p → b ≡ linked_of (put_of a.forest x j) a.spare → IsStore b p
store_put a b p x j w e =
    let F = clear_of a.forest x in
    subst (λ z. IsStore z p) (sym e)
    (store_same a p (put_of a.forest x j) a.spare w (kinds_reseated F j x (Some x) (Some j) ∙ kinds_cleared a.forest x (node_at a.forest x))
    (places_reseated F j x (Some x) (Some j) ∙ places_cleared a.forest x (node_at a.forest x)) w.spare)

left_same : (F : Forest) (s p : ℕ) → length (left F s p).places ≡ length F.places
left_same F s p = length_edit F.places p (λ (q : Place). record q { owner = None })

kinds_at : (F : Forest) (o : Option ℕ) (f : ℕ → Forest) → ((s : ℕ) → map kind_of (f s).nodes ≡ map kind_of F.nodes) → map kind_of (at_slot F o f).nodes ≡ map kind_of F.nodes
kinds_at F None f h = refl
kinds_at F (Some s) f h = h s

places_at : (F : Forest) (o : Option ℕ) (f : ℕ → Forest) → ((s : ℕ) → length (f s).places ≡ length F.places) → length (at_slot F o f).places ≡ length F.places
places_at F None f h = refl
places_at F (Some s) f h = h s

pub store_unlink : (a b : Linked) (p : Said) (x : ℕ) → IsStore a p → b ≡ linked_of (unlink_of a.forest x) a.spare → IsStore b p
store_unlink a b p x w e =
    let F = a.forest in
    subst (λ z. IsStore z p) (sym e)
    (store_same a p (unlink_of F x) a.spare w
    (kinds_at F (list_at F x) (λ s. left (clear_of F x) s x) (λ s. kinds_cleared F x (node_at F x)))
    (places_at F (list_at F x) (λ s. left (clear_of F x) s x) (λ s. left_same (clear_of F x) s x ∙ places_cleared F x (node_at F x))) w.spare)

-- a new place with a node, or without
store_grown : (a : Linked) (p : Said) (s q : ℕ) (f : List ℕ → List ℕ) (node : Option ℕ) → IsStore a p → IsStore (linked_of (given (grown a.forest s f) q node) (a.spare - 1)) (with_place p)
store_grown a p s q f node w =
    let G = grown a.forest s f in
    let le = w.spare in
    store_more a p (given G q node) (a.spare - 1) (p.spare - 1) w (kinds_given G q node) (places_given G q node ∙ places_grown a.forest s f) (omega arith)

at_list : (F : Forest) (o : Option ℕ) (s : ℕ) (f : ℕ → Forest) → o ≡ Some s → at_slot F o f ≡ f s
at_list F o s f e = ap (λ z. at_slot F z f) e

pub store_first : (a b c : Linked) (p q r : Said) (s : ℕ) (node : Option ℕ) → IsStore a p → b ≡ linked_of a.forest (max a.spare 1) → q ≡ said_of p.facts p.scalars p.names q.spare → b.spare ≤ q.spare
    → c ≡ linked_of (insert_first_of b.forest s node) (b.spare - 1) → r ≡ with_place q → IsStore c r
store_first a b c p q r s node w eb eq le ec er =
    let v = store_room a b p q w (ap (λ (z : Linked). z.forest) eb) eq le in
    subst (λ z. IsStore z r) (sym ec) (subst (IsStore (linked_of (insert_first_of b.forest s node) (b.spare - 1))) (sym er) (store_grown b q s (length b.forest.places) (λ xs. length b.forest.places ∷ xs) node v))

pub store_after : (a b c : Linked) (p q r : Said) (x y s : ℕ) (o node : Option ℕ) → IsStore a p → b ≡ linked_of a.forest (max a.spare 1) → q ≡ said_of p.facts p.scalars p.names q.spare → b.spare ≤ q.spare
    → x ≡ y → o ≡ list_at a.forest y → o ≡ Some s → c ≡ linked_of (insert_after_of b.forest x node) (b.spare - 1) → r ≡ with_place q → IsStore c r
store_after a b c p q r x y s o node w eb eq le xy ol os ec er =
    let l : list_at b.forest x ≡ Some s = ap (λ (z : Linked). list_at z.forest x) eb ∙ (ap (list_at a.forest) xy ∙ (sym ol ∙ os)) in
    let v = store_room a b p q w (ap (λ (z : Linked). z.forest) eb) eq le in
    let F = b.forest in
    let k = store_grown b q s (length F.places) (insert_after x (length F.places)) node v in
    let at = at_list F (list_at F x) s (λ z. given (grown F z (insert_after x (length F.places))) (length F.places) node) l in
    subst (λ z. IsStore z r) (sym (ec ∙ ap (λ z. linked_of z (b.spare - 1)) at)) (subst (IsStore _) (sym er) k)

pub store_before : (a b c : Linked) (p q r : Said) (x y s : ℕ) (o node : Option ℕ) → IsStore a p → b ≡ linked_of a.forest (max a.spare 1) → q ≡ said_of p.facts p.scalars p.names q.spare → b.spare ≤ q.spare
    → x ≡ y → o ≡ list_at a.forest y → o ≡ Some s → c ≡ linked_of (insert_before_of b.forest x node) (b.spare - 1) → r ≡ with_place q → IsStore c r
store_before a b c p q r x y s o node w eb eq le xy ol os ec er =
    let l : list_at b.forest x ≡ Some s = ap (λ (z : Linked). list_at z.forest x) eb ∙ (ap (list_at a.forest) xy ∙ (sym ol ∙ os)) in
    let v = store_room a b p q w (ap (λ (z : Linked). z.forest) eb) eq le in
    let F = b.forest in
    let k = store_grown b q s (length F.places) (insert_before x (length F.places)) node v in
    let at = at_list F (list_at F x) s (λ z. given (grown F z (insert_before x (length F.places))) (length F.places) node) l in
    subst (λ z. IsStore z r) (sym (ec ∙ ap (λ z. linked_of z (b.spare - 1)) at)) (subst (IsStore _) (sym er) k)

-- What nodes say.
pub scalar_within : (a : Linked) (p : Said) (j k : ℕ) → IsStore a p → j < length a.forest.nodes → k < scalar_count (kind_at a.forest j) → scalar_number p.facts j k < length p.scalars
scalar_within a p j k w h lt =
    let m = item_at a.forest.nodes j h in
    let facts = w.facts in
    let f = item_at p.facts j (omega arith) in
    let old = w.scalars j m.0.kind f.0 (mapped kind_of a.forest.nodes j m.0 m.1) f.1 in
    let count : scalar_count (kind_at a.forest j) ≡ scalar_count m.0.kind = ap (λ o. scalar_count (kind_in o)) m.1 in
    let first : first_in (slice_get p.facts j) ≡ f.0.first_scalar = ap first_in f.1 in
    omega arith

pub few_scalars : (a : Linked) (p : Said) → IsStore a p → length a.forest.nodes ≤ 2 ^ 22 → length p.scalars < 2 ^ 32
few_scalars a p w h = let few = w.few in omega arith

pub facts_row : (a : Linked) (p : Said) (j : ℕ) → IsStore a p → j < length a.forest.nodes → j < length p.facts
facts_row a p j w h = let e = w.facts in omega arith

store_edit : (a : Linked) (p : Said) (j : ℕ) (f : Facts → Facts) → ((x : Facts) → (f x).first_scalar ≡ x.first_scalar) → IsStore a p → IsStore a (record p { facts = edit p.facts j f })
store_edit a p j f e w =
    let long = length_edit p.facts j f in
    let facts = w.facts in
    record {
      facts = omega arith;
      names = w.names;
      scalars = λ i kind g h d.
          let b = was_kept p.facts j f i g (λ (z : Facts). z.first_scalar) e d in
          let old = w.scalars i kind b.0 h b.1 in
          let same = b.2 in
          omega arith;
      few = w.few;
      spare = w.spare;
    }

pub store_comments : (a : Linked) (p q : Said) (j : ℕ) (lead trail inner : List Comment) → IsStore a p → q ≡ record p { facts = edit p.facts j (commented lead trail inner) } → IsStore a q
store_comments a p q j lead trail inner w e = subst (IsStore a) (sym e) (store_edit a p j (commented lead trail inner) (λ x. refl) w)

pub store_source : (a : Linked) (p q : Said) (j from : ℕ) → IsStore a p → q ≡ record p { facts = edit p.facts j (coming_from from) } → IsStore a q
store_source a p q j from w e = subst (IsStore a) (sym e) (store_edit a p j (coming_from from) (λ x. refl) w)

pub store_scalar : (a : Linked) (p q : Said) (n : ℕ) (value : Scalar) → IsStore a p → q ≡ record p { scalars = slice_set p.scalars n value } → IsStore a q
store_scalar a p q n value w e =
    let long = length-set p.scalars n value in
    let few = w.few in
    subst (IsStore a) (sym e)
    (record { facts = w.facts; names = w.names; scalars = λ i kind g h d. let old = w.scalars i kind g h d in omega arith; few = omega arith; spare = w.spare })

pub store_name : (a : Linked) (p q : Said) (x : ℕ) (name : Option PlaceName) → IsStore a p → q ≡ record p { names = slice_set p.names x name } → IsStore a q
store_name a p q x name w e =
    let long = length-set p.names x name in
    let names = w.names in
    subst (IsStore a) (sym e) (record { facts = w.facts; names = omega arith; scalars = w.scalars; few = w.few; spare = w.spare })
