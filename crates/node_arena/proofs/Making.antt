-- The slots of a new node, one after another.
use Rattle.std.proofs.Common.{◌≡◌, ◌∙◌, sym, ap, refl, ℕ, suc, ◌+◌, ◌-◌, ◌<◌, ◌≤◌, Bool, true, false, List, [], ◌∷◌, ◌++◌, length, map, drop, get_or, Some, append_assoc, append-nil, drop-cons, length-append, arith}
use Rattle.std.proofs.Math.ListN.{drop_of_length-le}
use Rattle.std.proofs.lemmas.List.{get_or-map, length-map}
use Rattle.node_arena.specs.declared.links.Node.{Node}
use Rattle.node_arena.specs.declared.links.SlotRow.{SlotRow}
use Rattle.node_arena.specs.declared.links.PlaceRow.{PlaceRow}
use Rattle.type_defs.specs.declared.kind.Kind.{Kind}
use Rattle.node_arena.specs.Lists.{is_list}
use Rattle.type_defs.specs.Fields.{Field, FieldDef, row_of, slots_at, lists_at}
use Rattle.node_arena.specs.Rows.{Rows, Table, rows_of, table_of, made_rows, new_node, slot_row, slot_rows, place_row, place_rows, after_slot, empty_row}

-- so many slots of a node are there: the rows, and those that are left, are all that are to come
pub record IsMaking (slots₀ slots : List SlotRow) (places₀ places : List PlaceRow) (node : ℕ) (bs : List Bool) (k : ℕ) : Type 0 where
  pub slots_left : slots ++ slot_rows node (length places) k (drop k bs) ≡ slots₀ ++ slot_rows node (length places₀) 0 bs
  pub places_left : places ++ place_rows (length slots) (drop k bs) ≡ places₀ ++ place_rows (length slots₀) bs
  pub slot_len : length slots ≡ length slots₀ + k
  pub place_len : length places ≤ length places₀ + k

pub making_none : (ss : List SlotRow) (ps : List PlaceRow) (node : ℕ) (bs : List Bool) → IsMaking ss ss ps ps node bs 0
making_none ss ps node bs = record { slots_left = refl; places_left = refl; slot_len = omega arith; place_len = omega arith }

place_step : (ps : List PlaceRow) (s : ℕ) (b : Bool) → length (ps ++ place_row s b) ≡ after_slot (length ps) b
place_step ps s true = ap length (append-nil ps)
place_step ps s false = let e = length-append ps (empty_row (Some s) ∷ []) in omega arith

place_more : (n : ℕ) (b : Bool) → after_slot n b ≤ n + 1
place_more n true = omega arith
place_more n false = omega arith

-- one more slot
pub making_more : (s₀ ss ss' : List SlotRow) (p₀ ps ps' : List PlaceRow) (node : ℕ) (fs : List FieldDef) (other : FieldDef) (k n m : ℕ) → IsMaking s₀ ss p₀ ps node (map is_list fs) k
    → k < length fs → n ≡ length ps → m ≡ length ss → ss' ≡ ss ++ slot_row node n k (get_or fs k other).1.list ∷ [] → ps' ≡ ps ++ place_row m (get_or fs k other).1.list
    → IsMaking s₀ ss' p₀ ps' node (map is_list fs) (k + 1)
making_more s₀ ss ss' p₀ ps ps' node fs other k n m w lt en em es ep =
    let bs = map is_list fs in
    let b = (get_or fs k other).1.list in
    let row = slot_row node (length ps) k b in
    let within : k < length bs = let e = length-map fs is_list in omega arith in
    let here : get_or bs k b ≡ b = get_or-map is_list fs k other b lt in
    let left = drop (suc k) bs in
    let rest : drop k bs ≡ b ∷ left = drop-cons bs k b within ∙ ap (λ z. z ∷ left) here in
    let es' : ss' ≡ ss ++ row ∷ [] = es ∙ ap (λ z. ss ++ slot_row node z k b ∷ []) en in
    let ep' : ps' ≡ ps ++ place_row (length ss) b = ep ∙ ap (λ z. ps ++ place_row z b) em in
    let long : length ps' ≡ after_slot (length ps) b = ap length ep' ∙ place_step ps (length ss) b in
    let wide : length ss' ≡ suc (length ss) = let e = ap length es' in let f = length-append ss (row ∷ []) in omega arith in
    let more = place_more (length ps) b in
    let was = w.slot_len in
    let had = w.place_len in
    let next : k + 1 ≡ suc k = omega arith in
    record {
      slots_left =
          ap (λ z. ss' ++ slot_rows node (length ps') z (drop z bs)) next
          ∙ (ap (λ z. ss' ++ slot_rows node z (suc k) left) long
          ∙ (ap (λ z. z ++ slot_rows node (after_slot (length ps) b) (suc k) left) es'
          ∙ (append_assoc ss (row ∷ []) (slot_rows node (after_slot (length ps) b) (suc k) left)
          ∙ (ap (λ z. ss ++ slot_rows node (length ps) k z) (sym rest) ∙ w.slots_left))));
      places_left =
          ap (λ z. ps' ++ place_rows (length ss') (drop z bs)) next
          ∙ (ap (λ z. ps' ++ place_rows z left) wide
          ∙ (ap (λ z. z ++ place_rows (suc (length ss)) left) ep'
          ∙ (append_assoc ps (place_row (length ss) b) (place_rows (suc (length ss)) left)
          ∙ (ap (λ z. ps ++ place_rows (length ss) z) (sym rest) ∙ w.places_left))));
      slot_len = omega arith;
      place_len = omega arith;
    }

-- all slots
pub making_slots : (s₀ ss : List SlotRow) (p₀ ps : List PlaceRow) (node : ℕ) (bs : List Bool) (k : ℕ) → IsMaking s₀ ss p₀ ps node bs k → length bs ≤ k
    → ss ≡ s₀ ++ slot_rows node (length p₀) 0 bs
making_slots s₀ ss p₀ ps node bs k m le =
    sym (append-nil ss) ∙ (ap (λ z. ss ++ slot_rows node (length ps) k z) (sym (drop_of_length-le bs le)) ∙ m.slots_left)

pub making_places : (s₀ ss : List SlotRow) (p₀ ps : List PlaceRow) (node : ℕ) (bs : List Bool) (k : ℕ) → IsMaking s₀ ss p₀ ps node bs k → length bs ≤ k
    → ps ≡ p₀ ++ place_rows (length s₀) bs
making_places s₀ ss p₀ ps node bs k m le =
    sym (append-nil ps) ∙ (ap (λ z. ps ++ place_rows (length ss) z) (sym (drop_of_length-le bs le)) ∙ m.places_left)

lists_told : (defs : List FieldDef) → map is_list defs ≡ map (λ (f : Field). f.list) (map row_of defs)
lists_told [] = refl
lists_told (f ∷ fs) = ap (λ z. is_list f ∷ z) (lists_told fs)

-- all of a new node
pub made : (u : Rows) (t : Table) (spare : ℕ) (kind : Kind) (node base first place : ℕ) (defs : List FieldDef) (nodes : List Node) (slots : List SlotRow) (places : List PlaceRow) → table_of u spare ≡ t
    → map row_of defs ≡ slots_at kind → node ≡ length u.nodes → base ≡ length u.slots → first ≡ length u.slots → place ≡ length u.places → nodes ≡ u.nodes ++ new_node kind base ∷ []
    → slots ≡ u.slots ++ slot_rows node place 0 (map is_list defs) → places ≡ u.places ++ place_rows first (map is_list defs)
    → table_of (rows_of nodes slots places) (spare - 1) ≡ table_of (made_rows t.rows kind) (t.spare - 1)
made u t spare kind node base first place defs nodes slots places v told en eb ef ep is_nodes is_slots is_places =
    let lists : map is_list defs ≡ lists_at kind = lists_told defs ∙ ap (map (λ (f : Field). f.list)) told in
    let a : nodes ≡ u.nodes ++ new_node kind (length u.slots) ∷ [] = is_nodes ∙ ap (λ z. u.nodes ++ new_node kind z ∷ []) eb in
    let b : slots ≡ u.slots ++ slot_rows (length u.nodes) (length u.places) 0 (lists_at kind) =
    is_slots
    ∙ (ap (λ z. u.slots ++ slot_rows z place 0 (map is_list defs)) en
    ∙ (ap (λ z. u.slots ++ slot_rows (length u.nodes) z 0 (map is_list defs)) ep ∙ ap (λ z. u.slots ++ slot_rows (length u.nodes) (length u.places) 0 z) lists)) in
    let d : places ≡ u.places ++ place_rows (length u.slots) (lists_at kind) =
    is_places ∙ (ap (λ z. u.places ++ place_rows z (map is_list defs)) ef ∙ ap (λ z. u.places ++ place_rows (length u.slots) z) lists) in
    ap (λ z. table_of (rows_of z slots places) (spare - 1)) a
    ∙ (ap (λ z. table_of (rows_of (u.nodes ++ new_node kind (length u.slots) ∷ []) z places) (spare - 1)) b
    ∙ (ap (λ z. table_of (rows_of (u.nodes ++ new_node kind (length u.slots) ∷ []) (u.slots ++ slot_rows (length u.nodes) (length u.places) 0 (lists_at kind)) z) (spare - 1)) d
    ∙ ap (λ (z : Table). table_of (made_rows z.rows kind) (z.spare - 1)) v))
