-- Where `clap` has no cause to refuse words, it takes them.
use Rattle.std.proofs.Common.{◌≡◌, ◌==◌, ◌&&◌, ◌||◌, ℕ, zero, suc, Bool, true, false, not, List, [], ◌∷◌, length, drop, Option, Some, None, is_some, refl, sym, ap, ◌∙◌, inl, inr, arith, true≢false}
use Rattle.std.specs.Prelude.{◌⊎◌, if◌then◌else◌, nat_le, nat_lt, encode_utf8, slice_get}
use Rattle.std.specs.List.{list_all, list_any}
use Rattle.std.specs.Option.{option_map_or}
use Rattle.std.specs.Str.{chars}
use Rattle.std.proofs.lemmas.Bool.Decides.{nat_tests}
use Rattle.clap.specs.Facts.{explicit_source, unwrap_or_range}
use Rattle.clap.specs.Faults.{action_fault, bundle_step_fault, check_fault, count_fault, fault_of, flag_word_fault, flags_fault, level_fault, long_fault, option_fault, other_fault, positional_fault, react_fault, set_fault, settle_fault, short_fault, step_fault, stray_fault, turn_fault, use_fault, walk_fault}
use Rattle.clap.specs.Kinds.{Kinds, check_kinds, or_else, range_kinds, value_kinds, values_kinds}
use Rattle.clap.specs.Lexer.{long_of}
use Rattle.clap.specs.Simple.{App, Shape, argument_words, built, is_simple}
use Rattle.clap.specs.Takes.{action_passes, bundle_step_passes, count_passes, default_passes, flag_word_passes, flags_pass, is_given, is_valid, level_passes, long_passes, option_passes, other_passes, positional_passes, react_passes, set_passes, settle_passes, short_passes, step_passes, takes, turn_passes, use_passes, walk_passes}
use Rattle.clap.specs.ValueTests.{accepts}
use Rattle.clap.specs.Walk.{Held, Names, Row, Rule, Step, Text, Walk, action_of, arg_by_long, arg_by_short, finished, has_row, most_values, next, nothing_held, subcommand, subcommand_met, takes_values, trailing, value, values_or_missing, walk, walk_from, walked, word_met}
use Rattle.clap.specs.declared.builder.action.ArgAction.{ArgAction}
use Rattle.clap.specs.declared.builder.action.ArgAction.TheVariants.{Set, Append, SetTrue, SetFalse, Count, Help, HelpShort, HelpLong, Version}
use Rattle.clap.specs.declared.builder.value_parser.ValueParser.{ValueParser}
use Rattle.clap.specs.declared.error.kind.ErrorKind.{ErrorKind}
use Rattle.clap.proofs.FaultLemmas.{leaf_fault}
use Rattle.clap.proofs.TakesLemmas.{leaf_takes}

-- ---- no kinds, and tests

some_kind : (k : ErrorKind) (ks : Kinds) → (k ∷ ks) ≡ [] → ⊥
some_kind k ks e = let n = ap length e in absurd (omega (arith, n))

neither : (a b : Kinds) → or_else a b ≡ [] → (a ≡ []) × (b ≡ [])
neither [] b e = (refl, e)
neither (k ∷ ks) b e = absurd (some_kind k ks e)

both : (a b : Bool) → a ≡ true → b ≡ true → (a && b) ≡ true
both true b p q = q
both false b p q = absurd (true≢false (sym p))

holds : (b : Bool) (k : ErrorKind) (ks : Kinds) → (if b then [] else k ∷ ks) ≡ [] → b ≡ true
holds true k ks e = refl
holds false k ks e = absurd (some_kind k ks e)

fails : (b : Bool) (k : ErrorKind) (ks : Kinds) → (if b then k ∷ ks else []) ≡ [] → b ≡ false
fails true k ks e = absurd (some_kind k ks e)
fails false k ks e = refl

either : (b p : Bool) (x : Kinds) → (x ≡ [] → p ≡ true) → (if b then [] else x) ≡ [] → (b || p) ≡ true
either true p x f e = refl
either false p x f e = f e

choice : (b p q : Bool) (x y : Kinds) → (x ≡ [] → p ≡ true) → (y ≡ [] → q ≡ true) → (if b then x else y) ≡ [] → (if b then p else q) ≡ true
choice true p q x y f g e = f e
choice false p q x y f g e = g e

without : (a b : Bool) → (a && not b) ≡ false → (not a || b) ≡ true
without true true e = refl
without true false e = absurd (true≢false e)
without false b e = refl

no_or : (a b : Bool) → (a || b) ≡ false → (a ≡ false) × (b ≡ false)
no_or true b e = absurd (true≢false e)
no_or false b e = (refl, e)

module _ {X : Type 0} where
  if_some : (f : X → Kinds) (p : X → Bool) → ((x : X) → f x ≡ [] → p x ≡ true) → (o : Option X) → option_map_or f o [] ≡ [] → option_map_or p o true ≡ true
  if_some f p each None e = refl
  if_some f p each (Some x) e = each x e

  each_without : (p q : X → Bool) (xs : List X) → list_any (λ x. p x && not (q x)) xs ≡ false → list_all (λ x. not (p x) || q x) xs ≡ true
  each_without p q [] e = refl
  each_without p q (x ∷ xs) e =
      let parts = no_or _ _ e in
      both _ _ (without (p x) (q x) parts.0) (each_without p q xs parts.1)

-- ---- one use of an argument

values_none : (i : Bool) (p : ValueParser) (vs : List Text) → values_kinds i p vs ≡ [] → list_all (accepts i p) vs ≡ true
values_none i p [] e = refl
values_none i p (v ∷ vs) e =
    let parts = neither (value_kinds i p v) (values_kinds i p vs) e in
    both _ _ (holds (accepts i p v) _ _ parts.0) (values_none i p vs parts.1)

abbrev range_tests : Bool → Bool → Bool → Bool → Bool → ErrorKind → ErrorKind → ErrorKind → ErrorKind → Kinds
range_tests none same exact few many k1 k2 k3 k4 =
    if none then k1 ∷ [] else (if same then (if exact then [] else k2 ∷ []) else (if few then k3 ∷ [] else (if many then k4 ∷ [] else [])))

range_passes : (none same exact few many : Bool) (k1 k2 k3 k4 : ErrorKind) → range_tests none same exact few many k1 k2 k3 k4 ≡ []
    → ((same ≡ true) × (exact ≡ true)) ⊎ ((few ≡ false) × (many ≡ false))
range_passes true same exact few many k1 k2 k3 k4 e = absurd (some_kind k1 [] e)
range_passes false true true few many k1 k2 k3 k4 e = inl (refl, refl)
range_passes false true false few many k1 k2 k3 k4 e = absurd (some_kind k2 [] e)
range_passes false false exact true many k1 k2 k3 k4 e = absurd (some_kind k3 [] e)
range_passes false false exact false true k1 k2 k3 k4 e = absurd (some_kind k4 [] e)
range_passes false false exact false false k1 k2 k3 k4 e = inr (refl, refl)

range_none : (least most n : ℕ) → range_kinds least most n ≡ [] → (nat_le least n ≡ true) × (nat_le n most ≡ true)
range_none least most n e = go (range_passes (nat_lt 0 least && n == 0) (least == most) (least == n) (nat_lt n least) (nat_lt most n) _ _ _ _ e)
  where
    go : (((least == most) ≡ true) × ((least == n) ≡ true)) ⊎ ((nat_lt n least ≡ false) × (nat_lt most n ≡ false)) → (nat_le least n ≡ true) × (nat_le n most ≡ true)
    go (inl h) = let same = h.0 in let exact = h.1 in (grind (arith, nat_tests), grind (arith, nat_tests))
    go (inr h) = let few = h.0 in let many = h.1 in (grind (arith, nat_tests), grind (arith, nat_tests))

set_none : (again : Bool) (a : Rule) (vs : List Text) (rows : List Row) → set_fault again a vs rows ≡ [] → set_passes again a vs rows ≡ true
set_none again a vs rows e =
    let parts = neither _ _ e in
    both _ _ (without (has_row a.id rows) again (fails (has_row a.id rows && not again) _ _ parts.0)) (values_none _ _ vs parts.1)

count_none : (a : Rule) (vs : List Text) (rows : List Row) → count_fault a vs rows ≡ [] → count_passes a vs rows ≡ true
count_none a [] rows e = holds _ _ _ e
count_none a (v ∷ vs) rows e = values_none _ _ (v ∷ vs) e

action_none : (x : ArgAction) (again : Bool) (a : Rule) (vs : List Text) (rows : List Row) → action_fault x again a vs rows ≡ [] → action_passes x again a vs rows ≡ true
action_none Set again a vs rows e = set_none again a vs rows e
action_none SetTrue again a vs rows e = set_none again a vs rows e
action_none SetFalse again a vs rows e = set_none again a vs rows e
action_none Append again a vs rows e = values_none _ _ vs e
action_none Count again a vs rows e = count_none a vs rows e
action_none Help again a vs rows e = absurd (some_kind _ _ e)
action_none HelpShort again a vs rows e = absurd (some_kind _ _ e)
action_none HelpLong again a vs rows e = absurd (some_kind _ _ e)
action_none Version again a vs rows e = absurd (some_kind _ _ e)

use_none : (again : Bool) (a : Rule) (vs : List Text) (rows : List Row) → use_fault again a vs rows ≡ [] → use_passes again a vs rows ≡ true
use_none again a vs rows e =
    let parts = neither _ _ e in
    let range = range_none (unwrap_or_range a.range).start_inclusive (most_values a) (length vs) parts.0 in
    both _ _ range.0 (both _ _ range.1 (action_none (action_of a) again a (values_or_missing a vs) rows parts.1))

-- ---- the walk

settle_none : (c : List Rule) (again : Bool) (h : Held) → settle_fault c again h ≡ [] → settle_passes c again h ≡ true
settle_none c again h e = if_some _ _ (λ p. if_some _ _ (λ a. use_none again a p.1 h.rows) _) h.pending e

react_none : (c : List Rule) (again : Bool) (a : Rule) (vs : List Text) (h : Held) → react_fault c again a vs h ≡ [] → react_passes c again a vs h ≡ true
react_none c again a vs h e =
    let parts = neither _ _ e in
    both _ _ (settle_none c again h parts.0) (use_none again a vs _ parts.1)

option_none : (c : List Rule) (again : Bool) (a : Rule) (v : Option Text) (h : Held) → option_fault c again a v h ≡ [] → option_passes c again a v h ≡ true
option_none c again a (Some v) h e = react_none c again a (v ∷ []) h e
option_none c again a None h e = settle_none c again h e

long_none : (c : List Rule) (again : Bool) (a : Option Rule) (v : Option Text) (h : Held) → long_fault c again a v h ≡ [] → long_passes c again a v h ≡ true
long_none c again None v h e = absurd (some_kind _ _ e)
long_none c again (Some a) None h e = choice (takes_values a) _ _ _ _ (option_none c again a None h) (react_none c again a [] h) e
long_none c again (Some a) (Some v) h e = choice (takes_values a) _ _ _ _ (option_none c again a (Some v) h) (λ t. absurd (some_kind _ _ t)) e

short_none : (c : List Rule) (again : Bool) (a : Option Rule) (rest : Text) (h : Held) (f : Held → Kinds) (p : Held → Bool) → ((x : Held) → f x ≡ [] → p x ≡ true)
    → short_fault c again a rest h f ≡ [] → short_passes c again a rest h p ≡ true
short_none c again None rest h f p each e = absurd (some_kind _ _ e)
short_none c again (Some a) rest h f p each e =
    choice (takes_values a) _ _ _ _ (option_none c again a _ h) (λ t. let parts = neither _ _ t in both _ _ (react_none c again a [] h parts.0) (each _ parts.1)) e

bundle_step_none : (c : List Rule) (again : Bool) (x : Option ℕ) (flags : Text) (skip : ℕ) (h : Held) (f : Text → ℕ → Held → Kinds) (p : Text → ℕ → Held → Bool)
    → ((t : Text) (n : ℕ) (y : Held) → f t n y ≡ [] → p t n y ≡ true) → bundle_step_fault c again x flags skip h f ≡ [] → bundle_step_passes c again x flags skip h p ≡ true
bundle_step_none c again None flags skip h f p each e = refl
bundle_step_none c again (Some x) flags zero h f p each e =
    let rest = drop (length (encode_utf8 x)) flags in
    short_none c again (arg_by_short c x) rest h (f rest 0) (p rest 0) (each rest 0) e
bundle_step_none c again (Some x) flags (suc skip) h f p each e = each _ skip h e

flags_none : (c : List Rule) (again : Bool) (k : ℕ) (flags : Text) (skip : ℕ) (h : Held) → flags_fault c again k flags skip h ≡ [] → flags_pass c again k flags skip h ≡ true
unfolding flags_fault flags_pass
flags_none c again zero flags skip h e = refl
flags_none c again (suc k) flags skip h e =
    bundle_step_none c again (slice_get (chars flags) 0) flags skip h (flags_fault c again k) (flags_pass c again k) (flags_none c again k) e

flag_word_none : (c : List Rule) (again : Bool) (p : Option (Text × Option Text)) (word : Text) (h : Held) → flag_word_fault c again p word h ≡ [] → flag_word_passes c again p word h ≡ true
flag_word_none c again (Some p) word h e = long_none c again (arg_by_long c p.0) p.1 h e
flag_word_none c again None word h e = if_some _ _ (λ flags. flags_none c again (length flags) flags h.skip (record h { skip = 0 })) _ e

other_none : (s : Shape) (name : Option Text) (word : Text) (h : Held) → other_fault s name word h ≡ [] → other_passes s name word h ≡ true
other_none s (Some name) word h e = without _ s.disable_help_subcommand (fails _ _ _ e)
other_none s None word h e = either _ _ _ (flag_word_none s.rules s.args_override_self (long_of word) word h) e

step_none : (s : Shape) (position : ℕ) (h : Held) (step : Step) → step_fault s position h step ≡ [] → step_passes s position h step ≡ true
step_none s position h value e = go _ e
  where
    stray : (leaf : Bool) (k1 k2 k3 : ErrorKind) → (if leaf then k1 ∷ [] else k2 ∷ k3 ∷ []) ≡ [] → ⊥
    stray true k1 k2 k3 t = some_kind k1 [] t
    stray false k1 k2 k3 t = some_kind k2 (k3 ∷ []) t

    go : (o : Option Rule) → option_map_or (λ a. positional_fault s.rules s.args_override_self a h) o (stray_fault s) ≡ [] → option_map_or (λ a. positional_passes s.rules s.args_override_self a h) o false ≡ true
    go None t = absurd (stray s.is_leaf _ _ _ t)
    go (Some a) t = either _ _ _ (settle_none s.rules s.args_override_self h) t
step_none s position h (next waiting) e = refl
step_none s position h (trailing n) e = refl
step_none s position h (subcommand name) e = refl

turn_none : (s : Shape) (names : Names) (w : Walk) (word : Text) → turn_fault s names w word ≡ [] → turn_passes s names w word ≡ true
turn_none s names w word e = either (is_some w.stopped) _ _ (λ t.
    let met = word_met s.rules names w.is_trailing w.waiting w.position word w.held in
    let parts = neither _ _ t in
    both _ _ (either w.is_trailing _ _ (other_none s (subcommand_met names w.waiting word) word w.held) parts.0) (step_none s w.position met.0 met.1 parts.1)) e

walk_none : (s : Shape) (names : Names) (w : Walk) (words : List Text) → walk_fault s names w words ≡ [] → walk_passes s names w words ≡ true
unfolding walk_fault walk_passes
walk_none s names w [] e = refl
walk_none s names w (word ∷ rest) e =
    let parts = neither _ _ e in
    both _ _ (turn_none s names w word parts.0) (walk_none s names (walked s.rules names w word) rest parts.1)

-- ---- after the walk

checks : (help sub arg : Bool) → check_kinds help sub arg ≡ [] → (help ≡ false) × (sub ≡ false) × (arg ≡ false)
checks true sub arg e = absurd (some_kind _ _ e)
checks false true arg e = absurd (some_kind _ _ e)
checks false false true e = absurd (some_kind _ _ e)
checks false false false e = (refl, refl, refl)

helps : (has help any : Bool) → (not has && (help && not any)) ≡ false → (not help || (has || any)) ≡ true
helps true true any e = refl
helps true false any e = refl
helps false true true e = refl
helps false true false e = absurd (true≢false e)
helps false false any e = refl

enters : (has wanted : Bool) → (not has && wanted) ≡ false → (not wanted || has) ≡ true
enters true true e = refl
enters true false e = refl
enters false true e = absurd (true≢false e)
enters false false e = refl

given : (negated any all : Bool) → (any ≡ false → all ≡ true) → (not negated && any) ≡ false → (negated || all) ≡ true
given true any all f e = refl
given false any all f e = f e

valid_none : (s : Shape) (rows : List Row) (has : Bool) → list_all (λ (a : Rule). a.is_free) s.rules ≡ true → check_fault s rows has ≡ [] → is_valid s rows has ≡ true
valid_none s rows has free e =
    let parts = checks _ _ _ e in
    both _ _ (helps has s.arg_required_else_help (list_any (λ (r : Row). explicit_source r.source) rows) parts.0)
    (both _ _ (enters has s.subcommand_required parts.1)
    (both _ _ free (given _ _ _ (each_without (λ (a : Rule). a.required) (λ a. is_given a.id rows) s.rules) parts.2)))

level_none : (s : Shape) (names : Names) (h : Held) (words : List Text) (has : Bool) → list_all default_passes s.rules ≡ true → list_all (λ (a : Rule). a.is_free) s.rules ≡ true
    → level_fault s names h words has [] ≡ [] → level_passes s names h words has ≡ true
level_none s names h words has defaults free e =
    let walks = neither _ _ e in
    let settles = neither _ _ walks.1 in
    let rest = neither _ _ settles.1 in
    let end = (walk s.rules names h words).held in
    both _ _ (walk_none s names (walk_from h) words walks.0) (both _ _ (settle_none s.rules s.args_override_self end settles.0) (both _ _ defaults (valid_none s (finished s.rules end) has free rest.1)))

-- a simple command with no subcommand takes the words that it has no cause to refuse
pub takes_unrefused : (a : App) (words : List Text) → is_simple a ≡ true → (built a).subs ≡ [] → list_all default_passes (built a).top.rules ≡ true
    → list_all (λ (r : Rule). r.is_free) (built a).top.rules ≡ true → fault_of a words ≡ [] → takes a words ≡ true
takes_unrefused a words simple leaf defaults free e =
    let none = sym (leaf_fault (built a) nothing_held (argument_words a words) leaf) ∙ e in
    both _ _ simple (leaf_takes (built a) nothing_held (argument_words a words) leaf (level_none (built a).top [] nothing_held (argument_words a words) false defaults free none))
