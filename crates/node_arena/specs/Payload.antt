-- What nodes say and how places are named, beside the links.
use Rattle.std.specs.Prelude.{ℕ, ◌+◌, ◌-◌, ◌*◌, ◌≤◌, List, [], ◌∷◌, ◌++◌, length, Option, Some, None, slice_get, slice_range, replicate}
use Rattle.tree_core.specs.declared.scalars.Scalar.{Scalar}
use Rattle.tree_core.specs.declared.scalars.Scalar.TheVariants.{Null}
use Rattle.tree_core.specs.declared.comment.Comment.{Comment}
use Rattle.tree_core.specs.declared.tree.PlaceName.{PlaceName}
use Rattle.node_arena.specs.declared.payload.Facts.{Facts}

-- the facts of the nodes, their scalars one after another, the names of the places, and for how
-- many new nodes or places there is memory
pub record Said : Type 0 where
  pub facts : List Facts
  pub scalars : List Scalar
  pub names : List (Option PlaceName)
  pub spare : ℕ

abbrev pub said_of : List Facts → List Scalar → List (Option PlaceName) → ℕ → Said
said_of facts scalars names spare = record { facts = facts; scalars = scalars; names = names; spare = spare }

-- lengths and capacities leave room for so many new nodes, with at most four scalars and four places each
pub record HasPayloadRoom (facts most_facts scalars most_scalars names most_names spare : ℕ) : Type 0 where
  pub for_facts : facts + spare ≤ most_facts
  pub for_scalars : scalars + 4 * spare ≤ most_scalars
  pub for_names : names + 4 * spare ≤ most_names

abbrev pub no_facts : ℕ → Facts
no_facts first = record { first_scalar = first; lead = []; trail = []; inner = []; from = None }

-- a new node that says nothing yet
abbrev pub with_node : Said → ℕ → ℕ → Said
with_node a scalars places = record {
  facts = a.facts ++ no_facts (length a.scalars) ∷ [];
  scalars = a.scalars ++ replicate scalars Null;
  names = a.names ++ replicate places None;
  spare = a.spare - 1;
}

-- a new place without a name
abbrev pub with_place : Said → Said
with_place a = record { facts = a.facts; scalars = a.scalars; names = a.names ++ None ∷ []; spare = a.spare - 1 }

abbrev pub first_in : Option Facts → ℕ
first_in None = 0
first_in (Some f) = f.first_scalar

-- the number of a node's scalar among all
abbrev pub scalar_number : List Facts → ℕ → ℕ → ℕ
scalar_number facts node index = first_in (slice_get facts node) + index

abbrev pub lead_in : Option Facts → List Comment
lead_in None = []
lead_in (Some f) = f.lead

abbrev pub trail_in : Option Facts → List Comment
trail_in None = []
trail_in (Some f) = f.trail

abbrev pub inner_in : Option Facts → List Comment
inner_in None = []
inner_in (Some f) = f.inner

abbrev pub from_in : Option Facts → Option ℕ
from_in None = None
from_in (Some f) = f.from

abbrev pub name_in : Option (Option PlaceName) → Option PlaceName
name_in None = None
name_in (Some name) = name

-- what a copy of a node says
abbrev pub copied_facts : ℕ → Option Facts → Facts
copied_facts first o = record { first_scalar = first; lead = lead_in o; trail = trail_in o; inner = inner_in o; from = from_in o }

-- some scalars of a node
abbrev pub scalars_from : List Scalar → ℕ → ℕ → List Scalar
scalars_from scalars first count = slice_range scalars first (first + count)

-- a new node that says what another says
abbrev pub with_copy : Said → ℕ → ℕ → ℕ → Said
with_copy a node scalars places = record {
  facts = a.facts ++ copied_facts (length a.scalars) (slice_get a.facts node) ∷ [];
  scalars = a.scalars ++ scalars_from a.scalars (first_in (slice_get a.facts node)) scalars;
  names = a.names ++ replicate places None;
  spare = a.spare - 1;
}

abbrev pub commented : List Comment → List Comment → List Comment → Facts → Facts
commented lead trail inner f = record f { lead = lead; trail = trail; inner = inner }

abbrev pub coming_from : ℕ → Facts → Facts
coming_from from f = record f { from = Some from }

abbrev pub start_said : Said
start_said = record { facts = []; scalars = []; names = None ∷ []; spare = 0 }
