-- The comments that a node's own part of memory stands for: where there is none, it has no comments.
use Rattle.std.specs.Prelude.{Option, Some, None, []}
use Rattle.std.specs.declared.boxed.Box.{Box}
use Rattle.std.specs.declared.alloc.Global.{Global}
use Rattle.tree_core.specs.declared.comment.Beside.{Beside}
use Rattle.tree_core.specs.Notes.{Notes}

abbrev pub noted : Option (Box Beside Global) → Notes
noted None = record { lead = []; trail = []; inner = [] }
noted (Some b) = record { lead = b.value.lead; trail = b.value.trail; inner = b.value.inner }
