-- What a read answers.
use Rattle.std.specs.Prelude.{◌≡◌, ℕ, ◌<◌, ◌≤◌, List, length, Option, Some, None, Result, Ok, Err, IsSomeAnd}
use Rattle.std.specs.declared.vec.Vec.{Vec}
use Rattle.std.specs.declared.alloc.Global.{Global}
use Rattle.cm_store.specs.declared.store.ReadAnswer.{ReadAnswer}
use Rattle.cm_store.specs.declared.store.ReadAnswer.TheVariants.{Missing, TooLong, Failed, NoMemory}

-- the answer to a read of at most `most` bytes of a name that holds `held`. The last two say nothing of what it holds
abbrev pub Answers : Option (List ℕ) → ℕ → Result (Vec ℕ Global) ReadAnswer → Type 0
Answers held most (Ok bytes) = (held ≡ Some bytes.items) × (length bytes.items ≤ most)
Answers held most (Err Missing) = held ≡ None
Answers held most (Err TooLong) = IsSomeAnd held (λ bytes. most < length bytes)
Answers held most (Err Failed) = Unit {0}
Answers held most (Err NoMemory) = Unit {0}
