-- What contracts see of stores and sinks in memory.
use Rattle.std.specs.Prelude.{ℕ, List, refl}
use Rattle.std.specs.Coded.{Coded, code_by, coded×, coded_ℕ}
use Rattle.cm_store.specs.Contents.{Contents, contents_code}

-- a store that may fail
pub record StoreState : Type 0 where
  pub contents : Contents
  pub faults : ℕ

abbrev pub state_code : Coded StoreState
state_code = code_by (Contents × ℕ) (coded× contents_code coded_ℕ) (λ s. (s.contents, s.faults)) (λ p. record { contents = p.0; faults = p.1 }) (λ _. refl)

-- a sink: the bytes taken, and how many more find memory
pub record SinkState : Type 0 where
  pub taken : List ℕ
  pub spare : ℕ

-- a sink that may fail
pub record FailingSinkState : Type 0 where
  pub sink : SinkState
  pub faults : ℕ
