-- The numbers of statuses.
use Rattle.std.specs.Prelude.{ℕ}
use Rattle.codemod_cmd.specs.declared.status.Status.{Status}
use Rattle.codemod_cmd.specs.declared.status.Status.TheVariants.{Done, HadErrors, Usage, NoScript, NoMemory, OutputFault}

abbrev pub number_of : Status → ℕ
number_of Done = 0
number_of HadErrors = 1
number_of Usage = 2
number_of NoScript = 3
number_of NoMemory = 4
number_of OutputFault = 5
