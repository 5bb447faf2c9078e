-- The names of the faults of scripts, as the program prints them.
use Rattle.std.specs.Prelude.{ℕ, List, codes}
use Rattle.script_values.specs.declared.fault.Fault.{Fault}
use Rattle.script_values.specs.declared.fault.Fault.TheVariants as fault

unfoldable pub fault_name : Fault → List ℕ
fault_name fault.NotCallable = codes "NotCallable"
fault_name fault.NoField = codes "NoField"
fault_name fault.NoMethod = codes "NoMethod"
fault_name fault.BuilderType = codes "BuilderType"
fault_name fault.BadIndex = codes "BadIndex"
fault_name fault.BadOperand = codes "BadOperand"
fault_name fault.Overflow = codes "Overflow"
fault_name fault.TextLong = codes "TextLong"
fault_name fault.ListLong = codes "ListLong"
fault_name fault.NodesFull = codes "NodesFull"
fault_name fault.Deep = codes "Deep"
fault_name fault.NotInList = codes "NotInList"
fault_name fault.Foreign = codes "Foreign"
fault_name fault.ChangedAfterPrint = codes "ChangedAfterPrint"
fault_name fault.BadReturn = codes "BadReturn"
fault_name fault.Thrown = codes "Thrown"
fault_name fault.EarlyName = codes "EarlyName"
