-- Why rows are not packed.
use Rattle.desk_packing.specs.declared.error.FieldFault.{FieldFault}
use Rattle.desk_packing.specs.declared.error.FieldFault.TheVariants as field
use Rattle.desk_packing.specs.declared.error.PackFault.{PackFault}
use Rattle.desk_packing.specs.declared.error.PackFault.TheVariants as pack

-- why a row is not packed of which a value is not
abbrev pub fault_of : FieldFault → PackFault
fault_of field.TooLong = pack.TooLong
fault_of field.NoMemory = pack.NoMemory
