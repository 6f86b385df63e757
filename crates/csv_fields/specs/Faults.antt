-- A literal that is not read is a field in the wrong form, but for want of memory.
use Rattle.vec_literal.specs.declared.int8.LitFault.{LitFault}
use Rattle.vec_literal.specs.declared.int8.LitFault.TheVariants as literal
use Rattle.csv_fields.specs.declared.fault.FieldFault.{FieldFault}
use Rattle.csv_fields.specs.declared.fault.FieldFault.TheVariants.{Form, Memory}

abbrev pub fault_of : LitFault → FieldFault
fault_of (literal.Place index) = Form
fault_of (literal.Range index) = Form
fault_of literal.OddHex = Form
fault_of literal.Memory = Memory
