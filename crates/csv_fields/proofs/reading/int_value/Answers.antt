use Rattle.std.proofs.Common.{refl}
use Rattle.std.specs.Int.{w64}
use Rattle.std.proofs.lemmas.Int.{to_z-of_z}
use Rattle.vec_base.specs.declared.value.Value.TheVariants.{Int}
use Rattle.csv_fields.specs.Fields.{IsIntField}
use Rattle.csv_fields.proofs.FieldLaws.{is_read, one_int}
use Rattle.csv_fields.proofs.reading.int_value.Goals as goal

pub returns-in-Some : goal.returns-in-Some
returns-in-Some c =
    let spelled = c.in-Some.ensures in
    rw (to_z-of_z w64 c.in-Some.number spelled.1) (record {
      exact = is_read (IsIntField c.args.field.now) (one_int c.args.field.now) (Int c.in-Some.number) (c.in-Some.number, spelled.0, spelled.1, refl);
    })
