mod NumberLaws
mod FieldLaws
mod BackLaws
