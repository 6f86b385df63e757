mod FieldLaws
mod GoodLaws
mod Reaching
mod WrittenLaws
