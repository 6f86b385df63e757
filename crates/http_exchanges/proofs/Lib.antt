mod BehindLaws
mod FieldLaws
mod OneLaws
mod SayingLaws
