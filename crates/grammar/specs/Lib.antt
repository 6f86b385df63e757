-- Grammar: grammars as data, what spells and begins a part, and where a text fails. FailingToken: the refusal of such a text.
-- Parameters: tokens with each plain `?` numbered. inner: a reading function, and what a reader returns by it.
pub mod FailingToken
pub mod Grammar
pub mod Parameters
pub mod inner
