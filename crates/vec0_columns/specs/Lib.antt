-- ColumnGrammar: the grammar of the column text, the schema that its parts declare, and the rules that they break. ColumnReading:
-- what reading such a text gives. inner: the lines as they are read, and the canonical text token by token.
pub mod ColumnGrammar
pub mod ColumnReading
pub mod inner
