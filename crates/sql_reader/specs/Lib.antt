-- StatementGrammar: the grammar of statements, line by line. GivenStatements: the values, literals, rows and parameters of what a
-- text gives. StatementReading: the statement that a text spells, or its refusal. inner: the lines as they are read, and what
-- the functions of the reader tell of one another.
pub mod GivenStatements
pub mod StatementGrammar
pub mod StatementReading
pub mod inner
