-- Runs: what a whole run does. Outcome: what the program does, whatever its words are. Fronts: beginnings of lists. Lines: the
-- lines of replies. Pieces: how the input is cut into texts. ShellTexts: what is made of a text. Statuses: the status of a
-- run. inner: what ties the loop and its parts to these.
pub mod Fronts
pub mod Lines
pub mod Outcome
pub mod Pieces
pub mod Runs
pub mod ShellTexts
pub mod Statuses
pub mod inner
