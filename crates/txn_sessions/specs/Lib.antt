-- Sessions: what is kept of a session, and how it changes. Seen: the state that a machine shows. Sound: what holds of a machine between two calls.
-- Lookups: where sessions, marks and cursors stand. Takes: a reply and the state after it. Turns: what a request comes to before a commit.
-- Moves: the shelf changes, and nothing that is seen does. Changes: a changed version, and the catalog with it. Exchanges: one cursor in place of
-- another. Sweeps: places that no catalog names.
pub mod Changes
pub mod Exchanges
pub mod Lookups
pub mod Moves
pub mod Seen
pub mod Sessions
pub mod Sound
pub mod Sweeps
pub mod Takes
pub mod Turns
