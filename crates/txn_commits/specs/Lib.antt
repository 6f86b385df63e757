-- Standing: what kept tables stand for. Stops: what one call does to what a stop leaves. Outcomes: what becomes of a commit by the answer of the
-- keeper. Keeping: what a keeper means, and one commit to it. Ending: how a turn is brought to its end.
pub mod Ending
pub mod Keeping
pub mod Outcomes
pub mod Standing
pub mod Stops
