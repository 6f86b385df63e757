-- Heads: the head of a request at the front of the bytes of a connection.
pub mod Heads
