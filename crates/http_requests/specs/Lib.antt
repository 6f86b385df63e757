-- Framings: how long a body is, by the fields of a head. Numbers: numbers of decimal digits. Paths: what a target names. Requests: what a head and
-- a body ask for. Routes: what a path and a method ask for.
pub mod Framings
pub mod Numbers
pub mod Paths
pub mod Requests
pub mod Routes
