-- Configs: the configuration that the words spell. Uses: the mode and the options among the words.
-- inner: what `clap` is told, and what the private functions answer.
pub mod Configs
pub mod Uses
pub mod inner
