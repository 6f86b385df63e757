-- Exchanges: what the bytes of one connection are. inner: what is read behind a head.
pub mod Exchanges
pub mod inner
