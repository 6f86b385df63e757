-- inner: tables that are built one after another.
pub mod inner
