-- Bodies: what the JSON bodies of requests say.
pub mod Bodies
