-- JsonTexts: rows and their values in JSON. Statuses: the status of each answer, and its phrase. Bodies: the body of each
-- answer. Wire: the bytes of whole answers. inner: what ties the code to these.
pub mod JsonTexts
pub mod Statuses
pub mod Bodies
pub mod Wire
pub mod inner
