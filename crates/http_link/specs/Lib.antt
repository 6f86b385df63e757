-- Forms: the link in memory. Links: what a link tells, and what its calls do to that.
pub mod Forms
pub mod Links
