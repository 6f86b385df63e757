-- Building: what `clap` builds of the command. ConfigLaws: its answer against the configuration. NumberLaws: decimal digits as they are parsed. Scanning: uses as `clap` goes over them. Taken:
-- what it makes of the words is what the scan gives. Turns: one word of its walk. UseLaws: the scan gives the uses. Walking: the whole walk. Worked:
-- worked examples.
pub mod Building
pub mod ConfigLaws
pub mod NumberLaws
pub mod Scanning
pub mod Taken
pub mod Turns
pub mod UseLaws
pub mod Walking
pub mod Worked
