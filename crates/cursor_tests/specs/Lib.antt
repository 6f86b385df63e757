-- ThreeRows: the rows of the source that the tests scan.
pub mod ThreeRows
