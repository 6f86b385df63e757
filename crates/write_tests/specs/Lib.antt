-- ThreeColumns: the columns of the tables that are tested, and the names that rows give values for.
pub mod ThreeColumns
