-- ThreeColumns: the columns of the tables that are searched.
pub mod ThreeColumns
