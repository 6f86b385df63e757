-- Left: the rows that are left of a cursor. Scanned: rows by rising rowids, from a place on.
pub mod Left
pub mod Scanned
