mod ColumnLaws
