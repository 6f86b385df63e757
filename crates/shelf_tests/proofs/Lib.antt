mod ColumnLaws
mod PutLaws
