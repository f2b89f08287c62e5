mod ColumnLemmas
mod ListLemmas
mod ShownLemmas
