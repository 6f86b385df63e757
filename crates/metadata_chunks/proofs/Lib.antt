mod CellLaws
mod FilterLaws
mod FrontLaws
