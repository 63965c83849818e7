mod CutLaws
mod ShapeLaws
mod EngineLaws
mod CallLaws
mod ManyLaws
mod PlaceLaws
mod CarryLaws
mod SizingLaws
