-- Items by falling numbers: their order, a stable sort that gives it, and the items of the greatest number at its front.
pub mod Order
pub mod Sorting
pub mod Fronts
