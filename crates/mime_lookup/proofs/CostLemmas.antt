-- Lemmas on what a lookup costs, and when it has used up what it may take.
pub mod Costs
pub mod SearchCosts
pub mod Bound
pub mod Near
pub mod ShortTexts
pub mod UsedUp
