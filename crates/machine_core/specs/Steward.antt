-- What the steward writes, one command a file: the tests in their order, and the row that is made.
pub mod AddClerk
pub mod AddSchema
pub mod AddMaster
pub mod AddRulebook
pub mod AddEdition
pub mod AddRegion
pub mod AddDerived
