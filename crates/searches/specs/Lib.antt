pub mod Sought
pub mod Inside
pub mod Finds
pub mod Walking
pub mod Searching
