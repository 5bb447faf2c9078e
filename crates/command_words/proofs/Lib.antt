pub mod Numbers
pub mod NameLists
pub mod Unrefused
pub mod Taken
pub mod Ranges
pub mod SampleWords
