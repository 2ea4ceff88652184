-- Of lists, numbers and files, and of values that go by their parts: of those that are read, and of those that steps make.
pub mod Numbers
pub mod Lists
pub mod Parts
pub mod Readings
pub mod Steps
pub mod Files
