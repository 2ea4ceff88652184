pub mod Pieces
pub mod Results
pub mod Scanning
