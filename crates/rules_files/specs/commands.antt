-- What `mich replay` is to do with a file, from its bytes to the lines that are written: definitions in specs/.
pub mod Places
pub mod Replay
pub mod Lines
pub mod Answers
pub mod Codec
pub mod Scripts
pub mod Packs
pub mod Certificates
pub mod Audits
pub mod Snapshots
pub mod Resuming
pub mod Commands
pub mod Promise
