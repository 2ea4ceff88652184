-- What is written of a replay: lines as nodes. Definitions in specs/.
pub mod Nodes
