-- The faults of types, literals, code and scripts are at locations of their nodes.
pub mod Below
pub mod LiteralsBelow
pub mod TypingsBelow
pub mod SectionsBelow
pub mod NodesBelow
pub mod Located
