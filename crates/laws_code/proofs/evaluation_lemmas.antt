pub mod Near
pub mod NearForms
pub mod Levels
pub mod Origins
pub mod OriginForms
pub mod ForCallers
